-- What goes out over a run of steps.
-- For `texts_go_whole`.
-- By: induction on the steps; the texts that were dropped and not reported come before the others.
use Rattle.std.proofs.Common.{◌≡◌, ℕ, ◌+◌, ◌≤◌, List, [], ◌∷◌, ◌++◌}
use Rattle.std.proofs.Common.{length, take, drop, Bool, true, false, if◌then◌else◌, min}
use Rattle.std.proofs.Common.{refl, ap, sym, subst, ◌∙◌, arith, append_assoc, length-append}
use Rattle.std.proofs.lemmas.Bool.{and_parts, ltb-true, eqb-true}
use Rattle.std.proofs.lemmas.List.{drop_at, take-append-drop, append-nil}
use Rattle.std.specs.Prelude.{nat_lt, ◌==◌}
use Rattle.trdp_lines.specs.Outgoings.{OutgoingState, no_outgoing, lost_limit, lost_line}
use Rattle.trdp_lines.specs.Outgoings.{lost_told, with_text, takes_text, can_tell, finds_room}
use Rattle.trdp_lines.specs.Outgoings.{with_bytes}
use Rattle.trdp_lines.specs.OutgoingRuns.{OutgoingStep, Pushed, Told, Took, Piece, Whole, Dropped}
use Rattle.trdp_lines.specs.OutgoingRuns.{after_steps, all_taken, gone_and_waiting}
use Rattle.trdp_lines.specs.OutgoingRuns.{texts_of, bytes_of_pieces, StandFor, GoesWhole}

-- these bytes are those that wait and pieces after them, which represent these texts
record Goes (bytes waiting : List ℕ) (lost : ℕ) (texts : List (List ℕ)) : Type 0 where
  pub pieces : List Piece
  pub bytes_are : bytes ≡ waiting ++ bytes_of_pieces pieces
  pub stand : StandFor pieces lost texts

-- the same from a state on, whatever texts were dropped and not reported yet
abbrev GoesFrom : List ℕ → ℕ → List (List ℕ) → OutgoingState → Type 0
GoesFrom bytes lost texts state = (untold : List (List ℕ)) → length untold ≡ state.lost
    → Goes bytes state.waiting lost (untold ++ texts)

pub told_is : (can : Bool) (state : OutgoingState) → can_tell state ≡ can
    → lost_told state ≡ (if can
    then record { waiting = state.waiting ++ lost_line state.lost; lost = 0 }
    else state)
unfolding lost_told
told_is can state is = rw is refl

tell_by : (can : Bool) (bytes : List ℕ) (lost : ℕ) (texts : List (List ℕ))
    (state : OutgoingState) → can_tell state ≡ can
    → GoesFrom bytes lost texts (lost_told state) → GoesFrom bytes lost texts state
tell_by true bytes lost texts state is later untold count =
    let rest = subst (GoesFrom bytes lost texts) (told_is true state is) later [] refl in
    let some = ltb-true 0 state.lost
    (and_parts (nat_lt 0 state.lost) (finds_room state (lost_line state.lost)) is).0 in
    record {
      pieces = Dropped state.lost ∷ rest.pieces;
      bytes_are = rest.bytes_are
          ∙ append_assoc state.waiting (lost_line state.lost) (bytes_of_pieces rest.pieces);
      stand = (
        some,
        omega (arith, count, length-append untold texts),
        subst (StandFor rest.pieces lost) (sym (drop_at untold texts state.lost count)) rest.stand,
      );
    }
tell_by false bytes lost texts state is later untold count =
    subst (GoesFrom bytes lost texts) (told_is false state is) later untold count

tell : (bytes : List ℕ) (lost : ℕ) (texts : List (List ℕ)) (state : OutgoingState)
    → GoesFrom bytes lost texts (lost_told state) → GoesFrom bytes lost texts state
tell bytes lost texts state later untold count =
    tell_by (can_tell state) bytes lost texts state refl later untold count

told_less : (can : Bool) (state : OutgoingState) → can_tell state ≡ can
    → (lost_told state).lost ≤ state.lost
told_less true state is = omega (arith, ap (λ (s : OutgoingState). s.lost) (told_is true state is))
told_less false state is =
    omega (arith, ap (λ (s : OutgoingState). s.lost) (told_is false state is))

pub text_is : (takes : Bool) (state : OutgoingState) (text : List ℕ) → takes_text state text ≡ takes
    → with_text state text ≡ (if takes
    then with_bytes state text
    else record state { lost = min (state.lost + 1) lost_limit })
unfolding with_text
text_is takes state text is = rw is refl

takes_all : (state : OutgoingState) (text : List ℕ) → takes_text state text ≡ true
    → state.lost ≡ 0
takes_all state text is =
    eqb-true state.lost 0 (and_parts (state.lost == 0) (finds_room state text) is).0

push_by : (takes : Bool) (bytes : List ℕ) (lost : ℕ) (texts : List (List ℕ))
    (state : OutgoingState) (text : List ℕ) → takes_text state text ≡ takes
    → state.lost + 1 ≤ lost_limit
    → GoesFrom bytes lost texts (with_text state text) → GoesFrom bytes lost (text ∷ texts) state
push_by true bytes lost texts state text is most later [] count =
    let rest = subst (GoesFrom bytes lost texts) (text_is true state text is) later [] count in
    record {
      pieces = Whole text ∷ rest.pieces;
      bytes_are = rest.bytes_are ∙ append_assoc state.waiting text (bytes_of_pieces rest.pieces);
      stand = (refl, rest.stand);
    }
push_by true bytes lost texts state text is most later (first ∷ untold) count =
    absurd (omega (arith, count, takes_all state text is))
push_by false bytes lost texts state text is most later untold count =
    let rest = subst (GoesFrom bytes lost texts) (text_is false state text is) later
    (untold ++ text ∷ []) (omega (arith, count, most, length-append untold (text ∷ []))) in
    subst (Goes bytes state.waiting lost) (append_assoc untold (text ∷ []) texts) rest

push : (bytes : List ℕ) (lost : ℕ) (texts : List (List ℕ)) (state : OutgoingState)
    (text : List ℕ) → state.lost + 1 ≤ lost_limit
    → GoesFrom bytes lost texts (with_text state text) → GoesFrom bytes lost (text ∷ texts) state
push bytes lost texts state text most later untold count =
    push_by (takes_text state text) bytes lost texts state text refl most later untold count

one_more : (takes : Bool) (state : OutgoingState) (text : List ℕ)
    → takes_text state text ≡ takes → (with_text state text).lost ≤ state.lost + 1
one_more true state text is =
    omega (arith, ap (λ (s : OutgoingState). s.lost) (text_is true state text is))
one_more false state text is =
    omega (arith, ap (λ (s : OutgoingState). s.lost) (text_is false state text is))

goes : (steps : List OutgoingStep) (state : OutgoingState)
    → state.lost + length (texts_of steps) ≤ lost_limit
    → GoesFrom (gone_and_waiting state steps) (after_steps state steps).lost (texts_of steps) state
goes [] state most untold count = record {
  pieces = [];
  bytes_are = sym (append-nil state.waiting);
  stand = ap length (append-nil untold) ∙ count;
}
goes (Pushed text ∷ steps) state most untold count =
    let told = lost_told state in
    let less = told_less (can_tell state) state refl in
    let more = one_more (takes_text told text) told text refl in
    let out = gone_and_waiting (with_text told text) steps in
    let lost = (after_steps (with_text told text) steps).lost in
    let later = goes steps (with_text told text) (omega (arith, most, less, more)) in
    tell out lost (text ∷ texts_of steps) state
    (push out lost (texts_of steps) told text (omega (arith, most, less)) later) untold count
goes (Told ∷ steps) state most untold count =
    let less = told_less (can_tell state) state refl in
    tell (gone_and_waiting (lost_told state) steps) (after_steps (lost_told state) steps).lost
    (texts_of steps) state (goes steps (lost_told state) (omega (arith, most, less))) untold count
goes (Took n ∷ steps) state most untold count =
    let next : OutgoingState = record state { waiting = drop n state.waiting } in
    let rest = goes steps next most untold count in
    let front = take n state.waiting in
    let whole = take-append-drop n state.waiting in
    record {
      pieces = rest.pieces;
      bytes_are = append_assoc front (all_taken next steps) (after_steps next steps).waiting
          ∙ ap (λ (l : List ℕ). front ++ l) rest.bytes_are
          ∙ sym (append_assoc front (drop n state.waiting) (bytes_of_pieces rest.pieces))
          ∙ ap (λ (l : List ℕ). l ++ bytes_of_pieces rest.pieces) whole;
      stand = rest.stand;
    }

pub goes_whole : (steps : List OutgoingStep) → length (texts_of steps) ≤ lost_limit
    → GoesWhole steps
goes_whole steps most =
    let all = goes steps no_outgoing (omega (arith, most)) [] refl in
    record { pieces = all.pieces; bytes = all.bytes_are; stand = all.stand }
