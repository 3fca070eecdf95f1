-- What is written to a connection by one write after another.
-- For `Conversation::write`.
-- By induction on the steps of the first.
use Rattle.std.proofs.Common.{◌≡◌, ◌==◌, ◌++◌, ℕ, List, [], ◌∷◌, Option, map, refl, ap, sym}
use Rattle.std.proofs.Common.{subst, ◌∙◌, Bool, true, false, length, arith}
use Rattle.std.proofs.lemmas.Bool.{eqb-true}
use Rattle.std.proofs.Common.{append_assoc}
use Rattle.std.specs.List.{flat_map}
use Rattle.std.proofs.lemmas.List.{map-append}
use Rattle.std.proofs.lemmas.List.Concat.{flat_map-append}
use Rattle.trdp_base.specs.Reported.{TellsMore}
use Rattle.trdp_lines.specs.Connections.{ConnectionCall, Writes}
use Rattle.trdp_lines.specs.Conversations.{ConversationState, HasWritten, bytes_taken}
use Rattle.trdp_lines.specs.Outgoings.{OutgoingState, can_tell, lost_line, lost_told, takes_text}
use Rattle.trdp_lines.specs.Outgoings.{with_text}
use Rattle.trdp_lines.specs.OutgoingRuns.{OutgoingStep, after_step, after_steps, all_taken}
use Rattle.trdp_lines.specs.OutgoingRuns.{taken_in_step}
use Rattle.trdp_lines.specs.OutgoingRuns.{texts_in, texts_of}
use Rattle.trdp_lines.proofs.BetweenLemmas.{told_next}
use Rattle.trdp_lines.proofs.OutgoingLemmas.{text_is, told_is}

after_both : (state : OutgoingState) (first second : List OutgoingStep)
    → after_steps state (first ++ second) ≡ after_steps (after_steps state first) second
after_both state [] second = refl
after_both state (step ∷ first) second = after_both (after_step state step) first second

taken_both : (state : OutgoingState) (first second : List OutgoingStep)
    → all_taken state (first ++ second) ≡ all_taken state first
    ++ all_taken (after_steps state first) second
taken_both state [] second = refl
taken_both state (step ∷ first) second =
    ap (λ l. taken_in_step state step ++ l) (taken_both (after_step state step) first second)
    ∙ sym (append_assoc (taken_in_step state step) (all_taken (after_step state step) first)
    (all_taken (after_steps (after_step state step) first) second))

-- where two lists have nothing the first has nothing
nil_front : {X : Type 0} (xs ys : List X) → xs ++ ys ≡ [] → xs ≡ []
nil_front [] ys none = refl
nil_front (x ∷ xs) ys none = cc

-- nor has the second
nil_behind : {X : Type 0} (xs ys : List X) → xs ++ ys ≡ [] → ys ≡ []
nil_behind [] ys none = none
nil_behind (x ∷ xs) ys none = cc

-- where nothing waits that can be counted, nothing waits
pub none_waits : (bytes : List ℕ) → (length bytes == 0) ≡ true → bytes ≡ []
none_waits [] none = refl
none_waits (byte ∷ bytes) none =
    absurd (omega (arith, eqb-true (length (byte ∷ bytes)) 0 none))

-- where nothing waits after what was dropped is reported, nothing did
told_grows : (can : Bool) (state : OutgoingState) → can_tell state ≡ can
    → (lost_told state).waiting ≡ [] → state.waiting ≡ []
told_grows true state is none = nil_front state.waiting (lost_line state.lost)
    (sym (ap (λ (s : OutgoingState). s.waiting) (told_is true state is)) ∙ none)
told_grows false state is none =
    sym (ap (λ (s : OutgoingState). s.waiting) (told_is false state is)) ∙ none

-- the same by its name
pub told_none : (state : OutgoingState) → (lost_told state).waiting ≡ [] → state.waiting ≡ []
told_none state none = told_grows (can_tell state) state refl none

-- where nothing waits after a text is pushed, nothing did
push_grows : (takes : Bool) (state : OutgoingState) (text : List ℕ)
    → takes_text state text ≡ takes → (with_text state text).waiting ≡ [] → state.waiting ≡ []
push_grows true state text is none = nil_front state.waiting text
    (sym (ap (λ (s : OutgoingState). s.waiting) (text_is true state text is)) ∙ none)
push_grows false state text is none =
    sym (ap (λ (s : OutgoingState). s.waiting) (text_is false state text is)) ∙ none

-- the same by its name
pub pushed_none : (state : OutgoingState) (text : List ℕ)
    → (with_text (lost_told state) text).waiting ≡ [] → state.waiting ≡ []
pushed_none state text none = told_none state
    (push_grows (takes_text (lost_told state) text) (lost_told state) text refl none)

-- one write after another
pub written_both : (n : ℕ) (a b c : ConversationState)
    (one two three : Option (List ConnectionCall)) → HasWritten n [] a b one two
    → HasWritten n [] b c two three → HasWritten n [] a c one three
written_both n a b c one two three first second = record {
  steps = first.steps ++ second.steps;
  writings = first.writings ++ second.writings;
  texts_are = flat_map-append texts_in first.steps second.steps
      ∙ ap (λ (l : List (List ℕ)). l ++ texts_of second.steps) first.texts_are
      ∙ second.texts_are;
  told = subst (λ (l : List ConnectionCall). TellsMore one three l)
      (sym (map-append (Writes n) first.writings second.writings))
      (told_next one two three (map (Writes n) first.writings) (map (Writes n) second.writings)
      first.told second.told);
  took = flat_map-append bytes_taken first.writings second.writings
      ∙ ap (λ (l : List ℕ). l ++ flat_map bytes_taken second.writings) first.took
      ∙ ap (λ l. all_taken a.outgoing first.steps ++ l) (second.took
      ∙ ap (λ (s : ConversationState). all_taken s.outgoing second.steps) first.written)
      ∙ sym (taken_both a.outgoing first.steps second.steps);
  written = second.written
      ∙ ap (λ (s : ConversationState). record s { outgoing = after_steps s.outgoing second.steps })
      first.written
      ∙ ap (λ (o : OutgoingState). record a { outgoing = o })
      (sym (after_both a.outgoing first.steps second.steps));
  tried = λ none. (
    (first.tried (nil_front first.writings second.writings none)).0,
    (second.tried (nil_behind first.writings second.writings none)).1,
  );
}

-- where what was dropped can't be reported, that is written which was
pub told_not : (n : ℕ) (old new : ConversationState) (out : OutgoingState)
    (calls calls_then : Option (List ConnectionCall)) → out ≡ lost_told new.outgoing
    → can_tell new.outgoing ≡ false → HasWritten n [] old new calls calls_then
    → HasWritten n [] old (record new { outgoing = out }) calls calls_then
told_not n old new out calls calls_then is not written =
    subst (λ (o : OutgoingState).
    HasWritten n [] old (record new { outgoing = o }) calls calls_then)
    (sym (is ∙ told_is false new.outgoing not)) written
