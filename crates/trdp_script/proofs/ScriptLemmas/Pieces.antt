-- A script on its way: a piece of its input.
-- For `Script::take_piece`.
-- By a loop's invariant: the lines of the piece that were taken, and the rest of it.
use Rattle.std.proofs.Common.{◌≡◌, ◌+◌, ◌≤◌, ℕ, List, [], ◌∷◌, ◌++◌, length, Option, refl}
use Rattle.std.proofs.Common.{sym, ◌∙◌, ap, arith, append_assoc, length-append, subst}
use Rattle.trdp_script.specs.declared.script.Script.{Script}
use Rattle.trdp_script.specs.declared.fault.ScriptFault.{ScriptFault}
use Rattle.trdp_text.specs.Splits.{IsSplit}
use Rattle.trdp_script.specs.ScriptSteps.{IsSound, Plays, Stops}
use Rattle.trdp_script.proofs.ScriptLemmas.Steps.{plays_both, stops_after, plays_nothing}

-- a piece of the input, of which this rest is still to be taken
pub record Midst (old here : Script) (v w : Option (List ℕ)) (piece rest : List ℕ) : Type 0 where
  pub front : List ℕ
  pub whole : piece ≡ front ++ rest
  pub plays : Plays old here v w front
  pub sound : IsSound here
  pub number : here.number + length rest ≤ old.number + length piece

pub midst_starts : (s : Script) (w : Option (List ℕ)) (piece : List ℕ)
    → IsSound s → Midst s s w w piece piece
midst_starts s w piece sound = record {
  front = [];
  whole = refl;
  plays = plays_nothing s w;
  sound = sound;
  number = omega arith;
}

-- one more line is taken
pub midst_more : {old here : Script} (there : Script) {u v : Option (List ℕ)}
    (w : Option (List ℕ)) {piece rest : List ℕ} (before behind : List ℕ)
    → Midst old here u v piece rest → IsSplit 10 rest before behind
    → Plays here there v w (before ++ 10 ∷ [])
    → IsSound there → there.number ≡ here.number + 1 → Midst old there u w piece behind
midst_more {old} {here} there {u} {v} w {piece} {rest} before behind midst split plays sound next =
    record {
      front = midst.front ++ (before ++ 10 ∷ []);
      whole = midst.whole
          ∙ ap (λ l. midst.front ++ l) (split.whole ∙ sym (append_assoc before (10 ∷ []) behind))
          ∙ sym (append_assoc midst.front (before ++ 10 ∷ []) behind);
      plays = plays_both midst.plays plays;
      sound = sound;
      number =
          omega (
            arith,
            ap length split.whole,
            length-append before (10 ∷ behind),
            midst.number,
            next,
          );
    }

-- a line of the piece stops the script
pub midst_stops : {old here : Script} (there : Script) {u v : Option (List ℕ)}
    (w : Option (List ℕ)) {piece rest : List ℕ} (before behind : List ℕ) (fault : ScriptFault)
    → Midst old here u v piece rest → IsSplit 10 rest before behind
    → ((later : List ℕ) → Stops here there v w (before ++ 10 ∷ later) fault)
    → (later : List ℕ) → Stops old there u w (piece ++ later) fault
midst_stops {old} {here} there {u} {v} w {piece} {rest} before
    behind fault midst split stops later =
    let rest_is : before ++ 10 ∷ (behind ++ later) ≡ rest ++ later =
    sym (ap (λ l. l ++ later) split.whole ∙ append_assoc before (10 ∷ behind) later) in
    let here_stops =
    subst (λ (l : List ℕ). Stops here there v w l fault) rest_is (stops (behind ++ later)) in
    let whole_is : midst.front ++ (rest ++ later) ≡ piece ++ later =
    sym (ap (λ l. l ++ later) midst.whole ∙ append_assoc midst.front rest later) in
    subst (λ (l : List ℕ). Stops old there u w l fault)
    whole_is (stops_after there w (rest ++ later) fault midst.plays here_stops)

-- the bytes after the last newline are taken
pub midst_taken : {old here : Script} (there : Script) {u v : Option (List ℕ)}
    (w : Option (List ℕ)) {piece rest : List ℕ}
    → Midst old here u v piece rest → Plays here there v w rest → Plays old there u w piece
midst_taken {old} {here} there {u} {v} w {piece} {rest} midst plays =
    subst (λ (l : List ℕ). Plays old there u w l) (sym midst.whole) (plays_both midst.plays plays)

-- the bytes after the last newline stop the script
pub midst_too_long : {old here : Script} (there : Script) {u v : Option (List ℕ)}
    (w : Option (List ℕ)) {piece rest : List ℕ} (fault : ScriptFault)
    → Midst old here u v piece rest
    → ((later : List ℕ) → Stops here there v w (rest ++ later) fault)
    → (later : List ℕ) → Stops old there u w (piece ++ later) fault
midst_too_long {old} {here} there {u} {v} w {piece} {rest} fault midst stops later =
    let whole_is : midst.front ++ (rest ++ later) ≡ piece ++ later =
    sym (ap (λ l. l ++ later) midst.whole ∙ append_assoc midst.front rest later) in
    subst (λ (l : List ℕ). Stops old there u w l fault)
    whole_is (stops_after there w (rest ++ later) fault midst.plays (stops later))
