-- A script on its way: what was read of its input.
-- For `Script::run`.
-- By a loop's invariant: what was read so far was played, whatever the reader gives later.
use Rattle.std.proofs.Common.{◌≡◌, ◌+◌, ◌<◌, ℕ, List, [], ◌++◌, length, take, Some, None, Ok}
use Rattle.std.proofs.Common.{Err, Option, Result, refl, sym, ◌∙◌, ap, arith, append-nil, subst}
use Rattle.std.specs.Prelude.{IfErr, OnOk}
use Rattle.std.proofs.KnownBytes.{Consumes-nil, Consumes-trans}
use Rattle.std.specs.Io.KnownBytes.{Consumes, IsAtEnd, Keeps}
use Rattle.trdp_script.specs.declared.script.Script.{Script}
use Rattle.trdp_script.specs.declared.fault.ScriptFault.{ScriptFault}
use Rattle.trdp_script.specs.declared.fault.ScriptFault.TheVariants.{Line, Read, Write}
use Rattle.trdp_script.specs.declared.fault.ScriptFault.TheVariants.{OutOfMemory}
use Rattle.trdp_script.specs.Pieces.{ended_lines}
use Rattle.trdp_script.specs.ScriptSteps.{ComesTo, Ends, IsSound, Plays, PlaysFirst, Stops}
use Rattle.trdp_script.specs.ScriptSteps.{StopsUnread}
use Rattle.trdp_script.proofs.ScriptLemmas.Steps.{ends_after, first_after, first_here}
use Rattle.trdp_script.proofs.PlayLemmas.Written.{passes_nothing}
use Rattle.trdp_script.proofs.ScriptLemmas.Steps.{plays_both, plays_nothing, stops_after}

-- what was read of the input so far was played
pub record Reading (old here : Script) (v w left left_then : Option (List ℕ)) : Type 0 where
  pub consumed : List ℕ
  pub read : Consumes left left_then consumed
  pub plays : Plays old here v w consumed
  pub sound : IsSound here

pub reading_starts : (s : Script) (w left : Option (List ℕ)) → IsSound s → Reading s s w w left left
reading_starts s w left sound =
    record { consumed = []; read = Consumes-nil left; plays = plays_nothing s w; sound = sound }

-- what was collected was written
pub reading_written : {a b : Script} (c : Script) {u v : Option (List ℕ)}
    (w : Option (List ℕ)) {left left_then : Option (List ℕ)}
    → Reading a b u v left left_then → Plays b c v w [] → IsSound c → Reading a c u w left left_then
reading_written {a} {b} c {u} {v} w reading plays sound = record {
  consumed = reading.consumed;
  read = reading.read;
  plays = subst (λ (l : List ℕ). Plays a c u w l)
      (append-nil reading.consumed) (plays_both reading.plays plays);
  sound = sound;
}

-- a piece was read and played
pub reading_more : {a b : Script} (c : Script) {u v : Option (List ℕ)} (w : Option (List ℕ))
    {left left_then : Option (List ℕ)} (left_last : Option (List ℕ)) (piece : List ℕ)
    → Reading a b u v left left_then → Consumes left_then left_last piece
    → Plays b c v w piece → IsSound c → Reading a c u w left left_last
reading_more c w {left} {left_then} left_last piece reading read plays sound = record {
  consumed = reading.consumed ++ piece;
  read = Consumes-trans left left_then left_last reading.consumed piece reading.read read;
  plays = plays_both reading.plays plays;
  sound = sound;
}

-- what is left, where the whole input is known
rest_of : (left left_then : Option (List ℕ)) (consumed input : List ℕ)
    → Consumes left left_then consumed → left ≡ Some input
    → (rest : List ℕ) × (left_then ≡ Some rest) × (input ≡ consumed ++ rest)
rest_of None left_then consumed input read is = absurd (cc)
rest_of (Some all) None consumed input read is = absurd read
rest_of (Some all) (Some rest) consumed input read is = let same : all ≡ input = cc in
    (rest, refl, sym same ∙ read)

-- a fault that comes after what was read
pub reading_stops : {a b : Script} (c : Script) {u v : Option (List ℕ)} (w : Option (List ℕ))
    {left left_then : Option (List ℕ)} (fault : ScriptFault) → Reading a b u v left left_then
    → ((rest : List ℕ) → left_then ≡ Some rest → Stops b c v w rest fault)
    → (input : List ℕ) → left ≡ Some input → Stops a c u w input fault
reading_stops {a} {b} c {u} {v} w {left} {left_then} fault reading stops input is =
    let rest = rest_of left left_then reading.consumed input reading.read is in
    subst (λ (l : List ℕ). Stops a c u w l fault)
    (sym rest.2) (stops_after c w rest.0 fault reading.plays (stops rest.0 rest.1))

-- a fault of a piece that was read
pub piece_stops : (b c : Script) (v w : Option (List ℕ)) {left_then : Option (List ℕ)}
    (left_last : Option (List ℕ)) (fault : ScriptFault) (piece : List ℕ)
    → Consumes left_then left_last piece
    → ((later : List ℕ) → Stops b c v w (piece ++ later) fault)
    → (rest : List ℕ) → left_then ≡ Some rest → Stops b c v w rest fault
piece_stops b c v w {left_then} left_last fault piece read stops rest is =
    let behind = rest_of left_then left_last piece rest read is in
    subst (λ (l : List ℕ). Stops b c v w l fault) (sym behind.2) (stops behind.0)

-- at the end of the input nothing is left
at_end : (left_then left_last : Option (List ℕ)) (rest : List ℕ) → Consumes left_then left_last []
    → IsAtEnd left_last → left_then ≡ Some rest → (rest ≡ []) × (left_last ≡ Some [])
at_end left_then left_last rest read none is =
    at_end_of left_last (rest_of left_then left_last [] rest read is) none
  where
    at_end_of : {rest : List ℕ} (left_last : Option (List ℕ))
        → (behind : List ℕ) × (left_last ≡ Some behind) × (rest ≡ [] ++ behind)
        → IsAtEnd left_last → (rest ≡ []) × (left_last ≡ Some [])
    at_end_of None behind none = absurd (cc)
    at_end_of (Some xs) behind none = let same : xs ≡ behind.0 = cc in
        (behind.2 ∙ sym same ∙ none, ap (λ (l : List ℕ). Some l) none)

-- a script that stops
pub comes_stopped : (a c : Script) (u w : Option (List ℕ)) (input : List ℕ) (left : Option (List ℕ))
    (fault : ScriptFault) → Stops a c u w input fault → ComesTo a c u w input left (Err fault)
unfolding ComesTo Stops
comes_stopped a c u w input left (Line n fault) stops = stops
comes_stopped a c u w input left Read stops = absurd stops
comes_stopped a c u w input left Write stops = stops
comes_stopped a c u w input left OutOfMemory stops = stops

-- the input was read and played to its end
pub reading_ends : {a b : Script} (c : Script) {u v : Option (List ℕ)}
    (w : Option (List ℕ)) {left left_then : Option (List ℕ)} (left_last : Option (List ℕ))
    (r : Result (Unit {0}) ScriptFault) → Reading a b u v left left_then
    → Consumes left_then left_last [] → IsAtEnd left_last
    → OnOk r (Ends b c v w []) → IfErr r (λ fault. Stops b c v w [] fault)
    → (input : List ℕ) → left ≡ Some input → ComesTo a c u w input left_last r
unfolding ComesTo
reading_ends {a} {b} c {u} {v} w {left} {left_then} left_last
    (Ok done) reading read none ends stops input is =
    let rest = rest_of left left_then reading.consumed input reading.read is in
    let end = at_end left_then left_last rest.0 read none rest.1 in
    let all : input ≡ reading.consumed ++ [] = rest.2 ∙ ap (λ l. reading.consumed ++ l) end.0 in
    (subst (λ (l : List ℕ). Ends a c u w l) (sym all) (ends_after [] reading.plays ends), end.1)
reading_ends {a} {b} c {u} {v} w {left} {left_then} left_last
    (Err fault) reading read none ends stops input is =
    comes_stopped a c u w input left_last fault (reading_stops c w fault reading (λ rest there.
    let end = at_end left_then left_last rest read none there in
    subst (λ (l : List ℕ). Stops b c v w l fault) (sym end.0) stops) input is)

-- what a reader has left that failed, where the whole input is known
kept_rest : (left_then left_last : Option (List ℕ)) (rest : List ℕ)
    → Keeps left_then left_last → left_then ≡ Some rest → left_last ≡ Some rest
kept_rest None left_last rest kept is = absurd (cc)
kept_rest (Some xs) None rest kept is = absurd kept
kept_rest (Some xs) (Some ys) rest kept is = ap (λ (l : List ℕ). Some l) kept ∙ is

-- the reader gives no more
pub reader_stops : {a b : Script} {u v : Option (List ℕ)} {left left_then : Option (List ℕ)}
    (left_last : Option (List ℕ)) (fault : ScriptFault) → Reading a b u v left left_then
    → Keeps left_then left_last → fault ≡ Read → (input : List ℕ) → left ≡ Some input
    → ComesTo a b u v input left_last (Err fault)
unfolding ComesTo
reader_stops {a} {b} {u} {v} {left} {left_then} left_last fault reading kept is input known =
    let rest = rest_of left left_then reading.consumed input reading.read known in
    let count : length reading.plays.taken.ended + 0 ≡ ended_lines reading.consumed =
    omega (arith, reading.plays.taken.count) in
    let first = first_after rest.0 0 reading.plays
    (first_here rest.0 (passes_nothing v b.player.output.items)) in
    let unread : StopsUnread a b u v input left_last = record {
      read = reading.consumed;
      behind = rest.0;
      whole = rest.2;
      left_is = kept_rest left_then left_last rest.0 kept rest.1;
      played = subst (λ (l : List ℕ). PlaysFirst a b u v l (ended_lines reading.consumed))
          (sym rest.2) (subst (λ (k : ℕ). PlaysFirst a b u v (reading.consumed ++ rest.0) k)
          count first);
    } in
    rw is unread

-- a read of nothing
pub read_none : (left left_then : Option (List ℕ)) (n : ℕ) (piece : List ℕ)
    → n ≡ 0 → 0 < length piece → Consumes left left_then (take n piece)
    × (n ≡ 0 → 0 < length piece → IsAtEnd left_then)
    → Consumes left left_then [] × IsAtEnd left_then
read_none left left_then n piece none room read =
    (subst (λ (k : ℕ). Consumes left left_then (take k piece)) none read.0, read.1 none room)
