-- Which connections are there after more calls, and what stays true of one that was closed.
-- For `Path`.
-- By: who is closed is among the calls of both parts, as is who came.
use Rattle.std.proofs.Common.{◌≡◌, ℕ, ◌+◌, ◌<◌, ◌≤◌, ◌==◌, ◌||◌, ◌++◌, ◌⊎◌, List, [], ◌∷◌}
use Rattle.std.proofs.Common.{Bool, true, false, Option, Some, None, refl, ap, ◌∙◌, map}
use Rattle.std.proofs.Common.{append_assoc, inl, inr, arith, sym, IfSome}
use Rattle.std.proofs.lemmas.Bool.{eq-eqb, or_from, or_left, or_right, true≢false}
use Rattle.std.proofs.lemmas.List.Folds.{list_any-append}
use Rattle.trdp_lines.specs.declared.connections.Accepted.TheVariants.{Came}
use Rattle.trdp_lines.specs.Closings.{AreOpen, AreOpenIfTold, AreThere, FindsNothing, HasLeft}
use Rattle.trdp_lines.specs.Closings.{IsThere, IsUnheard, closes, is_one_of, was_closed}
use Rattle.trdp_lines.specs.Connections.{ConnectionCall, Accepts, Closes, NoBytes, Reading, Reads}
use Rattle.trdp_base.specs.Reported.{TellsMore}
use Rattle.trdp_lines.specs.Connections.{Writes, Writing}
use Rattle.trdp_lines.specs.Said.{connections_in}
use Rattle.trdp_lines.proofs.CallLemmas.{come_by}

-- one that is there stays so by calls that don't close it
there_more : (n : ℕ) (calls more : List ConnectionCall) → IsThere n calls
    → was_closed n more ≡ false → IsThere n (calls ++ more)
there_more n calls more there none = record {
  came = ap (is_one_of n) (come_by calls more)
      ∙ list_any-append (λ (m : ℕ). m == n) (connections_in calls) (connections_in more)
      ∙ or_left (is_one_of n (connections_in calls)) (is_one_of n (connections_in more)) there.came;
  unclosed = list_any-append (closes n) calls more
      ∙ or_from (was_closed n calls) (was_closed n more) there.unclosed none;
}

-- one that came just now is there
there_next : (n : ℕ) (calls more : List ConnectionCall)
    → is_one_of n (connections_in more) ≡ true → was_closed n calls ≡ false
    → was_closed n more ≡ false → IsThere n (calls ++ more)
there_next n calls more came before none = record {
  came = ap (is_one_of n) (come_by calls more)
      ∙ list_any-append (λ (m : ℕ). m == n) (connections_in calls) (connections_in more)
      ∙ or_right (is_one_of n (connections_in calls)) (is_one_of n (connections_in more)) came;
  unclosed = list_any-append (closes n) calls more
      ∙ or_from (was_closed n calls) (was_closed n more) before none;
}

-- Where each that has a seat after some calls had one, or came by them, and wasn't closed by them,
-- all stay open.
open_more : (calls calls_then more : List ConnectionCall) (has has_then : ℕ → Bool)
    (came came_then : ℕ) → calls_then ≡ calls ++ more → came ≤ came_then
    → ((n : ℕ) → has_then n ≡ true → (was_closed n more ≡ false)
    × ((has n ≡ true) ⊎ ((came < n) × (is_one_of n (connections_in more) ≡ true))))
    → ((n : ℕ) → came_then < n → was_closed n more ≡ false)
    → AreOpen calls has came → AreOpen calls_then has_then came_then
open_more calls calls_then more has has_then came came_then told le placed later all =
    rw told (record {
      there = λ n some.
          let here = placed n some in
          elim here.1 [
            | inl was ↦ there_more n calls more (all.there n was) here.0
            | inr next ↦ there_next n calls more next.1 (all.later n next.0) here.0
          ];
      later = λ n above. list_any-append (closes n) calls more
          ∙ or_from (was_closed n calls) (was_closed n more)
          (all.later n (omega (arith, le, above))) (later n above);
    })

-- the same of calls that may not be reported
open_told : (calls calls_then : Option (List ConnectionCall)) (more : List ConnectionCall)
    (has has_then : ℕ → Bool) (came came_then : ℕ) → TellsMore calls calls_then more
    → came ≤ came_then
    → ((n : ℕ) → has_then n ≡ true → (was_closed n more ≡ false)
    × ((has n ≡ true) ⊎ ((came < n) × (is_one_of n (connections_in more) ≡ true))))
    → ((n : ℕ) → came_then < n → was_closed n more ≡ false)
    → AreOpenIfTold calls has came → AreOpenIfTold calls_then has_then came_then
open_told None None more has has_then came came_then told le placed later all = tt
open_told None (Some calls_then) more has has_then came came_then told le placed later all =
    absurd told
open_told (Some calls) None more has has_then came came_then told le placed later all = tt
open_told (Some calls) (Some calls_then) more has has_then came came_then told le placed later
    all =
    open_more calls calls_then more has has_then came came_then told le placed later all

-- where each that has a seat had one, and wasn't closed
pub open_kept : (calls calls_then : Option (List ConnectionCall)) (more : List ConnectionCall)
    (has has_then : ℕ → Bool) (came came_then : ℕ) → TellsMore calls calls_then more
    → came ≤ came_then
    → ((n : ℕ) → has_then n ≡ true → (was_closed n more ≡ false) × (has n ≡ true))
    → ((n : ℕ) → came_then < n → was_closed n more ≡ false)
    → AreOpenIfTold calls has came → AreOpenIfTold calls_then has_then came_then
open_kept calls calls_then more has has_then came came_then told le placed later all =
    open_told calls calls_then more has has_then came came_then told le
    (λ n some. ((placed n some).0, inl (placed n some).1)) later all

-- where the next connection came, and each that has a seat had one, or is that connection
pub open_next : (calls calls_then : Option (List ConnectionCall)) (has has_then : ℕ → Bool)
    (came : ℕ) → TellsMore calls calls_then (Accepts (came + 1) Came ∷ [])
    → ((n : ℕ) → has_then n ≡ true → ((has n ≡ true) ⊎ (came + 1 ≡ n)))
    → AreOpenIfTold calls has came → AreOpenIfTold calls_then has_then (came + 1)
open_next calls calls_then has has_then came told placed all =
    open_told calls calls_then (Accepts (came + 1) Came ∷ []) has has_then came (came + 1) told
    (omega arith) (λ n some. (
      refl,
      elim (placed n some) [
        | inl was ↦ inl was
        | inr same ↦ inr (
          omega (arith, same),
          ap (λ (b : Bool). b || false) (eq-eqb (came + 1) n same),
        )
      ],
    )) (λ n above. refl) all

-- where nothing was asked yet, and none has a seat
pub open_none : (calls : Option (List ConnectionCall)) (has : ℕ → Bool) (came : ℕ)
    → IfSome calls (λ told. told ≡ []) → ((n : ℕ) → has n ≡ false) → AreOpenIfTold calls has came
open_none None has came none unseated = tt
open_none (Some calls) has came none unseated = rw none (record {
  there = λ n some. absurd (true≢false (sym some ∙ unseated n));
  later = λ n above. refl;
})

-- each that has a seat is there
pub there_of : (calls : Option (List ConnectionCall)) (has : ℕ → Bool) (came : ℕ)
    → AreOpenIfTold calls has came → AreThere calls has
there_of None has came all = tt
there_of (Some calls) has came all = all.there

-- by writes none is closed
pub writes_close : (n to : ℕ) (writings : List Writing)
    → was_closed n (map (Writes to) writings) ≡ false
writes_close n to [] = refl
writes_close n to (writing ∷ writings) = writes_close n to writings

-- one that has left has left after more calls that don't read from it
pub left_kept : (n : ℕ) (calls calls_then more : List ConnectionCall)
    → calls_then ≡ calls ++ more → IsUnheard calls calls_then n → HasLeft n calls
    → HasLeft n calls_then
left_kept n calls calls_then more told unheard was = record {
  before = was.before;
  behind = was.behind ++ more;
  over = was.over;
  told = told ∙ ap (λ (front : List ConnectionCall). front ++ more) was.told
      ∙ append_assoc was.before (Closes n ∷ was.behind) more;
  unread = record {
    bytes = unheard.bytes ∙ was.unread.bytes;
    ended = unheard.ended ∙ was.unread.ended;
  };
}

-- a read that finds nothing is the last call
pub finds_nothing : (n : ℕ) (reading : Reading) (calls calls_then : Option (List ConnectionCall))
    → TellsMore calls calls_then (Reads n reading ∷ []) → reading.arrived ≡ NoBytes
    → FindsNothing n calls_then
finds_nothing n reading calls None told nothing = tt
finds_nothing n reading None (Some calls_then) told nothing = absurd told
finds_nothing n reading (Some calls) (Some calls_then) told nothing = record {
  before = calls;
  reading = reading;
  nothing = nothing;
  last = told;
}
