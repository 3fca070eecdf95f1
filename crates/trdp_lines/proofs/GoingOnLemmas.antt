-- The connections that have a place, and those that have one no longer, over several calls.
-- For `Path`.
-- By: whether a connection has a place between them; one without a place isn't read from.
use Rattle.std.proofs.Common.{◌≡◌, ℕ, ◌++◌, ◌≢◌, List, [], ◌∷◌, Bool, true, false}
use Rattle.std.proofs.Common.{Some, refl, ap, sym, subst, ◌∙◌, append_assoc, inl, inr}
use Rattle.std.proofs.lemmas.Bool.{eq-eqb, or_from}
use Rattle.std.proofs.lemmas.List.{append-nil}
use Rattle.trdp_lines.specs.declared.rule.Rule.{Rule}
use Rattle.trdp_lines.specs.declared.rule.Rule.TheVariants.{Application, Operators}
use Rattle.trdp_lines.specs.Closings.{IsUnheard}
use Rattle.trdp_lines.specs.Connections.{ConnectionCall, Closes, Writes}
use Rattle.trdp_lines.specs.Comings.{WasRefused}
use Rattle.trdp_lines.specs.Conversations.{ConversationState}
use Rattle.trdp_lines.specs.Fates.{GoesOn, HasGone, IsServed}
use Rattle.trdp_lines.specs.Paths.{speaks}
use Rattle.trdp_lines.specs.Seats.{free_seat, has_seat, is_of}
use Rattle.trdp_lines.specs.Turns.{HasTurn}
use Rattle.trdp_lines.proofs.CallLemmas.{AreQuiet, quiet_come}
use Rattle.trdp_lines.proofs.ClosingLemmas.{left_kept}
use Rattle.trdp_lines.proofs.HadLemmas.{left_true, never_both, none_among, same_seats, seat_among}
use Rattle.trdp_lines.proofs.PlacesLemmas.{Moves}
use Rattle.trdp_lines.proofs.SeatLemmas.{Changes, number_of_same}
use Rattle.trdp_lines.proofs.TurnLemmas.{unheard_by}

-- one that was refused stays so
pub refused_then : (n : ℕ) (calls calls_then more : List ConnectionCall)
    → calls_then ≡ calls ++ more → WasRefused n calls → WasRefused n calls_then
refused_then n calls calls_then more told was = record {
  before = was.before;
  behind = was.behind ++ more;
  writing = was.writing;
  busy = was.busy;
  told = told ∙ ap (λ (calls : List ConnectionCall). calls ++ more) was.told
      ∙ append_assoc was.before (Writes n was.writing ∷ Closes n ∷ was.behind) more;
}

-- what became of one that is closed stays true, where it isn't read from
pub gone_kept : (rule : Rule) (n : ℕ) (calls calls_then more : List ConnectionCall)
    → calls_then ≡ calls ++ more → IsUnheard calls calls_then n → HasGone rule n calls
    → HasGone rule n calls_then
gone_kept Operators n calls calls_then more told unheard gone =
    left_kept n calls calls_then more told unheard gone
gone_kept Application n calls calls_then more told unheard gone = elim gone [
  | inl left ↦ inl (left_kept n calls calls_then more told unheard left)
  | inr rest ↦ elim rest [
    | inl way ↦ inr (inl (record {
      before = way.before;
      behind = way.behind ++ more;
      silent = way.silent;
      asked = way.asked;
      successor = way.successor;
      later = way.later;
      there = way.there;
      told = told ∙ ap (λ (calls : List ConnectionCall). calls ++ more) way.told
          ∙ append_assoc way.before (Closes n ∷ way.behind) more;
      unread = record {
        bytes = unheard.bytes ∙ way.unread.bytes;
        ended = unheard.ended ∙ way.unread.ended;
      };
    }))
    | inr busy ↦
        let was = busy.refused in
        inr (inr (record {
          refused = record {
            before = was.before;
            behind = was.behind ++ more;
            writing = was.writing;
            busy = was.busy;
            told = told ∙ ap (λ (calls : List ConnectionCall). calls ++ more) was.told
                ∙ append_assoc was.before (Writes n was.writing ∷ Closes n ∷ was.behind) more;
          };
          beside = busy.beside;
        }))
  ]
]

-- where nothing was asked all goes on
pub going_none : (rule : Rule) (calls : List ConnectionCall) (places : List ConversationState)
    → GoesOn rule calls calls places places
going_none rule calls places = record {
  more = [];
  told = sym (append-nil calls);
  come = refl;
  others = λ n none. record {
    unheard = record { bytes = refl; ended = refl };
    unseated = none;
  };
  gone = λ n some none. never_both (has_seat n places) some none;
}

-- one that has a place in between or not
gone_next : (has : Bool) (rule : Rule) (n : ℕ) (one two three : List ConnectionCall)
    (a b c : List ConversationState) → has_seat n b ≡ has → GoesOn rule one two a b
    → GoesOn rule two three b c → has_seat n a ≡ true → has_seat n c ≡ false
    → HasGone rule n three
gone_next true rule n one two three a b c mid first second some none = second.gone n mid none
gone_next false rule n one two three a b c mid first second some none =
    gone_kept rule n two three second.more second.told (second.others n mid).unheard
    (first.gone n some mid)

-- what goes on after what goes on
pub going_next : (rule : Rule) (one two three : List ConnectionCall)
    (a b c : List ConversationState) → GoesOn rule one two a b → GoesOn rule two three b c
    → GoesOn rule one three a c
going_next rule one two three a b c first second = record {
  more = first.more ++ second.more;
  told = second.told ∙ ap (λ (calls : List ConnectionCall). calls ++ second.more) first.told
      ∙ append_assoc one first.more second.more;
  come = second.come ∙ first.come;
  others = λ n none.
      let early = first.others n none in
      let late = second.others n early.unseated in
      record {
        unheard = record {
          bytes = late.unheard.bytes ∙ early.unheard.bytes;
          ended = late.unheard.ended ∙ early.unheard.ended;
        };
        unseated = late.unseated;
      };
  gone = λ n some none.
      gone_next (has_seat n b) rule n one two three a b c refl first second some none;
}

-- a turn of the connection at a seat
pub going_turn : (rule : Rule) (calls calls_then : List ConnectionCall)
    (places places_then : List ConversationState) (c c_then : ConversationState) (n : ℕ)
    (lines : List (List ℕ)) → Changes places places_then c c_then → c.number ≡ Some n
    → c_then.number ≡ c.number → HasTurn n calls calls_then c c_then lines
    → GoesOn rule calls calls_then places places_then
going_turn rule calls calls_then places places_then c c_then n lines changes number kept turn =
    let same : (k : ℕ) → has_seat k places_then ≡ has_seat k places = λ k.
    same_seats k places places_then c c_then changes kept in
    record {
      more = turn.more;
      told = turn.told;
      come = turn.come;
      others = λ k none.
          let around = none_among k places changes.front changes.back c changes.was none in
          let other : k ≢ n = λ is. never_both (is_of k c)
          (ap (λ whose. speaks whose k) number ∙ eq-eqb n k (sym is)) around.1 in
          record { unheard = turn.others k other; unseated = same k ∙ none };
      gone = λ k some none. never_both (has_seat k places) some (sym (same k) ∙ none);
    }

-- the connection at a place was closed
pub going_ended : (rule : Rule) (calls calls_then more : List ConnectionCall)
    (places places_then : List ConversationState) (c : ConversationState) (n : ℕ)
    → calls_then ≡ calls ++ more → AreQuiet more → Changes places places_then c free_seat
    → c.number ≡ Some n → HasGone rule n calls_then
    → GoesOn rule calls calls_then places places_then
going_ended rule calls calls_then more places places_then c n told quiet changes number fate =
    let unheard = unheard_by calls calls_then more quiet.unheard told in
    record {
      more = more;
      told = told;
      come = rw told (quiet_come calls more quiet);
      others = λ k none.
          let around = none_among k places changes.front changes.back c changes.was none in
          record {
            unheard = unheard k;
            unseated = seat_among k places_then changes.front changes.back free_seat changes.is
                ∙ or_from (has_seat k changes.front) (has_seat k changes.back) around.0
                around.2;
          };
      gone = λ k some none.
          let around = none_among k places_then changes.front changes.back free_seat changes.is
          none in
          let among = seat_among k places changes.front changes.back c changes.was in
          let here = left_true (is_of k c) (sym (rw (around.0, around.2) at among) ∙ some) in
          let whose : Some n ≡ Some k = sym number ∙ number_of_same c.number k here in
          let same : n ≡ k = cc in
          subst (λ (m : ℕ). HasGone rule m calls_then) same fate;
    }

-- after two of them were exchanged
pub going_moved : (rule : Rule) (calls calls_then : List ConnectionCall)
    (a b c : List ConversationState) → Moves b c → GoesOn rule calls calls_then a b
    → GoesOn rule calls calls_then a c
going_moved rule calls calls_then a b c moved goes = record {
  more = goes.more;
  told = goes.told;
  come = goes.come;
  others = λ n none. record {
    unheard = (goes.others n none).unheard;
    unseated = moved.has n ∙ (goes.others n none).unseated;
  };
  gone = λ n some none. goes.gone n some (sym (moved.has n) ∙ none);
}

-- one that has a place has it still, or was closed
placed_then : (has : Bool) (rule : Rule) (n : ℕ) (calls calls_then : List ConnectionCall)
    (places places_then : List ConversationState) → has_seat n places_then ≡ has
    → GoesOn rule calls calls_then places places_then → has_seat n places ≡ true
    → IsServed rule n calls_then places_then
placed_then true rule n calls calls_then places places_then then goes some = inl then
placed_then false rule n calls calls_then places places_then then goes some =
    inr (goes.gone n some then)

-- one that was closed stays so, unless it has a place
closed_then : (has : Bool) (rule : Rule) (n : ℕ) (calls calls_then : List ConnectionCall)
    (places places_then : List ConversationState) → has_seat n places ≡ has
    → GoesOn rule calls calls_then places places_then → HasGone rule n calls
    → IsServed rule n calls_then places_then
closed_then true rule n calls calls_then places places_then was goes gone =
    placed_then (has_seat n places_then) rule n calls calls_then places places_then refl goes was
closed_then false rule n calls calls_then places places_then was goes gone =
    inr (gone_kept rule n calls calls_then goes.more goes.told (goes.others n was).unheard gone)

-- one that is served is served after calls by which all goes on
pub served_then : (rule : Rule) (n : ℕ) (calls calls_then : List ConnectionCall)
    (places places_then : List ConversationState) → GoesOn rule calls calls_then places places_then
    → IsServed rule n calls places → IsServed rule n calls_then places_then
served_then rule n calls calls_then places places_then goes served = elim served [
  | inl some ↦ placed_then (has_seat n places_then) rule n calls calls_then places places_then refl
      goes some
  | inr gone ↦ closed_then (has_seat n places) rule n calls calls_then places places_then refl goes
      gone
]
