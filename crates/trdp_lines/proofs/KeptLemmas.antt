-- What holds of a path at any time holds after each of its steps.
-- For `Path`.
-- By: what is known of its places, of who speaks there and who waits.
use Rattle.std.proofs.Common.{◌≡◌, ℕ, zero, suc, ◌+◌, ◌<◌, ◌≤◌, ◌==◌, ◌≢◌, ◌||◌, ◌&&◌, ◌⊎◌, not, List}
use Rattle.std.proofs.Common.{[], ◌∷◌, false, Option, Some, None, IfSome, length, replicate, set, get_or}
use Rattle.std.proofs.Common.{refl, ap, sym, ◌∙◌, arith, inl, inr}
use Rattle.std.specs.Prelude.{is_some}
use Rattle.std.proofs.lemmas.Bool.{ne_eqb, or_from}
use Rattle.std.proofs.lemmas.List.{length-set}
use Rattle.std.proofs.lemmas.List.Elements.{All-nil}
use Rattle.trdp_lines.specs.declared.connections.Accepted.TheVariants.{Came}
use Rattle.trdp_lines.specs.declared.rule.Rule.{Rule}
use Rattle.trdp_lines.specs.declared.rule.Rule.TheVariants.{Application, Operators}
use Rattle.trdp_lines.specs.Closings.{was_closed}
use Rattle.trdp_base.specs.Reported.{TellsMore}
use Rattle.trdp_lines.specs.Connections.{ConnectionCall, Accepts, Closes, Writes, Writing}
use Rattle.trdp_lines.specs.Conversations.{ConversationState, conversation_of, is_done}
use Rattle.trdp_lines.specs.Fates.{AreTaken}
use Rattle.trdp_lines.specs.Hearings.{waits_at}
use Rattle.trdp_lines.specs.Lines.{has_line}
use Rattle.trdp_lines.specs.Paths.{last_connection_number}
use Rattle.trdp_lines.specs.Said.{lives}
use Rattle.trdp_lines.specs.Seatings.{AreHeard, ArePlaces, AreTrueIfTold, IsPath}
use Rattle.trdp_lines.specs.Seats.{free_seat, has_seat, seat_at, seats_at, seats_of, with_waiting}
use Rattle.trdp_lines.specs.Turns.{HasTurnIfTold, IsPlaceOf, IsRefused}
use Rattle.trdp_lines.proofs.CallLemmas.{AreQuiet, close_quiet, refuse_quiet}
use Rattle.trdp_lines.proofs.ClosingLemmas.{open_none}
use Rattle.trdp_lines.proofs.HadLemmas.{unseated}
use Rattle.trdp_lines.proofs.OrderLemmas.{order_behind, order_ended, order_first, order_quiet}
use Rattle.trdp_lines.proofs.OrderLemmas.{order_refused, order_turn}
use Rattle.trdp_lines.proofs.PlacesLemmas.{place_changes, place_moves, places_ended, places_moved}
use Rattle.trdp_lines.proofs.PlacesLemmas.{places_next, places_quiet, places_turn, waiting_changes}
use Rattle.trdp_lines.proofs.ReadLemmas.{number_read, seat_here}

-- the seat of a connection, as it is read at a place
pub record AtPlace (rule : Rule) (seats : List ConversationState) (place : ℕ)
    (c : ConversationState) (whose : Option ℕ) : Type 0 where
  pub low : place < seats_at rule
  pub within : place < length seats
  pub here : c ≡ get_or seats place c
  pub number : c.number ≡ whose

-- the seat at a place
pub at_place : (rule : Rule) (seats : List ConversationState) (place : ℕ) (whose : Option ℕ)
    → length seats ≡ seats_at rule → place < seats_at rule → (seat_at seats place).number ≡ whose
    → AtPlace rule seats place (seat_at seats place) whose
at_place rule seats place whose size low number =
    let within : place < length seats = rw size low in
    record { low = low; within = within; here = seat_here seats place within; number = number }

-- the same by what was read there
pub at_read : (rule : Rule) (seats : List ConversationState) (place : ℕ) (c : ConversationState)
    (whose : Option ℕ) → length seats ≡ seats_at rule → place < seats_at rule
    → c ≡ get_or seats place c → c.number ≡ whose → AtPlace rule seats place c whose
at_read rule seats place c whose size low here number =
    record { low = low; within = rw size low; here = here; number = number }

-- the same by where it was found
pub at_found : (rule : Rule) (seats : List ConversationState) (place : ℕ) (c : ConversationState)
    (whose : Option ℕ) → length seats ≡ seats_at rule → IsPlaceOf whose seats place
    → c ≡ get_or seats place c → AtPlace rule seats place c whose
at_found rule seats place c whose size found here = record {
  low = rw (← size) found.within;
  within = found.within;
  here = here;
  number = number_read seats place c whose found.within here found.number;
}

-- a call that ends a connection ends no other
pub closes_other : (k n : ℕ) → k ≢ n → (n == k || false) ≡ false
closes_other k n other = or_from (n == k) false (ne_eqb n k (λ same. other (sym same))) refl

-- after the turn of the connection at a place
pub path_turn : (rule : Rule) (calls calls_then : Option (List ConnectionCall))
    (seats : List ConversationState) (place : ℕ) (c c_then : ConversationState) (n : ℕ)
    (waiting : Option ℕ) (came : ℕ) (lines : List (List ℕ)) → AtPlace rule seats place c (Some n)
    → c_then.number ≡ c.number → HasTurnIfTold n calls calls_then c c_then lines
    → IsPath rule calls seats waiting came
    → IsPath rule calls_then (set seats place c_then) waiting came
path_turn rule calls calls_then seats place c c_then n waiting came lines at kept turn path = record {
  size = length-set seats place c_then ∙ path.size;
  within = path.within;
  places = places_turn calls calls_then (with_waiting seats waiting)
      (with_waiting (set seats place c_then) waiting) c c_then n came lines
      (place_changes seats place c c_then waiting at.within at.here) at.number kept turn path.places;
  order = order_turn rule calls calls_then seats place c c_then n waiting came lines at.low at.within
      at.here at.number kept turn path.order;
}

-- after the connection at a place was closed, and the one that waits has its seat
pub path_ended : (rule : Rule) (calls calls_then : Option (List ConnectionCall))
    (seats : List ConversationState) (place : ℕ) (c : ConversationState) (n : ℕ)
    (waiting : Option ℕ) (came : ℕ) → AtPlace rule seats place c (Some n)
    → ((c.spoke || has_line c.bytes) && not (is_done c)) ≡ false
    → TellsMore calls calls_then (Closes n ∷ []) → IsPath rule calls seats waiting came
    → IsPath rule calls_then (set seats place (conversation_of waiting)) None came
path_ended rule calls calls_then seats place c n waiting came at past told path = record {
  size = length-set seats place (conversation_of waiting) ∙ path.size;
  within = path.within;
  places = places_moved calls_then (with_waiting (set seats place free_seat) waiting)
      (with_waiting (set seats place (conversation_of waiting)) None) came
      (place_moves seats place waiting at.within)
      (places_ended calls calls_then (Closes n ∷ []) (with_waiting seats waiting)
      (with_waiting (set seats place free_seat) waiting) c n came told (close_quiet n).unheard
      (λ k other. closes_other k n other)
      (place_changes seats place c free_seat waiting at.within at.here) at.number path.places);
  order = order_ended rule calls calls_then seats place c n waiting came at.low at.within at.here
      at.number past told path.order;
}

-- after the one that waits was refused, beside the connection at a place
pub path_refused : (rule : Rule) (calls calls_then : Option (List ConnectionCall))
    (seats : List ConversationState) (place : ℕ) (c : ConversationState) (n next : ℕ) (came : ℕ)
    → AtPlace rule seats place c (Some n) → IsRefused next calls calls_then
    → IsPath rule calls seats (Some next) came → IsPath rule calls_then seats None came
path_refused rule calls calls_then seats place c n next came at refused path =
    let more = Writes next refused.writing ∷ Closes next ∷ [] in
    record {
      size = path.size;
      within = path.within;
      places = places_ended calls calls_then more (with_waiting seats (Some next))
          (with_waiting seats None) (conversation_of (Some next)) next came refused.told
          (refuse_quiet next refused.writing).unheard (λ k other. closes_other k next other)
          (waiting_changes seats (Some next) None) refl path.places;
      order = order_refused rule calls calls_then more seats place c n (Some next) came at.low
          at.within at.here at.number refused.told (refuse_quiet next refused.writing) path.order;
    }

-- after calls that ask nothing of any connection
pub path_quiet : (rule : Rule) (calls calls_then : Option (List ConnectionCall))
    (more : List ConnectionCall) (seats : List ConversationState) (waiting : Option ℕ) (came : ℕ)
    → TellsMore calls calls_then more → AreQuiet more
    → ((k : ℕ) → ((k ≤ came) ⊎ (came < k)) → was_closed k more ≡ false)
    → IsPath rule calls seats waiting came → IsPath rule calls_then seats waiting came
path_quiet rule calls calls_then more seats waiting came told quiet unclosed path = record {
  size = path.size;
  within = path.within;
  places = places_quiet calls calls_then more (with_waiting seats waiting) came came told
      quiet.unheard (omega arith) unclosed path.places;
  order = order_quiet rule calls calls_then more seats waiting came told quiet path.order;
}

-- after the next connection came, and got a free seat
pub path_first : (rule : Rule) (calls calls_then : Option (List ConnectionCall))
    (seats : List ConversationState) (place : ℕ) (c : ConversationState) (waiting : Option ℕ)
    (came : ℕ) → AtPlace rule seats place c None → waiting ≡ None
    → TellsMore calls calls_then (Accepts (came + 1) Came ∷ []) → came + 1 ≤ last_connection_number
    → IsPath rule calls seats waiting came → IsPath rule calls_then
    (set seats place (conversation_of (Some (came + 1)))) waiting (came + 1)
path_first rule calls calls_then seats place c waiting came at unwaited told last path =
    let next = conversation_of (Some (came + 1)) in
    record {
      size = length-set seats place next ∙ path.size;
      within = last;
      places = places_next calls calls_then (with_waiting seats waiting)
          (with_waiting (set seats place next) waiting) c came told
          (place_changes seats place c next waiting at.within at.here) at.number path.places;
      order = order_first rule calls calls_then seats place c waiting came at.low at.within at.here
          at.number unwaited told path.order;
    }

-- after it came, and waits for the seat of an application
pub path_behind : (rule : Rule) (calls calls_then : Option (List ConnectionCall))
    (seats : List ConversationState) (waiting : Option ℕ) (came : ℕ) → rule ≡ Application
    → AreTaken seats → waiting ≡ None
    → TellsMore calls calls_then (Accepts (came + 1) Came ∷ []) → came + 1 ≤ last_connection_number
    → IsPath rule calls seats waiting came
    → IsPath rule calls_then seats (Some (came + 1)) (came + 1)
path_behind Operators calls calls_then seats waiting came is taken unwaited told last path = cc
path_behind Application calls calls_then seats waiting came is taken unwaited told last path =
    record {
      size = path.size;
      within = last;
      places = places_next calls calls_then (with_waiting seats waiting)
          (with_waiting seats (Some (came + 1))) (conversation_of waiting) came told
          (waiting_changes seats waiting (Some (came + 1))) unwaited path.places;
      order = order_behind calls calls_then seats waiting came (taken 0 (omega (arith, path.size)))
          unwaited told path.order;
    }

-- after it came, and was refused, where operators speak
pub path_away : (rule : Rule) (calls calls_then : Option (List ConnectionCall))
    (seats : List ConversationState) (waiting : Option ℕ) (came : ℕ) (writing : Writing)
    → rule ≡ Operators → TellsMore calls calls_then
    (Accepts (came + 1) Came ∷ Writes (came + 1) writing ∷ Closes (came + 1) ∷ [])
    → came + 1 ≤ last_connection_number → IsPath rule calls seats waiting came
    → IsPath rule calls_then seats waiting (came + 1)
path_away Application calls calls_then seats waiting came writing is told last path = cc
path_away Operators calls calls_then seats waiting came writing is told last path =
    record {
      size = path.size;
      within = last;
      places = places_quiet calls calls_then
          (Accepts (came + 1) Came ∷ Writes (came + 1) writing ∷ Closes (came + 1) ∷ [])
          (with_waiting seats waiting) came (came + 1) told
          (record { bytes = λ m. refl; ended = λ m. refl }) (omega arith)
          (λ k out. closes_other k (came + 1) (λ same. elim out [
            | inl low ↦ absurd (omega (arith, low, same))
            | inr high ↦ absurd (omega (arith, high, same))
          ])) path.places;
      order = path.order;
    }

-- none has a free seat
free_of : (n count : ℕ) → seats_of n (with_waiting (replicate count free_seat) None) ≡ 0
free_of n zero = refl
free_of n (suc count) = omega (arith, free_of n count)

-- nothing is known of those that have none
free_heard : (calls : List ConnectionCall) (count : ℕ)
    → AreHeard calls (with_waiting (replicate count free_seat) None)
free_heard calls zero = (tt, tt)
free_heard calls (suc count) = (tt, free_heard calls count)

-- nothing was read yet
new_known : (calls : Option (List ConnectionCall)) (count : ℕ)
    → IfSome calls (λ told. told ≡ [])
    → AreTrueIfTold calls (with_waiting (replicate count free_seat) None) 0
new_known None count none = tt
new_known (Some calls) count none = record {
  unread = rw none (λ n low. (refl, refl));
  heard = free_heard calls count;
}

-- where no connection came yet
new_places : (calls : Option (List ConnectionCall)) (count : ℕ)
    → IfSome calls (λ told. told ≡ [])
    → ArePlaces calls (with_waiting (replicate count free_seat) None) 0
new_places calls count none = record {
  seated = record {
    once = λ n. omega (arith, free_of n count);
    below = λ n above. free_of n count;
  };
  present = open_none calls (λ n. has_seat n (with_waiting (replicate count free_seat) None)) 0 none
      (λ n. unseated n (with_waiting (replicate count free_seat) None) (free_of n count));
  known = new_known calls count none;
}

-- no connection came yet
pub path_new : (rule : Rule) (calls : Option (List ConnectionCall))
    → IfSome calls (λ told. told ≡ [])
    → IsPath rule calls (replicate (seats_at rule) free_seat) None 0
path_new Application None none = record {
  size = refl;
  within = omega arith;
  places = new_places None 1 none;
  order = tt;
}
path_new Application (Some calls) none = record {
  size = refl;
  within = omega arith;
  places = new_places (Some calls) 1 none;
  order = rw none (
    All-nil (λ m. m ≤ 0),
    λ m low. (refl, refl),
    All-nil (λ m. lives [] m ≡ false),
  );
}
path_new Operators calls none = record {
  size = refl;
  within = omega arith;
  places = new_places calls 4 none;
  order = refl;
}

-- no operator waits
pub none_waits_at : (rule : Rule) (calls : Option (List ConnectionCall))
    (seats : List ConversationState) (waiting : Option ℕ) (came : ℕ)
    → IsPath rule calls seats waiting came → rule ≡ Operators → waiting ≡ None
none_waits_at Operators calls seats waiting came path is = path.order
none_waits_at Application calls seats waiting came path is = cc

-- so one waits as the rule has it
pub waits_is : (rule : Rule) (calls : Option (List ConnectionCall))
    (seats : List ConversationState) (waiting : Option ℕ) (came : ℕ)
    → IsPath rule calls seats waiting came → waits_at rule waiting ≡ is_some waiting
waits_is Application calls seats waiting came path = refl
waits_is Operators calls seats waiting came path = sym (ap is_some path.order)
