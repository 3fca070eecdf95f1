-- A text that is said to the connection of a number.
-- For `Path::give` and `Path::speaks`.
-- By: whether one of the seats is that of the connection.
use Rattle.std.proofs.Common.{◌≡◌, ℕ, ◌<◌, List, [], ◌∷◌, true, false, Option, Some, None}
use Rattle.std.proofs.Common.{Result, Ok, length, set, get_or, refl, ap, sym, subst, ◌∙◌, is_ok}
use Rattle.std.specs.Prelude.{MatchOption, is_some}
use Rattle.std.proofs.lemmas.Bool.{eq-eqb, false_from_ne_true}
use Rattle.std.proofs.lemmas.List.Elements.{All-from_get_or}
use Rattle.std.proofs.lemmas.List.Folds.{list_any_at, list_any_none}
use Rattle.trdp_lines.specs.declared.path_fault.LostText.{LostText}
use Rattle.trdp_lines.specs.Connections.{ConnectionCall}
use Rattle.trdp_lines.specs.declared.rule.Rule.{Rule}
use Rattle.trdp_lines.specs.declared.rule.Rule.TheVariants.{Application, Operators}
use Rattle.trdp_lines.specs.Conversations.{ConversationState, HasWritten, left_by, left_to_hand_in}
use Rattle.trdp_lines.specs.Outgoings.{OutgoingState, lost_told, takes_text}
use Rattle.trdp_lines.specs.OutgoingRuns.{after_steps}
use Rattle.trdp_lines.specs.Paths.{speaks}
use Rattle.trdp_lines.specs.Seats.{StaysLeft, free_seat, has_seat, is_of, left_at_seat, seat_at}
use Rattle.trdp_lines.specs.Seats.{seats_at}
use Rattle.trdp_lines.specs.Steps.{SaysToSeat}
use Rattle.trdp_lines.specs.Turns.{HasNoPlace, IsPlaceOf}
use Rattle.trdp_lines.proofs.BetweenLemmas.{tells_nothing}
use Rattle.trdp_lines.proofs.ReadLemmas.{first_seat, first_set, seat_read}
use Rattle.trdp_lines.proofs.SeatLemmas.{changes_at, left_same, number_of_same}

-- a connection that is at a place has a seat
pub seat_there : (seats : List ConversationState) (place n : ℕ) → place < length seats
    → (seat_at seats place).number ≡ Some n → has_seat n seats ≡ true
seat_there seats place n within number =
    list_any_at (is_of n) seats place free_seat within
    (ap (λ (whose : Option ℕ). speaks whose n) number ∙ eq-eqb n n refl)

-- a connection that is at no place has none
pub no_seat : (seats : List ConversationState) (n : ℕ) → HasNoPlace (Some n) seats
    → has_seat n seats ≡ false
no_seat seats n nowhere =
    list_any_none (is_of n) seats (All-from_get_or (λ (c : ConversationState). is_of n c ≡ false)
    seats free_seat (λ k within. false_from_ne_true (is_of n (seat_at seats k))
    (λ yes. nowhere k within (number_of_same (seat_at seats k).number n yes))))

-- a connection that isn't there gets nothing
pub says_nowhere : (calls : Option (List ConnectionCall)) (seats : List ConversationState)
    (n : ℕ) (text : List ℕ) → HasNoPlace (Some n) seats
    → SaysToSeat calls calls (has_seat n seats) n text seats seats (Ok tt)
says_nowhere calls seats n text nowhere =
    rw (no_seat seats n nowhere) (tells_nothing calls, refl, refl)

-- the connection at a place gets the text
pub says_there : (calls calls_then : Option (List ConnectionCall))
    (seats : List ConversationState) (place n : ℕ) (text : List ℕ) (c c_then : ConversationState)
    (result : Result (Unit {0}) LostText) → place < length seats → c ≡ get_or seats place c
    → (seat_at seats place).number ≡ Some n → HasWritten n (text ∷ []) c c_then calls calls_then
    → is_ok result ≡ takes_text (lost_told c.outgoing) text
    → SaysToSeat calls calls_then (has_seat n seats) n text seats (set seats place c_then) result
says_there calls calls_then seats place n text c c_then result within here number written answer =
    let same = sym (seat_read seats place c within here) in
    rw (seat_there seats place n within number) (record {
      place = place;
      within = within;
      number = number;
      seat = c_then;
      changed = refl;
      written = subst (λ (seat : ConversationState).
          HasWritten n (text ∷ []) seat c_then calls calls_then) same written;
      answer = subst (λ (seat : ConversationState).
          is_ok result ≡ takes_text (lost_told seat.outgoing) text) same answer;
    })

-- what waits to go out is no part of what is left
out_left : (number : Option ℕ) (c : ConversationState) (out : OutgoingState)
    → left_by number (record c { outgoing = out }) ≡ left_by number c
out_left None c out = refl
out_left (Some n) c out = refl

-- what is left to hand in stays
pub left_written : (rule : Rule) (calls calls_then : Option (List ConnectionCall))
    (seats : List ConversationState) (place n : ℕ) (texts : List (List ℕ))
    (c c_then : ConversationState) → place < seats_at rule → place < length seats
    → c ≡ get_or seats place c → HasWritten n texts c c_then calls calls_then
    → StaysLeft rule seats (set seats place c_then)
left_written Application calls calls_then seats place n texts c c_then low within here written = λ k.
    ap left_to_hand_in (first_set seats place c_then low within)
    ∙ ap left_to_hand_in written.written
    ∙ out_left c.number c (after_steps c.outgoing written.steps)
    ∙ ap left_to_hand_in (sym (first_seat seats place c low within here))
left_written Operators calls calls_then seats place n texts c c_then low within here written = λ k.
    left_same k seats (set seats place c_then) c c_then
    (changes_at seats place c c_then within here) (ap (left_at_seat k) written.written)

-- a connection has a seat if its place is found
pub speaks_is : (seats : List ConversationState) (n : ℕ) (found : Option ℕ)
    → MatchOption found (HasNoPlace (Some n) seats) (IsPlaceOf (Some n) seats)
    → is_some found ≡ has_seat n seats
speaks_is seats n None nowhere = sym (no_seat seats n nowhere)
speaks_is seats n (Some place) there = sym (seat_there seats place n there.within there.number)
