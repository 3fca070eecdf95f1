-- Which connections have one of some seats, where one of these changes.
-- For `Path`.
-- By: what is around the seat; a connection has one seat at most.
use Rattle.std.proofs.Common.{◌≡◌, ℕ, ◌+◌, ◌||◌, ◌++◌, List, [], ◌∷◌, Bool, true, false, Option}
use Rattle.std.proofs.Common.{Some, length, nat_le, refl, ap, sym, ◌∙◌, arith, if◌then◌else◌}
use Rattle.std.proofs.lemmas.Bool.{or_parts, or_from, true_from_ne_false, true≢false}
use Rattle.std.proofs.lemmas.List.Folds.{list_any-append}
use Rattle.trdp_lines.specs.Connections.{ConnectionCall}
use Rattle.trdp_lines.specs.Conversations.{ConversationState, is_done}
use Rattle.trdp_base.specs.Limits.{line_limit}
use Rattle.trdp_lines.specs.Paths.{IsWhatWasRead, speaks}
use Rattle.trdp_lines.specs.Said.{bytes_from, is_over, is_too_long}
use Rattle.trdp_lines.specs.Seatings.{AreSeated}
use Rattle.trdp_lines.specs.Seats.{free_seat, has_seat, is_of, seats_of}
use Rattle.trdp_lines.proofs.ConversationLemmas.{rest_behind}
use Rattle.trdp_lines.proofs.SeatedLemmas.{alone}
use Rattle.trdp_lines.proofs.SeatLemmas.{Changes}

-- no test is both true and false
pub never_both : {P : Type 0} (b : Bool) → b ≡ true → b ≡ false → P
never_both b some none = absurd (true≢false (sym some ∙ none))

-- of two tests of which the second is false the first is true
pub left_true : (b : Bool) → (b || false) ≡ true → b ≡ true
left_true true same = refl
left_true false same = same

-- those that have a seat, with the one that changes
pub seat_among : (n : ℕ) (seats front back : List ConversationState) (c : ConversationState)
    → seats ≡ front ++ c ∷ back
    → has_seat n seats ≡ (has_seat n front || (is_of n c || has_seat n back))
seat_among n seats front back c is =
    ap (has_seat n) is ∙ list_any-append (is_of n) front (c ∷ back)

-- the same have a seat where the one that changes stays that of its connection
pub same_seats : (n : ℕ) (seats seats_then : List ConversationState) (c c_then : ConversationState)
    → Changes seats seats_then c c_then → c_then.number ≡ c.number
    → has_seat n seats_then ≡ has_seat n seats
same_seats n seats seats_then c c_then changes number =
    seat_among n seats_then changes.front changes.back c_then changes.is
    ∙ ap (λ (whose : Option ℕ).
    has_seat n changes.front || (speaks whose n || has_seat n changes.back)) number
    ∙ sym (seat_among n seats changes.front changes.back c changes.was)

-- around a seat where a connection has none it has none, nor is it of that seat
pub none_among : (n : ℕ) (seats front back : List ConversationState) (c : ConversationState)
    → seats ≡ front ++ c ∷ back → has_seat n seats ≡ false
    → (has_seat n front ≡ false) × (is_of n c ≡ false) × (has_seat n back ≡ false)
none_among n seats front back c is none =
    let parts = or_parts (has_seat n front) (is_of n c || has_seat n back)
    (sym (seat_among n seats front back c is) ∙ none) in
    let rest = or_parts (is_of n c) (has_seat n back) parts.1 in
    (parts.0, rest.0, rest.1)

-- a connection is over where what is known of it is done
pub over_heard : (calls : List ConnectionCall) (n : ℕ) (c : ConversationState)
    → IsWhatWasRead calls n c
    → is_over n calls ≡ is_done c
over_heard calls n c heard =
    ap (λ (over : Bool). over || is_too_long (bytes_from n calls)) heard.ended
    ∙ ap (λ (bytes : List ℕ). c.ended || is_too_long bytes) heard.bytes
    ∙ ap (λ (rest : List ℕ). c.ended || nat_le line_limit (length rest))
    (rest_behind heard.before c.bytes heard.whole)

-- a connection is over whose seat is done
pub done_over : (calls : List ConnectionCall) (n : ℕ) (c : ConversationState)
    → IsWhatWasRead calls n c
    → is_done c ≡ true → is_over n calls ≡ true
done_over calls n c heard done = over_heard calls n c heard ∙ done

-- one that has a seat after one changed, and not that one, had a seat
pub had_seat : (k : ℕ) (seats seats_then : List ConversationState) (c c_then : ConversationState)
    → Changes seats seats_then c c_then → is_of k c_then ≡ false → has_seat k seats_then ≡ true
    → has_seat k seats ≡ true
had_seat k seats seats_then c c_then changes other some =
    true_from_ne_false (has_seat k seats) (λ none.
    let around = none_among k seats changes.front changes.back c changes.was none in
    never_both (has_seat k seats_then) some
    (seat_among k seats_then changes.front changes.back c_then changes.is
    ∙ or_from (has_seat k changes.front) (is_of k c_then || has_seat k changes.back) around.0
    (or_from (is_of k c_then) (has_seat k changes.back) other around.2)))

-- one seat more, which is that of the connection or not
unseated_step : (is : Bool) (n : ℕ) (c : ConversationState) (seats : List ConversationState)
    → is_of n c ≡ is → (seats_of n seats ≡ 0 → has_seat n seats ≡ false)
    → (if is then 1 else 0) + seats_of n seats ≡ 0 → (is_of n c || has_seat n seats) ≡ false
unseated_step true n c seats here later none = absurd (omega (arith, none))
unseated_step false n c seats here later none =
    or_from (is_of n c) (has_seat n seats) here (later (omega (arith, none)))

-- a connection with no seats has none
pub unseated : (n : ℕ) (seats : List ConversationState) → seats_of n seats ≡ 0
    → has_seat n seats ≡ false
unseated n [] none = refl
unseated n (c ∷ seats) none =
    unseated_step (is_of n c) n c seats refl (unseated n seats) none

-- the connection at the seat that changes has no seat where another one has it, or none
pub gone_seat : (seats seats_then : List ConversationState) (c : ConversationState) (n came : ℕ)
    → Changes seats seats_then c free_seat → c.number ≡ Some n → AreSeated seats came
    → has_seat n seats_then ≡ false
gone_seat seats seats_then c n came changes number seated =
    let one = alone seats changes.front changes.back c n came changes.was number seated in
    seat_among n seats_then changes.front changes.back free_seat changes.is
    ∙ or_from (has_seat n changes.front) (has_seat n changes.back)
    (unseated n changes.front one.before) (unseated n changes.back one.behind)
