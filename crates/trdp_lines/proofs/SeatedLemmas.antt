-- Which connections have a seat, after one of the seats changes.
-- For `Path`.
-- By: how many seats each connection has at the seat that changes, and around it.
use Rattle.std.proofs.Common.{◌≡◌, ℕ, ◌==◌, ◌+◌, ◌<◌, ◌≤◌, ◌++◌, ◌≢◌, List, ◌∷◌, Bool, true}
use Rattle.std.proofs.Common.{false, if◌then◌else◌, Option, Some, None, refl, ap, sym, subst}
use Rattle.std.proofs.Common.{◌∙◌, inl, inr, arith, IfSome, length, get_or}
use Rattle.std.proofs.lemmas.Bool.{eq-eqb, eqb-true, cases_lt}
use Rattle.trdp_lines.specs.Conversations.{ConversationState, conversation_of}
use Rattle.trdp_lines.specs.Seats.{free_seat, is_of, seats_of}
use Rattle.trdp_lines.specs.Paths.{speaks}
use Rattle.trdp_lines.specs.Seatings.{AreSeated}
use Rattle.trdp_lines.proofs.SeatLemmas.{Changes, changes_at, seats_around}

-- a connection that has a seat has no other
pub record IsAlone (n came : ℕ) (front back : List ConversationState) : Type 0 where
  pub before : seats_of n front ≡ 0
  pub behind : seats_of n back ≡ 0
  pub within : n ≤ came

-- a seat of this connection is one
pub of_seat : (n : ℕ) (c : ConversationState) → c.number ≡ Some n → is_of n c ≡ true
of_seat n c number = ap (λ (whose : Option ℕ). speaks whose n) number ∙ eq-eqb n n refl

-- one of one seat at most leaves none
one_seat : (n came : ℕ) (all front back : ℕ) → all ≡ front + (1 + back) → all ≤ 1
    → (came < n → all ≡ 0) → (front ≡ 0) × (back ≡ 0) × (n ≤ came)
one_seat n came all front back is once below = (
  omega arith,
  omega arith,
  elim (cases_lt came n) [
    | inl above ↦ let none = below above in absurd (omega arith)
    | inr within ↦ within
  ],
)

-- no seat before or after its own is that of a connection, and it came
pub alone : (seats front back : List ConversationState)
    (c : ConversationState) (n came : ℕ) → seats ≡ front ++ c ∷ back → c.number ≡ Some n
    → AreSeated seats came → IsAlone n came front back
alone seats front back c n came is number seated =
    let here = rw (of_seat n c number) at (seats_around n seats front back c is) in
    let one = one_seat n came (seats_of n seats) (seats_of n front) (seats_of n back) here
    (seated.once n) (seated.below n) in
    record { before = one.0; behind = one.1; within = one.2 }

-- each connection has as many seats where the one that changes stays that of its connection
seats_same : (n : ℕ) (seats seats_then : List ConversationState) (c c_then : ConversationState)
    → Changes seats seats_then c c_then → c_then.number ≡ c.number
    → seats_of n seats_then ≡ seats_of n seats
seats_same n seats seats_then c c_then changes number =
    seats_around n seats_then changes.front changes.back c_then changes.is
    ∙ ap (λ (whose : Option ℕ). seats_of n changes.front
    + ((if speaks whose n then 1 else 0) + seats_of n changes.back)) number
    ∙ sym (seats_around n seats changes.front changes.back c changes.was)

-- a connection among these seats isn't one that has none of them
pub seated_other : (k n : ℕ) (seats : List ConversationState) → seats_of n seats ≡ 0
    → 0 < seats_of k seats → k ≢ n
seated_other k n seats none some = λ same.
    let here = subst (λ (m : ℕ). 0 < seats_of m seats) same some in absurd (omega arith)

-- where the seat that changes stays that of its connection
pub seated_turn : (seats seats_then : List ConversationState) (c c_then : ConversationState)
    (came : ℕ) → Changes seats seats_then c c_then → c_then.number ≡ c.number
    → AreSeated seats came → AreSeated seats_then came
seated_turn seats seats_then c c_then came changes number seated =
    let same : (k : ℕ) → seats_of k seats_then ≡ seats_of k seats = λ k.
    seats_same k seats seats_then c c_then changes number in
    record {
      once = λ k. subst (λ (m : ℕ). m ≤ 1) (sym (same k)) (seated.once k);
      below = λ k above. same k ∙ seated.below k above;
    }

-- a seat of none counts no more than another
fewer : (front was is back : ℕ) → is ≡ 0 → front + (is + back) ≤ front + (was + back)
fewer front was is back none = omega arith

-- where the seat that changes is free
pub seated_closed : (seats seats_then : List ConversationState) (c : ConversationState)
    (came : ℕ) → Changes seats seats_then c free_seat → AreSeated seats came
    → AreSeated seats_then came
seated_closed seats seats_then c came changes seated =
    let less : (k : ℕ) → seats_of k seats_then ≤ seats_of k seats = λ k.
    rw (
      seats_around k seats_then changes.front changes.back free_seat changes.is,
      seats_around k seats changes.front changes.back c changes.was,
    )
    (fewer (seats_of k changes.front) (if is_of k c then 1 else 0) 0
    (seats_of k changes.back) refl) in
    record {
      once = λ k. omega (arith, less k, seated.once k);
      below = λ k above. omega (arith, less k, seated.below k above);
    }

-- how many seats a connection has where the next one is seated
next_step : (is : Bool) (k came all front back : ℕ) → (came + 1) == k ≡ is
    → all ≡ front + (0 + back) → all ≤ 1 → (came < k → all ≡ 0)
    → (front + ((if is then 1 else 0) + back) ≤ 1)
    × (came + 1 < k → front + ((if is then 1 else 0) + back) ≡ 0)
next_step true k came all front back here was once below =
    let same = eqb-true (came + 1) k here in
    let none : all ≡ 0 = below (omega arith) in
    (omega arith, λ above. absurd (omega arith))
next_step false k came all front back here was once below = (
  omega arith,
  λ above.
      let none : all ≡ 0 = below (omega arith) in
      omega arith,
)

-- where the seat that changes was free, and is that of the next connection
pub seated_next : (seats seats_then : List ConversationState) (c : ConversationState)
    (came : ℕ) → Changes seats seats_then c (conversation_of (Some (came + 1)))
    → c.number ≡ None → AreSeated seats came → AreSeated seats_then (came + 1)
seated_next seats seats_then c came changes free seated =
    let next = conversation_of (Some (came + 1)) in
    let no : (k : ℕ) → is_of k c ≡ false = λ k.
    ap (λ (whose : Option ℕ). speaks whose k) free in
    let around : (k : ℕ) → (seats_of k seats_then ≤ 1)
    × (came + 1 < k → seats_of k seats_then ≡ 0) = λ k.
    rw (seats_around k seats_then changes.front changes.back next changes.is)
    (next_step ((came + 1) == k) k came (seats_of k seats) (seats_of k changes.front)
    (seats_of k changes.back) refl
    (rw (no k) at (seats_around k seats changes.front changes.back c changes.was))
    (seated.once k) (seated.below k)) in
    record { once = λ k. (around k).0; below = λ k above. (around k).1 above }

-- where more came
pub seated_more : (seats : List ConversationState) (came came_then : ℕ) → came ≤ came_then
    → AreSeated seats came → AreSeated seats came_then
seated_more seats came came_then more seated = record {
  once = seated.once;
  below = λ k above. seated.below k (omega (arith, above, more));
}

-- a connection that has a seat came
pub number_low : (seats : List ConversationState) (place : ℕ) (c : ConversationState)
    (whose : Option ℕ) (came : ℕ) → place < length seats → c ≡ get_or seats place c
    → c.number ≡ whose → AreSeated seats came → IfSome whose (λ n. n ≤ came)
number_low seats place c None came within here number seated = tt
number_low seats place c (Some n) came within here number seated =
    let changes = changes_at seats place c c within here in
    (alone seats changes.front changes.back c n came changes.was number seated).within
