-- The seats of a path, of which one changes.
-- For `Path`.
-- By: induction on the seats before it and after it; each connection has one seat at most.
use Rattle.std.proofs.Common.{◌≡◌, ℕ, suc, ◌+◌, ◌<◌, ◌++◌, List, [], ◌∷◌}
use Rattle.std.proofs.Common.{Bool, true, false, if◌then◌else◌, Option, Some, None, length, take}
use Rattle.std.proofs.Common.{drop, set, get_or, refl, ap, sym, ◌∙◌, arith}
use Rattle.std.proofs.lemmas.Bool.{eq-eqb, eqb-true, true≢false}
use Rattle.std.proofs.lemmas.List.{append-nil, set_split, set-get_or}
use Rattle.std.proofs.lemmas.List.Concat.{flat_map-append}
use Rattle.trdp_lines.specs.Closings.{IsUnheard}
use Rattle.trdp_lines.specs.Connections.{ConnectionCall}
use Rattle.trdp_lines.specs.Conversations.{ConversationState}
use Rattle.trdp_lines.specs.Seats.{is_of, left_at_seat, left_in, seat_at, seats_of}
use Rattle.trdp_lines.specs.Paths.{speaks}
use Rattle.trdp_lines.specs.Said.{Said}
use Rattle.trdp_lines.specs.Seatings.{IsHeardIf, AreHeard}
use Rattle.trdp_lines.proofs.TurnLemmas.{heard_kept}

-- one seat changes, from the second of these states to the third, with others around it
pub record Changes (seats seats_then : List ConversationState) (c c_then : ConversationState)
    : Type 0 where
  pub front : List ConversationState
  pub back : List ConversationState
  pub was : seats ≡ front ++ c ∷ back
  pub is : seats_then ≡ front ++ c_then ∷ back

-- the seat at a place changes
pub changes_at : (seats : List ConversationState) (place : ℕ) (c c_then : ConversationState)
    → place < length seats → c ≡ get_or seats place c
    → Changes seats (set seats place c_then) c c_then
changes_at seats place c c_then within here = record {
  front = take place seats;
  back = drop (suc place) seats;
  was = sym (set-get_or seats place c)
      ∙ ap (λ (seat : ConversationState). set seats place seat) (sym here)
      ∙ set_split seats place c within;
  is = set_split seats place c_then within;
}

-- the seats of a connection in two parts
pub seats_of-append : (n : ℕ) (front back : List ConversationState)
    → seats_of n (front ++ back) ≡ seats_of n front + seats_of n back
seats_of-append n [] back = omega arith
seats_of-append n (c ∷ front) back =
    let later = seats_of-append n front back in
    let one = if is_of n c then 1 else 0 in
    let add : one + (seats_of n front + seats_of n back)
    ≡ (one + seats_of n front) + seats_of n back = omega arith in
    rw later add

-- how many seats a connection has beside one
pub seats_around : (n : ℕ) (seats front back : List ConversationState) (c : ConversationState)
    → seats ≡ front ++ c ∷ back
    → seats_of n seats
    ≡ seats_of n front + ((if is_of n c then 1 else 0) + seats_of n back)
seats_around n seats front back c is = ap (seats_of n) is ∙ seats_of-append n front (c ∷ back)

-- one more seat, which is that of the connection or not
none_step : (is : Bool) (n : ℕ) (c : ConversationState) (seats : List ConversationState)
    → is_of n c ≡ is → (seats_of n seats ≡ 0 → left_in n seats ≡ [])
    → (if is then 1 else 0) + seats_of n seats ≡ 0 → left_in n (c ∷ seats) ≡ []
none_step true n c seats here later none = absurd (omega (arith, none))
none_step false n c seats here later none = rw here (later (omega (arith, none)))

-- nothing is left of a connection that has no seat
pub none_left : (n : ℕ) (seats : List ConversationState) → seats_of n seats ≡ 0
    → left_in n seats ≡ []
none_left n [] none = refl
none_left n (c ∷ seats) none =
    none_step (is_of n c) n c seats refl (none_left n seats) none

-- what is left at the seats around one, and at it
left_around : (n : ℕ) (seats front back : List ConversationState) (c : ConversationState)
    → seats ≡ front ++ c ∷ back
    → left_in n seats ≡ left_in n front ++ (left_at_seat n c ++ left_in n back)
left_around n seats front back c is =
    ap (left_in n) is ∙ flat_map-append (left_at_seat n) front (c ∷ back)

-- what is left at one seat alone
pub left_alone : (n : ℕ) (seats front back : List ConversationState) (c : ConversationState)
    → seats ≡ front ++ c ∷ back → seats_of n front ≡ 0 → seats_of n back ≡ 0
    → left_in n seats ≡ left_at_seat n c
left_alone n seats front back c is before behind =
    left_around n seats front back c is
    ∙ rw (none_left n front before, none_left n back behind) (append-nil (left_at_seat n c))

-- where the same is left at the seat that changes the same is left of a connection
pub left_same : (n : ℕ) (seats seats_then : List ConversationState)
    (c c_then : ConversationState) → Changes seats seats_then c c_then
    → left_at_seat n c_then ≡ left_at_seat n c → left_in n seats_then ≡ left_in n seats
left_same n seats seats_then c c_then changes same =
    left_around n seats_then changes.front changes.back c_then changes.is
    ∙ ap (λ (left : List Said). left_in n changes.front ++ (left ++ left_in n changes.back)) same
    ∙ sym (left_around n seats changes.front changes.back c changes.was)

-- what a seat of a connection has as its number
pub number_of_same : (whose : Option ℕ) (n : ℕ) → speaks whose n ≡ true → whose ≡ Some n
number_of_same None n same = absurd (true≢false (sym same))
number_of_same (Some m) n same = ap Some (eqb-true m n same)

-- what is known at a seat stays known, where its connection isn't read from
seat_kept : (whose : Option ℕ) (calls calls_then : List ConnectionCall)
    (c : ConversationState)
    → ((n : ℕ) → speaks whose n ≡ true → IsUnheard calls calls_then n)
    → IsHeardIf calls whose c → IsHeardIf calls_then whose c
seat_kept None calls calls_then c unheard heard = tt
seat_kept (Some n) calls calls_then c unheard heard =
    (heard_kept calls calls_then n c c (unheard n (eq-eqb n n refl)) refl refl refl heard).heard

-- the same of all these seats
pub seats_kept : (calls calls_then : List ConnectionCall) (seats : List ConversationState)
    → ((n : ℕ) → 0 < seats_of n seats → IsUnheard calls calls_then n)
    → AreHeard calls seats → AreHeard calls_then seats
seats_kept calls calls_then [] unheard heard = tt
seats_kept calls calls_then (c ∷ seats) unheard heard = (
  seat_kept c.number calls calls_then c (λ n is. unheard n (rw is (omega arith))) heard.0,
  seats_kept calls calls_then seats (λ n some. unheard n (omega (arith, some))) heard.1,
)

-- what is known at the seats of the front of a list
pub heard_front : (calls : List ConnectionCall) (front back : List ConversationState)
    → AreHeard calls (front ++ back) → AreHeard calls front
heard_front calls [] back heard = tt
heard_front calls (c ∷ front) back heard = (heard.0, heard_front calls front back heard.1)

-- what is known at the seats after it
pub heard_back : (calls : List ConnectionCall) (front back : List ConversationState)
    → AreHeard calls (front ++ back) → AreHeard calls back
heard_back calls [] back heard = heard
heard_back calls (c ∷ front) back heard = heard_back calls front back heard.1

-- what is known at both
pub heard_both : (calls : List ConnectionCall) (front back : List ConversationState)
    → AreHeard calls front → AreHeard calls back → AreHeard calls (front ++ back)
heard_both calls [] back before behind = behind
heard_both calls (c ∷ front) back before behind =
    (before.0, heard_both calls front back before.1 behind)

-- nothing is left where nothing is left at each place
pub silent_all : (n : ℕ) (seats : List ConversationState)
    → ((k : ℕ) → k < length seats → left_at_seat n (seat_at seats k) ≡ [])
    → left_in n seats ≡ []
silent_all n [] silent = refl
silent_all n (c ∷ seats) silent = rw (silent 0 (omega arith)) (silent_all n seats
    (λ k within. silent (suc k) (omega (arith, within))))
