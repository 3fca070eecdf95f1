-- What a read finds in what was laid down for connections in memory.
-- For `bring`.
-- By induction on what was laid down: the first that has arrived is where the search ends.
use Rattle.std.proofs.Common.{◌≡◌, ◌<◌, ◌≤◌, ◌+◌, ◌==◌, ◌&&◌, ◌||◌, zero, suc, ℕ, Bool, true, false}
use Rattle.std.proofs.Common.{cond, nat_lt, List, [], ◌∷◌, refl, ap, arith, length, get_or}
use Rattle.std.proofs.Common.{if◌then◌else◌}
use Rattle.std.specs.Prelude.{nat_le, not, slice_set}
use Rattle.std.specs.List.{position_or_len}
use Rattle.std.proofs.lemmas.Bool.{ltb-true}
use Rattle.trdp_lines.specs.Connections.{NoBytes}
use Rattle.trdp_memory.specs.MemoryConnections.{StreamArrivalModel, answer_for, answer_from}
use Rattle.trdp_memory.specs.MemoryConnections.{has_arrived, unread_behind, left_from}

-- nothing that was laid down is there
pub nothing_there : (number read room : ℕ) (xs : List StreamArrivalModel)
    → length xs ≤ position_or_len (has_arrived number read) xs
    → NoBytes ≡ answer_for number read room xs
nothing_there number read room [] past = refl
nothing_there number read room (x ∷ xs) past = by_test (has_arrived number read x) past
    (λ past. nothing_there number read room xs past)
  where
    by_test : (b : Bool)
        → suc (length xs) ≤ cond (not b) (1 + position_or_len (has_arrived number read) xs) 0
        → (length xs ≤ position_or_len (has_arrived number read) xs
        → NoBytes ≡ answer_for number read room xs)
        → NoBytes ≡ (if b then answer_from room x else answer_for number read room xs)
    by_test true past rest = absurd (omega (arith, past))
    by_test false past rest = rest (omega (arith, past))

pub all_left : (number read room : ℕ) (xs : List StreamArrivalModel)
    → length xs ≤ position_or_len (has_arrived number read) xs
    → xs ≡ unread_behind number read room xs
all_left number read room [] past = refl
all_left number read room (x ∷ xs) past = by_test (has_arrived number read x) past
    (λ past. all_left number read room xs past)
  where
    by_test : (b : Bool)
        → suc (length xs) ≤ cond (not b) (1 + position_or_len (has_arrived number read) xs) 0
        → (length xs ≤ position_or_len (has_arrived number read) xs
        → xs ≡ unread_behind number read room xs)
        → x ∷ xs ≡ (if b then left_from room x ∷ xs else x ∷ unread_behind number read room xs)
    by_test true past rest = absurd (omega (arith, past))
    by_test false past rest = ap (λ l. x ∷ l) (rest (omega (arith, past)))

-- the first that is there is at that index
pub first_there : (number read room : ℕ) (xs : List StreamArrivalModel) (i : ℕ)
    (d : StreamArrivalModel) → position_or_len (has_arrived number read) xs ≡ i → i < length xs
    → answer_from room (get_or xs i d) ≡ answer_for number read room xs
first_there number read room [] i d at below = absurd (omega (arith, below))
first_there number read room (x ∷ xs) i d at below =
    by_test (has_arrived number read x) i at below
    (λ j at below. first_there number read room xs j d at below)
  where
    by_test : (b : Bool) (i : ℕ)
        → cond (not b) (1 + position_or_len (has_arrived number read) xs) 0 ≡ i
        → i < suc (length xs)
        → ((j : ℕ) → position_or_len (has_arrived number read) xs ≡ j → j < length xs
        → answer_from room (get_or xs j d) ≡ answer_for number read room xs)
        → answer_from room (get_or (x ∷ xs) i d)
        ≡ (if b then answer_from room x else answer_for number read room xs)
    by_test true zero at below rest = refl
    by_test true (suc i) at below rest = absurd (omega (arith, at))
    by_test false zero at below rest = absurd (omega (arith, at))
    by_test false (suc i) at below rest = rest i (omega (arith, at)) (omega (arith, below))

pub rest_left : (number read room : ℕ) (xs : List StreamArrivalModel) (i : ℕ)
    (d : StreamArrivalModel) → position_or_len (has_arrived number read) xs ≡ i → i < length xs
    → slice_set xs i (left_from room (get_or xs i d)) ≡ unread_behind number read room xs
rest_left number read room [] i d at below = absurd (omega (arith, below))
rest_left number read room (x ∷ xs) i d at below =
    by_test (has_arrived number read x) i at below
    (λ j at below. rest_left number read room xs j d at below)
  where
    by_test : (b : Bool) (i : ℕ)
        → cond (not b) (1 + position_or_len (has_arrived number read) xs) 0 ≡ i
        → i < suc (length xs)
        → ((j : ℕ) → position_or_len (has_arrived number read) xs ≡ j → j < length xs
        → slice_set xs j (left_from room (get_or xs j d)) ≡ unread_behind number read room xs)
        → slice_set (x ∷ xs) i (left_from room (get_or (x ∷ xs) i d))
        ≡ (if b then left_from room x ∷ xs else x ∷ unread_behind number read room xs)
    by_test true zero at below rest = refl
    by_test true (suc i) at below rest = absurd (omega (arith, at))
    by_test false zero at below rest = absurd (omega (arith, at))
    by_test false (suc i) at below rest =
        ap (λ l. x ∷ l) (rest i (omega (arith, at)) (omega (arith, below)))

-- of what is there and is no end some bytes are left
pub some_left : (number read : ℕ) (arrival : StreamArrivalModel)
    → has_arrived number read arrival ≡ true → arrival.ends ≡ false → 0 < length arrival.bytes
some_left number read arrival is goes = by_all (arrival.number == number)
    (nat_le arrival.at_read read) arrival.ends (nat_lt 0 (length arrival.bytes)) refl is goes
  where
    by_all : (b c e l : Bool) → nat_lt 0 (length arrival.bytes) ≡ l
        → (b && (c && (e || l))) ≡ true → e ≡ false → 0 < length arrival.bytes
    by_all true true false true lt is goes = ltb-true 0 (length arrival.bytes) lt
    by_all true true false false lt is goes = absurd (cc)
    by_all true true true l lt is goes = absurd (cc)
    by_all true false e l lt is goes = absurd (cc)
    by_all false c e l lt is goes = absurd (cc)
