-- The records of slots, one slot after the other.
-- For the walk over an outbox's records, and for what crates above write and report of them.
-- By induction on the slots: a slot without records adds nothing, and none past the last has one.
use Rattle.std.proofs.Common.{◌≡◌, zero, suc, ◌+◌, ◌<◌, ◌≤◌, ℕ, true, false, List, [], ◌∷◌, ◌++◌}
use Rattle.std.proofs.Common.{refl, sym, ◌∙◌, ap, arith, append_assoc, append-nil}
use Rattle.std.specs.Prelude.{◌==◌}
use Rattle.std.proofs.Math.Nat.{le-max_left, le-max_right}
use Rattle.std.proofs.lemmas.Bool.Decides.{nat_tests}
use Rattle.trdp_model.specs.Records.{RecordModel}
use Rattle.trdp_outbox.specs.SlotOrder.{by_slot, slots_end, slots_from, slots_own}

pub own_is : (s : ℕ) (r : RecordModel) (records : List RecordModel)
    → r.slot ≡ s → slots_own s (r ∷ records) ≡ r ∷ slots_own s records
own_is s r records is = let same : (r.slot == s) ≡ true = grind (arith, nat_tests) in rw same refl

pub own_higher : (s : ℕ) (r : RecordModel) (records : List RecordModel)
    → s < r.slot → slots_own s (r ∷ records) ≡ slots_own s records
own_higher s r records below = let other : (r.slot == s) ≡ false =
    grind (arith, nat_tests) in rw other refl

pub own_lower : (s : ℕ) (r : RecordModel) (records : List RecordModel)
    → r.slot < s → slots_own s (r ∷ records) ≡ slots_own s records
own_lower s r records below = let other : (r.slot == s) ≡ false =
    grind (arith, nat_tests) in rw other refl

-- no record is of a slot past the last
pub own_past : (s : ℕ) (records : List RecordModel) → slots_end records ≤ s
    → slots_own s records ≡ []
own_past s [] past = refl
own_past s (r ∷ records) past =
    let lower : r.slot < s =
    omega (arith, past, le-max_left (suc r.slot) (slots_end records)) in
    let rest : slots_end records ≤ s =
    omega (arith, past, le-max_right (suc r.slot) (slots_end records)) in
    own_lower s r records lower ∙ own_past s records rest

pub from_zero : (s : ℕ) (records : List RecordModel) → slots_from s zero records ≡ []
unfolding slots_from
from_zero s records = refl

pub from_suc : (s n : ℕ) (records : List RecordModel)
    → slots_from s (suc n) records ≡ slots_own s records ++ slots_from (suc s) n records
unfolding slots_from
from_suc s n records = refl

-- slots without records add nothing
pub from_none : (n s : ℕ) (records : List RecordModel)
    → ((t : ℕ) → s ≤ t → slots_own t records ≡ []) → slots_from s n records ≡ []
from_none zero s records none = from_zero s records
from_none (suc n) s records none =
    let here : s ≤ s = omega arith in
    from_suc s n records
    ∙ ap (λ l. l ++ slots_from (suc s) n records) (none s here)
    ∙ from_none n (suc s) records (λ t past.
    let higher : s ≤ t = omega (arith, past) in none t higher)

-- the first slots add nothing if they have no records
pub from_skip : (k s n : ℕ) (records : List RecordModel)
    → ((t : ℕ) → s ≤ t → t < s + k → slots_own t records ≡ [])
    → slots_from s (k + n) records ≡ slots_from (s + k) n records
from_skip zero s n records none =
    let count : zero + n ≡ n = omega arith in
    let here : s ≡ s + zero = omega arith in
    ap (λ m. slots_from s m records) count ∙ ap (λ t. slots_from t n records) here
from_skip (suc k) s n records none =
    let count : suc k + n ≡ suc (k + n) = omega arith in
    let here : s ≤ s = omega arith in
    let first : s < s + suc k = omega arith in
    let there : suc s + k ≡ s + suc k = omega arith in
    ap (λ m. slots_from s m records) count ∙ from_suc s (k + n) records
    ∙ ap (λ l. l ++ slots_from (suc s) (k + n) records) (none s here first)
    ∙ from_skip k (suc s) n records (λ t past below.
    let higher : s ≤ t = omega (arith, past) in
    let lower : t < s + suc k = omega (arith, below) in none t higher lower)
    ∙ ap (λ t. slots_from t n records) there

-- nor do the last
pub from_bound : (n m s : ℕ) (records : List RecordModel)
    → ((t : ℕ) → s + n ≤ t → slots_own t records ≡ []) → n ≤ m
    → slots_from s m records ≡ slots_from s n records
from_bound zero m s records none more =
    from_none m s records (λ t past. let higher : s + zero ≤ t = omega (arith, past) in
    none t higher) ∙ sym (from_zero s records)
from_bound (suc n) zero s records none more = absurd (omega (arith, more))
from_bound (suc n) (suc m) s records none more =
    let fewer : n ≤ m = omega (arith, more) in
    from_suc s m records
    ∙ ap (λ l. slots_own s records ++ l) (from_bound n m (suc s) records (λ t past.
    let higher : s + suc n ≤ t = omega (arith, past) in none t higher) fewer)
    ∙ sym (from_suc s n records)

-- the records of the last slot come last
pub from_last : (n s : ℕ) (records : List RecordModel)
    → slots_from s (suc n) records ≡ slots_from s n records ++ slots_own (s + n) records
from_last zero s records =
    let here : s ≡ s + zero = omega arith in
    from_suc s zero records ∙ ap (λ l. slots_own s records ++ l) (from_zero (suc s) records)
    ∙ append-nil (slots_own s records) ∙ ap (λ t. slots_own t records) here
    ∙ ap (λ l. l ++ slots_own (s + zero) records) (sym (from_zero s records))
from_last (suc n) s records =
    let there : suc s + n ≡ s + suc n = omega arith in
    from_suc s (suc n) records ∙ ap (λ l. slots_own s records ++ l) (from_last n (suc s) records)
    ∙ sym (append_assoc (slots_own s records) (slots_from (suc s) n records)
    (slots_own (suc s + n) records))
    ∙ ap (λ l. l ++ slots_own (suc s + n) records) (sym (from_suc s n records))
    ∙ ap (λ t. slots_from s (suc n) records ++ slots_own t records) there

-- the records of the first slots are all, if the others have none
pub by_slot_within : (n : ℕ) (records : List RecordModel)
    → ((t : ℕ) → n ≤ t → slots_own t records ≡ []) → slots_from 0 n records ≡ by_slot records
unfolding by_slot
by_slot_within n records none =
    let end = slots_end records in
    let more : n ≤ n + end = omega arith in
    let as_many : end ≤ n + end = omega arith in
    sym (from_bound n (n + end) 0 records (λ t past. let higher : n ≤ t = omega (arith, past) in
    none t higher) more)
    ∙ from_bound end (n + end) 0 records (λ t past.
    let higher : end ≤ t = omega (arith, past) in own_past t records higher) as_many
