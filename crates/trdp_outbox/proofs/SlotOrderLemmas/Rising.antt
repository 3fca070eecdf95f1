-- Records of which none is of a lower slot than the one before it.
-- For `is_rising`.
-- By induction on the slots: the first of such records comes first slot by slot too.
use Rattle.std.proofs.Common.{◌≡◌, ◌⊎◌, inl, inr, zero, suc, ◌+◌, ◌<◌, ◌≤◌, ℕ, List, [], ◌∷◌}
use Rattle.std.proofs.Common.{◌++◌, length, drop, Some, None, Option, refl, sym, ◌∙◌, ap, arith}
use Rattle.std.specs.Prelude.{slice_get, option_map}
use Rattle.std.proofs.Math.Nat.{le-max_left, le-max_right}
use Rattle.std.proofs.Math.Seq.{drop-cons}
use Rattle.std.proofs.lemmas.Bool.{cases_lt}
use Rattle.std.proofs.lemmas.List.{drop_all}
use Rattle.std.proofs.lemmas.Option.{slice_get_within, get_or_from_slice_get}
use Rattle.trdp_model.specs.Records.{RecordModel}
use Rattle.trdp_outbox.specs.SlotOrder.{by_slot, slots_end, slots_from, slots_own}
use Rattle.trdp_outbox.proofs.SlotOrderLemmas.Slots.{own_is, own_higher, own_lower}
use Rattle.trdp_outbox.proofs.SlotOrderLemmas.Slots.{from_zero, from_suc, from_none}

-- from slot s on no record is of a lower slot than the one before it
abbrev pub IsRising : ℕ → List RecordModel → Type 0
IsRising s [] = Unit {0}
IsRising s (r ∷ records) = (s ≤ r.slot) × IsRising r.slot records

-- none is of a lower slot
own_none : (t s : ℕ) (records : List RecordModel)
    → IsRising s records → t < s → slots_own t records ≡ []
own_none t s [] rising below = refl
own_none t s (r ∷ records) (higher, rest) below =
    let lower : t < r.slot = omega (arith, higher, below) in
    own_higher t r records lower ∙ own_none t r.slot records rest lower

-- after its slot there is no further record of it
from_behind : (n s : ℕ) (r : RecordModel) (records : List RecordModel)
    → r.slot < s → slots_from s n (r ∷ records) ≡ slots_from s n records
from_behind zero s r records below = from_zero s (r ∷ records) ∙ sym (from_zero s records)
from_behind (suc n) s r records below =
    let lower : r.slot < suc s = omega (arith, below) in
    from_suc s n (r ∷ records)
    ∙ ap (λ l. l ++ slots_from (suc s) n (r ∷ records)) (own_lower s r records below)
    ∙ ap (λ l. slots_own s records ++ l) (from_behind n (suc s) r records lower)
    ∙ sym (from_suc s n records)

-- the first of records that rise comes first
from_first : (n s : ℕ) (r : RecordModel) (records : List RecordModel)
    → IsRising r.slot records → s ≤ r.slot → r.slot < s + n
    → slots_from s n (r ∷ records) ≡ r ∷ slots_from s n records
from_first zero s r records rising higher below = absurd (omega (arith, higher, below))
from_first (suc n) s r records rising higher below =
    from_suc s n (r ∷ records)
    ∙ by_place (λ next within. from_first n (suc s) r records rising next within)
    (cases_lt s r.slot)
    ∙ ap (λ l. r ∷ l) (sym (from_suc s n records))
  where
    by_place : (suc s ≤ r.slot → r.slot < suc s + n
        → slots_from (suc s) n (r ∷ records) ≡ r ∷ slots_from (suc s) n records)
        → (s < r.slot) ⊎ (r.slot ≤ s)
        → slots_own s (r ∷ records) ++ slots_from (suc s) n (r ∷ records)
        ≡ r ∷ (slots_own s records ++ slots_from (suc s) n records)
    by_place later (inl lower) =
        let none = own_none s r.slot records rising lower in
        let next : suc s ≤ r.slot = omega (arith, lower) in
        let within : r.slot < suc s + n = omega (arith, below) in
        ap (λ l. l ++ slots_from (suc s) n (r ∷ records)) (own_higher s r records lower ∙ none)
        ∙ later next within
        ∙ ap (λ l. r ∷ (l ++ slots_from (suc s) n records)) (sym none)
    by_place later (inr past) =
        let is : r.slot ≡ s = omega (arith, higher, past) in
        let behind : r.slot < suc s = omega (arith, is) in
        ap (λ l. l ++ slots_from (suc s) n (r ∷ records)) (own_is s r records is)
        ∙ ap (λ l. r ∷ (slots_own s records ++ l)) (from_behind n (suc s) r records behind)

from_rising : (n s : ℕ) (records : List RecordModel) → slots_end records ≤ n
    → IsRising s records → slots_from 0 n records ≡ records
from_rising n s [] within rising = from_none n 0 [] (λ t past. refl)
from_rising n s (r ∷ records) within (higher, rest) =
    let first : 0 ≤ r.slot = omega arith in
    let below : r.slot < 0 + n =
    omega (arith, within, le-max_left (suc r.slot) (slots_end records)) in
    let fewer : slots_end records ≤ n =
    omega (arith, within, le-max_right (suc r.slot) (slots_end records)) in
    from_first n 0 r records rest first below
    ∙ ap (λ l. r ∷ l) (from_rising n r.slot records fewer rest)

-- records that rise are slot by slot
pub rising_by_slot : (s : ℕ) (records : List RecordModel)
    → IsRising s records → by_slot records ≡ records
unfolding by_slot
rising_by_slot s records rising =
    let within : slots_end records ≤ slots_end records = omega arith in
    from_rising (slots_end records) s records within rising

-- an element and those after it
pub drop_get : {A : Type 0} (xs : List A) (i : ℕ) (x : A)
    → slice_get xs i ≡ Some x → drop i xs ≡ x ∷ drop (i + 1) xs
drop_get xs i x here =
    let next : suc i ≡ i + 1 = omega arith in
    drop-cons xs i x (slice_get_within xs i x here)
    ∙ ap (λ y. y ∷ drop (suc i) xs) (get_or_from_slice_get xs i x x here)
    ∙ ap (λ n. x ∷ drop n xs) next

-- the record at an index, of which the slot is known
pub slot_there : (xs : List RecordModel) (i s : ℕ)
    → Some s ≡ option_map (λ r. r.slot) (slice_get xs i)
    → (r : RecordModel) × (slice_get xs i ≡ Some r) × (r.slot ≡ s)
slot_there xs i s is = by_record (slice_get xs i) refl is
  where
    by_record : (there : Option RecordModel) → slice_get xs i ≡ there
        → Some s ≡ option_map (λ r. r.slot) there
        → (r : RecordModel) × (slice_get xs i ≡ Some r) × (r.slot ≡ s)
    by_record None here is = absurd (cc)
    by_record (Some r) here is = let same : r.slot ≡ s = cc in (r, here, same)

-- one more record of this slot or a higher one
pub rising_more : (xs : List RecordModel) (i : ℕ) (r : RecordModel) (s : ℕ)
    → slice_get xs i ≡ Some r → s ≤ r.slot
    → IsRising r.slot (drop (i + 1) xs) → IsRising s (drop i xs)
rising_more xs i r s here higher rest = rw (drop_get xs i r here) (higher, rest)

-- past the last record
pub rising_all : (xs : List RecordModel) (i n s : ℕ)
    → n ≤ i → n ≡ length xs → IsRising s (drop i xs)
rising_all xs i n s past len =
    let within : length xs ≤ i = omega (arith, past, len) in
    rw (drop_all i xs within) tt
