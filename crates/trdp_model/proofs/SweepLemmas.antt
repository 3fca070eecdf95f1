-- A change of each slot of a node, and a change of one slot after the other.
-- For the acts of a node on its slots in the crate above, and for `AddedSlotLemmas`.
-- By induction on the slots: the records of one slot are found by its number.
use Rattle.std.proofs.Common.{zero, suc, ◌≡◌, ℕ, ◌+◌, ◌<◌, List, [], ◌∷◌}
use Rattle.std.proofs.Common.{◌++◌, map, refl, ◌∙◌, ap, sym, arith}
use Rattle.std.proofs.Common.{append_assoc, Some, None, true, false, Bool}
use Rattle.std.specs.Prelude.{slice_get, slice_set, ◌==◌, if◌then◌else◌}
use Rattle.std.proofs.lemmas.Bool.Decides.{nat_tests}
use Rattle.std.proofs.lemmas.List.{map-append, append-nil}
use Rattle.std.proofs.lemmas.List.Elements.{filter-append}
use Rattle.trdp_model.specs.Records.{Content, RecordModel, labelled, records_of}
use Rattle.trdp_model.specs.Slots.{SlotState, Outcome, unchanged}
use Rattle.trdp_model.specs.NodeModels.{HasOutcome, Appends}

pub records_of-append : (s : ℕ) (xs ys : List RecordModel)
    → records_of s (xs ++ ys) ≡ records_of s xs ++ records_of s ys
records_of-append s xs ys =
    ap (map (λ r. r.content)) (filter-append (λ r. r.slot == s) xs ys) ∙ map-append _ _ _

pub records_of-labelled : (s : ℕ) (contents : List Content)
    → records_of s (labelled s contents) ≡ contents
records_of-labelled s [] = refl
records_of-labelled s (c ∷ contents) = let same : (s == s) ≡ true = grind (arith, nat_tests) in
    rw same (ap (λ (cs : List Content). c ∷ cs) (records_of-labelled s contents))

pub records_of-other : (s r : ℕ) (contents : List Content)
    → (r == s) ≡ false → records_of s (labelled r contents) ≡ []
records_of-other s r [] other = refl
records_of-other s r (c ∷ contents) other = rw other (records_of-other s r contents other)

-- the records of all slots from number k on
abbrev pub all_records : ℕ → (SlotState → Outcome) → List SlotState → List RecordModel
all_records k f [] = []
all_records k f (slot ∷ slots) = labelled k (f slot).records ++ all_records (k + 1) f slots

-- none of the records from number k on is for a slot below it
below_all : (f : SlotState → Outcome) (s k : ℕ) (slots : List SlotState)
    → s < k → records_of s (all_records k f slots) ≡ []
below_all f s k [] lt = refl
below_all f s k (slot ∷ slots) lt =
    let other : (k == s) ≡ false = grind (arith, nat_tests) in
    records_of-append s (labelled k (f slot).records) (all_records (k + 1) f slots)
    ∙ rw (
      records_of-other s k (f slot).records other,
      below_all f s (k + 1) slots (omega arith),
    ) refl

own_of_all : (f : SlotState → Outcome) (i k n : ℕ) (slots : List SlotState) (slot : SlotState)
    → n ≡ k + i → slice_get slots i ≡ Some slot
    → records_of n (all_records k f slots) ≡ (f slot).records
own_of_all f i k n [] slot at is = absurd (cc)
own_of_all f zero k n (x ∷ slots) slot at is =
    let same : x ≡ slot = cc in
    let here : n ≡ k = omega (arith, at) in
    rw here
    (records_of-append k (labelled k (f x).records) (all_records (k + 1) f slots)
    ∙ rw (
      records_of-labelled k (f x).records,
      below_all f k (k + 1) slots (omega arith),
      append-nil,
      same,
    ) refl)
own_of_all f (suc i) k n (x ∷ slots) slot at is =
    let other : (k == n) ≡ false = grind (arith, nat_tests) in
    records_of-append n (labelled k (f x).records) (all_records (k + 1) f slots)
    ∙ rw (records_of-other n k (f x).records other)
    (own_of_all f i (k + 1) n slots slot (omega (arith, at)) is)

none_of_all : (f : SlotState → Outcome) (i k n : ℕ) (slots : List SlotState)
    → n ≡ k + i → slice_get slots i ≡ None → records_of n (all_records k f slots) ≡ []
none_of_all f i k n [] at none = refl
none_of_all f zero k n (x ∷ slots) at none = absurd (cc)
none_of_all f (suc i) k n (x ∷ slots) at none =
    let other : (k == n) ≡ false = grind (arith, nat_tests) in
    records_of-append n (labelled k (f x).records) (all_records (k + 1) f slots)
    ∙ rw (records_of-other n k (f x).records other)
    (none_of_all f i (k + 1) n slots (omega (arith, at)) none)

pub get-map : (f : SlotState → SlotState) (slots : List SlotState) (s : ℕ) (slot : SlotState)
    → slice_get slots s ≡ Some slot → slice_get (map f slots) s ≡ Some (f slot)
get-map f [] s slot is = absurd (cc)
get-map f (x ∷ slots) zero slot is = let same : x ≡ slot = cc in rw same refl
get-map f (x ∷ slots) (suc s) slot is = get-map f slots s slot is

-- each slot has its outcome
pub each_part : (f : SlotState → Outcome) (slots : List SlotState) (records : List RecordModel)
    (s : ℕ) (slot : SlotState) → slice_get slots s ≡ Some slot → HasOutcome
    (map (λ slot. (f slot).slot) slots) records (records ++ all_records 0 f slots) s (f slot)
each_part f slots records s slot is = record {
  slot_is = get-map (λ slot. (f slot).slot) slots s slot is;
  records_are = records_of-append s records (all_records 0 f slots) ∙ ap (λ (cs : List Content).
      records_of s records ++ cs) (own_of_all f s 0 s slots slot (omega arith) is);
}

pub each_appends : (f : SlotState → Outcome) (slots : List SlotState) (records : List RecordModel)
    → Appends slots records (records ++ all_records 0 f slots)
each_appends f slots records = record {
  more = all_records 0 f slots;
  front = refl;
  none_else = λ s none.
      records_of-append s records (all_records 0 f slots)
      ∙ (ap (λ (cs : List Content). records_of s records ++ cs)
      (none_of_all f s 0 s slots (omega arith) none) ∙ append-nil (records_of s records));
}

-- a list of which one element was changed
pub get-set : (xs : List SlotState) (i : ℕ) (x y : SlotState)
    → slice_get xs i ≡ Some x → slice_get (slice_set xs i y) i ≡ Some y
get-set [] i x y is = absurd (cc)
get-set (z ∷ xs) zero x y is = refl
get-set (z ∷ xs) (suc i) x y is = get-set xs i x y is

pub get-set_other : (xs : List SlotState) (i j : ℕ) (y : SlotState)
    → (i == j) ≡ false → slice_get (slice_set xs i y) j ≡ slice_get xs j
get-set_other [] i j y differ = refl
get-set_other (z ∷ xs) zero zero y differ = absurd (cc)
get-set_other (z ∷ xs) zero (suc j) y differ = refl
get-set_other (z ∷ xs) (suc i) zero y differ = refl
get-set_other (z ∷ xs) (suc i) (suc j) y differ = get-set_other xs i j y (grind (arith, nat_tests))

same_some : {x y : SlotState} → Some x ≡ Some y → x ≡ y
same_some is = cc

-- one slot changed, and the others have stayed
pub one_part : (f : SlotState → Outcome) (slots : List SlotState) (s : ℕ) (x : SlotState)
    (records : List RecordModel) → slice_get slots s ≡ Some x → (r : ℕ) (slot : SlotState)
    → slice_get slots r ≡ Some slot → HasOutcome (slice_set slots s (f x).slot)
    records (records ++ labelled s (f x).records) r (if s == r then f slot else unchanged slot)
one_part f slots s x records at r slot is = either (s == r) refl
  where
    either : (b : Bool) → (s == r) ≡ b → HasOutcome (slice_set slots s (f x).slot)
        records (records ++ labelled s (f x).records) r (if s == r then f slot else unchanged slot)
    either true own =
        let same : s ≡ r = grind (arith, nat_tests) in
        let one : x ≡ slot = same_some (sym at ∙ (ap (slice_get slots) same ∙ is)) in
        rw own (record {
          slot_is = rw (← same, ← one) (get-set slots s x (f x).slot at);
          records_are = rw (← same, ← one) (records_of-append s records (labelled s (f x).records)
              ∙ rw (records_of-labelled s (f x).records) refl);
        })
    either false other =
        rw other (record {
          slot_is = get-set_other slots s r (f x).slot other ∙ is;
          records_are = records_of-append r records (labelled s (f x).records)
              ∙ rw (records_of-other r s (f x).records other) refl;
        })

pub one_appends : (f : SlotState → Outcome) (slots : List SlotState)
    (s : ℕ) (x : SlotState) (records : List RecordModel)
    → slice_get slots s ≡ Some x → Appends slots records (records ++ labelled s (f x).records)
one_appends f slots s x records at = record {
  more = labelled s (f x).records;
  front = refl;
  none_else = λ r none. records_of-append r records (labelled s (f x).records)
      ∙ (ap (λ (cs : List Content). records_of r records ++ cs) (other r none (s == r) refl)
      ∙ append-nil (records_of r records));
}
  where
    other : (r : ℕ) → slice_get slots r ≡ None
        → (b : Bool) → (s == r) ≡ b → records_of r (labelled s (f x).records) ≡ []
    other r none true own = let same : s ≡ r = grind (arith, nat_tests) in
        let both : Some x ≡ None = sym at ∙ (ap (slice_get slots) same ∙ none) in absurd (cc)
    other r none false differ = records_of-other r s (f x).records differ

-- records of a slot that is there are added
pub appends_next : (slots : List SlotState) (records records_now : List RecordModel)
    (s : ℕ) (slot : SlotState) (contents : List Content) → slice_get slots s ≡ Some slot
    → Appends slots records records_now → Appends slots records (records_now ++ labelled s contents)
appends_next slots records records_now s slot contents at before = record {
  more = before.more ++ labelled s contents;
  front = ap (λ (rs : List RecordModel). rs ++ labelled s contents) before.front
      ∙ append_assoc records before.more (labelled s contents);
  none_else = λ r none.
      records_of-append r records_now (labelled s contents)
      ∙ (rw (records_of-other r s contents (other r none (s == r) refl))
      (append-nil (records_of r records_now)) ∙ before.none_else r none);
}
  where
    other : (r : ℕ) → slice_get slots r ≡ None → (b : Bool) → (s == r) ≡ b → (s == r) ≡ false
    other r none true own =
        let same : s ≡ r = grind (arith, nat_tests) in
        let both : Some slot ≡ None = sym at ∙ (ap (slice_get slots) same ∙ none) in
        absurd (cc)
    other r none false differ = differ
