-- One turn of each loop that writes.
-- For `write` and `encoded`.
-- By: at each turn what was written and what is still to be written are the whole spelling.
use Rattle.std.proofs.Common.{◌≡◌, subst, true, false, ◌≢◌, ◌<◌, ◌≤◌, ◌+◌, ◌-◌, ℕ, zero}
use Rattle.std.proofs.Common.{suc, List, [], ◌∷◌, ◌++◌, Option, Some, None, Result, Ok}
use Rattle.std.proofs.Common.{Err, length, drop, get_or, nat_lt, refl, sym, ap, ◌∙◌}
use Rattle.std.proofs.Common.{arith, append_assoc, add-one, drop-cons, lt-ltb, le-ltb}
use Rattle.std.specs.Prelude.{OnOk, min}
use Rattle.std.specs.Result.{IsErrAnd}
use Rattle.std.proofs.lemmas.Option.{none-some, same_Some}
use Rattle.std.proofs.lemmas.List.{drop_all, append-nil}
use Rattle.trdp_marshal.specs.declared.fault.MarshalFault.{MarshalFault}
use Rattle.trdp_marshal.specs.declared.fault.MarshalFault.TheVariants.{NoDataset, Shape}
use Rattle.trdp_marshal.specs.declared.fault.MarshalFault.TheVariants.{TooLong, OutOfMemory}
use Rattle.trdp_marshal.specs.declared.item.Item.{Item}
use Rattle.trdp_dataset.specs.Datasets.{DatasetModel}
use Rattle.trdp_marshal.specs.Items.{ItemModel, none, model_of, models_in}
use Rattle.trdp_marshal.specs.Spelling.{Speller, joined, repeated_spelling}
use Rattle.trdp_marshal.specs.Spelling.{dataset_spelling, spelling}
use Rattle.trdp_marshal.specs.Lengths.{measured, AppendsSpelling}
use Rattle.trdp_marshal.specs.Faults.{has_items, FailsAs, length_fault, encode_fault}
use Rattle.trdp_marshal.proofs.CodecLemmas.{joined_some}

-- what is still to be written once part of a whole spelling follows the start
abbrev pub Continues : Option (List ℕ) → List ℕ → Option (List ℕ) → List ℕ → Type 0
Continues all start left now =
    (text : List ℕ) → all ≡ Some text
    → (rest : List ℕ) × (left ≡ Some rest) × (now ++ rest ≡ start ++ text)

-- a spelling of two parts
abbrev pub Splits : Option (List ℕ) → Option (List ℕ) → Option (List ℕ) → Type 0
Splits left first after = (rest : List ℕ) → left ≡ Some rest
    → (a : List ℕ) × (b : List ℕ) × (first ≡ Some a) × (after ≡ Some b) × (rest ≡ a ++ b)

pub joined_splits : (left first after : Option (List ℕ))
    → left ≡ joined first after → Splits left first after
joined_splits left first after e = λ rest h. joined_some first after rest (sym e ∙ h)

pub continues_on : (all left first after : Option (List ℕ)) (start now next : List ℕ)
    → Continues all start left now → Splits left first after
    → AppendsSpelling first now next → Continues all start after next
continues_on all left first after start now next so_far split wrote = λ text e.
    let w = so_far text e in
    let p = split w.0 w.1 in (
      p.1,
      p.3,
      ap (λ (x : List ℕ). x ++ p.1) (wrote p.0 p.2)
          ∙ append_assoc now p.0 p.1 ∙ ap (λ (x : List ℕ). now ++ x) (sym p.4) ∙ w.2,
    )

pub continues_end : (all left : Option (List ℕ)) (start now : List ℕ) → Continues all start left now
    → ((rest : List ℕ) → left ≡ Some rest → rest ≡ []) → AppendsSpelling all start now
continues_end all left start now so_far empty = λ text e.
    let w = so_far text e in
    sym (append-nil now) ∙ ap (λ (x : List ℕ). now ++ x) (sym (empty w.0 w.1)) ∙ w.2

pub continues_start : (all left : Option (List ℕ)) (start : List ℕ)
    → left ≡ all → Continues all start left start
continues_start all left start same = λ text e. (text, same ∙ e, refl)

pub appends_same :
    {T E : Type 0} (result : Result T E) (first all : Option (List ℕ)) (old new : List ℕ)
    → first ≡ all → OnOk result (AppendsSpelling first old new)
    → OnOk result (AppendsSpelling all old new)
appends_same result first all old new same wrote =
    subst (λ (o : Option (List ℕ)). OnOk result (AppendsSpelling o old new)) same wrote

pub unspelled : (all : Option (List ℕ)) (old new : List ℕ) → None ≡ all
    → AppendsSpelling all old new
unspelled all old new missing = λ text e. absurd (none-some text (missing ∙ e))

pub unmeasured : (spelled : Option (List ℕ)) → None ≡ measured spelled → None ≡ spelled
unmeasured None e = refl
unmeasured (Some text) e = absurd (none-some _ e)

repeated_opened : (spell : Speller ItemModel) (j : ℕ) (x : Item) (items : List Item)
    → Splits (repeated_spelling spell j (models_in (x ∷ items))) (spell (model_of x))
    (repeated_spelling spell (j - 1) (models_in items))
unfolding repeated_spelling
repeated_opened spell zero x items = λ rest e. absurd (none-some rest e)
repeated_opened spell (suc k) x items =
    let same : k ≡ suc k - 1 = omega arith in
    subst (λ (n : ℕ).
    Splits (joined (spell (model_of x)) (repeated_spelling spell k (models_in items)))
    (spell (model_of x)) (repeated_spelling spell n (models_in items))) same
    (joined_splits _ (spell (model_of x)) (repeated_spelling spell k (models_in items)) refl)

pub repeated_splits : (spell : Speller ItemModel) (items : List Item) (k i : ℕ) (x : Item)
    → i < length items → x ≡ get_or items i x
    → Splits (repeated_spelling spell (k - i) (models_in (drop i items))) (spell (model_of x))
    (repeated_spelling spell (k - (i + 1)) (models_in (drop (i + 1) items)))
repeated_splits spell items k i x within is =
    let split : drop i items ≡ get_or items i x ∷ drop (i + 1) items =
    rw (add-one, drop-cons items i x) refl in
    let at : x ∷ drop (i + 1) items ≡ drop i items =
    ap (λ (y : Item). y ∷ drop (i + 1) items) is ∙ sym split in
    let less : (k - i) - 1 ≡ k - (i + 1) = omega arith in
    subst (λ (xs : List Item).
    Splits (repeated_spelling spell (k - i) (models_in xs)) (spell (model_of x))
    (repeated_spelling spell (k - (i + 1)) (models_in (drop (i + 1) items)))) at
    (subst (λ (n : ℕ). Splits (repeated_spelling spell (k - i) (models_in (x ∷ drop (i + 1) items)))
    (spell (model_of x)) (repeated_spelling spell n (models_in (drop (i + 1) items))))
    less (repeated_opened spell (k - i) x (drop (i + 1) items)))

repeated_nothing : (spell : Speller ItemModel) (j : ℕ) (rest : List ℕ)
    → repeated_spelling spell j none ≡ Some rest → rest ≡ []
unfolding repeated_spelling
repeated_nothing spell zero rest e = sym (same_Some _ _ e)
repeated_nothing spell (suc k) rest e = absurd (none-some rest e)

pub repeated_over : (spell : Speller ItemModel) (items : List Item) (j i : ℕ) → length items ≤ i
    → (rest : List ℕ) → repeated_spelling spell j (models_in (drop i items)) ≡ Some rest → rest ≡ []
repeated_over spell items j i past rest e = repeated_nothing spell j rest (sym
    (ap (λ (xs : List Item). repeated_spelling spell j (models_in xs)) (drop_all i items past)) ∙ e)

pub nothing_left : (left : Option (List ℕ)) → left ≡ Some []
    → (rest : List ℕ) → left ≡ Some rest → rest ≡ []
nothing_left left e rest h = same_Some _ _ (sym h ∙ e)

-- what an encoder returns
pub no_dataset : (registry : List DatasetModel) (id : ℕ) (t : ItemModel)
    → has_items registry id ≡ false → encode_fault registry id t ≡ Some NoDataset
unfolding encode_fault
no_dataset registry id t e = rw e refl

fault_known : (registry : List DatasetModel) (id : ℕ) (t : ItemModel) → has_items registry id ≡ true
    → encode_fault registry id t ≡ length_fault (dataset_spelling registry 5 id t)
unfolding encode_fault spelling
fault_known registry id t e = rw e refl

misshaped : (spelled : Option (List ℕ)) → None ≡ measured spelled
    → length_fault spelled ≡ Some Shape
misshaped None e = refl
misshaped (Some text) e = absurd (none-some _ e)

oversized : (spelled : Option (List ℕ)) (len : ℕ)
    → Some len ≡ measured spelled → len ≡ 65389 → length_fault spelled ≡ Some TooLong
oversized None len e long = absurd (none-some len (sym e))
oversized (Some text) len e long =
    let short : len ≡ min (length text) 65389 = same_Some _ _ e in
    let test : nat_lt 65388 (length text) ≡ true = lt-ltb _ _ (omega arith) in
    rw test refl

sized : (spelled : Option (List ℕ)) (len : ℕ)
    → Some len ≡ measured spelled → len ≢ 65389 → length_fault spelled ≡ None
sized None len e fine = absurd (none-some len (sym e))
sized (Some text) len e fine =
    let short : len ≡ min (length text) 65389 = same_Some _ _ e in
    let test : nat_lt 65388 (length text) ≡ false = le-ltb _ _ (omega arith) in
    rw test refl

pub wrong_shape : (registry : List DatasetModel) (id : ℕ) (t : ItemModel)
    → has_items registry id ≡ true → None ≡ measured (dataset_spelling registry 5 id t)
    → encode_fault registry id t ≡ Some Shape
wrong_shape registry id t known e = fault_known registry id t known
    ∙ misshaped (dataset_spelling registry 5 id t) e

pub too_long : (registry : List DatasetModel) (id : ℕ) (t : ItemModel) (len : ℕ)
    → has_items registry id ≡ true → Some len ≡ measured (dataset_spelling registry 5 id t)
    → len ≡ 65389 → encode_fault registry id t ≡ Some TooLong
too_long registry id t len known e long = fault_known registry id t known
    ∙ oversized (dataset_spelling registry 5 id t) len e long

pub sendable : (registry : List DatasetModel) (id : ℕ) (t : ItemModel) (len : ℕ)
    → has_items registry id ≡ true → Some len ≡ measured (dataset_spelling registry 5 id t)
    → len ≢ 65389 → encode_fault registry id t ≡ None
sendable registry id t len known e fine = fault_known registry id t known
    ∙ sized (dataset_spelling registry 5 id t) len e fine

wrote_all : (spelled : Option (List ℕ)) (len : ℕ) (new : List ℕ)
    → Some len ≡ measured spelled → AppendsSpelling spelled [] new → spelled ≡ Some new
wrote_all None len new e wrote = absurd (none-some len (sym e))
wrote_all (Some text) len new e wrote = ap (λ (x : List ℕ). Some x) (sym (wrote text refl))

pub encoded : (registry : List DatasetModel) (id : ℕ) (t : ItemModel) (len : ℕ) (old new : List ℕ)
    → Some len ≡ measured (dataset_spelling registry 5 id t) → old ≡ []
    → AppendsSpelling (dataset_spelling registry 5 id t) old new → spelling registry id t ≡ Some new
unfolding spelling
encoded registry id t len old new e empty wrote = wrote_all (dataset_spelling registry 5 id t)
    len new e
    (subst (λ (o : List ℕ). AppendsSpelling (dataset_spelling registry 5 id t) o new) empty
    wrote)

pub memory_only : {X : Type 0} (result : Result X MarshalFault) (expected : Option MarshalFault)
    → IsErrAnd result (λ e. e ≡ OutOfMemory) → expected ≡ None → FailsAs result expected
memory_only (Ok x) expected same faultless = absurd same
memory_only {X} (Err e) expected same faultless =
    subst (λ (f : MarshalFault). FailsAs {X = X} (Err f) expected) (sym same) faultless
