-- What a decoder returns.
-- For `decoded`.
-- By cases: there is no such dataset, the bytes are no value of it, or memory runs out.
use Rattle.std.proofs.Common.{◌≡◌, true, false, ℕ, List, [], ◌∷◌, Option, Some}
use Rattle.std.proofs.Common.{None, Result, Ok, Err, refl, sym, ap, ◌∙◌, subst}
use Rattle.std.specs.Prelude.{is_some, option_map}
use Rattle.std.specs.Result.{IsErrAnd}
use Rattle.std.proofs.lemmas.Bool.{false≢true}
use Rattle.trdp_marshal.specs.declared.fault.MarshalFault.{MarshalFault}
use Rattle.trdp_marshal.specs.declared.fault.MarshalFault.TheVariants.{NoDataset, Shape}
use Rattle.trdp_marshal.specs.declared.fault.MarshalFault.TheVariants.{TooLong, OutOfMemory}
use Rattle.trdp_dataset.specs.Datasets.{DatasetModel}
use Rattle.trdp_marshal.specs.Items.{ItemModel}
use Rattle.trdp_marshal.specs.Reading.{dataset_at, whole, reading}
use Rattle.trdp_marshal.specs.Faults.{has_items, Fails, FailsAs, IsMarshalFault, decode_fault}

pub is_some-map : {A B : Type 0} (f : A → B) (o : Option A) (p : Option B)
    → option_map f o ≡ p → is_some o ≡ is_some p
is_some-map f None p e = ap is_some e
is_some-map f (Some x) p e = ap is_some e

pub unknown : (registry : List DatasetModel) (id : ℕ) (bytes : List ℕ)
    → has_items registry id ≡ false → decode_fault registry id bytes ≡ Some NoDataset
unfolding decode_fault
unknown registry id bytes e = rw e refl

pub misfit : (registry : List DatasetModel) (id : ℕ) (bytes : List ℕ) → has_items registry id ≡ true
    → is_some (reading registry id bytes) ≡ false → decode_fault registry id bytes ≡ Some Shape
unfolding decode_fault
misfit registry id bytes e f = rw (e, f) refl

pub faultless : (registry : List DatasetModel) (id : ℕ) (bytes : List ℕ) → has_items registry id
    ≡ true → is_some (reading registry id bytes) ≡ true → decode_fault registry id bytes ≡ None
unfolding decode_fault
faultless registry id bytes e f = rw (e, f) refl

fails_memory :
    (fault : MarshalFault) (found : Option (ItemModel × List ℕ)) (expected : Option MarshalFault)
    → is_some (whole found) ≡ true → Fails fault found → expected ≡ None
    → IsMarshalFault fault expected
fails_memory NoDataset found expected some fails none = absurd fails
fails_memory Shape found expected some fails none = absurd
    (false≢true (sym (ap (λ (o : Option (ItemModel × List ℕ)). is_some (whole o)) fails) ∙ some))
fails_memory TooLong found expected some fails none = absurd fails
fails_memory OutOfMemory found expected some fails none = none

pub memory_alone : {X : Type 0} (registry : List DatasetModel)
    (id : ℕ) (bytes : List ℕ) (result : Result X MarshalFault) (fault : MarshalFault)
    → IsErrAnd result (λ e. e ≡ fault) → Fails fault (dataset_at registry 5 id bytes)
    → has_items registry id ≡ true → is_some (reading registry id bytes) ≡ true
    → FailsAs result (decode_fault registry id bytes)
unfolding reading
memory_alone registry id bytes (Ok x) fault same fails known fits = absurd same
memory_alone registry id bytes (Err e) fault same fails known fits =
    fails_memory e (dataset_at registry 5 id bytes) _ fits
    (subst (λ (f : MarshalFault). Fails f (dataset_at registry 5 id bytes)) (sym same) fails)
    (faultless registry id bytes known fits)

whole_found : (found : Option (ItemModel × List ℕ)) (t : ItemModel) (rest : List ℕ)
    → found ≡ Some (t, rest) → is_some (whole found) ≡ true → whole found ≡ Some t
whole_found found t [] e some = ap whole e
whole_found found t (b ∷ bs) e some =
    absurd (false≢true (sym (ap (λ (o : Option (ItemModel × List ℕ)). is_some (whole o)) e) ∙ some))

pub decoded : (registry : List DatasetModel) (id : ℕ) (bytes : List ℕ)
    (t : ItemModel) (rest : List ℕ) → dataset_at registry 5 id bytes ≡ Some (t, rest)
    → is_some (reading registry id bytes) ≡ true → reading registry id bytes ≡ Some t
unfolding reading
decoded registry id bytes t rest e some = whole_found (dataset_at registry 5 id bytes) t rest e some
