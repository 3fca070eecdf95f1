-- What is refused, in terms of what spells what.
-- For `encode` and `decode`.
-- By: a fault other than OutOfMemory is returned exactly where it is expected.
use Rattle.std.proofs.Common.{◌≡◌, ◌<◌, Bool, cond, true, false, ℕ, List, Option}
use Rattle.std.proofs.Common.{Some, None, Result, Ok, Err, length, nat_lt, refl}
use Rattle.std.proofs.Common.{sym, ap, ◌∙◌, subst, ltb-true, lt-ltb}
use Rattle.std.specs.Prelude.{IsTrue, ◌↔◌, is_some}
use Rattle.std.proofs.lemmas.Bool.{false≢true}
use Rattle.std.proofs.lemmas.Option.{none-some, same_Some}
use Rattle.trdp_marshal.specs.declared.fault.MarshalFault.{MarshalFault}
use Rattle.trdp_marshal.specs.declared.fault.MarshalFault.TheVariants.{NoDataset, Shape}
use Rattle.trdp_marshal.specs.declared.fault.MarshalFault.TheVariants.{TooLong, OutOfMemory}
use Rattle.trdp_dataset.specs.Datasets.{DatasetModel}
use Rattle.trdp_marshal.specs.Items.{ItemModel}
use Rattle.trdp_marshal.specs.Spells.{Spells, IsSpelled, HasBytes, IsTooLong}
use Rattle.trdp_marshal.specs.Numbers.{IsBytes}
use Rattle.trdp_marshal.specs.Reading.{reading}
use Rattle.trdp_marshal.specs.Spelling.{spelling}
use Rattle.trdp_marshal.specs.Faults.{has_items, length_fault, FailsAs}
use Rattle.trdp_marshal.specs.Faults.{IsMarshalFault, decode_fault, encode_fault}
use Rattle.trdp_marshal.proofs.SpellingLemmas.{spelled, spells, reading_if_spelled}

fault_expected : (fault : MarshalFault) (expected : Option MarshalFault)
    → (fault ≡ OutOfMemory → ⊥) → IsMarshalFault fault expected
    → expected ≡ Some fault
fault_expected NoDataset expected other is = is
fault_expected Shape expected other is = is
fault_expected TooLong expected other is = is
fault_expected OutOfMemory expected other is = absurd (other refl)

fault_answered : (fault answered : MarshalFault) (expected : Option MarshalFault)
    → IsMarshalFault answered expected
    → expected ≡ Some fault → answered ≡ fault
fault_answered fault NoDataset expected is e = same_Some _ _ (sym is ∙ e)
fault_answered fault Shape expected is e = same_Some _ _ (sym is ∙ e)
fault_answered fault TooLong expected is e = same_Some _ _ (sym is ∙ e)
fault_answered fault OutOfMemory expected is e = absurd (none-some fault (sym is ∙ e))

answered_by : {X : Type 0} (result : Result X MarshalFault)
    (expected : Option MarshalFault) (fault : MarshalFault) → FailsAs result expected
    → expected ≡ Some fault → result ≡ Err fault
answered_by (Ok x) expected fault answers e = absurd (none-some fault (sym answers ∙ e))
answered_by (Err answered) expected fault answers e =
    ap Err (fault_answered fault answered expected answers e)

-- a fault other than OutOfMemory is returned exactly where it is expected
answer_tells : {X : Type 0} (result : Result X MarshalFault)
    (expected : Option MarshalFault) (fault : MarshalFault) → (fault ≡ OutOfMemory → ⊥)
    → FailsAs result expected → (result ≡ Err fault) ↔ (expected ≡ Some fault)
answer_tells {X} result expected fault other answers = (
  λ same. fault_expected fault expected other (subst (λ (r : Result X MarshalFault).
      FailsAs r expected) same answers),
  answered_by result expected fault answers,
)

-- what an item is refused for, by whether its dataset has items and what spells it
refusal : Bool → Option (List ℕ) → Option MarshalFault
refusal known found = cond known (length_fault found) (Some NoDataset)

length_known : (text : List ℕ) (b : Bool) (fault : MarshalFault)
    → cond b (Some TooLong) None ≡ Some fault → (b ≡ true) × (fault ≡ TooLong)
length_known text true fault e = (refl, sym (same_Some _ _ e))
length_known text false fault e = absurd (none-some fault e)

other_no_dataset : {A : Type 0} → NoDataset ≡ TooLong → A
other_no_dataset e = cc

other_shape : {A : Type 0} → Shape ≡ TooLong → A
other_shape e = cc

both : {A B C : Type 0} → A ↔ B → B ↔ C → A ↔ C
both one two = (λ a. two.0 (one.0 a), λ c. one.1 (two.1 c))

unknown_by : (known : Bool) (found : Option (List ℕ))
    → (refusal known found ≡ Some NoDataset) ↔ (¬ IsTrue known)
unfolding refusal
unknown_by true None = (λ e. cc, λ not. absurd (not refl))
unknown_by true (Some text) = (
  λ e. other_no_dataset
      (length_known text (nat_lt 65388 (length text)) NoDataset e).1,
  λ not. absurd (not refl),
)
unknown_by false found = (λ e. λ held. false≢true held, λ not. refl)

shape_by : (known : Bool) (found : Option (List ℕ)) (Spell : List ℕ → Type 0)
    → ((text : List ℕ) → Spell text ↔ (found ≡ Some text))
    → (refusal known found ≡ Some Shape) ↔ (IsTrue known × ¬ ((text : List ℕ) × Spell text))
unfolding refusal
shape_by true None Spell means =
    (λ e. (refl, λ some. absurd (none-some some.0 ((means some.0).0 some.1))), λ none. refl)
shape_by true (Some text) Spell means = (
  λ e. other_shape (length_known text (nat_lt 65388 (length text)) Shape e).1,
  λ none. absurd (none.1 (text, (means text).1 refl)),
)
shape_by false found Spell means = (λ e. cc, λ none. absurd (false≢true none.0))

long_by : (known : Bool) (found : Option (List ℕ)) (Spell : List ℕ → Type 0)
    → ((text : List ℕ) → Spell text ↔ (found ≡ Some text))
    → (refusal known found ≡ Some TooLong)
    ↔ (IsTrue known × ((text : List ℕ) × Spell text × (65388 < length text)))
unfolding refusal
long_by true None Spell means =
    (λ e. cc, λ long. absurd (none-some long.1.0 ((means long.1.0).0 long.1.1)))
long_by true (Some text) Spell means = (
  λ e. (
    refl,
    (
      text,
      (means text).1 refl,
      ltb-true _ _ (length_known text (nat_lt 65388 (length text)) TooLong e).0,
    ),
  ),
  λ long.
      let same : text ≡ long.1.0 = same_Some _ _ ((means long.1.0).0 long.1.1) in
      let test : nat_lt 65388 (length text) ≡ true =
      lt-ltb _ _ (subst (λ (t : List ℕ). 65388 < length t) (sym same) long.1.2) in
      rw test refl,
)
long_by false found Spell means = (λ e. cc, λ long. absurd (false≢true long.0))

module _ {X : Type 0} (registry : List DatasetModel)
    (id : ℕ) (item : ItemModel) (result : Result X MarshalFault) where
  means : (text : List ℕ) → Spells registry id item text ↔ (spelling registry id item ≡ Some text)
  means text = (spelled registry id item text, spells registry id item text)

  pub tells_unknown : FailsAs result (encode_fault registry id item)
      → (result ≡ Err NoDataset) ↔ (¬ IsTrue (has_items registry id))
  unfolding encode_fault refusal
  tells_unknown answers =
      both (answer_tells result (encode_fault registry id item) NoDataset (λ e. cc) answers)
      (unknown_by (has_items registry id) (spelling registry id item))

  pub tells_shape : FailsAs result (encode_fault registry id item)
      → (result ≡ Err Shape) ↔ (IsTrue (has_items registry id) × ¬ HasBytes registry id item)
  unfolding encode_fault refusal
  tells_shape answers =
      both (answer_tells result (encode_fault registry id item) Shape (λ e. cc) answers)
      (shape_by (has_items registry id) (spelling registry id item) (Spells registry id item) means)

  pub tells_long : FailsAs result (encode_fault registry id item)
      → (result ≡ Err TooLong) ↔ (IsTrue (has_items registry id) × IsTooLong registry id item)
  unfolding encode_fault refusal
  tells_long answers =
      both (answer_tells result (encode_fault registry id item) TooLong (λ e. cc) answers)
      (long_by (has_items registry id) (spelling registry id item) (Spells registry id item) means)

-- the same of bytes that a decoder refuses
unread : Bool → Bool → Option MarshalFault
unread known read = cond known (cond read None (Some Shape)) (Some NoDataset)

unread_unknown : (known read : Bool) → (unread known read ≡ Some NoDataset) ↔ (¬ IsTrue known)
unfolding unread
unread_unknown true true = (λ e. cc, λ not. absurd (not refl))
unread_unknown true false = (λ e. cc, λ not. absurd (not refl))
unread_unknown false read = (λ e. λ held. false≢true held, λ not. refl)

unread_shape : (known read : Bool) (Spelled : Type 0)
    → IsTrue read ↔ Spelled → (unread known read ≡ Some Shape) ↔ (IsTrue known × ¬ Spelled)
unfolding unread
unread_shape true true Spelled means = (λ e. cc, λ none. absurd (none.1 (means.0 refl)))
unread_shape true false Spelled means =
    (λ e. (refl, λ item. false≢true (means.1 item)), λ none. refl)
unread_shape false read Spelled means = (λ e. cc, λ none. absurd (false≢true none.0))

module _ {X : Type 0} (registry : List DatasetModel)
    (id : ℕ) (bytes : List ℕ) (result : Result X MarshalFault) where
  pub tells_undecoded_unknown : FailsAs result (decode_fault registry id bytes)
      → (result ≡ Err NoDataset) ↔ (¬ IsTrue (has_items registry id))
  unfolding decode_fault unread
  tells_undecoded_unknown answers =
      both (answer_tells result (decode_fault registry id bytes) NoDataset (λ e. cc) answers)
      (unread_unknown (has_items registry id) (is_some (reading registry id bytes)))

  pub tells_undecoded_shape : FailsAs result (decode_fault registry id bytes) → IsBytes bytes
      → (result ≡ Err Shape) ↔ (IsTrue (has_items registry id) × ¬ IsSpelled registry id bytes)
  unfolding decode_fault unread
  tells_undecoded_shape answers fits =
      both (answer_tells result (decode_fault registry id bytes) Shape (λ e. cc) answers)
      (unread_shape (has_items registry id) (is_some (reading registry id bytes))
      (IsSpelled registry id bytes) (reading_if_spelled registry id bytes fits))
