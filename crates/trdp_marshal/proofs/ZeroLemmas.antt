-- The zero value is spelled by zero bytes.
-- For a law, of `write_zero`.
-- By induction on the depth of a dataset, and on its elements.
use Rattle.std.proofs.Common.{◌≡◌, eqb-true, one-mul, Bool, true, false, ◌+◌}
use Rattle.std.proofs.Common.{◌*◌, ◌==◌, ℕ, zero, suc, pos, cond, List, [], ◌∷◌}
use Rattle.std.proofs.Common.{Option, Some, None, refl, sym, ap, ◌∙◌, arith}
use Rattle.std.specs.Prelude.{replicate, unwrap_or}
use Rattle.std.proofs.lemmas.List.{replicate-append-replicate}
use Rattle.trdp_dataset.specs.declared.element.Width.{Width}
use Rattle.trdp_dataset.specs.declared.element.Width.TheVariants.{One, Two, Four, Eight}
use Rattle.trdp_dataset.specs.declared.element.Form.{Form}
use Rattle.trdp_dataset.specs.declared.element.Form.TheVariants.{Unsigned, Signed}
use Rattle.trdp_dataset.specs.declared.element.Form.TheVariants.{Time48, Time64, Nested}
use Rattle.trdp_dataset.specs.declared.element.Element.{Element}
use Rattle.trdp_dataset.specs.Elements.{width_len, form_of}
use Rattle.trdp_dataset.specs.Datasets.{DatasetModel, elements_of, passes, all_pass}
use Rattle.trdp_marshal.specs.Items.{ItemModel, unsigned, signed, time48}
use Rattle.trdp_marshal.specs.Items.{time64, list, told_count, array_length}
use Rattle.trdp_marshal.specs.Spelling.{Speller, joined, number_spelling, unsigned_spelling}
use Rattle.trdp_marshal.specs.Spelling.{signed_spelling, time48_spelling, time64_spelling}
use Rattle.trdp_marshal.specs.Spelling.{form_spelling, repeated_spelling, list_spelling}
use Rattle.trdp_marshal.specs.Spelling.{entry_spelling, entries_spelling, elements_spelling}
use Rattle.trdp_marshal.specs.Spelling.{dataset_spelling, spelling}
use Rattle.trdp_marshal.specs.Zero.{form_zero, copies, entry_zero}
use Rattle.trdp_marshal.specs.Zero.{entries_zero, dataset_zero, zero_of}
use Rattle.trdp_marshal.specs.Laws.{ZeroIsSpelled}
use Rattle.trdp_dataset.specs.ZeroSizes.{form_size, entries_size, dataset_size, zero_size}
use Rattle.trdp_dataset.specs.Depths.{is_within, elements_pass}
use Rattle.trdp_marshal.proofs.SpellingLemmas.{spells}
use Rattle.std.proofs.lemmas.Bool.{false≢true, and_parts}

-- the value is spelled by n zero bytes
abbrev IsZeros : (Speller ItemModel) → ItemModel → ℕ → Type 0
IsZeros spell t n = spell t ≡ Some (replicate n 0)

unsigned_zeros : (w : Width) → IsZeros (unsigned_spelling (width_len w)) (unsigned 0) (width_len w)
unfolding unsigned_spelling number_spelling
unsigned_zeros One = refl
unsigned_zeros Two = refl
unsigned_zeros Four = refl
unsigned_zeros Eight = refl

signed_zeros : (w : Width) → IsZeros (signed_spelling (width_len w)) (signed (pos 0)) (width_len w)
unfolding signed_spelling
signed_zeros One = refl
signed_zeros Two = refl
signed_zeros Four = refl
signed_zeros Eight = refl

time48_zeros : IsZeros time48_spelling (time48 0 0) 6
unfolding time48_spelling number_spelling
time48_zeros = refl

time64_zeros : IsZeros time64_spelling (time64 0 0) 8
unfolding time64_spelling number_spelling
time64_zeros = refl

joined_zeros : (first second : Option (List ℕ)) (m n : ℕ) → first ≡ Some (replicate m 0)
    → second ≡ Some (replicate n 0) → joined first second ≡ Some (replicate (m + n) 0)
joined_zeros first second m n e f =
    ap (λ (o : Option (List ℕ)). joined o second) e
    ∙ ap (λ (o : Option (List ℕ)). joined (Some (replicate m 0)) o) f
    ∙ ap (λ (x : List ℕ). Some x) (replicate-append-replicate m n 0)

repeated_zeros : (spell : Speller ItemModel) (t : ItemModel) (n k : ℕ)
    → IsZeros spell t n → repeated_spelling spell k (copies k t) ≡ Some (replicate (k * n) 0)
unfolding repeated_spelling copies
repeated_zeros spell t n zero e = let none : 0 * n ≡ 0 = omega arith in
    ap (λ (m : ℕ). Some (replicate m 0)) (sym none)
repeated_zeros spell t n (suc k) e =
    let sum : n + k * n ≡ suc k * n = omega arith in
    joined_zeros (spell t) (repeated_spelling spell k (copies k t))
    n (k * n) e (repeated_zeros spell t n k e) ∙ ap (λ (m : ℕ). Some (replicate m 0)) sum

items_own : (size : ℕ) (b : Bool) → (size == 0) ≡ b → cond b 0 size ≡ size
items_own size true e = sym (eqb-true _ _ e)
items_own size false e = refl

entry_by : (spell : Speller ItemModel) (t : ItemModel) (n size : ℕ) (b : Bool)
    → (size == 1) ≡ b → IsZeros spell t n
    → cond b (spell (cond b t (list (copies size t))))
    (list_spelling spell (array_length size 0) (cond b t (list (copies size t))))
    ≡ Some (replicate (size * n) 0)
unfolding list_spelling
entry_by spell t n size true one e =
    let same : n ≡ size * n = let u : size ≡ 1 = eqb-true _ _ one in rw u (sym (one-mul n)) in
    e ∙ ap (λ (m : ℕ). Some (replicate m 0)) same
entry_by spell t n size false many e = ap (λ (k : ℕ). repeated_spelling spell k (copies size t))
    (items_own size (size == 0) refl) ∙ repeated_zeros spell t n size e

entry_zeros : (spell : Speller ItemModel) (t : ItemModel) (n size : ℕ)
    → IsZeros spell t n → IsZeros (entry_spelling spell size 0) (entry_zero t size) (size * n)
unfolding entry_spelling entry_zero
entry_zeros spell t n size e = entry_by spell t n size (size == 1) refl e

count_by_test : (t : ItemModel) (size : ℕ) (b : Bool)
    → told_count t ≡ 0 → told_count (cond b t (list (copies size t))) ≡ 0
count_by_test t size true e = e
count_by_test t size false e = refl

entry_count : (t : ItemModel) (size : ℕ) → told_count t ≡ 0 → told_count (entry_zero t size) ≡ 0
unfolding entry_zero
entry_count t size e = count_by_test t size (size == 1) e

form_count : (nested : ℕ → ItemModel) → ((id : ℕ) → told_count (nested id) ≡ 0)
    → (form : Form) → told_count (form_zero nested form) ≡ 0
unfolding form_zero
form_count nested empty (Unsigned w) = refl
form_count nested empty (Signed w) = refl
form_count nested empty Time48 = refl
form_count nested empty Time64 = refl
form_count nested empty (Nested id) = empty id

entries_zeros : (spell : Form → Speller ItemModel) (value : Form → ItemModel)
    (size : Form → ℕ) (test : ℕ → Bool) → ((f : Form) → told_count (value f) ≡ 0)
    → ((f : Form) → passes test f ≡ true → IsZeros (spell f) (value f) (size f))
    → (es : List Element) → all_pass test es ≡ true
    → entries_spelling spell es 0 (entries_zero value es)
    ≡ Some (replicate (entries_size size es) 0)
unfolding entries_spelling entries_zero entries_size
entries_zeros spell value size test empty each [] pass = refl
entries_zeros spell value size test empty each (e ∷ es) pass =
    let both = and_parts _ _ pass in
    let here = entry_zeros (spell (form_of e.kind))
    (value (form_of e.kind)) (size (form_of e.kind)) e.size (each (form_of e.kind) both.0) in
    let count = entry_count (value (form_of e.kind)) e.size (empty (form_of e.kind)) in
    let rest = ap (λ (n : ℕ). entries_spelling spell es n (entries_zero value es)) count
    ∙ entries_zeros spell value size test empty each es both.1 in
    joined_zeros (entry_spelling (spell (form_of e.kind))
    e.size 0 (entry_zero (value (form_of e.kind)) e.size))
    _ (e.size * size (form_of e.kind)) (entries_size size es) here rest

dataset_count : (registry : List DatasetModel) (depth id : ℕ)
    → told_count (dataset_zero registry depth id) ≡ 0
unfolding dataset_zero
dataset_count registry zero id = refl
dataset_count registry (suc depth) id = refl

form_zeros : (registry : List DatasetModel) (depth : ℕ)
    → ((id : ℕ) → is_within registry depth id ≡ true → IsZeros (dataset_spelling registry depth id)
    (dataset_zero registry depth id) (dataset_size registry depth id))
    → (f : Form) → passes (is_within registry depth) f ≡ true
    → IsZeros (form_spelling (dataset_spelling registry depth) f)
    (form_zero (dataset_zero registry depth) f) (form_size (dataset_size registry depth) f)
unfolding form_spelling form_zero form_size
form_zeros registry depth deeper (Unsigned w) pass = unsigned_zeros w
form_zeros registry depth deeper (Signed w) pass = signed_zeros w
form_zeros registry depth deeper Time48 pass = time48_zeros
form_zeros registry depth deeper Time64 pass = time64_zeros
form_zeros registry depth deeper (Nested id) pass = deeper id pass

-- the zero value of a dataset whose elements are found
found_zeros : (spell : Form → Speller ItemModel) (value : Form → ItemModel)
    (size : Form → ℕ) (test : ℕ → Bool) → ((f : Form) → told_count (value f) ≡ 0)
    → ((f : Form) → passes test f ≡ true → IsZeros (spell f) (value f) (size f))
    → (found : Option (List Element)) → elements_pass test found ≡ true
    → elements_spelling spell found (list (entries_zero value (unwrap_or found [])))
    ≡ Some (replicate (entries_size size (unwrap_or found [])) 0)
unfolding elements_spelling
found_zeros spell value size test empty each None pass = absurd (false≢true pass)
found_zeros spell value size test empty each (Some es) pass =
    entries_zeros spell value size test empty each es pass

dataset_zeros : (registry : List DatasetModel) (depth id : ℕ) → is_within registry depth id ≡ true
    → IsZeros (dataset_spelling registry depth id)
    (dataset_zero registry depth id) (dataset_size registry depth id)
unfolding dataset_spelling dataset_zero dataset_size is_within
dataset_zeros registry zero id pass = absurd (false≢true pass)
dataset_zeros registry (suc depth) id pass =
    found_zeros (form_spelling (dataset_spelling registry depth))
    (form_zero (dataset_zero registry depth))
    (form_size (dataset_size registry depth)) (is_within registry depth)
    (form_count (dataset_zero registry depth) (dataset_count registry depth))
    (form_zeros registry depth (dataset_zeros registry depth)) (elements_of registry id) pass

pub zero_spelled : ZeroIsSpelled
unfolding spelling zero_of zero_size
zero_spelled registry id sound known =
    spells registry id _ _ (dataset_zeros registry 5 id (sound.deep id known))
