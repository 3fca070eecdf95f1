-- Values that are skipped by their number, since all of them have one length.
-- For `skip` and `fits_dataset`, and for a law.
-- By induction on the depth: a value of a type of one length is skipped by that length.
use Rattle.std.proofs.Common.{◌≡◌, true, false, Bool, not, cond, inl, inr, ◌==◌, ◌<◌, ◌≤◌}
use Rattle.std.proofs.Common.{◌+◌, ◌-◌, ◌*◌, ℕ, zero, suc, List, [], ◌∷◌, Option, Some}
use Rattle.std.proofs.Common.{None, length, drop, nat_lt, refl, sym, ap, ◌∙◌, arith, le-ltb}
use Rattle.std.proofs.Common.{lt-ltb, ltb-true, ltb-false, eq-eqb, eqb-true, ne_eqb}
use Rattle.std.specs.Prelude.{unwrap_or, is_some}
use Rattle.std.proofs.lemmas.Bool.{cases_lt, and_parts, false≢true}
use Rattle.std.proofs.lemmas.List.{length-drop, drop-drop}
use Rattle.std.proofs.lemmas.Option.{none-some, same_Some}
use Rattle.byteorder.specs.Endian.{big_number}
use Rattle.trdp_dataset.specs.declared.element.Form.{Form}
use Rattle.trdp_dataset.specs.declared.element.Form.TheVariants.{Unsigned, Signed}
use Rattle.trdp_dataset.specs.declared.element.Form.TheVariants.{Time48, Time64, Nested}
use Rattle.trdp_dataset.specs.declared.element.Element.{Element}
use Rattle.trdp_dataset.specs.Elements.{width_len, form_of}
use Rattle.trdp_dataset.specs.Datasets.{DatasetModel, elements_of, is_known, passes, all_pass}
use Rattle.trdp_dataset.specs.Registries.{IsRegistry}
use Rattle.trdp_dataset.specs.Depths.{is_within, elements_pass}
use Rattle.trdp_dataset.specs.ZeroSizes.{form_size, entries_size, dataset_size, zero_size}
use Rattle.trdp_dataset.specs.FixedSizes.{all_fixed, elements_fixed, is_fixed, fixed_size}
use Rattle.trdp_marshal.specs.Items.{ItemModel, unsigned, signed, time48}
use Rattle.trdp_marshal.specs.Items.{time64, list, more, told_count, array_length}
use Rattle.trdp_marshal.specs.Numbers.{signed_number}
use Rattle.trdp_marshal.specs.Spelling.{◌>>=◌}
use Rattle.trdp_marshal.specs.Reading.{Reader, number_at, unsigned_at, signed_at, time48_at}
use Rattle.trdp_marshal.specs.Reading.{time64_at, form_at, repeated_at, element_at, entries_at}
use Rattle.trdp_marshal.specs.Reading.{elements_at, dataset_at, skipped, whole, reading}
use Rattle.trdp_marshal.specs.Lengths.{rest_after}
use Rattle.trdp_marshal.specs.Laws.{FixedIsLength}
use Rattle.trdp_marshal.proofs.SpellingLemmas.{reading_if_spelled}
use Rattle.trdp_marshal.proofs.SkipLemmas.{skipped-made, entry_repeats, whole_taken, whole_nowhere}

after-add : (m n : ℕ) (bytes : List ℕ)
    → (rest_after m bytes >>= λ rest. rest_after n rest) ≡ rest_after (m + n) bytes
unfolding rest_after
after-add m n bytes =
    elim (cases_lt (length bytes) m) [
      | inl short ↦
          let first : nat_lt (length bytes) m ≡ true = lt-ltb _ _ short in
          let both : nat_lt (length bytes) (m + n) ≡ true = lt-ltb _ _ (omega arith) in
          rw (first, both) refl
      | inr room ↦
          let first : nat_lt (length bytes) m ≡ false = le-ltb _ _ room in
          elim (cases_lt (length bytes) (m + n)) [
            | inl short ↦
                let second : nat_lt (length (drop m bytes)) n ≡ true =
                lt-ltb _ _ (omega (arith, length-drop m bytes)) in
                let both : nat_lt (length bytes) (m + n) ≡ true = lt-ltb _ _ short in
                rw (first, second, both) refl
            | inr enough ↦
                let second : nat_lt (length (drop m bytes)) n ≡ false =
                le-ltb _ _ (omega (arith, length-drop m bytes)) in
                let both : nat_lt (length bytes) (m + n) ≡ false = le-ltb _ _ enough in
                rw (first, second, both) (ap (λ (x : List ℕ). Some x) (drop-drop n m bytes))
          ]
    ]

bind-same : {A B : Type 0} (o : Option A) (f g : A → Option B)
    → ((x : A) → f x ≡ g x) → (o >>= f) ≡ (o >>= g)
bind-same None f g same = refl
bind-same (Some x) f g same = same x

skipped-if : (b : Bool) (x : ℕ) (rest : List ℕ)
    → skipped (cond b None (Some (x, rest))) ≡ cond b None (Some rest)
skipped-if true x rest = refl
skipped-if false x rest = refl

skipped-number : (k : ℕ) (bytes : List ℕ) → skipped (number_at k bytes) ≡ rest_after k bytes
unfolding number_at rest_after
skipped-number k bytes = skipped-if (nat_lt (length bytes) k) (big_number k bytes) (drop k bytes)

-- two parts, one after the other
skipped-both : {A B C : Type 0} (first : Option (A × List ℕ))
    (second : List ℕ → Option (B × List ℕ)) (f : A → B → C)
    → skipped (first >>= λ x. second x.1 >>= λ y. Some (f x.0 y.0, y.1))
    ≡ (skipped first >>= λ rest. skipped (second rest))
skipped-both None second f = refl
skipped-both (Some x) second f = skipped-made (second x.1) (λ y. f x.0 y)

numbers : {C : Type 0} (m n : ℕ) (f : ℕ → ℕ → C) (bytes : List ℕ)
    → skipped (number_at m bytes >>= λ x. number_at n x.1 >>= λ y. Some (f x.0 y.0, y.1))
    ≡ rest_after (m + n) bytes
numbers m n f bytes =
    skipped-both (number_at m bytes) (number_at n) f
    ∙ bind-same (skipped (number_at m bytes))
    (λ rest. skipped (number_at n rest)) (λ rest. rest_after n rest) (skipped-number n)
    ∙ ap (λ (o : Option (List ℕ)). o >>= λ rest. rest_after n rest) (skipped-number m bytes)
    ∙ after-add m n bytes

-- how many bytes each value of a basic type has
abbrev pub basic_size : Form → Option ℕ
basic_size (Unsigned w) = Some (width_len w)
basic_size (Signed w) = Some (width_len w)
basic_size Time48 = Some 6
basic_size Time64 = Some 8
basic_size (Nested id) = None

basic_skips : (nested : ℕ → Reader ItemModel) (form : Form) (n : ℕ)
    → basic_size form ≡ Some n → (bytes : List ℕ)
    → skipped (form_at nested form bytes) ≡ rest_after n bytes
unfolding form_at unsigned_at signed_at time48_at time64_at
basic_skips nested (Unsigned w) n e bytes =
    skipped-made (number_at (width_len w) bytes) unsigned ∙ skipped-number (width_len w) bytes
    ∙ ap (λ (k : ℕ). rest_after k bytes) (same_Some _ _ e)
basic_skips nested (Signed w) n e bytes =
    skipped-made (number_at (width_len w) bytes) (λ x. signed (signed_number (width_len w) x))
    ∙ skipped-number (width_len w) bytes
    ∙ ap (λ (k : ℕ). rest_after k bytes) (same_Some _ _ e)
basic_skips nested Time48 n e bytes = numbers 4 2 time48 bytes
    ∙ ap (λ (k : ℕ). rest_after k bytes) (same_Some _ _ e)
basic_skips nested Time64 n e bytes = numbers 4 4 time64 bytes
    ∙ ap (λ (k : ℕ). rest_after k bytes) (same_Some _ _ e)
basic_skips nested (Nested id) n e bytes = absurd (none-some n e)

pub repeated_skips : (read : Reader ItemModel) (n : ℕ)
    → ((bytes : List ℕ) → skipped (read bytes) ≡ rest_after n bytes)
    → (k : ℕ) (bytes : List ℕ) → skipped (repeated_at read k bytes) ≡ rest_after (k * n) bytes
unfolding repeated_at rest_after
repeated_skips read n each zero bytes =
    let nothing : 0 * n ≡ 0 = omega arith in
    let enough : nat_lt (length bytes) 0 ≡ false = le-ltb _ _ (omega arith) in
    rw (nothing, enough) refl
repeated_skips read n each (suc k) bytes =
    let sum : n + k * n ≡ suc k * n = omega arith in
    skipped-both (read bytes) (repeated_at read k) (λ t ts. more t ts)
    ∙ bind-same (skipped (read bytes)) (λ rest. skipped (repeated_at read k rest))
    (λ rest. rest_after (k * n) rest) (repeated_skips read n each k)
    ∙ ap (λ (o : Option (List ℕ)). o >>= λ rest. rest_after (k * n) rest) (each bytes)
    ∙ after-add n (k * n) bytes
    ∙ ap (λ (m : ℕ). rest_after m bytes) sum

-- values of a basic type are skipped by their number
pub basic_repeated : (nested : ℕ → Reader ItemModel) (form : Form) (n : ℕ)
    → basic_size form ≡ Some n → (k : ℕ) (bytes : List ℕ)
    → skipped (repeated_at (form_at nested form) k bytes) ≡ rest_after (k * n) bytes
basic_repeated nested form n e k bytes =
    repeated_skips (form_at nested form) n (basic_skips nested form n e) k bytes

-- so are those of a type of one length
form_skips : (read : ℕ → Reader ItemModel) (size : ℕ → ℕ) (within fixed : ℕ → Bool)
    → ((id : ℕ) → within id ≡ true → fixed id ≡ true
    → (bytes : List ℕ) → skipped (read id bytes) ≡ rest_after (size id) bytes)
    → (form : Form) → passes within form ≡ true → passes fixed form ≡ true → (bytes : List ℕ)
    → skipped (form_at read form bytes) ≡ rest_after (form_size size form) bytes
unfolding form_size form_at
form_skips read size within fixed each (Unsigned w) deep one bytes =
    basic_skips read (Unsigned w) (width_len w) refl bytes
form_skips read size within fixed each (Signed w) deep one bytes =
    basic_skips read (Signed w) (width_len w) refl bytes
form_skips read size within fixed each Time48 deep one bytes = basic_skips read Time48 6 refl bytes
form_skips read size within fixed each Time64 deep one bytes = basic_skips read Time64 8 refl bytes
form_skips read size within fixed each (Nested id) deep one bytes = each id deep one bytes

nothing_after : (bytes : List ℕ) → Some bytes ≡ rest_after 0 bytes
unfolding rest_after
nothing_after bytes = let enough : nat_lt (length bytes) 0 ≡ false =
    le-ltb _ _ (omega arith) in rw enough refl

-- one part, and another that may look at what the first one is
skipped_then : {A B C : Type 0} (found : Option (A × List ℕ))
    (second : A → List ℕ → Option (B × List ℕ)) (f : A → B → C)
    (after : List ℕ → Option (List ℕ))
    → ((a : A) (rest : List ℕ) → skipped (second a rest) ≡ after rest)
    → skipped (found >>= λ x. second x.0 x.1 >>= λ y. Some (f x.0 y.0, y.1))
    ≡ (skipped found >>= after)
skipped_then None second f after each = refl
skipped_then (Some x) second f after each =
    skipped-made (second x.0 x.1) (λ y. f x.0 y) ∙ each x.0 x.1

items_by : (b : Bool) (count size : ℕ) → not b ≡ true → cond b count size ≡ size
items_by true count size own = absurd (false≢true own)
items_by false count size own = refl

items_own : (size count : ℕ) → not (size == 0) ≡ true → array_length size count ≡ size
items_own size count own = items_by (size == 0) count size own

-- entries without an array of size 0
entries_skip : (read : Form → Reader ItemModel) (size : Form → ℕ) (within fixed : ℕ → Bool)
    → ((form : Form) → passes within form ≡ true → passes fixed form ≡ true
    → (bytes : List ℕ) → skipped (read form bytes) ≡ rest_after (size form) bytes)
    → (es : List Element) → all_pass within es ≡ true
    → all_fixed fixed es ≡ true → (count : ℕ) (bytes : List ℕ)
    → skipped (entries_at read es count bytes) ≡ rest_after (entries_size size es) bytes
unfolding entries_at entries_size
entries_skip read size within fixed each [] deep one count bytes = nothing_after bytes
entries_skip read size within fixed each (e ∷ es) deep one count bytes =
    let deeper = and_parts _ _ deep in
    let ones = and_parts _ _ one in
    let here = and_parts _ _ ones.0 in
    let form = form_of e.kind in
    let own : array_length e.size count ≡ e.size = items_own e.size count here.0 in
    let values = λ (rest : List ℕ). entry_repeats (read form) e.size count rest
    ∙ ap (λ (k : ℕ). skipped (repeated_at (read form) k rest)) own
    ∙ repeated_skips (read form) (size form) (each form deeper.0 here.1) e.size rest in
    skipped_then (element_at (read form) e.size count bytes) (λ t rest. entries_at
    read es (told_count t) rest) (λ t ts. more t ts) (rest_after (entries_size size es))
    (λ t rest. entries_skip read size within fixed each es deeper.1 ones.1 (told_count t) rest)
    ∙ ap (λ (o : Option (List ℕ)). o >>= λ rest. rest_after (entries_size size es) rest)
    (values bytes)
    ∙ after-add (e.size * size form) (entries_size size es) bytes

elements_skip : (read : Form → Reader ItemModel) (size : Form → ℕ) (within fixed : ℕ → Bool)
    → ((form : Form) → passes within form ≡ true → passes fixed form ≡ true
    → (bytes : List ℕ) → skipped (read form bytes) ≡ rest_after (size form) bytes)
    → (found : Option (List Element)) → elements_pass within found ≡ true
    → elements_fixed fixed found ≡ true → (bytes : List ℕ)
    → skipped (elements_at read found bytes)
    ≡ rest_after (entries_size size (unwrap_or found [])) bytes
unfolding elements_at
elements_skip read size within fixed each None deep one bytes = absurd (false≢true deep)
elements_skip read size within fixed each (Some es) deep one bytes =
    skipped-made (entries_at read es 0 bytes) list
    ∙ entries_skip read size within fixed each es deep one 0 bytes

-- a value of a dataset of one length; both depths are enough
dataset_skips : (registry : List DatasetModel) (depth k id : ℕ)
    → is_within registry depth id ≡ true → is_fixed registry k id ≡ true
    → (bytes : List ℕ) → skipped (dataset_at registry depth id bytes)
    ≡ rest_after (dataset_size registry k id) bytes
unfolding is_within is_fixed dataset_at dataset_size
dataset_skips registry zero k id deep one bytes = absurd (false≢true deep)
dataset_skips registry (suc depth) zero id deep one bytes = absurd (false≢true one)
dataset_skips registry (suc depth) (suc k) id deep one bytes =
    elements_skip (form_at (dataset_at registry depth))
    (form_size (dataset_size registry k)) (is_within registry depth) (is_fixed registry k)
    (form_skips (dataset_at registry depth) (dataset_size registry k)
    (is_within registry depth) (is_fixed registry k) (dataset_skips registry depth k))
    (elements_of registry id) deep one bytes

size_by : (b : Bool) (n size : ℕ) → Some size ≡ cond b (Some n) None → (b ≡ true) × (n ≡ size)
size_by true n size e = (refl, sym (same_Some _ _ e))
size_by false n size e = absurd (none-some _ (sym e))

-- values of a dataset of one length are skipped by their number
pub dataset_skipped_whole : (registry : List DatasetModel) (depth id size : ℕ)
    → is_within registry depth id ≡ true
    → Some size ≡ fixed_size registry id → (bytes : List ℕ)
    → skipped (dataset_at registry depth id bytes) ≡ rest_after size bytes
unfolding fixed_size zero_size
dataset_skipped_whole registry depth id size deep one bytes =
    let parts = size_by (is_fixed registry 5 id) (dataset_size registry 5 id) size one in
    dataset_skips registry depth 5 id deep parts.0 bytes
    ∙ ap (λ (n : ℕ). rest_after n bytes) parts.1

some_fixed : (test : ℕ → Bool) (found : Option (List Element))
    → elements_fixed test found ≡ true → is_some found ≡ true
some_fixed test None one = absurd (false≢true one)
some_fixed test (Some es) one = refl

same_test : (left all size : ℕ) → left ≡ all - size → size ≤ all → (left == 0) ≡ (all == size)
same_test left all size e room =
    elim (cases_lt size all) [
      | inl less ↦ ne_eqb left 0 (omega (arith, e)) ∙ sym (ne_eqb all size (omega (arith, less)))
      | inr over ↦ eq-eqb left 0 (omega (arith, e, over))
          ∙ sym (eq-eqb all size (omega (arith, over, room)))
    ]

taken_by : (bytes : List ℕ) (size : ℕ) (b : Bool) → nat_lt (length bytes) size ≡ b
    → (found : Option (ItemModel × List ℕ)) → skipped found ≡ cond b None (Some (drop size bytes))
    → is_some (whole found) ≡ (length bytes == size)
taken_by bytes size true short found e =
    let less : length bytes < size = ltb-true _ _ short in
    sym (whole_nowhere found (sym e)) ∙ sym (ne_eqb _ _ (omega (arith, less)))
taken_by bytes size false long found e =
    let room = ltb-false _ _ long in
    whole_taken found (drop size bytes) (sym e)
    ∙ same_test (length (drop size bytes)) (length bytes) size (length-drop size bytes) room

fixed_known : (registry : List DatasetModel) (id size : ℕ)
    → Some size ≡ fixed_size registry id → is_known registry id ≡ true
unfolding fixed_size is_fixed
fixed_known registry id size one =
    some_fixed (is_fixed registry 4) (elements_of registry id)
    (size_by (is_fixed registry 5 id) (zero_size registry id) size one).0

-- bytes are a value of a dataset of one length where they have that length
pub whole_fixed : (registry : List DatasetModel) (id size : ℕ) (bytes : List ℕ)
    → IsRegistry registry
    → Some size ≡ fixed_size registry id
    → (length bytes == size) ≡ is_some (reading registry id bytes)
unfolding reading rest_after
whole_fixed registry id size bytes sound one =
    let deep = sound.deep id (fixed_known registry id size one) in
    sym (taken_by bytes size (nat_lt (length bytes) size) refl
    (dataset_at registry 5 id bytes) (dataset_skipped_whole registry 5 id size deep one bytes))

pub fixed_is_length : FixedIsLength
fixed_is_length registry id size bytes sound one fits =
    let means = reading_if_spelled registry id bytes fits in
    let test = whole_fixed registry id size bytes sound (sym one) in
    (λ item. eqb-true _ _ (test ∙ means.1 item), λ same. means.0 (sym test ∙ eq-eqb _ _ same))
