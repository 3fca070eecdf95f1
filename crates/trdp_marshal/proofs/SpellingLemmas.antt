-- The bytes of an item as a relation, and as they are computed.
-- For `fits`, `decoded` and `encoded`, and for the laws of spelling.
-- By each rule of the relation beside its case of the computation; then by the codecs.
use Rattle.std.proofs.Common.{◌≡◌, inl, inr, ◌<◌, ◌≤◌, ◌*◌, ◌^◌, ◌==◌, ℕ, zero, suc}
use Rattle.std.proofs.Common.{pos, Bool, true, false, cond, nat_lt, List, [], ◌∷◌, ◌++◌}
use Rattle.std.proofs.Common.{Option, Some, None, length, drop, refl, sym, ap, ◌∙◌}
use Rattle.std.proofs.Common.{arith, ltb-true, lt-ltb, eq-eqb, ne_eqb, eqb-true, subst}
use Rattle.std.specs.Prelude.{ℤ, is_some, IsTrue, ◌↔◌, ◌||◌}
use Rattle.std.proofs.lemmas.Bool.{false≢true}
use Rattle.std.proofs.lemmas.Option.{none-some, cond_some, same_Some}
use Rattle.std.proofs.lemmas.List.{append-nil, drop_all}
use Rattle.byteorder.specs.Endian.{big_number, big_bytes}
use Rattle.byteorder.specs.Numbers.{big_number-reads_back, length-bytes_high_first}
use Rattle.trdp_dataset.specs.declared.element.Width.{Width}
use Rattle.trdp_dataset.specs.declared.element.Width.TheVariants.{One, Two, Four, Eight}
use Rattle.trdp_dataset.specs.declared.element.Form.{Form}
use Rattle.trdp_dataset.specs.declared.element.Form.TheVariants.{Unsigned, Signed}
use Rattle.trdp_dataset.specs.declared.element.Form.TheVariants.{Time48, Time64, Nested}
use Rattle.trdp_dataset.specs.declared.element.Element.{Element}
use Rattle.trdp_dataset.specs.Elements.{width_len, form_of}
use Rattle.trdp_dataset.specs.Datasets.{DatasetModel, elements_of}
use Rattle.trdp_marshal.specs.Items.{ItemModel, ItemModels, unsigned, signed, time48}
use Rattle.trdp_marshal.specs.Items.{time64, list, none, more, told_count, array_length}
use Rattle.trdp_marshal.specs.Numbers.{IsBytes, IsNumber}
use Rattle.trdp_marshal.specs.Spells.{Relation, Joins, SpellsUnsigned, SpellsSigned}
use Rattle.trdp_marshal.specs.Spells.{SpellsTime48, SpellsTime64, SpellsForm, SpellsRepeated}
use Rattle.trdp_marshal.specs.Spells.{SpellsList, SpellsEntry, SpellsEntries, SpellsElements}
use Rattle.trdp_marshal.specs.Spells.{SpellsDataset, Spells, IsSpelled, Fits}
use Rattle.trdp_marshal.specs.Spelling.{Speller, joined, number_spelling, unsigned_spelling}
use Rattle.trdp_marshal.specs.Spelling.{signed_spelling, time48_spelling, time64_spelling}
use Rattle.trdp_marshal.specs.Spelling.{form_spelling, repeated_spelling, list_spelling}
use Rattle.trdp_marshal.specs.Spelling.{entry_spelling, entries_spelling, elements_spelling}
use Rattle.trdp_marshal.specs.Spelling.{dataset_spelling, spelling}
use Rattle.trdp_marshal.specs.Reading.{reading}
use Rattle.trdp_marshal.specs.Laws.{OneSpelling, OneItem, SpelledIsComputed, ComputedIsSpelled}
use Rattle.trdp_marshal.specs.Laws.{SpelledIsRead, ReadIsSpelled, FittingIsFit}
use Rattle.trdp_marshal.proofs.NumberLemmas.{bytes_of_number, number_fits, number_bytes}
use Rattle.trdp_marshal.proofs.CodecLemmas.{joined_some, signed_again, signed_only}
use Rattle.trdp_marshal.proofs.DatasetCodecLemmas.{read_is_spelled, spelled_is_read}

-- the relation holds exactly of what is computed
pub record IsComputed {A : Type 0} (Spell : A → List ℕ → Type 0) (spell : A → Option (List ℕ))
    : Type 0 where
  pub to : (a : A) (text : List ℕ) → Spell a text → spell a ≡ Some text
  pub from : (a : A) (text : List ℕ) → spell a ≡ Some text → Spell a text

joins_to : {A B : Type 0} {First : A → List ℕ → Type 0}
    {Second : B → List ℕ → Type 0} {first : A → Option (List ℕ)} {second : B → Option (List ℕ)}
    → IsComputed First first → IsComputed Second second → (a : A) (b : B) (text : List ℕ)
    → Joins (First a) (Second b) text → joined (first a) (second b) ≡ Some text
joins_to one two a b text (x, y, p, q, e) = rw (one.to a x p, two.to b y q, e) refl

joins_from : {A B : Type 0} {First : A → List ℕ → Type 0}
    {Second : B → List ℕ → Type 0} {first : A → Option (List ℕ)} {second : B → Option (List ℕ)}
    → IsComputed First first → IsComputed Second second → (a : A) (b : B) (text : List ℕ)
    → joined (first a) (second b) ≡ Some text → Joins (First a) (Second b) text
joins_from {first = first} {second = second} one two a b text e =
    let w = joined_some (first a) (second b) text e in
    (w.0, w.1, one.from a w.0 w.2, two.from b w.1 w.3, w.4)

-- a number
number_to : (k n : ℕ) (text : List ℕ) → IsNumber k n text → number_spelling k n ≡ Some text
unfolding number_spelling
number_to k n text (len, bytes, value) =
    let low : n < 256 ^ k = subst (λ (m : ℕ). m < 256 ^ k) value (number_fits k text bytes) in
    let test : nat_lt n (256 ^ k) ≡ true = lt-ltb _ _ low in
    let room : k ≤ length text = omega (arith, len) in
    let over : length text ≤ k = omega (arith, len) in
    let all = bytes_of_number k text bytes room in
    let nothing : drop k text ≡ [] = drop_all k text over in
    let same : big_bytes k n ≡ text = ap (big_bytes k) (sym value)
    ∙ sym (append-nil (big_bytes k (big_number k text)))
    ∙ ap (λ (x : List ℕ). big_bytes k (big_number k text) ++ x) (sym nothing) ∙ all in
    rw test (ap (λ (x : List ℕ). Some x) same)

number_from : (k n : ℕ) (text : List ℕ) → number_spelling k n ≡ Some text → IsNumber k n text
unfolding number_spelling
number_from k n text e =
    let w = cond_some (nat_lt n (256 ^ k)) _ _ e in
    let low : n < 256 ^ k = ltb-true _ _ w.0 in
    let back : big_number k (big_bytes k n) ≡ n =
    ap (big_number k) (sym (append-nil (big_bytes k n))) ∙ big_number-reads_back k n [] low in
    subst (λ (x : List ℕ). IsNumber k n x) w.1 (length-bytes_high_first k n, number_bytes k n, back)

pub number_computed : (k : ℕ) → IsComputed (IsNumber k) (number_spelling k)
number_computed k = record { to = number_to k; from = number_from k }

unsigned_to : (k : ℕ) (t : ItemModel) (text : List ℕ)
    → SpellsUnsigned k t text → unsigned_spelling k t ≡ Some text
unfolding unsigned_spelling
unsigned_to k (unsigned n) text h = number_to k n text h
unsigned_to k (signed z) text h = absurd h
unsigned_to k (time48 s u) text h = absurd h
unsigned_to k (time64 s u) text h = absurd h
unsigned_to k (list ts) text h = absurd h

unsigned_from : (k : ℕ) (t : ItemModel) (text : List ℕ)
    → unsigned_spelling k t ≡ Some text → SpellsUnsigned k t text
unfolding unsigned_spelling
unsigned_from k (unsigned n) text e = number_from k n text e
unsigned_from k (signed z) text e = absurd (none-some text e)
unsigned_from k (time48 s u) text e = absurd (none-some text e)
unsigned_from k (time64 s u) text e = absurd (none-some text e)
unsigned_from k (list ts) text e = absurd (none-some text e)

signed_to : (k half : ℕ) → 256 ^ k ≡ 2 * half
    → (t : ItemModel) (text : List ℕ) → SpellsSigned k t text → signed_spelling k t ≡ Some text
signed_to k half even (unsigned n) text h = absurd h
signed_to k half even (signed z) text (n, is, number) =
    ap (λ (y : ℤ). signed_spelling k (signed y)) is
    ∙ signed_again k half n text even (number_to k n text number)
signed_to k half even (time48 s u) text h = absurd h
signed_to k half even (time64 s u) text h = absurd h
signed_to k half even (list ts) text h = absurd h

-- the number of a signed item
number_in : ItemModel → ℤ
number_in (unsigned n) = pos 0
number_in (signed z) = z
number_in (time48 s u) = pos 0
number_in (time64 s u) = pos 0
number_in (list ts) = pos 0

signed_from : (k half : ℕ) → 256 ^ k ≡ 2 * half
    → (t : ItemModel) (text : List ℕ) → signed_spelling k t ≡ Some text → SpellsSigned k t text
unfolding number_in
signed_from k half even (unsigned n) text e =
    let w = signed_only k half (unsigned n) text even e in cc w.1
signed_from k half even (signed z) text e =
    let w = signed_only k half (signed z) text even e in
    (w.0, ap number_in w.1, number_from k w.0 text w.2)
signed_from k half even (time48 s u) text e =
    let w = signed_only k half (time48 s u) text even e in cc w.1
signed_from k half even (time64 s u) text e =
    let w = signed_only k half (time64 s u) text even e in cc w.1
signed_from k half even (list ts) text e = let w =
    signed_only k half (list ts) text even e in cc w.1

time48_to : (t : ItemModel) (text : List ℕ) → SpellsTime48 t text → time48_spelling t ≡ Some text
unfolding time48_spelling
time48_to (unsigned n) text h = absurd h
time48_to (signed z) text h = absurd h
time48_to (time48 s u) text h = joins_to (number_computed 4) (number_computed 2) s u text h
time48_to (time64 s u) text h = absurd h
time48_to (list ts) text h = absurd h

time48_from : (t : ItemModel) (text : List ℕ) → time48_spelling t ≡ Some text → SpellsTime48 t text
unfolding time48_spelling
time48_from (unsigned n) text e = absurd (none-some text e)
time48_from (signed z) text e = absurd (none-some text e)
time48_from (time48 s u) text e = joins_from (number_computed 4) (number_computed 2) s u text e
time48_from (time64 s u) text e = absurd (none-some text e)
time48_from (list ts) text e = absurd (none-some text e)

time64_to : (t : ItemModel) (text : List ℕ) → SpellsTime64 t text → time64_spelling t ≡ Some text
unfolding time64_spelling
time64_to (unsigned n) text h = absurd h
time64_to (signed z) text h = absurd h
time64_to (time48 s u) text h = absurd h
time64_to (time64 s u) text h = joins_to (number_computed 4) (number_computed 4) s u text h
time64_to (list ts) text h = absurd h

time64_from : (t : ItemModel) (text : List ℕ) → time64_spelling t ≡ Some text → SpellsTime64 t text
unfolding time64_spelling
time64_from (unsigned n) text e = absurd (none-some text e)
time64_from (signed z) text e = absurd (none-some text e)
time64_from (time48 s u) text e = absurd (none-some text e)
time64_from (time64 s u) text e = joins_from (number_computed 4) (number_computed 4) s u text e
time64_from (list ts) text e = absurd (none-some text e)

signed_computed : (w : Width)
    → IsComputed (SpellsSigned (width_len w)) (signed_spelling (width_len w))
signed_computed One = record { to = signed_to 1 128 refl; from = signed_from 1 128 refl }
signed_computed Two = record { to = signed_to 2 32768 refl; from = signed_from 2 32768 refl }
signed_computed Four =
    record { to = signed_to 4 2147483648 refl; from = signed_from 4 2147483648 refl }
signed_computed Eight = record {
  to = signed_to 8 9223372036854775808 refl;
  from = signed_from 8 9223372036854775808 refl;
}

-- one value of a type
form_computed : (Nest : ℕ → Relation ItemModel) (nest : ℕ → Speller ItemModel)
    → ((id : ℕ) → IsComputed (Nest id) (nest id))
    → (form : Form) → IsComputed (SpellsForm Nest form) (form_spelling nest form)
unfolding SpellsForm form_spelling
form_computed Nest nest each (Unsigned w) =
    record { to = unsigned_to (width_len w); from = unsigned_from (width_len w) }
form_computed Nest nest each (Signed w) =
    record { to = (signed_computed w).to; from = (signed_computed w).from }
form_computed Nest nest each Time48 = record { to = time48_to; from = time48_from }
form_computed Nest nest each Time64 = record { to = time64_to; from = time64_from }
form_computed Nest nest each (Nested id) = record { to = (each id).to; from = (each id).from }

-- k values
repeated_to : (Single : Relation ItemModel) (spell : Speller ItemModel) → IsComputed Single spell
    → (k : ℕ) (ts : ItemModels) (text : List ℕ)
    → SpellsRepeated Single k ts text → repeated_spelling spell k ts ≡ Some text
unfolding SpellsRepeated repeated_spelling
repeated_to Single spell one zero none text h = ap (λ (x : List ℕ). Some x) (sym h)
repeated_to Single spell one zero (more t ts) text h = absurd h
repeated_to Single spell one (suc k) none text h = absurd h
repeated_to Single spell one (suc k) (more t ts) text (x, y, p, q, e) =
    rw (one.to t x p, repeated_to Single spell one k ts y q, e) refl

repeated_from : (Single : Relation ItemModel) (spell : Speller ItemModel) → IsComputed Single spell
    → (k : ℕ) (ts : ItemModels) (text : List ℕ)
    → repeated_spelling spell k ts ≡ Some text → SpellsRepeated Single k ts text
unfolding SpellsRepeated repeated_spelling
repeated_from Single spell one zero none text e = sym (same_Some _ _ e)
repeated_from Single spell one zero (more t ts) text e = absurd (none-some text e)
repeated_from Single spell one (suc k) none text e = absurd (none-some text e)
repeated_from Single spell one (suc k) (more t ts) text e =
    let w = joined_some (spell t) (repeated_spelling spell k ts) text e in
    (w.0, w.1, one.from t w.0 w.2, repeated_from Single spell one k ts w.1 w.3, w.4)

list_to : (Single : Relation ItemModel) (spell : Speller ItemModel) → IsComputed Single spell
    → (k : ℕ) (t : ItemModel) (text : List ℕ)
    → SpellsList Single k t text → list_spelling spell k t ≡ Some text
unfolding SpellsList list_spelling
list_to Single spell one k (unsigned n) text h = absurd h
list_to Single spell one k (signed z) text h = absurd h
list_to Single spell one k (time48 s u) text h = absurd h
list_to Single spell one k (time64 s u) text h = absurd h
list_to Single spell one k (list ts) text h = repeated_to Single spell one k ts text h

list_from : (Single : Relation ItemModel) (spell : Speller ItemModel) → IsComputed Single spell
    → (k : ℕ) (t : ItemModel) (text : List ℕ)
    → list_spelling spell k t ≡ Some text → SpellsList Single k t text
unfolding SpellsList list_spelling
list_from Single spell one k (unsigned n) text e = absurd (none-some text e)
list_from Single spell one k (signed z) text e = absurd (none-some text e)
list_from Single spell one k (time48 s u) text e = absurd (none-some text e)
list_from Single spell one k (time64 s u) text e = absurd (none-some text e)
list_from Single spell one k (list ts) text e = repeated_from Single spell one k ts text e

-- the entry of an element
entry_to : (Single : Relation ItemModel) (spell : Speller ItemModel) → IsComputed Single spell
    → (size count : ℕ) (t : ItemModel) (text : List ℕ)
    → SpellsEntry Single size count t text → entry_spelling spell size count t ≡ Some text
unfolding SpellsEntry entry_spelling
entry_to Single spell one size count t text (inl (single, h)) =
    let test : (size == 1) ≡ true = eq-eqb _ _ single in rw test (one.to t text h)
entry_to Single spell one size count t text (inr (several, h)) = let test : (size == 1) ≡ false =
    ne_eqb _ _ several in rw test (list_to Single spell one (array_length size count) t text h)

entry_from_by : (Single : Relation ItemModel) (spell : Speller ItemModel) → IsComputed Single spell
    → (size count : ℕ) (t : ItemModel) (text : List ℕ) (b : Bool) → (size == 1) ≡ b
    → cond b (spell t) (list_spelling spell (array_length size count) t) ≡ Some text
    → SpellsEntry Single size count t text
unfolding SpellsEntry
entry_from_by Single spell one size count t text true test e =
    inl (eqb-true _ _ test, one.from t text e)
entry_from_by Single spell one size count t text false test e =
    inr (
      λ same. false≢true (sym test ∙ eq-eqb _ _ same),
      list_from Single spell one (array_length size count) t text e,
    )

entry_from : (Single : Relation ItemModel) (spell : Speller ItemModel) → IsComputed Single spell
    → (size count : ℕ) (t : ItemModel) (text : List ℕ)
    → entry_spelling spell size count t ≡ Some text → SpellsEntry Single size count t text
unfolding entry_spelling
entry_from Single spell one size count t text e =
    entry_from_by Single spell one size count t text (size == 1) refl e

-- the entries of elements
entries_to : (Single : Form → Relation ItemModel) (spell : Form → Speller ItemModel)
    → ((form : Form) → IsComputed (Single form) (spell form))
    → (es : List Element) (count : ℕ) (ts : ItemModels) (text : List ℕ)
    → SpellsEntries Single es count ts text → entries_spelling spell es count ts ≡ Some text
unfolding SpellsEntries entries_spelling
entries_to Single spell one [] count none text h = ap (λ (x : List ℕ). Some x) (sym h)
entries_to Single spell one [] count (more t ts) text h = absurd h
entries_to Single spell one (e ∷ es) count none text h = absurd h
entries_to Single spell one (e ∷ es) count (more t ts) text (x, y, p, q, all) =
    rw (
      entry_to (Single (form_of e.kind)) (spell (form_of e.kind)) (one (form_of e.kind))
          e.size count t x p,
      entries_to Single spell one es (told_count t) ts y q,
      all,
    ) refl

entries_from : (Single : Form → Relation ItemModel) (spell : Form → Speller ItemModel)
    → ((form : Form) → IsComputed (Single form) (spell form))
    → (es : List Element) (count : ℕ) (ts : ItemModels) (text : List ℕ)
    → entries_spelling spell es count ts ≡ Some text → SpellsEntries Single es count ts text
unfolding SpellsEntries entries_spelling
entries_from Single spell one [] count none text e = sym (same_Some _ _ e)
entries_from Single spell one [] count (more t ts) text e = absurd (none-some text e)
entries_from Single spell one (d ∷ es) count none text e = absurd (none-some text e)
entries_from Single spell one (d ∷ es) count (more t ts) text e =
    let w = joined_some (entry_spelling (spell (form_of d.kind)) d.size count t)
    (entries_spelling spell es (told_count t) ts) text e in (
      w.0,
      w.1,
      entry_from (Single (form_of d.kind)) (spell (form_of d.kind)) (one (form_of d.kind))
          d.size count t w.0 w.2,
      entries_from Single spell one es (told_count t) ts w.1 w.3,
      w.4,
    )

elements_to : (Single : Form → Relation ItemModel) (spell : Form → Speller ItemModel)
    → ((form : Form) → IsComputed (Single form) (spell form))
    → (found : Option (List Element)) (t : ItemModel) (text : List ℕ)
    → SpellsElements Single found t text → elements_spelling spell found t ≡ Some text
unfolding SpellsElements elements_spelling
elements_to Single spell one None t text h = absurd h
elements_to Single spell one (Some es) (unsigned n) text h = absurd h
elements_to Single spell one (Some es) (signed z) text h = absurd h
elements_to Single spell one (Some es) (time48 s u) text h = absurd h
elements_to Single spell one (Some es) (time64 s u) text h = absurd h
elements_to Single spell one (Some es) (list ts) text h = entries_to Single spell one es 0 ts text h

elements_from : (Single : Form → Relation ItemModel) (spell : Form → Speller ItemModel)
    → ((form : Form) → IsComputed (Single form) (spell form))
    → (found : Option (List Element)) (t : ItemModel) (text : List ℕ)
    → elements_spelling spell found t ≡ Some text → SpellsElements Single found t text
unfolding SpellsElements elements_spelling
elements_from Single spell one None t text e = absurd (none-some text e)
elements_from Single spell one (Some es) (unsigned n) text e = absurd (none-some text e)
elements_from Single spell one (Some es) (signed z) text e = absurd (none-some text e)
elements_from Single spell one (Some es) (time48 s u) text e = absurd (none-some text e)
elements_from Single spell one (Some es) (time64 s u) text e = absurd (none-some text e)
elements_from Single spell one (Some es) (list ts) text e =
    entries_from Single spell one es 0 ts text e

pub dataset_computed : (registry : List DatasetModel) (depth id : ℕ)
    → IsComputed (SpellsDataset registry depth id) (dataset_spelling registry depth id)
unfolding SpellsDataset dataset_spelling
dataset_computed registry zero id =
    record { to = λ t text h. absurd h; from = λ t text e. absurd (none-some text e) }
dataset_computed registry (suc depth) id =
    let forms = form_computed (SpellsDataset registry depth)
    (dataset_spelling registry depth) (dataset_computed registry depth) in
    record {
      to = elements_to (SpellsForm (SpellsDataset registry depth))
          (form_spelling (dataset_spelling registry depth)) forms (elements_of registry id);
      from = elements_from (SpellsForm (SpellsDataset registry depth))
          (form_spelling (dataset_spelling registry depth)) forms (elements_of registry id);
    }

pub spelled : SpelledIsComputed
unfolding Spells spelling
spelled registry id t bytes h = (dataset_computed registry 5 id).to t bytes h

pub spells : ComputedIsSpelled
unfolding Spells spelling
spells registry id t bytes e = (dataset_computed registry 5 id).from t bytes e

pub one_spelling : OneSpelling
one_spelling registry id t first second one two =
    same_Some _ _ (sym (spelled registry id t first one) ∙ spelled registry id t second two)

pub spelled_reads : SpelledIsRead
spelled_reads registry id t bytes h =
    spelled_is_read registry id t bytes (spelled registry id t bytes h)

pub read_spells : ReadIsSpelled
read_spells registry id t bytes fits e =
    spells registry id t bytes (read_is_spelled registry id t bytes fits e)

pub one_item : OneItem
one_item registry id first second bytes one two = same_Some _
    _ (sym (spelled_reads registry id first bytes one) ∙ spelled_reads registry id second bytes two)

some_of : {A : Type 0} (found : Option A) → IsTrue (is_some found) → (x : A) × (found ≡ Some x)
some_of None some = absurd (false≢true some)
some_of (Some x) some = (x, refl)

-- bytes are read exactly where some item spells them
pub reading_if_spelled : (registry : List DatasetModel) (id : ℕ) (bytes : List ℕ)
    → IsBytes bytes → IsTrue (is_some (reading registry id bytes)) ↔ IsSpelled registry id bytes
reading_if_spelled registry id bytes fits = (
  λ some. let x = some_of (reading registry id bytes) some in
      (x.0, read_spells registry id x.0 bytes fits x.1),
  λ value. rw (spelled_reads registry id value.0 bytes value.1) refl,
)

-- the test of a dataset other than 0
pub fits_other : (registry : List DatasetModel) (id : ℕ) (bytes : List ℕ) (answer : Bool)
    → (id ≡ 0 → ⊥) → IsBytes bytes → answer ≡ is_some (reading registry id bytes)
    → IsTrue answer ↔ Fits registry id bytes
fits_other registry id bytes answer other fits same =
    let means = reading_if_spelled registry id bytes fits in (
      λ held. inr (means.0 (sym same ∙ held)),
      λ either.
          elim either [ inl nothing ↦ absurd (other nothing) | inr value ↦ same ∙ means.1 value ],
    )

fitting_by : (registry : List DatasetModel) (id : ℕ) (bytes : List ℕ) (b : Bool) → (id == 0) ≡ b
    → IsBytes bytes → IsTrue (b || is_some (reading registry id bytes)) ↔ Fits registry id bytes
fitting_by registry id bytes true test fits = (λ held. inl (eqb-true _ _ test), λ either. refl)
fitting_by registry id bytes false test fits =
    fits_other registry id bytes (is_some (reading registry id bytes))
    (λ nothing. false≢true (sym test ∙ eq-eqb _ _ nothing)) fits refl

pub fitting : FittingIsFit
fitting registry id bytes fits = fitting_by registry id bytes (id == 0) refl fits
