-- Lists, entries and datasets, each way of spelling with its way of reading.
-- For `SpellingLemmas`.
-- By induction on the depth of a dataset, and on its elements.
use Rattle.std.proofs.Common.{◌≡◌, ◌==◌, ℕ, zero, suc, Bool, true, false, cond}
use Rattle.std.proofs.Common.{List, [], ◌∷◌, ◌++◌, Option, Some, None, refl, sym, ap, ◌∙◌}
use Rattle.std.proofs.lemmas.Option.{none-some, same_Some, some_pair_parts}
use Rattle.std.proofs.lemmas.List.{append-nil}
use Rattle.trdp_dataset.specs.declared.element.Form.{Form}
use Rattle.trdp_dataset.specs.declared.element.Element.{Element}
use Rattle.trdp_dataset.specs.Elements.{form_of}
use Rattle.trdp_dataset.specs.Datasets.{DatasetModel, elements_of}
use Rattle.trdp_marshal.specs.Items.{ItemModel, ItemModels, unsigned, signed, time48}
use Rattle.trdp_marshal.specs.Items.{time64, list, none, more, told_count, array_length}
use Rattle.trdp_marshal.specs.Spelling.{Speller, joined, form_spelling, repeated_spelling}
use Rattle.trdp_marshal.specs.Spelling.{list_spelling, entry_spelling, entries_spelling}
use Rattle.trdp_marshal.specs.Spelling.{elements_spelling, dataset_spelling, spelling}
use Rattle.trdp_marshal.specs.Reading.{Reader, form_at, repeated_at, list_at, element_at}
use Rattle.trdp_marshal.specs.Reading.{entries_at, elements_at, dataset_at, whole, reading}
use Rattle.trdp_marshal.specs.Numbers.{IsBytes}
use Rattle.trdp_marshal.proofs.CodecLemmas.{Takes, IsCodec, made_codec, pair_codec, form_codec}

-- exactly k values
repeated_same :
    (spell : Speller ItemModel) (k : ℕ) (t : ItemModel) (ts : ItemModels) (text : List ℕ)
    → joined (spell t) (repeated_spelling spell k ts) ≡ Some text
    → repeated_spelling spell (suc k) (more t ts) ≡ Some text
unfolding repeated_spelling
repeated_same spell k t ts text e = e

repeated_only : (spell : Speller ItemModel) (k : ℕ) (all : ItemModels) (text : List ℕ)
    → repeated_spelling spell (suc k) all ≡ Some text
    → (t : ItemModel) × (ts : ItemModels) × (all ≡ more t ts)
    × (joined (spell t) (repeated_spelling spell k ts) ≡ Some text)
unfolding repeated_spelling
repeated_only spell k none text e = absurd (none-some text e)
repeated_only spell k (more t ts) text e = (t, ts, refl, e)

nothing_again : (spell : Speller ItemModel) (read : Reader ItemModel)
    (all : ItemModels) (text rest : List ℕ) → repeated_spelling spell zero all ≡ Some text
    → repeated_at read zero (text ++ rest) ≡ Some (all, rest)
unfolding repeated_spelling repeated_at
nothing_again spell read none text rest e =
    ap (λ (x : List ℕ). Some (none, x ++ rest)) (sym (same_Some _ _ e))
nothing_again spell read (more t ts) text rest e = absurd (none-some text e)

nothing_takes : (spell : Speller ItemModel) (read : Reader ItemModel) (bytes : List ℕ)
    (all : ItemModels) (rest : List ℕ) → repeated_at read zero bytes ≡ Some (all, rest)
    → Takes (repeated_spelling spell zero) all bytes rest
unfolding repeated_spelling repeated_at
nothing_takes spell read bytes all rest e =
    let parts = some_pair_parts _ _ _ _ e in
    record { text = []; spelled = ap (repeated_spelling spell zero) (sym parts.0); all = parts.1 }

pub repeated_codec : (spell : Speller ItemModel) (read : Reader ItemModel)
    → IsCodec spell read → (k : ℕ) → IsCodec (repeated_spelling spell k) (repeated_at read k)
unfolding repeated_at
repeated_codec spell read codec zero = record {
  again = nothing_again spell read;
  takes = λ bytes all rest fits e. nothing_takes spell read bytes all rest e;
}
repeated_codec spell read codec (suc k) =
    pair_codec spell read (λ _. repeated_spelling spell k)
    (λ _. repeated_at read k) more (repeated_spelling spell (suc k)) codec
    (λ _. repeated_codec spell read codec k) (repeated_same spell k) (repeated_only spell k)

list_same : (spell : Speller ItemModel) (k : ℕ) (ts : ItemModels) (text : List ℕ)
    → repeated_spelling spell k ts ≡ Some text → list_spelling spell k (list ts) ≡ Some text
unfolding list_spelling
list_same spell k ts text e = e

list_only : (spell : Speller ItemModel) (k : ℕ) (t : ItemModel) (text : List ℕ)
    → list_spelling spell k t ≡ Some text → (ts : ItemModels)
    × (t ≡ list ts) × (repeated_spelling spell k ts ≡ Some text)
unfolding list_spelling
list_only spell k (unsigned n) text e = absurd (none-some text e)
list_only spell k (signed z) text e = absurd (none-some text e)
list_only spell k (time48 s u) text e = absurd (none-some text e)
list_only spell k (time64 s u) text e = absurd (none-some text e)
list_only spell k (list ts) text e = (ts, refl, e)

pub list_codec : (spell : Speller ItemModel) (read : Reader ItemModel)
    → IsCodec spell read → (k : ℕ) → IsCodec (list_spelling spell k) (list_at read k)
unfolding list_at
list_codec spell read codec k =
    made_codec (repeated_spelling spell k) (repeated_at read k) list (list_spelling spell k)
    (repeated_codec spell read codec k) (list_same spell k) (list_only spell k)

-- one of two ways, by a test
either_codec : {A : Type 0} (b : Bool) (spell other : A → Option (List ℕ))
    (read other_read : List ℕ → Option (A × List ℕ)) → IsCodec spell read → IsCodec other other_read
    → IsCodec (λ t. cond b (spell t) (other t)) (λ bytes. cond b (read bytes) (other_read bytes))
either_codec true spell other read other_read first second = first
either_codec false spell other read other_read first second = second

pub entry_codec : (spell : Speller ItemModel) (read : Reader ItemModel) → IsCodec spell read
    → (size count : ℕ) → IsCodec (entry_spelling spell size count) (element_at read size count)
unfolding entry_spelling element_at
entry_codec spell read codec size count =
    either_codec (size == 1) spell (list_spelling spell (array_length size count)) read
    (list_at read
    (array_length size count)) codec (list_codec spell read codec (array_length size count))

-- the entries of elements
entries_same : (spell : Form → Speller ItemModel)
    (e : Element) (es : List Element) (count : ℕ) (t : ItemModel) (ts : ItemModels) (text : List ℕ)
    → joined (entry_spelling (spell (form_of e.kind)) e.size count t)
    (entries_spelling spell es (told_count t) ts) ≡ Some text
    → entries_spelling spell (e ∷ es) count (more t ts) ≡ Some text
unfolding entries_spelling
entries_same spell e es count t ts text h = h

entries_only : (spell : Form → Speller ItemModel) (e : Element) (es : List Element) (count : ℕ)
    (all : ItemModels) (text : List ℕ) → entries_spelling spell (e ∷ es) count all ≡ Some text
    → (t : ItemModel) × (ts : ItemModels) × (all ≡ more t ts)
    × (joined (entry_spelling (spell (form_of e.kind)) e.size count t)
    (entries_spelling spell es (told_count t) ts) ≡ Some text)
unfolding entries_spelling
entries_only spell e es count none text h = absurd (none-some text h)
entries_only spell e es count (more t ts) text h = (t, ts, refl, h)

no_entries_again : (spell : Form → Speller ItemModel) (read : Form → Reader ItemModel)
    (count : ℕ) (all : ItemModels) (text rest : List ℕ) → entries_spelling spell [] count all
    ≡ Some text → entries_at read [] count (text ++ rest) ≡ Some (all, rest)
unfolding entries_spelling entries_at
no_entries_again spell read count none text rest e =
    ap (λ (x : List ℕ). Some (none, x ++ rest)) (sym (same_Some _ _ e))
no_entries_again spell read count (more t ts) text rest e = absurd (none-some text e)

no_entries_takes : (spell : Form → Speller ItemModel) (read : Form → Reader ItemModel)
    (count : ℕ) (bytes : List ℕ) (all : ItemModels) (rest : List ℕ) → entries_at read [] count bytes
    ≡ Some (all, rest) → Takes (entries_spelling spell [] count) all bytes rest
unfolding entries_spelling entries_at
no_entries_takes spell read count bytes all rest e =
    let parts = some_pair_parts _ _ _ _ e in
    record {
      text = [];
      spelled = ap (entries_spelling spell [] count) (sym parts.0);
      all = parts.1;
    }

pub entries_codec : (spell : Form → Speller ItemModel) (read : Form → Reader ItemModel)
    → ((form : Form) → IsCodec (spell form) (read form))
    → (es : List Element) (count : ℕ)
    → IsCodec (entries_spelling spell es count) (entries_at read es count)
unfolding entries_at
entries_codec spell read codec [] count = record {
  again = no_entries_again spell read count;
  takes = λ bytes all rest fits e. no_entries_takes spell read count bytes all rest e;
}
entries_codec spell read codec (e ∷ es) count =
    pair_codec (entry_spelling (spell (form_of e.kind)) e.size count)
    (element_at (read (form_of e.kind)) e.size count)
    (λ t. entries_spelling spell es (told_count t))
    (λ t. entries_at read es (told_count t)) more (entries_spelling spell (e ∷ es) count)
    (entry_codec (spell (form_of e.kind)) (read (form_of e.kind))
    (codec (form_of e.kind)) e.size count) (λ t. entries_codec spell read codec es (told_count t))
    (entries_same spell e es count) (entries_only spell e es count)

elements_same : (spell : Form → Speller ItemModel) (es : List Element)
    (ts : ItemModels) (text : List ℕ) → entries_spelling spell es 0 ts ≡ Some text
    → elements_spelling spell (Some es) (list ts) ≡ Some text
unfolding elements_spelling
elements_same spell es ts text e = e

elements_only : (spell : Form → Speller ItemModel) (es : List Element)
    (t : ItemModel) (text : List ℕ) → elements_spelling spell (Some es) t ≡ Some text
    → (ts : ItemModels) × (t ≡ list ts) × (entries_spelling spell es 0 ts ≡ Some text)
unfolding elements_spelling
elements_only spell es (unsigned n) text e = absurd (none-some text e)
elements_only spell es (signed z) text e = absurd (none-some text e)
elements_only spell es (time48 s u) text e = absurd (none-some text e)
elements_only spell es (time64 s u) text e = absurd (none-some text e)
elements_only spell es (list ts) text e = (ts, refl, e)

-- nothing is spelled, and nothing is read
unknown_codec : {A : Type 0} → IsCodec {A = A} (λ _. None) (λ _. None)
unknown_codec {A} = record {
  again = λ a text rest e. absurd (none-some text e);
  takes = λ bytes a rest fits e. absurd (none-some (a, rest) e);
}

pub elements_codec : (spell : Form → Speller ItemModel) (read : Form → Reader ItemModel)
    → ((form : Form) → IsCodec (spell form) (read form))
    → (found : Option (List Element))
    → IsCodec (elements_spelling spell found) (elements_at read found)
unfolding elements_spelling elements_at
elements_codec spell read codec None = unknown_codec
elements_codec spell read codec (Some es) =
    made_codec (entries_spelling spell es 0) (entries_at read es 0)
    list (elements_spelling spell (Some es))
    (entries_codec spell read codec es 0) (elements_same spell es) (elements_only spell es)

pub dataset_codec : (registry : List DatasetModel) (depth id : ℕ)
    → IsCodec (dataset_spelling registry depth id) (dataset_at registry depth id)
unfolding dataset_spelling dataset_at
dataset_codec registry zero id = unknown_codec
dataset_codec registry (suc depth) id =
    elements_codec (form_spelling (dataset_spelling registry depth))
    (form_at (dataset_at registry depth)) (form_codec (dataset_spelling registry depth)
    (dataset_at registry depth) (dataset_codec registry depth)) (elements_of registry id)

whole_some : (found : Option (ItemModel × List ℕ)) (t : ItemModel)
    → whole found ≡ Some t → found ≡ Some (t, [])
whole_some None t e = absurd (none-some t e)
whole_some (Some (u, [])) t e = ap (λ (x : ItemModel). Some (x, [])) (same_Some _ _ e)
whole_some (Some (u, (b ∷ bs))) t e = absurd (none-some t e)

-- what is spelled is read
pub spelled_is_read : (registry : List DatasetModel) (id : ℕ) (t : ItemModel) (bytes : List ℕ)
    → spelling registry id t ≡ Some bytes → reading registry id bytes ≡ Some t
unfolding spelling reading
spelled_is_read registry id t bytes e =
    let found : dataset_at registry 5 id bytes ≡ Some (t, []) =
    ap (dataset_at registry 5 id) (sym (append-nil bytes))
    ∙ (dataset_codec registry 5 id).again t bytes [] e in
    ap whole found

-- what is read is spelled so
pub read_is_spelled : (registry : List DatasetModel) (id : ℕ) (t : ItemModel) (bytes : List ℕ)
    → IsBytes bytes → reading registry id bytes ≡ Some t → spelling registry id t ≡ Some bytes
unfolding spelling reading
read_is_spelled registry id t bytes fits e =
    let takes = (dataset_codec registry 5 id).takes bytes t [] fits (whole_some _ t e) in
    takes.spelled ∙ ap (λ (x : List ℕ). Some x) (sym (append-nil takes.text) ∙ sym takes.all)
