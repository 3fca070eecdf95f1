-- One turn of each loop that builds a list of items.
-- For `read`, which makes an item of bytes.
-- By: what is read is what was read so far, and then what the bytes that are left are read as.
use Rattle.std.proofs.Common.{◌≡◌, subst, true, false, add-one, drop-cons, eq-eqb, ne_eqb, ◌≢◌, ◌<◌}
use Rattle.std.proofs.Common.{◌≤◌, ◌+◌, ◌-◌, ◌==◌, ℕ, suc, List, [], ◌∷◌, ◌++◌, Option, Some, None}
use Rattle.std.proofs.Common.{Result, Ok, Err, length, drop, get_or, refl, sym, ap, ◌∙◌, arith}
use Rattle.std.specs.Prelude.{map}
use Rattle.std.proofs.lemmas.List.{drop_all}
use Rattle.trdp_marshal.specs.declared.fault.MarshalFault.{MarshalFault}
use Rattle.trdp_marshal.specs.declared.fault.MarshalFault.TheVariants.{NoDataset, Shape}
use Rattle.trdp_marshal.specs.declared.fault.MarshalFault.TheVariants.{TooLong, OutOfMemory}
use Rattle.trdp_marshal.specs.declared.item.Item.{Item}
use Rattle.trdp_dataset.specs.declared.element.Form.{Form}
use Rattle.trdp_dataset.specs.declared.element.Element.{Element}
use Rattle.trdp_dataset.specs.Elements.{form_of}
use Rattle.trdp_dataset.specs.Datasets.{DatasetModel, elements_of}
use Rattle.trdp_marshal.specs.Items.{ItemModel, ItemModels, list, none, more, model_of}
use Rattle.trdp_marshal.specs.Items.{models_of, models_in, told_count, array_length}
use Rattle.trdp_marshal.specs.Spelling.{◌>>=◌}
use Rattle.trdp_marshal.specs.Reading.{Reader, form_at, repeated_at, list_at}
use Rattle.trdp_marshal.specs.Reading.{element_at, entries_at, elements_at, dataset_at}
use Rattle.std.specs.Result.{IsErrAnd}
use Rattle.trdp_marshal.specs.Faults.{Fails, GivesFound}
use Rattle.trdp_marshal.proofs.SkipLemmas.{dataset_at-below}

-- a fault of a part is a fault of the whole
pub fails_on : {A B : Type 0} (fault : MarshalFault) (part : Option A) (all : Option B)
    → Fails fault part → (part ≡ None → all ≡ None) → Fails fault all
fails_on NoDataset part all fails why = fails
fails_on Shape part all fails why = why fails
fails_on TooLong part all fails why = fails
fails_on OutOfMemory part all fails why = fails

-- these, and then those
abbrev pub before : List ItemModel → ItemModels → ItemModels
before [] rest = rest
before (t ∷ ts) rest = more t (before ts rest)

abbrev pub with_front : List Item → Option (ItemModels × List ℕ) → Option (ItemModels × List ℕ)
with_front items found = found >>= λ x. Some (before (map model_of items) x.0, x.1)

before-none : (ts : List ItemModel) → before ts none ≡ models_of ts
before-none [] = refl
before-none (t ∷ ts) = ap (λ (x : ItemModels). more t x) (before-none ts)

before-append : (items : List Item) (item : Item) (rest : ItemModels)
    → before (map model_of (items ++ item ∷ [])) rest
    ≡ before (map model_of items) (more (model_of item) rest)
before-append [] item rest = refl
before-append (x ∷ items) item rest =
    ap (λ (y : ItemModels). more (model_of x) y) (before-append items item rest)

with_front-none : (found : Option (ItemModels × List ℕ)) → with_front [] found ≡ found
with_front-none None = refl
with_front-none (Some x) = refl

with_front-append : (items : List Item) (item : Item) (found : Option (ItemModels × List ℕ))
    → with_front (items ++ item ∷ []) found
    ≡ with_front items (found >>= λ x. Some (more (model_of item) x.0, x.1))
with_front-append items item None = refl
with_front-append items item (Some x) =
    ap (λ (y : ItemModels). Some (y, x.1)) (before-append items item x.0)

repeated_begun : (read : Reader ItemModel) (j k : ℕ) (bytes : List ℕ)
    (t : ItemModel) (rest : List ℕ) → j ≡ suc k → read bytes ≡ Some (t, rest)
    → repeated_at read j bytes ≡ (repeated_at read k rest >>= λ x. Some (more t x.0, x.1))
unfolding repeated_at
repeated_begun read j k bytes t rest e found =
    ap (λ (i : ℕ). repeated_at read i bytes) e ∙ ap (λ (o : Option (ItemModel × List ℕ)). o
    >>= λ t. repeated_at read k t.1 >>= λ ts. Some (more t.0 ts.0, ts.1)) found

repeated_none : (read : Reader ItemModel) (j k : ℕ) (bytes : List ℕ)
    → j ≡ suc k → read bytes ≡ None → repeated_at read j bytes ≡ None
unfolding repeated_at
repeated_none read j k bytes e found =
    ap (λ (i : ℕ). repeated_at read i bytes) e ∙ ap (λ (o : Option (ItemModel × List ℕ)). o
    >>= λ t. repeated_at read k t.1 >>= λ ts. Some (more t.0 ts.0, ts.1)) found

repeated_empty : (read : Reader ItemModel) (bytes : List ℕ)
    → repeated_at read 0 bytes ≡ Some (none, bytes)
unfolding repeated_at
repeated_empty read bytes = refl

pub repeated_builds : (read : Reader ItemModel)
    (count i : ℕ) (bytes : List ℕ) (item : Item) (rest : List ℕ) (items pushed : List Item)
    → i < count → read bytes ≡ Some (model_of item, rest) → pushed ≡ items ++ item ∷ []
    → with_front pushed (repeated_at read (count - (i + 1)) rest)
    ≡ with_front items (repeated_at read (count - i) bytes)
repeated_builds read count i bytes item rest items pushed within found push =
    ap (λ (v : List Item). with_front v (repeated_at read (count - (i + 1)) rest)) push
    ∙ with_front-append items item (repeated_at read (count - (i + 1)) rest)
    ∙ ap (with_front items) (sym (repeated_begun read
    (count - i) (count - (i + 1)) bytes (model_of item) rest (omega arith) found))

pub repeated_fails : (read : Reader ItemModel) (count i : ℕ) (bytes : List ℕ)
    (items : List Item) (all : Option (ItemModels × List ℕ)) (fault : MarshalFault) → i < count
    → with_front items (repeated_at read (count - i) bytes) ≡ all
    → Fails fault (read bytes) → Fails fault all
repeated_fails read count i bytes items all fault within same fails =
    fails_on fault (read bytes) all fails (λ e. sym same ∙ ap (with_front items)
    (repeated_none read (count - i) (count - (i + 1)) bytes (omega arith) e))

pub repeated_built : (read : Reader ItemModel) (count i : ℕ) (bytes : List ℕ) (items : List Item)
    → count ≤ i
    → with_front items (repeated_at read (count - i) bytes) ≡ Some (models_in items, bytes)
repeated_built read count i bytes items past =
    let e : count - i ≡ 0 = omega arith in
    ap (λ (k : ℕ). with_front items (repeated_at read k bytes)) e
    ∙ ap (with_front items) (repeated_empty read bytes)
    ∙ ap (λ (x : ItemModels). Some (x, bytes)) (before-none (map model_of items))

entries_begun : (read : Form → Reader ItemModel) (all es : List Element)
    (e : Element) (count : ℕ) (bytes : List ℕ) (t : ItemModel) (rest : List ℕ)
    → all ≡ e ∷ es → element_at (read (form_of e.kind)) e.size count bytes ≡ Some (t, rest)
    → entries_at read all count bytes
    ≡ (entries_at read es (told_count t) rest >>= λ x. Some (more t x.0, x.1))
unfolding entries_at
entries_begun read all es e count bytes t rest split found =
    ap (λ (xs : List Element). entries_at read xs count bytes) split
    ∙ ap (λ (o : Option (ItemModel × List ℕ)). o
    >>= λ t. entries_at read es (told_count t.0) t.1 >>= λ ts. Some (more t.0 ts.0, ts.1)) found

entries_none : (read : Form → Reader ItemModel) (all es : List Element) (e : Element) (count : ℕ)
    (bytes : List ℕ) → all ≡ e ∷ es → element_at (read (form_of e.kind)) e.size count bytes ≡ None
    → entries_at read all count bytes ≡ None
unfolding entries_at
entries_none read all es e count bytes split found =
    ap (λ (xs : List Element). entries_at read xs count bytes) split
    ∙ ap (λ (o : Option (ItemModel × List ℕ)). o
    >>= λ t. entries_at read es (told_count t.0) t.1 >>= λ ts. Some (more t.0 ts.0, ts.1)) found

entries_empty : (read : Form → Reader ItemModel) (count : ℕ) (bytes : List ℕ)
    → entries_at read [] count bytes ≡ Some (none, bytes)
unfolding entries_at
entries_empty read count bytes = refl

pub entries_build : (read : Form → Reader ItemModel) (es : List Element) (i : ℕ) (d : Element)
    (count : ℕ) (bytes : List ℕ) (item : Item) (n : ℕ) (rest : List ℕ) (items pushed : List Item)
    → i < length es
    → element_at (read (form_of (get_or es i d).kind)) (get_or es i d).size count bytes
    ≡ Some (model_of item, rest) → n ≡ told_count (model_of item) → pushed ≡ items ++ item ∷ []
    → with_front pushed (entries_at read (drop (i + 1) es) n rest)
    ≡ with_front items (entries_at read (drop i es) count bytes)
entries_build read es i d count bytes item n rest items pushed within found number push =
    let split : drop i es ≡ get_or es i d ∷ drop (i + 1) es = rw (add-one, drop-cons es i d) refl in
    ap (λ (v : List Item). with_front v (entries_at read (drop (i + 1) es) n rest)) push
    ∙ ap (λ (m : ℕ). with_front (items ++ item ∷ []) (entries_at read (drop (i + 1) es) m rest))
    number
    ∙ with_front-append items
    item (entries_at read (drop (i + 1) es) (told_count (model_of item)) rest)
    ∙ ap (with_front items) (sym (entries_begun read
    (drop i es) (drop (i + 1) es) (get_or es i d) count bytes (model_of item) rest split found))

pub entries_fail : (read : Form → Reader ItemModel)
    (es : List Element) (i : ℕ) (d : Element) (count : ℕ) (bytes : List ℕ)
    (items : List Item) (all : Option (ItemModels × List ℕ)) (fault : MarshalFault) → i < length es
    → with_front items (entries_at read (drop i es) count bytes) ≡ all → Fails fault
    (element_at (read (form_of (get_or es i d).kind)) (get_or es i d).size count bytes)
    → Fails fault all
entries_fail read es i d count bytes items all fault within same fails =
    let split : drop i es ≡ get_or es i d ∷ drop (i + 1) es = rw (add-one, drop-cons es i d) refl in
    fails_on fault _ all fails (λ e. sym same ∙ ap (with_front items)
    (entries_none read (drop i es) (drop (i + 1) es) (get_or es i d) count bytes split e))

pub entries_built : (read : Form → Reader ItemModel)
    (es : List Element) (i : ℕ) (count : ℕ) (bytes : List ℕ) (items : List Item) → length es ≤ i
    → with_front items (entries_at read (drop i es) count bytes) ≡ Some (models_in items, bytes)
entries_built read es i count bytes items past =
    ap (λ (xs : List Element). with_front items (entries_at read xs count bytes))
    (drop_all i es past) ∙ ap (with_front items) (entries_empty read count bytes)
    ∙ ap (λ (x : ItemModels). Some (x, bytes)) (before-none (map model_of items))

pub entry_single : (read : Form → Reader ItemModel)
    (form : Form) (e : Element) (count : ℕ) (bytes : List ℕ) → form ≡ form_of e.kind
    → e.size ≡ 1 → read form bytes ≡ element_at (read (form_of e.kind)) e.size count bytes
unfolding element_at
entry_single read form e count bytes same one =
    let test : (e.size == 1) ≡ true = eq-eqb _ _ one in
    ap (λ (f : Form). read f bytes) same ∙ rw test refl

pub entry_several :
    (read : Form → Reader ItemModel) (form : Form) (e : Element) (count k : ℕ) (bytes : List ℕ)
    → form ≡ form_of e.kind → e.size ≢ 1 → k ≡ array_length e.size count
    → (repeated_at (read form) k bytes >>= λ ts. Some (list ts.0, ts.1))
    ≡ element_at (read (form_of e.kind)) e.size count bytes
unfolding element_at list_at
entry_several read form e count k bytes same many size =
    let test : (e.size == 1) ≡ false = ne_eqb _ _ many in
    ap (λ (f : Form). repeated_at (read f) k bytes >>= λ ts. Some (list ts.0, ts.1)) same
    ∙ ap (λ (n : ℕ). repeated_at (read (form_of e.kind)) n bytes
    >>= λ ts. Some (list ts.0, ts.1)) size ∙ rw test refl

pub dataset_of_entries : (registry : List DatasetModel) (depth id : ℕ) (bytes : List ℕ)
    (es : List Element) → depth ≢ 0 → elements_of registry id ≡ Some es
    → (entries_at (form_at (dataset_at registry (depth - 1))) es 0 bytes
    >>= λ ts. Some (list ts.0, ts.1)) ≡ dataset_at registry depth id bytes
unfolding elements_at
dataset_of_entries registry depth id bytes es some e =
    sym (dataset_at-below registry depth id bytes some ∙ ap (λ (found : Option (List Element)).
    elements_at (form_at (dataset_at registry (depth - 1))) found bytes) e)

pub dataset_of_none : (registry : List DatasetModel) (depth id : ℕ) (bytes : List ℕ)
    → depth ≢ 0 → elements_of registry id ≡ None → dataset_at registry depth id bytes ≡ None
unfolding elements_at
dataset_of_none registry depth id bytes some e =
    dataset_at-below registry depth id bytes some ∙ ap (λ (found : Option (List Element)).
    elements_at (form_at (dataset_at registry (depth - 1))) found bytes) e

pub dataset_too_deep : (registry : List DatasetModel) (depth id : ℕ) (bytes : List ℕ)
    → depth ≡ 0 → dataset_at registry depth id bytes ≡ None
unfolding dataset_at
dataset_too_deep registry depth id bytes e = ap (λ (d : ℕ). dataset_at registry d id bytes) e

pub listed : (found : Option (ItemModels × List ℕ)) (items : List Item)
    (rest : List ℕ) (all : Option (ItemModel × List ℕ)) → found ≡ Some (models_in items, rest)
    → (found >>= λ ts. Some (list ts.0, ts.1)) ≡ all → all ≡ Some (list (models_in items), rest)
listed found items rest all e same = sym same
    ∙ ap (λ (o : Option (ItemModels × List ℕ)). o >>= λ ts. Some (list ts.0, ts.1)) e

pub unlisted : (fault : MarshalFault) (found : Option (ItemModels × List ℕ))
    (all : Option (ItemModel × List ℕ)) → Fails fault found
    → (found >>= λ ts. Some (list ts.0, ts.1)) ≡ all → Fails fault all
unlisted fault found all fails same = fails_on fault found all fails (λ e. sym same
    ∙ ap (λ (o : Option (ItemModels × List ℕ)). o >>= λ ts. Some (list ts.0, ts.1)) e)

pub begun : (found : Option (ItemModels × List ℕ)) → with_front [] found ≡ found
begun found = with_front-none found

-- the fault of a part, passed on
pub gives_fault : {X Y : Type 0} (view : X → Y) (result : Result X MarshalFault)
    (fault : MarshalFault) (found : Option Y)
    → IsErrAnd result (λ e. e ≡ fault) → Fails fault found → GivesFound view result found
gives_fault view (Ok x) fault found same fails = absurd same
gives_fault view (Err e) fault found same fails =
    subst (λ (f : MarshalFault). Fails f found) (sym same) fails

pub gives_same : {X Y : Type 0} (view : X → Y) (result : Result X MarshalFault)
    (found all : Option Y) → found ≡ all → GivesFound view result found → GivesFound view result all
gives_same {X} {Y} view result found all same gives =
    subst (λ (o : Option Y). GivesFound view result o) same gives
