-- One turn of each loop that adds lengths.
-- For `measure` and `write`.
-- By: the length of a spelling is that of its first part and that of what is left.
use Rattle.std.proofs.Common.{◌≡◌, true, false, add-one, drop-cons, eq-eqb, ne_eqb, ◌≢◌, ◌<◌, ◌≤◌}
use Rattle.std.proofs.Common.{◌+◌, ◌-◌, ◌==◌, ℕ, zero, suc, List, [], ◌∷◌, ◌++◌, Option, Some}
use Rattle.std.proofs.Common.{None, length, drop, get_or, refl, sym, ap, ◌∙◌, arith, length-append}
use Rattle.std.specs.Prelude.{min, option_map}
use Rattle.std.proofs.lemmas.Option.{none-some, same_Some}
use Rattle.std.proofs.lemmas.List.{drop_all}
use Rattle.trdp_marshal.specs.declared.item.Item.{Item}
use Rattle.trdp_dataset.specs.declared.element.Form.{Form}
use Rattle.trdp_dataset.specs.declared.element.Element.{Element}
use Rattle.trdp_dataset.specs.Elements.{form_of}
use Rattle.trdp_dataset.specs.Datasets.{DatasetModel, elements_of}
use Rattle.trdp_marshal.specs.Items.{ItemModel, ItemModels, unsigned, signed, time48, time64, list}
use Rattle.trdp_marshal.specs.Items.{none, model_of, models_in, models_under, told_count}
use Rattle.trdp_marshal.specs.Items.{array_length}
use Rattle.trdp_marshal.specs.Spelling.{Speller, ◌>>=◌, joined, form_spelling}
use Rattle.trdp_marshal.specs.Spelling.{repeated_spelling, list_spelling, entry_spelling}
use Rattle.trdp_marshal.specs.Spelling.{entries_spelling, elements_spelling, dataset_spelling}
use Rattle.trdp_marshal.specs.Lengths.{measured}

-- a length before others
abbrev pub plus : ℕ → Option ℕ → Option ℕ
plus n found = option_map (λ m. min (n + m) 65389) found

plus-zero : (spelled : Option (List ℕ)) → plus 0 (measured spelled) ≡ measured spelled
plus-zero None = refl
plus-zero (Some text) = let e : min (0 + min (length text) 65389) 65389 ≡ min (length text) 65389 =
    omega arith in ap (λ (n : ℕ). Some n) e

plus-joined : (total len sum : ℕ) (first second : Option (List ℕ))
    → Some len ≡ measured first → sum ≡ min (total + len) 65389
    → plus sum (measured second) ≡ plus total (measured (joined first second))
plus-joined total len sum None second e s = absurd (none-some len (sym e))
plus-joined total len sum (Some a) None e s = refl
plus-joined total len sum (Some a) (Some b) e s =
    let short : len ≡ min (length a) 65389 = same_Some _ _ e in
    let both = length-append a b in
    let same : min (sum + min (length b) 65389) 65389
    ≡ min (total + min (length (a ++ b)) 65389) 65389 = omega (arith, both) in
    ap (λ (n : ℕ). Some n) same

joined-none : (total : ℕ) (first second : Option (List ℕ))
    → None ≡ measured first → None ≡ plus total (measured (joined first second))
joined-none total None second e = refl
joined-none total (Some a) second e = absurd (none-some _ e)

later-none : (first : Option (List ℕ)) → joined first None ≡ None
later-none None = refl
later-none (Some a) = refl

repeated_tail : (first second : Option (List ℕ))
    → None ≡ measured second → None ≡ measured (joined first second)
repeated_tail None second e = refl
repeated_tail (Some a) None e = refl
repeated_tail (Some a) (Some b) e = absurd (none-some _ e)

-- a list of another length
pub repeated_differ : (spell : Speller ItemModel) (k : ℕ) (items : List Item)
    → length items ≢ k → None ≡ measured (repeated_spelling spell k (models_in items))
unfolding repeated_spelling
repeated_differ spell zero [] differ = absurd (differ refl)
repeated_differ spell zero (x ∷ items) differ = refl
repeated_differ spell (suc k) [] differ = refl
repeated_differ spell (suc k) (x ∷ items) differ =
    repeated_tail (spell (model_of x)) (repeated_spelling spell k (models_in items))
    (repeated_differ spell k items (λ e. differ (omega arith)))

pub entries_differ :
    (spell : Form → Speller ItemModel) (es : List Element) (count : ℕ) (items : List Item)
    → length es ≢ length items → None ≡ measured (entries_spelling spell es count (models_in items))
unfolding entries_spelling
entries_differ spell [] count [] differ = absurd (differ refl)
entries_differ spell [] count (x ∷ items) differ = refl
entries_differ spell (e ∷ es) count [] differ = refl
entries_differ spell (e ∷ es) count (x ∷ items) differ =
    repeated_tail (entry_spelling (spell (form_of e.kind)) e.size count (model_of x))
    (entries_spelling spell es (told_count (model_of x)) (models_in items))
    (entries_differ spell es (told_count (model_of x)) items (λ h. differ (omega arith)))

repeated_open : (spell : Speller ItemModel) (j k : ℕ) (x : Item) (items : List Item)
    → j ≡ suc k → repeated_spelling spell j (models_in (x ∷ items))
    ≡ joined (spell (model_of x)) (repeated_spelling spell k (models_in items))
unfolding repeated_spelling
repeated_open spell j k x items e =
    ap (λ (i : ℕ). repeated_spelling spell i (models_in (x ∷ items))) e

pub repeated_at_place : (spell : Speller ItemModel) (items : List Item) (k i : ℕ) (x : Item)
    → length items ≡ k → i < length items → x ≡ get_or items i x
    → repeated_spelling spell (k - i) (models_in (drop i items)) ≡ joined (spell (model_of x))
    (repeated_spelling spell (k - (i + 1)) (models_in (drop (i + 1) items)))
repeated_at_place spell items k i x same within is =
    let split : drop i items ≡ get_or items i x ∷ drop (i + 1) items =
    rw (add-one, drop-cons items i x) refl in
    let at : drop i items ≡ x ∷ drop (i + 1) items = split
    ∙ ap (λ (y : Item). y ∷ drop (i + 1) items) (sym is) in
    ap (λ (xs : List Item). repeated_spelling spell (k - i) (models_in xs)) at
    ∙ repeated_open spell (k - i) (k - (i + 1)) x (drop (i + 1) items) (omega arith)

entries_open : (spell : Form → Speller ItemModel)
    (e : Element) (es : List Element) (count : ℕ) (x : Item) (items : List Item)
    → entries_spelling spell (e ∷ es) count (models_in (x ∷ items))
    ≡ joined (entry_spelling (spell (form_of e.kind)) e.size count (model_of x))
    (entries_spelling spell es (told_count (model_of x)) (models_in items))
unfolding entries_spelling
entries_open spell e es count x items = refl

pub entries_at_place : (spell : Form → Speller ItemModel)
    (es : List Element) (items : List Item) (i : ℕ) (d : Element) (count n : ℕ) (x : Item)
    → i < length es → i < length items → x ≡ get_or items i x → n ≡ told_count (model_of x)
    → entries_spelling spell (drop i es) count (models_in (drop i items))
    ≡ joined (entry_spelling (spell (form_of (get_or es i d).kind)) (get_or es i d).size count
    (model_of x)) (entries_spelling spell (drop (i + 1) es) n (models_in (drop (i + 1) items)))
entries_at_place spell es items i d count n x within inside is number =
    let split : drop i items ≡ get_or items i x ∷ drop (i + 1) items =
    rw (add-one, drop-cons items i x) refl in
    let at : drop i items ≡ x ∷ drop (i + 1) items = split
    ∙ ap (λ (y : Item). y ∷ drop (i + 1) items) (sym is) in
    let head : drop i es ≡ get_or es i d ∷ drop (i + 1) es = rw (add-one, drop-cons es i d) refl in
    ap (λ (xs : List Item). entries_spelling spell (drop i es) count (models_in xs)) at
    ∙ ap (λ (fs : List Element).
    entries_spelling spell fs count (models_in (x ∷ drop (i + 1) items))) head
    ∙ entries_open spell (get_or es i d) (drop (i + 1) es) count x (drop (i + 1) items)
    ∙ ap (λ (m : ℕ). joined (entry_spelling (spell (form_of (get_or es i d).kind))
    (get_or es i d).size count (model_of x))
    (entries_spelling spell (drop (i + 1) es) m (models_in (drop (i + 1) items)))) (sym number)

-- the turn of a loop over spellings
pub turned : (total len sum : ℕ) (here first rest : Option (List ℕ))
    → here ≡ joined first rest → Some len ≡ measured first
    → sum ≡ min (total + len) 65389 → plus sum (measured rest) ≡ plus total (measured here)
turned total len sum here first rest e found added =
    plus-joined total len sum first rest found added
    ∙ ap (λ (o : Option (List ℕ)). plus total (measured o)) (sym e)

pub halted : (total : ℕ) (here first rest : Option (List ℕ))
    → here ≡ joined first rest → None ≡ measured first → None ≡ plus total (measured here)
halted total here first rest e found = joined-none total first rest found
    ∙ ap (λ (o : Option (List ℕ)). plus total (measured o)) (sym e)

pub ended : (total : ℕ) (here : Option (List ℕ))
    → here ≡ Some [] → total ≤ 65389 → Some total ≡ plus total (measured here)
ended total here e bound =
    let same : total ≡ min (total + min 0 65389) 65389 = omega arith in
    ap (λ (n : ℕ). Some n) same ∙ ap (λ (o : Option (List ℕ)). plus total (measured o)) (sym e)

pub started : (spelled here : Option (List ℕ))
    → here ≡ spelled → plus 0 (measured here) ≡ measured spelled
started spelled here e = plus-zero here ∙ ap measured e

pub repeated_past : (spell : Speller ItemModel) (items : List Item) (k i : ℕ) → length items ≡ k
    → length items ≤ i → repeated_spelling spell (k - i) (models_in (drop i items)) ≡ Some []
unfolding repeated_spelling
repeated_past spell items k i same past =
    let e : k - i ≡ 0 = omega arith in
    ap (λ (xs : List Item). repeated_spelling spell (k - i) (models_in xs)) (drop_all i items past)
    ∙ ap (λ (j : ℕ). repeated_spelling spell j none) e

pub entries_past : (spell : Form → Speller ItemModel)
    (es : List Element) (items : List Item) (count i : ℕ) → length es ≤ i → length items ≤ i
    → entries_spelling spell (drop i es) count (models_in (drop i items)) ≡ Some []
unfolding entries_spelling
entries_past spell es items count i past over =
    ap (λ (xs : List Item). entries_spelling spell (drop i es) count (models_in xs))
    (drop_all i items over)
    ∙ ap (λ (fs : List Element). entries_spelling spell fs count none) (drop_all i es past)

list_under : (spell : Speller ItemModel) (k : ℕ) (t : ItemModel)
    → list_spelling spell k t ≡ (models_under t >>= λ ts. repeated_spelling spell k ts)
unfolding list_spelling
list_under spell k (unsigned n) = refl
list_under spell k (signed z) = refl
list_under spell k (time48 s u) = refl
list_under spell k (time64 s u) = refl
list_under spell k (list ts) = refl

elements_under : (spell : Form → Speller ItemModel) (es : List Element) (t : ItemModel)
    → elements_spelling spell (Some es) t
    ≡ (models_under t >>= λ ts. entries_spelling spell es 0 ts)
unfolding elements_spelling
elements_under spell es (unsigned n) = refl
elements_under spell es (signed z) = refl
elements_under spell es (time48 s u) = refl
elements_under spell es (time64 s u) = refl
elements_under spell es (list ts) = refl

pub entry_alone : (spell : Form → Speller ItemModel)
    (form : Form) (e : Element) (count : ℕ) (t : ItemModel) → form ≡ form_of e.kind
    → e.size ≡ 1 → spell form t ≡ entry_spelling (spell (form_of e.kind)) e.size count t
unfolding entry_spelling
entry_alone spell form e count t same one =
    let test : (e.size == 1) ≡ true = eq-eqb _ _ one in
    ap (λ (f : Form). spell f t) same ∙ rw test refl

pub entry_listed : (spell : Form → Speller ItemModel)
    (form : Form) (e : Element) (count k : ℕ) (t : ItemModel) (under : Option ItemModels)
    → form ≡ form_of e.kind → e.size ≢ 1 → k ≡ array_length e.size count → under ≡ models_under t
    → (under >>= λ ts. repeated_spelling (spell form) k ts)
    ≡ entry_spelling (spell (form_of e.kind)) e.size count t
unfolding entry_spelling
entry_listed spell form e count k t under same many size is =
    let test : (e.size == 1) ≡ false = ne_eqb _ _ many in
    ap (λ (o : Option ItemModels). o >>= λ ts. repeated_spelling (spell form) k ts) is
    ∙ ap (λ (f : Form). models_under t >>= λ ts. repeated_spelling (spell f) k ts) same
    ∙ ap (λ (n : ℕ). models_under t >>= λ ts. repeated_spelling (spell (form_of e.kind)) n ts) size
    ∙ sym (list_under (spell (form_of e.kind)) (array_length e.size count) t) ∙ rw test refl

pub dataset_spelled : (registry : List DatasetModel) (depth id : ℕ) (t : ItemModel)
    → depth ≢ 0 → dataset_spelling registry depth id t ≡ elements_spelling
    (form_spelling (dataset_spelling registry (depth - 1))) (elements_of registry id) t
unfolding dataset_spelling
dataset_spelled registry zero id t some = absurd (some refl)
dataset_spelled registry (suc depth) id t some =
    let e : depth ≡ suc depth - 1 = omega arith in
    ap (λ (d : ℕ). elements_spelling (form_spelling (dataset_spelling registry d))
    (elements_of registry id) t) e

pub dataset_unspelled : (registry : List DatasetModel) (depth id : ℕ) (t : ItemModel)
    → depth ≡ 0 → None ≡ dataset_spelling registry depth id t
unfolding dataset_spelling
dataset_unspelled registry depth id t e = sym (ap (λ (d : ℕ). dataset_spelling registry d id t) e)

pub dataset_missing : (registry : List DatasetModel) (depth id : ℕ) (t : ItemModel)
    → depth ≢ 0 → None ≡ elements_of registry id → None ≡ dataset_spelling registry depth id t
unfolding elements_spelling
dataset_missing registry depth id t some e =
    sym (dataset_spelled registry depth id t some ∙ ap (λ (o : Option (List Element)).
    elements_spelling (form_spelling (dataset_spelling registry (depth - 1))) o t) (sym e))

pub dataset_listed : (registry : List DatasetModel)
    (depth id : ℕ) (t : ItemModel) (es : List Element) (under : Option ItemModels)
    → depth ≢ 0 → Some es ≡ elements_of registry id → under ≡ models_under t
    → (under >>= λ ts. entries_spelling (form_spelling (dataset_spelling registry (depth - 1))) es
    0 ts) ≡ dataset_spelling registry depth id t
dataset_listed registry depth id t es under some e is =
    ap (λ (o : Option ItemModels). o >>= λ ts.
    entries_spelling (form_spelling (dataset_spelling registry (depth - 1))) es 0 ts) is
    ∙ sym (elements_under (form_spelling (dataset_spelling registry (depth - 1))) es t)
    ∙ sym (dataset_spelled registry depth id t some ∙ ap (λ (o : Option (List Element)).
    elements_spelling (form_spelling (dataset_spelling registry (depth - 1))) o t) (sym e))
