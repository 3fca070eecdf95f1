-- One turn of each loop that skips values.
-- For `skip`, `read_count` and `fits_dataset`.
-- By: what is made of a value has the same bytes as the value.
use Rattle.std.proofs.Common.{◌≡◌, true, false, add-one, drop-cons, ne_eqb, eqb-true}
use Rattle.std.proofs.Common.{Bool, cond, ◌≢◌, ◌<◌, ◌≤◌, ◌+◌, ◌-◌, ◌==◌, ◌&&◌, not}
use Rattle.std.proofs.Common.{◌||◌, ℕ, zero, suc, List, [], ◌∷◌, Option, Some, None}
use Rattle.std.proofs.Common.{length, drop, get_or, refl, sym, ap, ◌∙◌, arith}
use Rattle.std.specs.Prelude.{option_map, is_some}
use Rattle.std.specs.Option.{IsSome}
use Rattle.std.proofs.lemmas.Bool.{false≢true, and_parts}
use Rattle.std.proofs.lemmas.List.{drop_all}
use Rattle.std.proofs.lemmas.Option.{none-some, some_pair_parts, same_Some}
use Rattle.trdp_dataset.specs.declared.element.Width.{Width}
use Rattle.trdp_dataset.specs.declared.element.Form.{Form}
use Rattle.trdp_dataset.specs.declared.element.Form.TheVariants.{Unsigned, Nested}
use Rattle.trdp_dataset.specs.declared.element.Element.{Element}
use Rattle.trdp_dataset.specs.Elements.{width_len, form_of, is_count}
use Rattle.trdp_dataset.specs.Datasets.{DatasetModel, elements_of, passes, all_pass, all_counted}
use Rattle.trdp_dataset.specs.Depths.{is_within, elements_pass}
use Rattle.trdp_marshal.specs.Items.{ItemModel, ItemModels, unsigned}
use Rattle.trdp_marshal.specs.Items.{list, none, more, told_count, array_length}
use Rattle.trdp_marshal.specs.Lengths.{starts_counted}
use Rattle.trdp_marshal.specs.Spelling.{◌>>=◌}
use Rattle.trdp_marshal.specs.Reading.{Reader, number_at, unsigned_at, form_at}
use Rattle.trdp_marshal.specs.Reading.{repeated_at, list_at, element_at, entries_at}
use Rattle.trdp_marshal.specs.Reading.{elements_at, dataset_at, count_after, skipped, whole}

-- what is made of a value has the same bytes
pub skipped-made : {A B : Type 0} (found : Option (A × List ℕ)) (f : A → B)
    → skipped (found >>= λ x. Some (f x.0, x.1)) ≡ skipped found
skipped-made None f = refl
skipped-made (Some x) f = refl

pub skipped_none : (found : Option (ItemModel × List ℕ))
    → None ≡ count_after found → None ≡ skipped found
skipped_none None e = refl
skipped_none (Some x) e = absurd (none-some _ e)

-- values one after the other
repeated_from :
    (read : Reader ItemModel) (k : ℕ) (found : Option (ItemModel × List ℕ)) (rest : List ℕ)
    → Some rest ≡ skipped found
    → skipped (found >>= λ t. repeated_at read k t.1 >>= λ ts. Some (more t.0 ts.0, ts.1))
    ≡ skipped (repeated_at read k rest)
repeated_from read k None rest e = absurd (none-some rest (sym e))
repeated_from read k (Some t) rest e =
    skipped-made (repeated_at read k t.1) (λ ts. more t.0 ts)
    ∙ ap (λ (bytes : List ℕ). skipped (repeated_at read k bytes)) (sym (same_Some _ _ e))

repeated_nowhere : (read : Reader ItemModel) (k : ℕ) (found : Option (ItemModel × List ℕ))
    → None ≡ skipped found
    → None ≡ skipped (found >>= λ t. repeated_at read k t.1 >>= λ ts. Some (more t.0 ts.0, ts.1))
repeated_nowhere read k None e = refl
repeated_nowhere read k (Some t) e = absurd (none-some _ e)

pub repeated_turn : (read : Reader ItemModel) (count i : ℕ) (bytes rest : List ℕ) → i < count
    → Some rest ≡ skipped (read bytes)
    → skipped (repeated_at read (count - (i + 1)) rest)
    ≡ skipped (repeated_at read (count - i) bytes)
unfolding repeated_at
repeated_turn read count i bytes rest within found =
    let more : count - i ≡ suc (count - (i + 1)) = omega arith in
    sym (ap (λ (k : ℕ). skipped (repeated_at read k bytes)) more
    ∙ repeated_from read (count - (i + 1)) (read bytes) rest found)

pub repeated_halt : (read : Reader ItemModel) (count i : ℕ) (bytes : List ℕ) → i < count
    → None ≡ skipped (read bytes) → None ≡ skipped (repeated_at read (count - i) bytes)
unfolding repeated_at
repeated_halt read count i bytes within found =
    let more : count - i ≡ suc (count - (i + 1)) = omega arith in
    repeated_nowhere read (count - (i + 1)) (read bytes) found
    ∙ sym (ap (λ (k : ℕ). skipped (repeated_at read k bytes)) more)

pub repeated_done : (read : Reader ItemModel) (count i : ℕ) (bytes : List ℕ) → count ≤ i
    → Some bytes ≡ skipped (repeated_at read (count - i) bytes)
unfolding repeated_at
repeated_done read count i bytes past =
    let none : count - i ≡ 0 = omega arith in
    sym (ap (λ (k : ℕ). skipped (repeated_at read k bytes)) none)

-- entries one after the other
entries_from : (read : Form → Reader ItemModel)
    (es : List Element) (found : Option (ItemModel × List ℕ)) (n : ℕ) (rest : List ℕ)
    → Some (n, rest) ≡ count_after found
    → skipped (found >>= λ t. entries_at read es (told_count t.0) t.1
    >>= λ ts. Some (more t.0 ts.0, ts.1)) ≡ skipped (entries_at read es n rest)
entries_from read es None n rest e = absurd (none-some (n, rest) (sym e))
entries_from read es (Some t) n rest e =
    let parts = some_pair_parts _ _ _ _ (sym e) in
    skipped-made (entries_at read es (told_count t.0) t.1) (λ ts. more t.0 ts)
    ∙ ap (λ (m : ℕ). skipped (entries_at read es m t.1)) parts.0
    ∙ ap (λ (bytes : List ℕ). skipped (entries_at read es n bytes)) parts.1

entries_nowhere : (read : Form → Reader ItemModel)
    (es : List Element) (found : Option (ItemModel × List ℕ)) → None ≡ skipped found
    → None ≡ skipped (found >>= λ t. entries_at read es (told_count t.0) t.1
    >>= λ ts. Some (more t.0 ts.0, ts.1))
entries_nowhere read es None e = refl
entries_nowhere read es (Some t) e = absurd (none-some _ e)

-- a count is of use to an array of size 0 alone
entries_uncounted : (read : Form → Reader ItemModel) (es : List Element) (m n : ℕ) (bytes : List ℕ)
    → false ≡ starts_counted es
    → entries_at read es m bytes ≡ entries_at read es n bytes
unfolding entries_at element_at
entries_uncounted read [] m n bytes e = refl
entries_uncounted read (d ∷ es) m n bytes e =
    let test : (d.size == 0) ≡ false = sym e in
    rw test refl

entries_on : (read : Form → Reader ItemModel)
    (es : List Element) (found : Option (ItemModel × List ℕ)) (n : ℕ) (rest : List ℕ)
    → false ≡ starts_counted es → Some rest ≡ skipped found
    → skipped (found >>= λ t. entries_at read es (told_count t.0) t.1
    >>= λ ts. Some (more t.0 ts.0, ts.1)) ≡ skipped (entries_at read es n rest)
entries_on read es None n rest alone e = absurd (none-some rest (sym e))
entries_on read es (Some t) n rest alone e =
    skipped-made (entries_at read es (told_count t.0) t.1) (λ ts. more t.0 ts)
    ∙ ap (λ (found : Option (ItemModels × List ℕ)). skipped found)
    (entries_uncounted read es (told_count t.0) n t.1 alone)
    ∙ ap (λ (bytes : List ℕ). skipped (entries_at read es n bytes)) (sym (same_Some _ _ e))

-- the entry of an element is as many values as it has
once : (read : Reader ItemModel) (bytes : List ℕ)
    → skipped (repeated_at read 1 bytes) ≡ skipped (read bytes)
unfolding repeated_at
once read bytes = skipped-made (read bytes) (λ t. more t none)

entry_by : (read : Reader ItemModel) (size count : ℕ) (bytes : List ℕ) (b : Bool) → (size == 1) ≡ b
    → skipped (cond b (read bytes) (list_at read (array_length size count) bytes))
    ≡ skipped (repeated_at read (array_length size count) bytes)
unfolding list_at
entry_by read size count bytes true one =
    let size_is : size ≡ 1 = eqb-true _ _ one in
    rw size_is (sym (once read bytes))
entry_by read size count bytes false many =
    skipped-made (repeated_at read (array_length size count) bytes) list

pub entry_repeats : (read : Reader ItemModel) (size count : ℕ) (bytes : List ℕ)
    → skipped (element_at read size count bytes)
    ≡ skipped (repeated_at read (array_length size count) bytes)
unfolding element_at
entry_repeats read size count bytes = entry_by read size count bytes (size == 1) refl

pub entry_skipped : (read : Form → Reader ItemModel)
    (form : Form) (e : Element) (count k : ℕ) (bytes : List ℕ) (found : Option (List ℕ))
    → form ≡ form_of e.kind → k ≡ array_length e.size count
    → found ≡ skipped (repeated_at (read form) k bytes)
    → found ≡ skipped (element_at (read (form_of e.kind)) e.size count bytes)
entry_skipped read form e count k bytes found same size is =
    is ∙ ap (λ (f : Form). skipped (repeated_at (read f) k bytes)) same
    ∙ ap (λ (n : ℕ). skipped (repeated_at (read (form_of e.kind)) n bytes)) size
    ∙ sym (entry_repeats (read (form_of e.kind)) e.size count bytes)

-- one element's turn, by its index
module _ (read : Form → Reader ItemModel) (es : List Element)
    (i : ℕ) (d : Element) (count : ℕ) (bytes : List ℕ) where
  here : Element
  here = get_or es i d

  found_here : Option (ItemModel × List ℕ)
  found_here = element_at (read (form_of here.kind)) here.size count bytes

  opened : i < length es → entries_at read (drop i es) count bytes
      ≡ (found_here >>= λ t. entries_at read (drop (i + 1) es) (told_count t.0) t.1
      >>= λ ts. Some (more t.0 ts.0, ts.1))
  unfolding here found_here entries_at
  opened within =
      let split : drop i es ≡ get_or es i d ∷ drop (i + 1) es =
      rw (add-one, drop-cons es i d) refl in
      ap (λ (xs : List Element). entries_at read xs count bytes) split

  pub entries_counted : (n : ℕ) (rest : List ℕ) → i < length es → Some (n, rest)
      ≡ count_after
      (element_at (read (form_of (get_or es i d).kind)) (get_or es i d).size count bytes)
      → skipped (entries_at read (drop (i + 1) es) n rest)
      ≡ skipped (entries_at read (drop i es) count bytes)
  unfolding here found_here
  entries_counted n rest within found =
      sym (ap skipped (opened within) ∙ entries_from read (drop (i + 1) es) found_here n rest found)

  pub entries_turn : (n : ℕ) (rest : List ℕ) → i < length es
      → false ≡ starts_counted (drop (i + 1) es)
      → Some rest ≡ skipped
      (element_at (read (form_of (get_or es i d).kind)) (get_or es i d).size count bytes)
      → skipped (entries_at read (drop (i + 1) es) n rest)
      ≡ skipped (entries_at read (drop i es) count bytes)
  unfolding here found_here
  entries_turn n rest within alone found = sym (ap skipped (opened within)
      ∙ entries_on read (drop (i + 1) es) found_here n rest alone found)

  pub entries_halt : i < length es → None
      ≡ skipped (element_at (read (form_of (get_or es i d).kind)) (get_or es i d).size count bytes)
      → None ≡ skipped (entries_at read (drop i es) count bytes)
  unfolding here found_here
  entries_halt within found = entries_nowhere read (drop (i + 1) es) found_here found
      ∙ sym (ap skipped (opened within))

pub entries_done : (read : Form → Reader ItemModel)
    (es : List Element) (i : ℕ) (count : ℕ) (bytes : List ℕ) → length es ≤ i
    → Some bytes ≡ skipped (entries_at read (drop i es) count bytes)
unfolding entries_at
entries_done read es i count bytes past =
    sym (ap (λ (xs : List Element). skipped (entries_at read xs count bytes)) (drop_all i es past))

-- what is known of one of the elements
pub pass_at : (test : ℕ → Bool) (es : List Element) (i : ℕ) (d : Element)
    → all_pass test es ≡ true → i < length es
    → passes test (form_of (get_or es i d).kind) ≡ true
pass_at test [] i d all within = absurd (omega arith)
pass_at test (e ∷ es) zero d all within = (and_parts _ _ all).0
pass_at test (e ∷ es) (suc i) d all within = pass_at test es i d (and_parts _ _ all).1 (omega arith)

counts_if : (zero counts after : Bool) → (not zero || counts) && after ≡ true
    → zero ≡ true → counts ≡ true
counts_if true true after all e = refl
counts_if true false after all e = absurd (false≢true all)
counts_if false counts after all e = absurd (false≢true e)

counts_next : (e : Element) (es : List Element)
    → all_counted (is_count e) es ≡ true → starts_counted es ≡ true → is_count e ≡ true
counts_next e [] all starts = absurd (false≢true starts)
counts_next e (f ∷ es) all starts =
    counts_if (f.size == 0) (is_count e) (all_counted (is_count f) es) all starts

-- an element before an array of size 0 counts its items
pub counts_at : (b : Bool) (es : List Element) (i : ℕ) (d : Element)
    → all_counted b es ≡ true → i < length es
    → starts_counted (drop (i + 1) es) ≡ true → is_count (get_or es i d) ≡ true
counts_at b [] i d all within starts = absurd (omega arith)
counts_at b (e ∷ es) zero d all within starts = counts_next e es (and_parts _ _ all).1 starts
counts_at b (e ∷ es) (suc i) d all within starts =
    let next : suc i + 1 ≡ suc (i + 1) = omega arith in
    let later = sym (ap (λ (n : ℕ). starts_counted (drop n (e ∷ es))) next) ∙ starts in
    counts_at (is_count e) es i d (and_parts _ _ all).1 (omega arith) later

-- a dataset of a depth that isn't 0
pub dataset_at-below : (registry : List DatasetModel) (depth id : ℕ) (bytes : List ℕ) → depth ≢ 0
    → dataset_at registry depth id bytes
    ≡ elements_at (form_at (dataset_at registry (depth - 1))) (elements_of registry id) bytes
unfolding dataset_at
dataset_at-below registry zero id bytes some = absurd (some refl)
dataset_at-below registry (suc depth) id bytes some =
    let e : depth ≡ suc depth - 1 = omega arith in
    ap (λ (d : ℕ). elements_at (form_at (dataset_at registry d)) (elements_of registry id) bytes) e

elements_skipped : (read : Form → Reader ItemModel) (es : List Element) (bytes : List ℕ)
    → skipped (elements_at read (Some es) bytes) ≡ skipped (entries_at read es 0 bytes)
unfolding elements_at
elements_skipped read es bytes = skipped-made (entries_at read es 0 bytes) list

pub dataset_skipped :
    (registry : List DatasetModel) (depth id : ℕ) (bytes : List ℕ) (es : List Element) → 1 ≤ depth
    → elements_of registry id ≡ Some es
    → skipped (dataset_at registry depth id bytes)
    ≡ skipped (entries_at (form_at (dataset_at registry (depth - 1))) es 0 bytes)
dataset_skipped registry depth id bytes es some known =
    ap skipped (dataset_at-below registry depth id bytes (λ e. omega (arith, some, e)))
    ∙ ap (λ (found : Option (List Element)).
    skipped (elements_at (form_at (dataset_at registry (depth - 1))) found bytes)) known
    ∙ elements_skipped (form_at (dataset_at registry (depth - 1))) es bytes

-- what a depth says
known_by : (test : ℕ → Bool) (found : Option (List Element))
    → elements_pass test found ≡ true → is_some found ≡ true
known_by test None deep = absurd (false≢true deep)
known_by test (Some es) deep = refl

pub within_some : (registry : List DatasetModel) (depth id : ℕ)
    → is_within registry depth id ≡ true → 1 ≤ depth
unfolding is_within
within_some registry zero id deep = absurd (false≢true deep)
within_some registry (suc depth) id deep = omega arith

pub within_known : (registry : List DatasetModel) (depth id : ℕ)
    → is_within registry depth id ≡ true → is_some (elements_of registry id) ≡ true
unfolding is_within
within_known registry zero id deep = absurd (false≢true deep)
within_known registry (suc depth) id deep =
    known_by (is_within registry depth) (elements_of registry id) deep

pub within_below : (registry : List DatasetModel) (depth id : ℕ) (es : List Element)
    → is_within registry depth id ≡ true
    → elements_of registry id ≡ Some es → all_pass (is_within registry (depth - 1)) es ≡ true
unfolding is_within
within_below registry zero id es deep known = absurd (false≢true deep)
within_below registry (suc depth) id es deep known =
    let e : suc depth - 1 ≡ depth = omega arith in
    ap (λ (d : ℕ). all_pass (is_within registry d) es) e
    ∙ sym (ap (elements_pass (is_within registry depth)) known) ∙ deep

-- an element that counts items is a single number
number_counted : (found : Option (ℕ × List ℕ))
    → found ≡ count_after (found >>= λ n. Some (unsigned n.0, n.1))
number_counted None = refl
number_counted (Some x) = refl

pub count_read : (nested : ℕ → Reader ItemModel) (e : Element)
    (form : Form) (w : Width) (k count : ℕ) (bytes : List ℕ) (found : Option (ℕ × List ℕ))
    → is_count e ≡ true → form ≡ form_of e.kind
    → form ≡ Unsigned w → k ≡ width_len w → found ≡ number_at k bytes
    → found ≡ count_after (element_at (form_at nested (form_of e.kind)) e.size count bytes)
unfolding element_at form_at unsigned_at
count_read nested e form w k count bytes found counts same is size read =
    let test : (e.size == 1) ≡ true = (and_parts _ _ counts).0 in
    let kind : form_of e.kind ≡ Unsigned w = sym same ∙ is in
    read ∙ ap (λ (n : ℕ). number_at n bytes) size
    ∙ rw (test, kind) (number_counted (number_at (width_len w) bytes))

-- values of a nested dataset
pub nested_repeated : (nested : ℕ → Reader ItemModel) (form : Form) (id k : ℕ) (bytes : List ℕ)
    → form ≡ Nested id
    → skipped (repeated_at (nested id) k bytes)
    ≡ skipped (repeated_at (form_at nested form) k bytes)
unfolding form_at
nested_repeated nested form id k bytes is =
    sym (ap (λ (f : Form). skipped (repeated_at (form_at nested f) k bytes)) is)

-- what is seen of a value that is there
pub some_seen : {A B : Type 0} (see : A → B) (found : Option A) (seen : Option B)
    → option_map see found ≡ seen → is_some seen ≡ true
    → IsSome found
some_seen see None seen e some = absurd (false≢true (ap is_some e ∙ some))
some_seen see (Some x) seen e some = refl

pub read_unknown : (registry : List DatasetModel) (depth id : ℕ) (bytes : List ℕ)
    → elements_of registry id ≡ None
    → None ≡ skipped (dataset_at registry depth id bytes)
unfolding dataset_at elements_at
read_unknown registry zero id bytes e = refl
read_unknown registry (suc depth) id bytes e =
    sym (ap (λ (found : Option (List Element)).
    skipped (elements_at (form_at (dataset_at registry depth)) found bytes)) e)

-- all bytes are read
pub whole_taken : (found : Option (ItemModel × List ℕ)) (rest : List ℕ)
    → Some rest ≡ skipped found → is_some (whole found) ≡ (length rest == 0)
whole_taken None rest e = absurd (none-some _ (sym e))
whole_taken (Some (t, [])) rest e = let left : rest ≡ [] = same_Some _ _ e in rw left refl
whole_taken (Some (t, (b ∷ bs))) rest e = let left : rest ≡ b ∷ bs = same_Some _ _ e in
    rw left (sym (ne_eqb _ _ (omega arith)))

pub whole_nowhere : (found : Option (ItemModel × List ℕ))
    → None ≡ skipped found → false ≡ is_some (whole found)
whole_nowhere None e = refl
whole_nowhere (Some x) e = absurd (none-some _ e)
