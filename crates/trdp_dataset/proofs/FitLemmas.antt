-- The first fault that is listed of datasets.
-- For `find_all`.
-- By: where no dataset lacks anything, those that are listed are those that are checked, kind by
-- kind, and each kind comes before the next.
use Rattle.std.proofs.Common.{◌≡◌, ◌==◌, ◌&&◌, ◌||◌, not, ℕ, Bool, true, false, cond}
use Rattle.std.proofs.Common.{nat_le, if◌then◌else◌, List, [], ◌∷◌, ◌++◌, map, flat_map}
use Rattle.std.proofs.Common.{find, Option, Some, None, option_map, unwrap_or, IfSome}
use Rattle.std.proofs.Common.{refl, sym, ap, ◌∙◌, arith, lit≤, subst, append_assoc, append-nil}
use Rattle.std.proofs.Common.{eq-eqb}
use Rattle.std.specs.List.{list_all, cons_option}
use Rattle.std.proofs.lemmas.Bool.{and_parts}
use Rattle.toml.specs.Data.{Members}
use Rattle.trdp_dataset.specs.declared.element.Element.{Element}
use Rattle.trdp_dataset.specs.declared.element.Form.{Form}
use Rattle.trdp_dataset.specs.declared.element.Form.TheVariants.{Unsigned, Signed}
use Rattle.trdp_dataset.specs.declared.element.Form.TheVariants.{Time48, Time64, Nested}
use Rattle.trdp_dataset.specs.declared.fault.ConfigFault.{ConfigFault}
use Rattle.trdp_dataset.specs.declared.fault.ConfigFault.TheVariants.{TwiceId, NoDataset, NoCount}
use Rattle.trdp_dataset.specs.declared.fault.ConfigFault.TheVariants.{TooDeep, TooBig}
use Rattle.trdp_dataset.specs.Elements.{form_of, nested_id, is_count}
use Rattle.trdp_dataset.specs.Datasets.{DatasetModel, dataset_by_id, elements_of, is_known, passes}
use Rattle.trdp_dataset.specs.Datasets.{all_counted}
use Rattle.trdp_dataset.specs.Depths.{is_within, elements_pass}
use Rattle.trdp_dataset.specs.ZeroSizes.{form_size, entries_size, dataset_size, zero_size}
use Rattle.trdp_dataset.specs.Limits.{value_limit}
use Rattle.trdp_dataset.specs.Positions.{node_positions, slot_positions}
use Rattle.trdp_dataset.specs.Positions.{dataset_positions, all_positions}
use Rattle.trdp_dataset.specs.Faults.{rank, fault_at, least_of_two, least_fault, before_datasets}
use Rattle.trdp_dataset.specs.Faults.{has_twice, twice_id_in, nested_ids, no_dataset_in}
use Rattle.trdp_dataset.specs.Faults.{no_count_in, too_deep_in, too_big_in, first_fault}
use Rattle.trdp_dataset.specs.Faults.{fit_fault, dataset_fault, fault_in}
use Rattle.trdp_dataset.specs.Configs.{datasets_in, config_fault_of}
use Rattle.trdp_dataset.specs.Findings.{least_of, listed_unless, all_faults}
use Rattle.trdp_dataset.specs.Misfits.{RowModel, file_rows, known_among, row_dataset, added, firsts}
use Rattle.trdp_dataset.specs.Misfits.{twice_at, twices, unknown_nested, missing_of, lacks_count}
use Rattle.trdp_dataset.specs.Misfits.{counts_missing, unfit_of, sound_among}
use Rattle.trdp_dataset.specs.Misfits.{sound_elements, sound_dataset, sound_in, is_shallow}
use Rattle.trdp_dataset.specs.Misfits.{is_short, is_big, deep_of, big_of, known_in, fit_faults, misfits}
use Rattle.trdp_dataset.proofs.LoopLemmas.{first_of_two, second_of_two}
use Rattle.trdp_dataset.proofs.TwiceLemmas.{twice_found, twice_kept, known-cons, false_left}
use Rattle.trdp_dataset.proofs.TwiceLemmas.{false_right}
use Rattle.trdp_dataset.proofs.SingleFaultLemmas.{IsOfPosition, IsLate, least_single, dataset_own}
use Rattle.trdp_dataset.proofs.SingleFaultLemmas.{early, early_first, before_first}
use Rattle.trdp_dataset.proofs.ListedLemmas.{AreFrom, least_append, from_append, from_lower}
use Rattle.trdp_dataset.proofs.ListedLemmas.{from_unless, from_each, least_rank, least_stays}
use Rattle.trdp_dataset.proofs.ListedLemmas.{least_head, least_past, tested}
use Rattle.trdp_dataset.proofs.MemberLemmas.{all_least}
use Rattle.trdp_dataset.proofs.FullLemmas.{late_last, all_last, last_back, full, rows_full}

-- the numbers of the faults that are listed of any datasets
twice_from : (ds : List DatasetModel) (o : Option DatasetModel) → AreFrom 6 (twice_at ds o)
twice_from ds None = tt
twice_from ds (Some d) = from_unless 6 (not (is_known ds d.id)) TwiceId (lit≤ tt)

twices_from : (ds : List DatasetModel) (os : List (Option DatasetModel)) → AreFrom 6 (twices ds os)
twices_from ds [] = tt
twices_from ds (o ∷ os) = from_append 6 (twice_at ds o) (twices (added ds o) os)
    (twice_from ds o) (twices_from (added ds o) os)

missing_from : (known : List DatasetModel) (o : Option ℕ) → AreFrom 7 (unknown_nested known o)
missing_from known None = tt
missing_from known (Some id) = from_unless 7 (is_known known id) (NoDataset id) (lit≤ tt)

missing_of_from : (known : List DatasetModel) (e : Option Element) → AreFrom 7 (missing_of known e)
missing_of_from known None = tt
missing_of_from known (Some e) = missing_from known (nested_id (form_of e.kind))

uncounted_from : (c : Bool) (es : List (Option Element)) → AreFrom 8 (counts_missing c es)
uncounted_from c [] = tt
uncounted_from c (None ∷ es) = uncounted_from true es
uncounted_from c (Some e ∷ es) = from_append 8 (listed_unless (not (lacks_count c e)) NoCount)
    (counts_missing (is_count e) es) (from_unless 8 (not (lacks_count c e)) NoCount (lit≤ tt))
    (uncounted_from (is_count e) es)

unfit_from : (known : List DatasetModel) (row : RowModel) → AreFrom 7 (unfit_of known row)
unfolding unfit_of
unfit_from known row = from_append 7 (flat_map (missing_of known) row.elements)
    (counts_missing false row.elements)
    (from_each 7 (missing_of known) (missing_of_from known) row.elements)
    (from_lower 7 8 (counts_missing false row.elements) (lit≤ tt) (uncounted_from false row.elements))

deep_from : (known sound : List DatasetModel) (row : RowModel) → AreFrom 9 (deep_of known sound row)
unfolding deep_of
deep_from known sound row = from_unless 9 _ TooDeep (lit≤ tt)

big_from : (known sound : List DatasetModel) (row : RowModel) → AreFrom 10 (big_of known sound row)
unfolding big_of
big_from known sound row = from_unless 10 _ TooBig (lit≤ tt)

-- the faults of depths and sizes
abbrev later_faults : List DatasetModel → List DatasetModel → List RowModel → List ConfigFault
later_faults known sound rows =
    flat_map (deep_of known sound) rows ++ flat_map (big_of known sound) rows

bigs_from : (known sound : List DatasetModel) (rows : List RowModel)
    → AreFrom 10 (flat_map (big_of known sound) rows)
bigs_from known sound rows = from_each 10 (big_of known sound) (big_from known sound) rows

later_from : (known sound : List DatasetModel) (rows : List RowModel)
    → AreFrom 9 (later_faults known sound rows)
later_from known sound rows = from_append 9 (flat_map (deep_of known sound) rows)
    (flat_map (big_of known sound) rows)
    (from_each 9 (deep_of known sound) (deep_from known sound) rows)
    (from_lower 9 10 (flat_map (big_of known sound) rows) (lit≤ tt) (bigs_from known sound rows))

fit_from : (known sound : List DatasetModel) (rows : List RowModel)
    → AreFrom 7 (fit_faults known sound rows)
unfolding fit_faults
fit_from known sound rows = from_append 7 (flat_map (unfit_of known) rows)
    (later_faults known sound rows)
    (from_each 7 (unfit_of known) (unfit_from known) rows)
    (from_lower 7 9 (later_faults known sound rows) (lit≤ tt) (later_from known sound rows))

misfits_from : (rows : List RowModel) → AreFrom 6 (misfits rows)
unfolding misfits
misfits_from rows = from_append 6 (twices [] (map row_dataset rows))
    (fit_faults (known_in rows) (sound_in (known_in rows) rows) rows)
    (twices_from [] (map row_dataset rows))
    (from_lower 6 7 (fit_faults (known_in rows) (sound_in (known_in rows) rows) rows) (lit≤ tt)
    (fit_from (known_in rows) (sound_in (known_in rows) rows) rows))

-- datasets that lack nothing
known_full : (es : List Element) → known_among (map (λ e. Some e) es) ≡ es
known_full [] = refl
known_full (e ∷ es) = ap (λ xs. e ∷ xs) (known_full es)

datasets_full : (ds : List DatasetModel) → map row_dataset (map full ds) ≡ map (λ d. Some d) ds
datasets_full [] = refl
datasets_full (d ∷ ds) =
    ap (λ es. Some (record { id = d.id; elements = es }) ∷ map row_dataset (map full ds))
    (known_full d.elements)
    ∙ ap (λ os. Some d ∷ os) (datasets_full ds)

-- an identifier is new where there is none twice
new_id : (old : List DatasetModel) (d : DatasetModel) (ds : List DatasetModel)
    → has_twice (old ++ d ∷ ds) ≡ false → is_known old d.id ≡ false
new_id old d ds once = by (is_known old d.id) refl
  where
    by : (b : Bool) → is_known old d.id ≡ b → is_known old d.id ≡ false
    by true e = let twice = twice_found old d ds e in cc
    by false e = e

twices_once : (old ds : List DatasetModel) → has_twice (old ++ ds) ≡ false
    → twices old (map (λ d. Some d) ds) ≡ []
twices_once old [] once = refl
twices_once old (d ∷ ds) once =
    let new = new_id old d ds once in
    ap (λ b. listed_unless (not b) TwiceId
    ++ twices (if b then old else old ++ d ∷ []) (map (λ x. Some x) ds)) new
    ∙ twices_once (old ++ d ∷ []) ds (ap has_twice (append_assoc old (d ∷ []) ds) ∙ once)

firsts_once : (old ds : List DatasetModel) → has_twice (old ++ ds) ≡ false
    → firsts old (map (λ d. Some d) ds) ≡ old ++ ds
firsts_once old [] once = sym (append-nil old)
firsts_once old (d ∷ ds) once =
    let new = new_id old d ds once in
    ap (λ b. firsts (if b then old else old ++ d ∷ []) (map (λ x. Some x) ds)) new
    ∙ (firsts_once (old ++ d ∷ []) ds (ap has_twice (append_assoc old (d ∷ []) ds) ∙ once)
    ∙ append_assoc old (d ∷ []) ds)

twices_some : (old ds : List DatasetModel) (tail : List ConfigFault) → has_twice old ≡ false
    → has_twice (old ++ ds) ≡ true → AreFrom 6 tail
    → least_of (twices old (map (λ d. Some d) ds) ++ tail) ≡ Some TwiceId
twices_some old [] tail once twice h =
    let no : has_twice old ≡ true = ap has_twice (sym (append-nil old)) ∙ twice in cc
twices_some old (d ∷ ds) tail once twice h = by (is_known old d.id) refl
    (λ new. twices_some (old ++ d ∷ []) ds tail (twice_kept old d once new)
    (ap has_twice (append_assoc old (d ∷ []) ds) ∙ twice) h)
  where
    by : (b : Bool) → is_known old d.id ≡ b
        → (is_known old d.id ≡ false
        → least_of (twices (old ++ d ∷ []) (map (λ x. Some x) ds) ++ tail) ≡ Some TwiceId)
        → least_of ((listed_unless (not b) TwiceId
        ++ twices (if b then old else old ++ d ∷ []) (map (λ x. Some x) ds)) ++ tail)
        ≡ Some TwiceId
    by true e later = least_head TwiceId (twices old (map (λ x. Some x) ds) ++ tail)
        (from_append 6 (twices old (map (λ x. Some x) ds)) tail
        (twices_from old (map (λ x. Some x) ds)) h)
    by false e later = later e

-- the datasets that are nested in elements and aren't there
module _ (known : List DatasetModel) where
  abbrev gone : ℕ → Bool
  gone id = not (is_known known id)

  -- each is there
  missing_none : (es : List Element) → find gone (nested_ids es) ≡ None
      → flat_map (missing_of known) (map (λ e. Some e) es) ≡ []
  missing_none [] e = refl
  missing_none (x ∷ es) e = by (nested_id (form_of x.kind)) e (λ f. missing_none es f)
    where
      at : (id : ℕ) (b : Bool) → cond (not b) (Some id) (find gone (nested_ids es)) ≡ None
          → (find gone (nested_ids es) ≡ None
          → flat_map (missing_of known) (map (λ y. Some y) es) ≡ [])
          → listed_unless b (NoDataset id) ++ flat_map (missing_of known) (map (λ y. Some y) es)
          ≡ []
      at id true f later = later f
      at id false f later = cc

      by : (o : Option ℕ) → find gone (cons_option o (nested_ids es)) ≡ None
          → (find gone (nested_ids es) ≡ None
          → flat_map (missing_of known) (map (λ y. Some y) es) ≡ [])
          → unknown_nested known o ++ flat_map (missing_of known) (map (λ y. Some y) es) ≡ []
      by None f later = later f
      by (Some id) f later = at id (is_known known id) f later

  missing_some : (es : List Element) (id : ℕ) (tail : List ConfigFault)
      → find gone (nested_ids es) ≡ Some id → AreFrom 7 tail
      → least_of (flat_map (missing_of known) (map (λ e. Some e) es) ++ tail)
      ≡ Some (NoDataset id)
  missing_some [] id tail e h = cc
  missing_some (x ∷ es) id tail e h =
      by (nested_id (form_of x.kind)) e (λ f. missing_some es id tail f h)
    where
      all : AreFrom 7 (flat_map (missing_of known) (map (λ y. Some y) es) ++ tail)
      all = from_append 7 (flat_map (missing_of known) (map (λ y. Some y) es)) tail
          (from_each 7 (missing_of known) (missing_of_from known) (map (λ y. Some y) es)) h

      at : (n : ℕ) (b : Bool) → cond (not b) (Some n) (find gone (nested_ids es)) ≡ Some id
          → (find gone (nested_ids es) ≡ Some id
          → least_of (flat_map (missing_of known) (map (λ y. Some y) es) ++ tail)
          ≡ Some (NoDataset id))
          → least_of ((listed_unless b (NoDataset n)
          ++ flat_map (missing_of known) (map (λ y. Some y) es)) ++ tail) ≡ Some (NoDataset id)
      at n true f later = later f
      at n false f later = least_head (NoDataset n)
          (flat_map (missing_of known) (map (λ y. Some y) es) ++ tail) all
          ∙ ap (λ o. option_map (λ m. NoDataset m) o) f

      by : (o : Option ℕ) → find gone (cons_option o (nested_ids es)) ≡ Some id
          → (find gone (nested_ids es) ≡ Some id
          → least_of (flat_map (missing_of known) (map (λ y. Some y) es) ++ tail)
          ≡ Some (NoDataset id))
          → least_of ((unknown_nested known o ++ flat_map (missing_of known) (map (λ y. Some y) es))
          ++ tail) ≡ Some (NoDataset id)
      by None f later = later f
      by (Some n) f later = at n (is_known known n) f later

-- elements without a count
lacking : (b c : Bool) → not (b && not c) ≡ (not b || c)
lacking true true = refl
lacking true false = refl
lacking false c = refl

uncounted_least : (c : Bool) (es : List Element) (tail : List ConfigFault) → AreFrom 8 tail
    → least_of (counts_missing c (map (λ e. Some e) es) ++ tail)
    ≡ (if all_counted c es then least_of tail else Some NoCount)
uncounted_least c [] tail h = refl
uncounted_least c (e ∷ es) tail h =
    ap (λ b. least_of ((listed_unless b NoCount
    ++ counts_missing (is_count e) (map (λ x. Some x) es)) ++ tail)) (lacking (e.size == 0) c)
    ∙ by (not (e.size == 0) || c) (uncounted_least (is_count e) es tail h)
  where
    rest : AreFrom 8 (counts_missing (is_count e) (map (λ x. Some x) es) ++ tail)
    rest = from_append 8 (counts_missing (is_count e) (map (λ x. Some x) es)) tail
        (uncounted_from (is_count e) (map (λ x. Some x) es)) h

    by : (b : Bool) → least_of (counts_missing (is_count e) (map (λ x. Some x) es) ++ tail)
        ≡ (if all_counted (is_count e) es then least_of tail else Some NoCount)
        → least_of ((listed_unless b NoCount
        ++ counts_missing (is_count e) (map (λ x. Some x) es)) ++ tail)
        ≡ (if (b && all_counted (is_count e) es) then least_of tail else Some NoCount)
    by true later = later
    by false later = least_head NoCount (counts_missing (is_count e) (map (λ x. Some x) es) ++ tail) rest

abbrev counts : DatasetModel → List ConfigFault
counts d = counts_missing false (map (λ e. Some e) d.elements)

counts_by : (b all : Bool) (tail : List ConfigFault) (o : Option ConfigFault)
    → o ≡ (if all then least_of tail else Some NoCount)
    → (if b then o else Some NoCount) ≡ (if (b && all) then least_of tail else Some NoCount)
counts_by true all tail o e = e
counts_by false all tail o e = refl

counts_from : (ds : List DatasetModel) → AreFrom 8 (flat_map counts ds)
counts_from ds = from_each 8 counts (λ d. uncounted_from false (map (λ e. Some e) d.elements)) ds

counts_least : (ds : List DatasetModel) (tail : List ConfigFault) → AreFrom 8 tail
    → least_of (flat_map counts ds ++ tail)
    ≡ (if list_all (λ d. all_counted false d.elements) ds then least_of tail else Some NoCount)
counts_least [] tail h = refl
counts_least (d ∷ ds) tail h =
    ap least_of (append_assoc (counts d) (flat_map counts ds) tail)
    ∙ (uncounted_least false d.elements (flat_map counts ds ++ tail)
    (from_append 8 (flat_map counts ds) tail (counts_from ds) h)
    ∙ counts_by (all_counted false d.elements)
    (list_all (λ x. all_counted false x.elements) ds) tail
    (least_of (flat_map counts ds ++ tail)) (counts_least ds tail h))

-- the faults of elements, dataset by dataset
module _ (known : List DatasetModel) where
  abbrev unfits : List DatasetModel → List ConfigFault
  unfits ds = flat_map (unfit_of known) (map full ds)

  unfits_from : (ds : List DatasetModel) → AreFrom 7 (unfits ds)
  unfits_from ds = from_each 7 (unfit_of known) (unfit_from known) (map full ds)

  abbrev gones : List DatasetModel → Option ℕ
  gones ds = find (gone known) (flat_map (λ d. nested_ids d.elements) ds)

  abbrev missing_in : DatasetModel → List ConfigFault
  missing_in d = flat_map (missing_of known) (map (λ e. Some e) d.elements)

  unfits_none : (ds : List DatasetModel) → gones ds ≡ None → unfits ds ≡ flat_map counts ds
  unfolding unfit_of
  unfits_none [] e = refl
  unfits_none (d ∷ ds) e =
      by (find (gone known) (nested_ids d.elements)) refl (λ later. unfits_none ds later)
    where
      by : (o : Option ℕ) → find (gone known) (nested_ids d.elements) ≡ o
          → (gones ds ≡ None → unfits ds ≡ flat_map counts ds)
          → (missing_in d ++ counts d) ++ unfits ds ≡ counts d ++ flat_map counts ds
      by None f later =
          let rest : gones ds ≡ None = sym (second_of_two (gone known) (nested_ids d.elements)
          (flat_map (λ x. nested_ids x.elements) ds) (sym f)) ∙ e in
          ap (λ xs. (xs ++ counts d) ++ unfits ds) (missing_none known d.elements f)
          ∙ ap (λ xs. counts d ++ xs) (later rest)
      by (Some id) f later =
          let found = first_of_two (gone known) (nested_ids d.elements)
          (flat_map (λ x. nested_ids x.elements) ds) id (sym f) in
          let no : Some id ≡ None = found ∙ e in cc

  unfits_some : (ds : List DatasetModel) (id : ℕ) (tail : List ConfigFault)
      → gones ds ≡ Some id → AreFrom 7 tail
      → least_of (unfits ds ++ tail) ≡ Some (NoDataset id)
  unfolding unfit_of
  unfits_some [] id tail e h = cc
  unfits_some (d ∷ ds) id tail e h =
      ap least_of (append_assoc (missing_in d ++ counts d) (unfits ds) tail)
      ∙ (ap least_of (append_assoc (missing_in d) (counts d) (unfits ds ++ tail))
      ∙ by (find (gone known) (nested_ids d.elements)) refl
      (λ later. unfits_some ds id tail later h))
    where
      all : AreFrom 7 (counts d ++ (unfits ds ++ tail))
      all = from_append 7 (counts d) (unfits ds ++ tail)
          (from_lower 7 8 (counts d) (lit≤ tt)
          (uncounted_from false (map (λ x. Some x) d.elements)))
          (from_append 7 (unfits ds) tail (unfits_from ds) h)

      by : (o : Option ℕ) → find (gone known) (nested_ids d.elements) ≡ o
          → (gones ds ≡ Some id → least_of (unfits ds ++ tail) ≡ Some (NoDataset id))
          → least_of (missing_in d ++ (counts d ++ (unfits ds ++ tail))) ≡ Some (NoDataset id)
      by None f later =
          let rest : gones ds ≡ Some id = sym (second_of_two (gone known) (nested_ids d.elements)
          (flat_map (λ x. nested_ids x.elements) ds) (sym f)) ∙ e in
          ap (λ xs. least_of (xs ++ (counts d ++ (unfits ds ++ tail))))
          (missing_none known d.elements f)
          ∙ least_past (counts d) (unfits ds ++ tail) (NoDataset id)
          (uncounted_from false (map (λ x. Some x) d.elements)) (later rest)
      by (Some n) f later =
          let found = first_of_two (gone known) (nested_ids d.elements)
          (flat_map (λ x. nested_ids x.elements) ds) n (sym f) in
          missing_some known d.elements n (counts d ++ (unfits ds ++ tail)) f all
          ∙ ap (λ o. option_map (λ m. NoDataset m) o) (found ∙ e)

  -- the elements of datasets that are there
  passes_by : (form : Form) → find (gone known) (cons_option (nested_id form) []) ≡ None
      → passes (is_known known) form ≡ true
  passes_by (Unsigned w) e = refl
  passes_by (Signed w) e = refl
  passes_by Time48 e = refl
  passes_by Time64 e = refl
  passes_by (Nested id) e = by (is_known known id) e
    where
      by : (b : Bool) → cond (not b) (Some id) None ≡ None → b ≡ true
      by true f = refl
      by false f = cc

  one_of : (o : Option ℕ) (ids : List ℕ) → find (gone known) (cons_option o ids) ≡ None
      → (find (gone known) (cons_option o []) ≡ None) × (find (gone known) ids ≡ None)
  one_of None ids e = (refl, e)
  one_of (Some id) ids e = by (is_known known id) e
    where
      by : (b : Bool) → cond (not b) (Some id) (find (gone known) ids) ≡ None
          → (cond (not b) (Some id) None ≡ None) × (find (gone known) ids ≡ None)
      by true f = (refl, f)
      by false f = cc

  sound_all : (es : List Element) → find (gone known) (nested_ids es) ≡ None
      → sound_among known es ≡ es
  sound_all [] e = refl
  sound_all (x ∷ es) e =
      let parts = one_of (nested_id (form_of x.kind)) (nested_ids es) e in
      ap (λ b. cond b (x ∷ sound_among known es) (sound_among known es))
      (passes_by (form_of x.kind) parts.0)
      ∙ ap (λ xs. x ∷ xs) (sound_all es parts.1)

  sound_full : (d : DatasetModel) → find (gone known) (nested_ids d.elements) ≡ None
      → sound_elements known (full d) ≡ d.elements
  unfolding sound_elements
  sound_full d e = ap (sound_among known) (known_full d.elements) ∙ sound_all d.elements e

  gone_parts : (d : DatasetModel) (ds : List DatasetModel) → gones (d ∷ ds) ≡ None
      → (find (gone known) (nested_ids d.elements) ≡ None) × (gones ds ≡ None)
  gone_parts d ds e = by (find (gone known) (nested_ids d.elements)) refl
    where
      by : (o : Option ℕ) → find (gone known) (nested_ids d.elements) ≡ o
          → (find (gone known) (nested_ids d.elements) ≡ None) × (gones ds ≡ None)
      by None f = (
        f,
        sym (second_of_two (gone known) (nested_ids d.elements)
            (flat_map (λ x. nested_ids x.elements) ds) (sym f)) ∙ e,
      )
      by (Some id) f =
          let found = first_of_two (gone known) (nested_ids d.elements)
          (flat_map (λ x. nested_ids x.elements) ds) id (sym f) in
          let no : Some id ≡ None = found ∙ e in cc

  sounds_full : (ds : List DatasetModel) → gones ds ≡ None
      → map (sound_dataset known) (map full ds) ≡ map (λ d. Some d) ds
  sounds_full [] e = refl
  sounds_full (d ∷ ds) e =
      let parts = gone_parts d ds e in
      ap (λ es. Some (record { id = d.id; elements = es })
      ∷ map (sound_dataset known) (map full ds)) (sound_full d parts.0)
      ∙ ap (λ os. Some d ∷ os) (sounds_full ds parts.1)

-- each dataset of these has its own elements in the registry
abbrev AreOwn : List DatasetModel → List DatasetModel → Type 0
AreOwn registry [] = Unit {0}
AreOwn registry (d ∷ ds) = (elements_of registry d.id ≡ Some d.elements) × AreOwn registry ds

elements_later : (front ds : List DatasetModel) (id : ℕ) → is_known front id ≡ false
    → elements_of (front ++ ds) id ≡ elements_of ds id
unfolding elements_of
elements_later [] ds id e = refl
elements_later (x ∷ front) ds id e =
    let parts = sym (known-cons x front id) ∙ e in
    let other = false_left (id == x.id) (is_known front id) parts in
    ap (λ b. option_map (λ (d : DatasetModel). d.elements)
    (cond b (Some x) (dataset_by_id (front ++ ds) id))) other
    ∙ elements_later front ds id (false_right (id == x.id) (is_known front id) parts)

elements_first : (d : DatasetModel) (ds : List DatasetModel)
    → elements_of (d ∷ ds) d.id ≡ Some d.elements
unfolding elements_of
elements_first d ds = ap (λ b. option_map (λ (x : DatasetModel). x.elements)
    (cond b (Some d) (dataset_by_id ds d.id))) (eq-eqb d.id d.id refl)

own_by : (front ds : List DatasetModel) → has_twice (front ++ ds) ≡ false → AreOwn (front ++ ds) ds
own_by front [] once = tt
own_by front (d ∷ ds) once = (
  elements_later front (d ∷ ds) d.id (new_id front d ds once) ∙ elements_first d ds,
  subst (λ (all : List DatasetModel). AreOwn all ds) (append_assoc front (d ∷ []) ds)
      (own_by (front ++ d ∷ []) ds (ap has_twice (append_assoc front (d ∷ []) ds) ∙ once)),
)

all_own : (ds : List DatasetModel) → has_twice ds ≡ false → AreOwn ds ds
all_own ds once = own_by [] ds once

not_not : (b : Bool) → not (not b) ≡ b
not_not true = refl
not_not false = refl

-- depths and sizes by elements are those by identifiers
module _ (registry : List DatasetModel) where
  shallow_own : (d : DatasetModel) → elements_of registry d.id ≡ Some d.elements
      → is_shallow registry d.elements ≡ is_within registry 5 d.id
  unfolding is_shallow is_within
  shallow_own d e = sym (ap (elements_pass (is_within registry 4)) e)

  short_own : (d : DatasetModel) → elements_of registry d.id ≡ Some d.elements
      → is_short registry d.elements ≡ nat_le (zero_size registry d.id) value_limit
  unfolding is_short zero_size dataset_size
  short_own d e = sym (ap (λ o. nat_le (entries_size (form_size (dataset_size registry 4))
      (unwrap_or o [])) value_limit) e)

  deeps_full : (ds : List DatasetModel) → AreOwn registry ds → gones registry ds ≡ None
      → flat_map (deep_of registry registry) (map full ds)
      ≡ flat_map (λ d. listed_unless (is_within registry 5 d.id) TooDeep) ds
  unfolding deep_of
  deeps_full [] own e = refl
  deeps_full (d ∷ ds) own e =
      let parts = gone_parts registry d ds e in
      ap (λ es. listed_unless (is_shallow registry es) TooDeep
      ++ flat_map (deep_of registry registry) (map full ds)) (sound_full registry d parts.0)
      ∙ (ap (λ b. listed_unless b TooDeep ++ flat_map (deep_of registry registry) (map full ds))
      (shallow_own d own.0)
      ∙ ap (λ xs. listed_unless (is_within registry 5 d.id) TooDeep ++ xs)
      (deeps_full ds own.1 parts.1))

  bigs_full : (ds : List DatasetModel) → AreOwn registry ds → gones registry ds ≡ None
      → list_all (λ d. is_within registry 5 d.id) ds ≡ true
      → flat_map (big_of registry registry) (map full ds)
      ≡ flat_map (λ d. listed_unless (nat_le (zero_size registry d.id) value_limit) TooBig) ds
  unfolding big_of is_big
  bigs_full [] own e deep = refl
  bigs_full (d ∷ ds) own e deep =
      let parts = gone_parts registry d ds e in
      let within = and_parts (is_within registry 5 d.id)
      (list_all (λ x. is_within registry 5 x.id) ds) deep in
      ap (λ es. listed_unless (not (is_big registry es)) TooBig
      ++ flat_map (big_of registry registry) (map full ds)) (sound_full registry d parts.0)
      ∙ (ap (λ b. listed_unless (not (b && not (is_short registry d.elements))) TooBig
      ++ flat_map (big_of registry registry) (map full ds)) (shallow_own d own.0 ∙ within.0)
      ∙ (ap (λ b. listed_unless b TooBig ++ flat_map (big_of registry registry) (map full ds))
      (not_not (is_short registry d.elements))
      ∙ (ap (λ b. listed_unless b TooBig ++ flat_map (big_of registry registry) (map full ds))
      (short_own d own.0)
      ∙ ap (λ xs. listed_unless (nat_le (zero_size registry d.id) value_limit) TooBig ++ xs)
      (bigs_full ds own.1 parts.1 within.1))))

-- the faults of depths and sizes follow one another
later_by : (ds : List DatasetModel) (b : Bool)
    → list_all (λ d. is_within ds 5 d.id) ds ≡ b → AreOwn ds ds → gones ds ds ≡ None
    → (if b then least_of (flat_map (big_of ds ds) (map full ds)) else Some TooDeep)
    ≡ first_fault ((if b then None else Some TooDeep) ∷ too_big_in ds ∷ [])
unfolding too_big_in
later_by ds true deep own e =
    ap least_of (bigs_full ds ds own e deep)
    ∙ (ap least_of (sym (append-nil
    (flat_map (λ d. listed_unless (nat_le (zero_size ds d.id) value_limit) TooBig) ds)))
    ∙ (tested (λ (d : DatasetModel). nat_le (zero_size ds d.id) value_limit) TooBig ds [] tt
    ∙ by (list_all (λ d. nat_le (zero_size ds d.id) value_limit) ds)))
  where
    by : (b : Bool) → (if b then None else Some TooBig)
        ≡ first_fault ((if b then None else Some TooBig) ∷ [])
    by true = refl
    by false = refl
later_by ds false deep own e = refl

later_least : (ds : List DatasetModel) → has_twice ds ≡ false → gones ds ds ≡ None
    → least_of (later_faults ds ds (map full ds))
    ≡ first_fault (too_deep_in ds ∷ too_big_in ds ∷ [])
unfolding too_deep_in
later_least ds once e =
    let own = all_own ds once in
    ap (λ xs. least_of (xs ++ flat_map (big_of ds ds) (map full ds))) (deeps_full ds ds own e)
    ∙ (tested (λ (d : DatasetModel). is_within ds 5 d.id) TooDeep ds
    (flat_map (big_of ds ds) (map full ds))
    (from_lower 9 10 (flat_map (big_of ds ds) (map full ds)) (lit≤ tt)
    (bigs_from ds ds (map full ds)))
    ∙ later_by ds (list_all (λ d. is_within ds 5 d.id) ds) refl own e)

counted_by : (b : Bool) (o : Option ConfigFault) (later : List (Option ConfigFault))
    → o ≡ first_fault later → (if b then o else Some NoCount)
    ≡ first_fault ((if b then None else Some NoCount) ∷ later)
counted_by true o later e = e
counted_by false o later e = refl

-- the first fault of datasets of different identifiers
fit_by : (ds sound : List DatasetModel) (o : Option ℕ) → gones ds ds ≡ o → has_twice ds ≡ false
    → (gones ds ds ≡ None → sound ≡ ds)
    → least_of (fit_faults ds sound (map full ds))
    ≡ first_fault (option_map (λ id. NoDataset id) o ∷ no_count_in ds
    ∷ too_deep_in ds ∷ too_big_in ds ∷ [])
unfolding fit_faults no_count_in
fit_by ds sound None e once same =
    ap (λ s. least_of (unfits ds ds ++ later_faults ds s (map full ds))) (same e)
    ∙ (ap (λ xs. least_of (xs ++ later_faults ds ds (map full ds))) (unfits_none ds ds e)
    ∙ (counts_least ds (later_faults ds ds (map full ds))
    (from_lower 8 9 (later_faults ds ds (map full ds)) (lit≤ tt) (later_from ds ds (map full ds)))
    ∙ counted_by (list_all (λ d. all_counted false d.elements) ds)
    (least_of (later_faults ds ds (map full ds))) (too_deep_in ds ∷ too_big_in ds ∷ [])
    (later_least ds once e)))
fit_by ds sound (Some id) e once same = unfits_some ds ds id
    (later_faults ds sound (map full ds)) e
    (from_lower 7 9 (later_faults ds sound (map full ds)) (lit≤ tt)
    (later_from ds sound (map full ds)))

fit_least : (ds sound : List DatasetModel) → has_twice ds ≡ false
    → (gones ds ds ≡ None → sound ≡ ds)
    → least_of (fit_faults ds sound (map full ds)) ≡ fit_fault ds
unfolding no_dataset_in
fit_least ds sound once same = fit_by ds sound (gones ds ds) refl once same

known_once : (ds : List DatasetModel) → has_twice ds ≡ false → known_in (map full ds) ≡ ds
unfolding known_in
known_once ds once = ap (firsts []) (datasets_full ds) ∙ firsts_once [] ds once

sound_once : (ds : List DatasetModel) → has_twice ds ≡ false → gones ds ds ≡ None
    → sound_in ds (map full ds) ≡ ds
unfolding sound_in
sound_once ds once e = ap (firsts []) (sounds_full ds ds e) ∙ firsts_once [] ds once

-- the first fault of datasets that lack nothing
full_by : (ds : List DatasetModel) (b : Bool) → has_twice ds ≡ b
    → least_of (misfits (map full ds))
    ≡ first_fault ((if b then Some TwiceId else None) ∷ no_dataset_in ds ∷ no_count_in ds
    ∷ too_deep_in ds ∷ too_big_in ds ∷ [])
unfolding misfits
full_by ds true twice =
    let known = known_in (map full ds) in
    let rest = fit_faults known (sound_in known (map full ds)) (map full ds) in
    ap (λ os. least_of (twices [] os ++ rest)) (datasets_full ds)
    ∙ twices_some [] ds rest refl twice (from_lower 6 7 rest (lit≤ tt)
    (fit_from known (sound_in known (map full ds)) (map full ds)))
full_by ds false once =
    let known = known_in (map full ds) in
    ap (λ os. least_of (twices [] os ++ fit_faults known (sound_in known (map full ds))
    (map full ds))) (datasets_full ds)
    ∙ (ap (λ xs. least_of (xs ++ fit_faults known (sound_in known (map full ds)) (map full ds)))
    (twices_once [] ds once)
    ∙ (ap (λ k. least_of (fit_faults k (sound_in k (map full ds)) (map full ds)))
    (known_once ds once)
    ∙ fit_least ds (sound_in ds (map full ds)) once (sound_once ds once)))

full_least : (ds : List DatasetModel) → least_of (misfits (map full ds)) ≡ dataset_fault ds
unfolding twice_id_in
full_least ds = full_by ds (has_twice ds) refl

-- the first of all faults of a file is that for which it is refused
module _ (top : Members) where
  abbrev least : Option ConfigFault
  least = least_fault (map fault_at (all_positions top))

  abbrev ds : List DatasetModel
  ds = datasets_in top

  early_same : (f : ConfigFault) → Some f ≡ before_datasets least
      → least_of_two least (least_of (misfits (file_rows top)))
      ≡ least_of_two least (dataset_fault ds)
  early_same f e =
      let b = before_first least f e in
      let single = subst (λ (o : Option ConfigFault). IfSome o IsOfPosition) (sym b.0)
      (least_single (all_positions top)) in
      let first = early f single b.1 in
      let listed : AreFrom (rank f) (misfits (file_rows top)) =
      from_lower (rank f) 6 (misfits (file_rows top)) (omega (arith, first))
      (misfits_from (file_rows top)) in
      ap (λ o. least_of_two o (least_of (misfits (file_rows top)))) (sym b.0)
      ∙ (least_stays f (least_of (misfits (file_rows top)))
      (least_rank (rank f) (misfits (file_rows top)) listed)
      ∙ (sym (early_first f (dataset_fault ds) first (dataset_own ds))
      ∙ ap (λ o. least_of_two o (dataset_fault ds)) b.0))

  late_same : IsLate least → least_of (misfits (file_rows top)) ≡ dataset_fault ds
  unfolding all_positions
  late_same late =
      let last = all_last (all_positions top) (late_last least late) in
      let own = last_back (node_positions top ++ slot_positions top) (dataset_positions top) last in
      ap (λ rows. least_of (misfits rows)) (rows_full top own) ∙ full_least ds

  same_by : (o : Option ConfigFault) → o ≡ before_datasets least
      → least_of_two least (least_of (misfits (file_rows top)))
      ≡ least_of_two least (dataset_fault ds)
  same_by None e = ap (least_of_two least) (late_same e)
  same_by (Some f) e = early_same f e

  pub first_listed : least_of (all_faults (all_positions top) ++ misfits (file_rows top))
      ≡ config_fault_of top
  unfolding config_fault_of fault_in
  first_listed = least_append (all_faults (all_positions top)) (misfits (file_rows top))
      ∙ (ap (λ o. least_of_two o (least_of (misfits (file_rows top))))
      (all_least (all_positions top)) ∙ same_by (before_datasets least) refl)
