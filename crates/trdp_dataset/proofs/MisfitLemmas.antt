-- Turns of the loops that list the faults of datasets and of members.
-- For `push_twice`, `sound_datasets`, `push_uncounted` and `push_unwanted`.
-- By: what is left after a turn depends on what the turn adds.
use Rattle.std.proofs.Common.{◌≡◌, ◌++◌, ◌+◌, ◌<◌, ℕ, Bool, List, [], ◌∷◌, length, get_or, drop}
use Rattle.std.proofs.Common.{zero, suc, arith, append_assoc, flat_map, take, map, Option, refl}
use Rattle.std.proofs.Common.{if◌then◌else◌, sym, ap, ◌∙◌, not, ◌||◌}
use Rattle.std.specs.List.{list_any}
use Rattle.std.proofs.lemmas.List.{at_drop_more, map-append, take_more}
use Rattle.toml.specs.Data.{Data}
use Rattle.toml.specs.View.{view}
use Rattle.toml.specs.declared.value.Value.{Value}
use Rattle.trdp_dataset.specs.declared.element.Element.{Element}
use Rattle.trdp_dataset.specs.declared.key.Key.{Key}
use Rattle.trdp_dataset.specs.declared.fault.ConfigFault.TheVariants.{WrongType, NoCount}
use Rattle.trdp_dataset.specs.declared.row.FileRow.{FileRow}
use Rattle.trdp_dataset.specs.Keys.{wanted_by}
use Rattle.trdp_dataset.specs.Datasets.{DatasetModel}
use Rattle.trdp_dataset.proofs.ListedLemmas.{listed_turn}
use Rattle.trdp_dataset.specs.Findings.{listed_unless, member_wanted, unwanted}
use Rattle.trdp_dataset.specs.Misfits.{RowModel, row_seen, rows_seen, added, firsts, twice_at}
use Rattle.trdp_dataset.specs.Misfits.{twices, is_uncounted, may_count, counts_missing, row_dataset}
use Rattle.trdp_dataset.specs.Misfits.{known_in, sound_in, unfit_of, deep_of, big_of, fit_faults}
use Rattle.trdp_dataset.specs.Misfits.{misfits}
use Rattle.trdp_dataset.specs.declared.fault.ConfigFault.{ConfigFault}

-- the datasets so far and those that are added later
pub firsts_turn : (f : RowModel → Option DatasetModel) (rows : List FileRow) (i : ℕ) (row : FileRow)
    (old now all : List DatasetModel) → i < length rows → row ≡ get_or rows i row
    → now ≡ added old (f (row_seen row)) → firsts old (map f (rows_seen (drop i rows))) ≡ all
    → firsts now (map f (rows_seen (drop (i + 1) rows))) ≡ all
firsts_turn f rows i row old now all inside item e so_far =
    let rest = map f (rows_seen (drop (i + 1) rows)) in
    ap (λ ds. firsts ds rest) e
    ∙ (ap (λ r. firsts (added old (f (row_seen r))) rest) item
    ∙ (sym (at_drop_more (λ rs. firsts old (map f (rows_seen rs))) rows i row inside) ∙ so_far))

-- a dataset that comes next is there already, or it is added
pub twices_step : (f : RowModel → Option DatasetModel) (row : FileRow) (rest : List FileRow)
    (old now : List DatasetModel) → now ≡ added old (f (row_seen row))
    → twices old (map f (rows_seen (row ∷ rest)))
    ≡ twice_at old (f (row_seen row)) ++ twices now (map f (rows_seen rest))
twices_step f row rest old now e = ap
    (λ ds. twice_at old (f (row_seen row)) ++ twices ds (map f (rows_seen rest))) (sym e)

-- the element that comes next may count the one after it
uncounted_step : (c : Bool) (e : Option Element) (rest : List (Option Element)) (next : Bool)
    → next ≡ may_count e → counts_missing c (e ∷ rest)
    ≡ listed_unless (not (is_uncounted c e)) NoCount ++ counts_missing next rest
uncounted_step c e rest next same =
    ap (λ b. listed_unless (not (is_uncounted c e)) NoCount ++ counts_missing b rest) (sym same)

-- the member that comes next is before the ones after it
unwanted_step : (key : Key) (few : Bool) (vs : List Value) (i : ℕ) (v : Value)
    (before : List Data) → i < length vs → v ≡ get_or vs i v
    → before ≡ (if few then map view (take i vs) else [])
    → unwanted key few (map view (take i vs)) (map view (v ∷ drop (i + 1) vs))
    ≡ listed_unless (member_wanted (wanted_by key) before (view v)) (WrongType key)
    ++ unwanted key few (map view (take (i + 1) vs)) (map view (drop (i + 1) vs))
unwanted_step key few vs i v before inside item same =
    let rest = map view (drop (i + 1) vs) in
    let next : map view (take (i + 1) vs) ≡ map view (take i vs) ++ view v ∷ [] =
    ap (map view) (take_more vs i v inside)
    ∙ (map-append view (take i vs) (get_or vs i v ∷ [])
    ∙ ap (λ x. map view (take i vs) ++ view x ∷ []) (sym item)) in
    ap (λ b. listed_unless (member_wanted (wanted_by key) b (view v)) (WrongType key)
    ++ unwanted key few (map view (take i vs) ++ view v ∷ []) rest) (sym same)
    ∙ ap (λ ds. listed_unless (member_wanted (wanted_by key) before (view v)) (WrongType key)
    ++ unwanted key few ds rest) (sym next)

-- some item passes where some item of the list that is made of them does
pub any_mapped : {A B : Type 0} → (test : B → Bool) (f : A → B) (xs : List A)
    → list_any (λ x. test (f x)) xs ≡ list_any test (map f xs)
any_mapped test f [] = refl
any_mapped test f (x ∷ xs) = ap (λ b. test (f x) || b) (any_mapped test f xs)

-- all kinds of faults, one after the other
pub misfits_listed : (rows : List RowModel) (known sound : List DatasetModel)
    (none twice unfit deep big : List ConfigFault)
    → known ≡ known_in rows → sound ≡ sound_in known rows
    → twice ≡ none ++ twices [] (map row_dataset rows)
    → unfit ≡ twice ++ flat_map (unfit_of known) rows
    → deep ≡ unfit ++ flat_map (deep_of known sound) rows
    → big ≡ deep ++ flat_map (big_of known sound) rows
    → big ≡ none ++ misfits rows
unfolding misfits fit_faults
misfits_listed rows known sound none twice unfit deep big k s first second third fourth =
    let a = twices [] (map row_dataset rows) in
    let b = flat_map (unfit_of known) rows in
    let c = flat_map (deep_of known sound) rows in
    let d = flat_map (big_of known sound) rows in
    fourth ∙ (ap (λ x. x ++ d) third ∙ (ap (λ x. (x ++ c) ++ d) second
    ∙ (ap (λ x. ((x ++ b) ++ c) ++ d) first
    ∙ (append_assoc ((none ++ a) ++ b) c d ∙ (append_assoc (none ++ a) b (c ++ d)
    ∙ (append_assoc none a (b ++ (c ++ d))
    ∙ (ap (λ x. none ++ (a ++ (b ++ (flat_map (deep_of known x) rows
    ++ flat_map (big_of known x) rows)))) s
    ∙ ap (λ x. none ++ (a ++ (flat_map (unfit_of x) rows
    ++ (flat_map (deep_of x (sound_in x rows)) rows
    ++ flat_map (big_of x (sound_in x rows)) rows)))) k)))))))

-- the item at an index doesn't depend on what is given past the end
same_item : {A : Type 0} → (xs : List A) (i : ℕ) (d e : A) → i < length xs
    → get_or xs i d ≡ get_or xs i e
same_item [] i d e inside = absurd (omega (arith, inside))
same_item (x ∷ xs) zero d e inside = refl
same_item (x ∷ xs) (suc i) d e inside = same_item xs i d e (omega (arith, inside))

-- one turn of a loop that reads its item
pub read_turn : {A : Type 0} → (before after : List A → List ConfigFault)
    (f : A → List ConfigFault) (xs : List A) (i : ℕ) (d : A) (old now all : List ConfigFault)
    → before (get_or xs i d ∷ drop (i + 1) xs) ≡ f (get_or xs i d) ++ after (drop (i + 1) xs)
    → i < length xs → now ≡ old ++ f (get_or xs i d)
    → old ++ before (drop i xs) ≡ all → now ++ after (drop (i + 1) xs) ≡ all
read_turn before after f xs i d old now all first inside listed so_far =
    listed_turn before after xs i (get_or xs i d) (f (get_or xs i d)) old now all first inside
    (same_item xs i d (get_or xs i d) inside) listed so_far

-- one turn of the loop that lists the arrays of size 0 without a count
pub uncounted_turn : (was next : Bool) (es : List (Option Element)) (i : ℕ) (d : Option Element)
    (old now all : List ConfigFault) → i < length es
    → now ≡ old ++ listed_unless (not (is_uncounted was (get_or es i d))) NoCount
    → next ≡ may_count (get_or es i d) → old ++ counts_missing was (drop i es) ≡ all
    → now ++ counts_missing next (drop (i + 1) es) ≡ all
uncounted_turn was next es i d old now all inside listed same so_far =
    read_turn (counts_missing was) (counts_missing next)
    (λ e. listed_unless (not (is_uncounted was e)) NoCount) es i d old now all
    (uncounted_step was (get_or es i d) (drop (i + 1) es) next same) inside listed so_far

-- one turn of the loop that lists the members that aren't what the key needs
pub unwanted_turn : (key : Key) (few : Bool) (vs : List Value) (i : ℕ) (v : Value)
    (before : List Data) (old now all : List ConfigFault) → i < length vs → v ≡ get_or vs i v
    → before ≡ (if few then map view (take i vs) else [])
    → now ≡ old ++ listed_unless (member_wanted (wanted_by key) before (view v)) (WrongType key)
    → old ++ unwanted key few (map view (take i vs)) (map view (drop i vs)) ≡ all
    → now ++ unwanted key few (map view (take (i + 1) vs)) (map view (drop (i + 1) vs)) ≡ all
unwanted_turn key few vs i v before old now all inside item same =
    listed_turn (λ xs. unwanted key few (map view (take i vs)) (map view xs))
    (λ xs. unwanted key few (map view (take (i + 1) vs)) (map view xs)) vs i v
    (listed_unless (member_wanted (wanted_by key) before (view v)) (WrongType key)) old now all
    (unwanted_step key few vs i v before inside item same) inside item
