-- Looking datasets up in the map that stores them.
-- For `Datasets::elements`, `index_of` and `push`, and for all that is kept in a list beside it.
-- By induction on the entries, whose keys are the identifiers in order.
use Rattle.std.proofs.Common.{◌≡◌, ◌<◌, ◌==◌, eqb-true, Bool, true, false, cond, ℕ, zero, suc, List}
use Rattle.std.proofs.Common.{[], ◌∷◌, ◌++◌, length, get_or, map, Option, Some, None, option_map}
use Rattle.std.proofs.Common.{if◌then◌else◌, Vec, Global, refl, sym, ap, ◌∙◌, arith, is_some}
use Rattle.std.specs.Prelude.{position, slice_get, IfSome}
use Rattle.std.proofs.lemmas.List.{map-append}
use Rattle.indexmap.specs.IndexMap.{IndexMap, insert_entry}
use Rattle.indexmap.proofs.CallerLemmas.{insert_entry-new}
use Rattle.std.proofs.lemmas.Option.{get_or_from_slice_get}
use Rattle.std.specs.Map.{lookup, keys_of}
use Rattle.std.proofs.lemmas.List.Quantifiers.{position-Some}
use Rattle.trdp_dataset.specs.declared.element.Element.{Element}
use Rattle.trdp_dataset.specs.Datasets.{DatasetModel, elements_of, is_known}
use Rattle.trdp_dataset.specs.ZeroSizes.{zero_size}
use Rattle.trdp_dataset.specs.Stored.{datasets_of, zero_sizes_of}

abbrev pub Entry : Type 0
Entry = ℕ × Vec Element Global

-- what is read from the first of two datasets, or from the rest
elements_first : (b : Bool) (es : Vec Element Global) (d : DatasetModel)
    (rest : Option (Vec Element Global)) (more : Option DatasetModel) → d.elements ≡ es.items
    → option_map (λ (v : Vec Element Global). v.items) rest
    ≡ option_map (λ (m : DatasetModel). m.elements) more
    → option_map (λ (v : Vec Element Global). v.items) (cond b (Some es) rest)
    ≡ option_map (λ (m : DatasetModel). m.elements) (cond b (Some d) more)
elements_first true es d rest more here later = ap (λ (x : List Element). Some x) (sym here)
elements_first false es d rest more here later = later

-- the elements under a key of the map are those of the dataset of that identifier
pub elements_stored : (entries : List Entry) (id : ℕ)
    → option_map (λ (v : Vec Element Global). v.items) (lookup (λ k. id == k) entries)
    ≡ elements_of (datasets_of entries) id
unfolding elements_of
elements_stored [] id = refl
elements_stored (e ∷ entries) id = elements_first (id == e.0) e.1
    (record { id = e.0; elements = e.1.items }) _ _ refl (elements_stored entries id)

-- whether there is one is the same before a map
some_mapped : {A B : Type 0} → (f : A → B) → (o : Option A) → is_some o ≡ is_some (option_map f o)
some_mapped f None = refl
some_mapped f (Some x) = refl

-- a key of the map is the identifier of a dataset
pub known_stored : (entries : List Entry) (id : ℕ)
    → is_some (lookup (λ k. id == k) entries) ≡ is_known (datasets_of entries) id
known_stored entries id =
    some_mapped (λ (v : Vec Element Global). v.items) (lookup (λ k. id == k) entries)
    ∙ ap (λ (o : Option (List Element)). is_some o) (elements_stored entries id)

-- the index of a key is one of a dataset of that identifier
id_stored : (entries : List Entry) (i : ℕ) → i < length (keys_of entries)
    → option_map (λ (m : DatasetModel). m.id) (slice_get (datasets_of entries) i)
    ≡ Some (get_or (keys_of entries) i 0)
id_stored [] i h = absurd (omega arith)
id_stored (e ∷ entries) zero h = refl
id_stored (e ∷ entries) (suc i) h = id_stored entries i (omega arith)

pub id_found : (entries : List Entry) (id i : ℕ) → position (λ k. id == k) (keys_of entries)
    ≡ Some i → option_map (λ (m : DatasetModel). m.id) (slice_get (datasets_of entries) i) ≡ Some id
id_found entries id i h =
    let at = position-Some (λ (k : ℕ). id == k) (keys_of entries) i 0 h in
    id_stored entries i at.0
    ∙ ap (λ (n : ℕ). Some n) (sym (eqb-true id (get_or (keys_of entries) i 0) at.1))

pub id_found_if : (entries : List Entry) (id : ℕ) (found : Option ℕ)
    → found ≡ position (λ k. id == k) (keys_of entries)
    → IfSome found
    (λ i. option_map (λ (m : DatasetModel). m.id) (slice_get (datasets_of entries) i) ≡ Some id)
id_found_if entries id None h = tt
id_found_if entries id (Some i) h = id_found entries id i (sym h)

-- a list by identifier, at the index of an identifier
pub value_found : {B : Type 0} → (registry : List DatasetModel) (f : ℕ → B) (id i : ℕ)
    → option_map (λ (m : DatasetModel). m.id) (slice_get registry i) ≡ Some id
    → slice_get (map (λ (m : DatasetModel). f m.id) registry) i ≡ Some (f id)
value_found [] f id i h = cc
value_found (d ∷ registry) f id zero h = let same : d.id ≡ id = cc in
    ap (λ (n : ℕ). Some (f n)) same
value_found (d ∷ registry) f id (suc i) h = value_found registry f id i h

-- the number that is stored for an identifier is the size of its zero value
pub size_found : (registry : List DatasetModel) (sizes : List ℕ) (id i d : ℕ)
    → sizes ≡ zero_sizes_of registry
    → option_map (λ (m : DatasetModel). m.id) (slice_get registry i) ≡ Some id
    → get_or sizes i d ≡ zero_size registry id
size_found registry sizes id i d stored h =
    ap (λ (xs : List ℕ). get_or xs i d) stored ∙ get_or_from_slice_get (zero_sizes_of registry)
    i (zero_size registry id) d (value_found registry (zero_size registry) id i h)

-- the size of a known zero value is shown
pub size_shown : (b : Bool) (n : ℕ) → true ≡ b → Some n ≡ (if b then Some n else None)
size_shown true n e = refl
size_shown false n e = cc

pub size_hidden : (b : Bool) (n : ℕ) → false ≡ b → None ≡ (if b then Some n else None)
size_hidden true n e = cc
size_hidden false n e = refl

pub none_found : {A : Type 0} → (o : Option A) → is_some o ≡ false → o ≡ None
none_found None e = refl
none_found (Some x) e = cc

-- a new key is stored last
pub pushed : {S : Type 0} → (m : IndexMap ℕ (Vec Element Global) S) (after : List Entry)
    (id : ℕ) (es : Vec Element Global) → is_some (lookup (λ k. id == k) m.entries) ≡ false
    → after ≡ insert_entry ◌==◌ m.entries id es
    → datasets_of after ≡ datasets_of m.entries ++ record { id = id; elements = es.items } ∷ []
pushed m after id es absent e =
    ap datasets_of
    (e ∙ insert_entry-new ◌==◌ m id es (none_found (lookup (λ k. id == k) m.entries) absent))
    ∙ map-append _ m.entries ((id, es) ∷ [])
