-- One turn of a loop over datasets.
-- For `no_count` and `no_dataset`, and for `SoundLemmas`.
-- By: the datasets from an index on are the one at the index and those after it.
use Rattle.std.proofs.Common.{◌≡◌, ◌&&◌, ℕ, ◌+◌, Bool, true, false, cond, List, [], ◌∷◌}
use Rattle.std.proofs.Common.{◌++◌, drop, Option, Some, None, option_map, refl, sym, ap, ◌∙◌}
use Rattle.std.specs.Prelude.{find, slice_get}
use Rattle.std.specs.List.{list_all, flat_map}
use Rattle.std.proofs.lemmas.List.{drop_more}
use Rattle.std.proofs.lemmas.Option.{get_or_from_slice_get, slice_get_within}
use Rattle.trdp_dataset.specs.declared.element.Element.{Element}
use Rattle.trdp_dataset.specs.Datasets.{DatasetModel}

-- the dataset at an index, with these elements, and those after it
pub record Opened (ds : List DatasetModel) (i : ℕ) (es : List Element) : Type 0 where
  pub d : DatasetModel
  pub elements : d.elements ≡ es
  pub rest : drop i ds ≡ d ∷ drop (i + 1) ds

opened_by : (ds : List DatasetModel) (i : ℕ) (es : List Element) (o : Option DatasetModel)
    → slice_get ds i ≡ o
    → option_map (λ (d : DatasetModel). d.elements) o ≡ Some es → Opened ds i es
opened_by ds i es None at h = cc
opened_by ds i es (Some d) at h = record {
  d = d;
  elements = cc;
  rest = drop_more ds i d (slice_get_within ds i d at)
      ∙ ap (λ x. x ∷ drop (i + 1) ds) (get_or_from_slice_get ds i d d at);
}

pub opened : (ds : List DatasetModel) (i : ℕ) (es : List Element)
    → option_map (λ (d : DatasetModel). d.elements) (slice_get ds i) ≡ Some es → Opened ds i es
opened ds i es h = opened_by ds i es (slice_get ds i) refl h

-- a test of the elements of each dataset
abbrev pub each : (List Element → Bool) → List DatasetModel → Bool
each test ds = list_all (λ d. test d.elements) ds

each_step : (test : List Element → Bool) (ds : List DatasetModel) (i : ℕ) (es : List Element)
    → option_map (λ (d : DatasetModel). d.elements) (slice_get ds i) ≡ Some es
    → each test (drop i ds) ≡ (test es && each test (drop (i + 1) ds))
each_step test ds i es at =
    let o = opened ds i es at in
    ap (each test) o.rest ∙ ap (λ xs. test xs && each test (drop (i + 1) ds)) o.elements

pub each_passed : (test : List Element → Bool) (ds : List DatasetModel) (i : ℕ) (es : List Element)
    → option_map (λ (d : DatasetModel). d.elements) (slice_get ds i) ≡ Some es → true ≡ test es
    → each test (drop i ds) ≡ each test ds → each test (drop (i + 1) ds) ≡ each test ds
each_passed test ds i es at passed so_far = ap (λ b. b && each test (drop (i + 1) ds)) passed
    ∙ (sym (each_step test ds i es at) ∙ so_far)

pub each_failed : (test : List Element → Bool) (ds : List DatasetModel) (i : ℕ) (es : List Element)
    → option_map (λ (d : DatasetModel). d.elements) (slice_get ds i) ≡ Some es → false ≡ test es
    → each test (drop i ds) ≡ each test ds → false ≡ each test ds
each_failed test ds i es at failed so_far = ap (λ b. b && each test (drop (i + 1) ds)) failed
    ∙ (sym (each_step test ds i es at) ∙ so_far)

first_by : {X : Type 0} → (b : Bool) (z x : X) (one more : Option X)
    → (Some x ≡ one → Some x ≡ more) → Some x ≡ cond b (Some z) one → Some x ≡ cond b (Some z) more
first_by true z x one more later e = e
first_by false z x one more later e = later e

pub first_of_two : {X : Type 0} → (p : X → Bool) (xs ys : List X) (x : X)
    → Some x ≡ find p xs → Some x ≡ find p (xs ++ ys)
first_of_two p [] ys x e = cc
first_of_two p (z ∷ xs) ys x e =
    first_by (p z) z x (find p xs) (find p (xs ++ ys)) (λ f. first_of_two p xs ys x f) e

second_by : {X : Type 0} → (b : Bool) (z : X) (one more rest : Option X)
    → (None ≡ one → more ≡ rest) → None ≡ cond b (Some z) one → cond b (Some z) more ≡ rest
second_by true z one more rest later e = cc
second_by false z one more rest later e = later e

pub second_of_two : {X : Type 0} → (p : X → Bool) (xs ys : List X)
    → None ≡ find p xs → find p (xs ++ ys) ≡ find p ys
second_of_two p [] ys e = refl
second_of_two p (z ∷ xs) ys e =
    second_by (p z) z (find p xs) (find p (xs ++ ys)) (find p ys) (λ f. second_of_two p xs ys f) e

-- what is made of the elements of each dataset
abbrev pub all_made : {X : Type 0} → (List Element → List X) → List DatasetModel → List X
all_made f ds = flat_map (λ d. f d.elements) ds

made_step : {X : Type 0}
    → (f : List Element → List X) (ds : List DatasetModel) (i : ℕ) (es : List Element)
    → option_map (λ (d : DatasetModel). d.elements) (slice_get ds i) ≡ Some es
    → all_made f (drop i ds) ≡ f es ++ all_made f (drop (i + 1) ds)
made_step f ds i es at =
    let o = opened ds i es at in
    ap (all_made f) o.rest ∙ ap (λ xs. f xs ++ all_made f (drop (i + 1) ds)) o.elements

pub first_made : {X : Type 0} → (p : X → Bool) (f : List Element → List X)
    (ds : List DatasetModel) (i : ℕ) (es : List Element) (x : X)
    → option_map (λ (d : DatasetModel). d.elements) (slice_get ds i) ≡ Some es
    → Some x ≡ find p (f es) → find p (all_made f (drop i ds)) ≡ find p (all_made f ds)
    → Some x ≡ find p (all_made f ds)
first_made p f ds i es x at found so_far =
    first_of_two p (f es) (all_made f (drop (i + 1) ds)) x found
    ∙ (sym (ap (find p) (made_step f ds i es at)) ∙ so_far)

pub none_made : {X : Type 0} → (p : X → Bool) (f : List Element → List X)
    (ds : List DatasetModel) (i : ℕ) (es : List Element)
    → option_map (λ (d : DatasetModel). d.elements) (slice_get ds i) ≡ Some es
    → None ≡ find p (f es) → find p (all_made f (drop i ds)) ≡ find p (all_made f ds)
    → find p (all_made f (drop (i + 1) ds)) ≡ find p (all_made f ds)
none_made p f ds i es at none so_far =
    sym (second_of_two p (f es) (all_made f (drop (i + 1) ds)) none)
    ∙ (sym (ap (find p) (made_step f ds i es at)) ∙ so_far)
