-- The members of arrays.
-- For `items`, `is_tables`, `is_numbers`, `are_addresses` and `members_at`.
-- By: an array's items, as they are seen, are the members of its data.
use Rattle.std.proofs.Common.{◌≡◌, Bool, true, List, [], ◌∷◌, map, Option}
use Rattle.std.proofs.Common.{Some, refl, sym, ap, ◌∙◌, is_some}
use Rattle.std.specs.List.{list_all, filter_map, cons_option}
use Rattle.std.proofs.lemmas.List.Folds.{list_all-map}
use Rattle.toml.specs.Data.{Data, string, integer, float, boolean}
use Rattle.toml.specs.Data.{datetime, array, table, as_array, as_table}
use Rattle.toml.specs.View.{view, items_view}
use Rattle.toml.specs.declared.value.Value.{Value}
use Rattle.trdp_dataset.specs.Values.{items_list, items_in, is_array_of}
use Rattle.trdp_dataset.specs.Positions.{tables_in}
use Rattle.trdp_dataset.specs.Seen.{tables_seen}

pub items_listed : (vs : List Value) → map view vs ≡ items_list (items_view vs)
items_listed [] = refl
items_listed (v ∷ vs) = ap (λ (ds : List Data). view v ∷ ds) (items_listed vs)

-- the members of an array are those of its data
pub items_seen : (d : Data) (vs : List Value)
    → Some (items_view vs) ≡ as_array d → map view vs ≡ items_in d
items_seen (array ds) vs e = let same : items_view vs ≡ ds = cc in
    items_listed vs ∙ ap items_list same
items_seen (string s) vs e = cc
items_seen (integer z) vs e = cc
items_seen (float x) vs e = cc
items_seen (boolean b) vs e = cc
items_seen (datetime dt) vs e = cc
items_seen (table ms) vs e = cc

-- a value is an array whose members pass a test where each of its items does
pub members_tested : (test : Data → Bool) (d : Data) (vs : List Value) → true ≡ is_some (as_array d)
    → map view vs ≡ items_in d → list_all (λ (v : Value). test (view v)) vs ≡ is_array_of test d
members_tested test (array ds) vs there same =
    sym (list_all-map test view vs) ∙ ap (λ (xs : List Data). list_all test xs) same
members_tested test (string s) vs there same = cc
members_tested test (integer z) vs there same = cc
members_tested test (float x) vs there same = cc
members_tested test (boolean b) vs there same = cc
members_tested test (datetime dt) vs there same = cc
members_tested test (table ms) vs there same = cc

-- what is made of each item of a list made of another
pub filter_map-map : {A B C : Type 0} → (g : B → Option C) (f : A → B) (xs : List A)
    → filter_map (λ x. g (f x)) xs ≡ filter_map g (map f xs)
filter_map-map g f [] = refl
filter_map-map g f (x ∷ xs) = ap (cons_option (g (f x))) (filter_map-map g f xs)

-- the tables among the members of an array are those that its data has
pub members_seen : (found : Option Data) (d : Data) (vs : List Value)
    → Some d ≡ found → map view vs ≡ items_in d → tables_seen vs ≡ tables_in found
members_seen found d vs e same = filter_map-map as_table view vs
    ∙ (ap (λ (ds : List Data). filter_map as_table ds) same ∙ ap tables_in e)
