-- The faults that positions have, and those that datasets have.
-- For `LoadLemmas` and `MeaningLemmas`.
-- By cases on the fault: all of positions but one come before those of datasets.
use Rattle.std.proofs.Common.{◌≡◌, ◌==◌, ◌&&◌, ℕ, ◌≤◌, Bool, true, false, nat_lt, if◌then◌else◌}
use Rattle.std.proofs.Common.{length, map, List, [], ◌∷◌, Option, Some, None, option_map}
use Rattle.std.proofs.Common.{is_some, IfSome, refl, ap, ◌∙◌, arith, lit≤, ◌⊎◌, inl, inr}
use Rattle.std.proofs.lemmas.Bool.Decides.{Decides-ltb}
use Rattle.toml.specs.Data.{Data}
use Rattle.trdp_dataset.specs.declared.fault.ConfigFault.{ConfigFault}
use Rattle.trdp_dataset.specs.declared.fault.ConfigFault.TheVariants.{Toml, Missing, WrongType}
use Rattle.trdp_dataset.specs.declared.fault.ConfigFault.TheVariants.{Real, BadId, TwiceId}
use Rattle.trdp_dataset.specs.declared.fault.ConfigFault.TheVariants.{NoDataset, NoCount, TooDeep}
use Rattle.trdp_dataset.specs.declared.fault.ConfigFault.TheVariants.{TooBig, TooMany, OutOfMemory}
use Rattle.trdp_dataset.specs.declared.key.Key.{Key}
use Rattle.trdp_dataset.specs.declared.key.Wanted.{Wanted}
use Rattle.trdp_dataset.specs.declared.key.Wanted.TheVariants as wanted
use Rattle.trdp_dataset.specs.Keys.{wanted_by, is_required}
use Rattle.trdp_dataset.specs.Values.{items_in, natural_in, natural_within}
use Rattle.trdp_dataset.specs.Values.{address_in, identifier_in, kind_in, is_real}
use Rattle.trdp_dataset.specs.Values.{is_integer, is_table, is_tables, is_numbers, are_addresses}
use Rattle.trdp_dataset.specs.Values.{addresses_among, has_again}
use Rattle.trdp_dataset.specs.Values.{is_type}
use Rattle.trdp_dataset.specs.Datasets.{DatasetModel}
use Rattle.trdp_dataset.specs.Positions.{PositionModel}
use Rattle.trdp_dataset.specs.Faults.{again_fault, wrong_unless, count_fault, quota_fault, bad_unless}
use Rattle.trdp_dataset.specs.Faults.{value_fault, found_fault, fault_at, rank}
use Rattle.trdp_dataset.specs.Faults.{least_of_two, least_fault, first_fault, twice_id_in}
use Rattle.trdp_dataset.specs.Faults.{no_dataset_in, no_count_in, too_deep_in, too_big_in}
use Rattle.trdp_dataset.specs.Faults.{dataset_fault, before_datasets}
use Rattle.trdp_dataset.proofs.LeastLemmas.{not_less}

-- a fault that a position has
abbrev pub IsOfPosition : ConfigFault → Type 0
IsOfPosition Toml = ⊥
IsOfPosition (Missing key) = Unit {0}
IsOfPosition (WrongType key) = Unit {0}
IsOfPosition Real = Unit {0}
IsOfPosition BadId = Unit {0}
IsOfPosition TwiceId = ⊥
IsOfPosition (NoDataset id) = ⊥
IsOfPosition NoCount = ⊥
IsOfPosition TooDeep = ⊥
IsOfPosition TooBig = ⊥
IsOfPosition TooMany = Unit {0}
IsOfPosition OutOfMemory = ⊥

-- a fault that datasets have
abbrev pub IsOfDatasets : ConfigFault → Type 0
IsOfDatasets Toml = ⊥
IsOfDatasets (Missing key) = ⊥
IsOfDatasets (WrongType key) = ⊥
IsOfDatasets Real = ⊥
IsOfDatasets BadId = ⊥
IsOfDatasets TwiceId = Unit {0}
IsOfDatasets (NoDataset id) = Unit {0}
IsOfDatasets NoCount = Unit {0}
IsOfDatasets TooDeep = Unit {0}
IsOfDatasets TooBig = Unit {0}
IsOfDatasets TooMany = ⊥
IsOfDatasets OutOfMemory = ⊥

wrong_single : (key : Key) (b : Bool) → IfSome (wrong_unless key b) IsOfPosition
wrong_single key true = tt
wrong_single key false = tt

bad_single : (b : Bool) → IfSome (bad_unless b) IsOfPosition
bad_single true = tt
bad_single false = tt

count_single : (key : Key) (b c : Bool)
    → IfSome (if b then Some (Missing key) else if c then Some TooMany else None) IsOfPosition
count_single key true c = tt
count_single key false true = tt
count_single key false false = tt

chosen_single : (b : Bool) (one other : Option ConfigFault) → IfSome one IsOfPosition
    → IfSome other IsOfPosition → IfSome (if b then one else other) IsOfPosition
chosen_single true one other h k = h
chosen_single false one other h k = k

again_single : (key : Key) (again : Bool) (other : Option ConfigFault)
    → IfSome other IsOfPosition → IfSome (again_fault key again other) IsOfPosition
again_single key again (Some fault) h = h
again_single key true None h = tt
again_single key false None h = tt

quota_single : (key : Key) (most : ℕ) (o : Option ℕ) → IfSome (quota_fault key most o) IsOfPosition
quota_single key most None = tt
quota_single key most (Some n) = chosen_single (nat_lt most n) (Some TooMany) None tt tt

value_single : (key : Key) (w : Wanted) (d : Data) → IfSome (value_fault key w d) IsOfPosition
value_single key wanted.Table d = wrong_single key (is_table d)
value_single key (wanted.Tables most) d =
    chosen_single (is_tables d) (count_fault key most (length (items_in d)))
    (Some (WrongType key)) (count_single key
    (is_required key && (length (items_in d) == 0)) (nat_lt most (length (items_in d)))) tt
value_single key (wanted.Numbers most least greatest) d =
    chosen_single (is_numbers least greatest d) (count_fault key most (length (items_in d)))
    (Some (WrongType key)) (count_single key
    (is_required key && (length (items_in d) == 0)) (nat_lt most (length (items_in d)))) tt
value_single key (wanted.Addresses most least greatest) d =
    let again = has_again (addresses_among least greatest (items_in d)) in
    let count = count_fault key most (length (items_in d)) in
    chosen_single (are_addresses least greatest d) (again_fault key again count)
    (Some (WrongType key)) (again_single key again count (count_single key
    (is_required key && (length (items_in d) == 0)) (nat_lt most (length (items_in d))))) tt
value_single key wanted.Address d = wrong_single key (is_some (address_in d))
value_single key (wanted.Number least most) d =
    wrong_single key (is_some (natural_within least most d))
value_single key (wanted.Quota most) d = quota_single key most (natural_in d)
value_single key (wanted.Identifier least most) d =
    chosen_single (is_integer d) (bad_unless (is_some (identifier_in d)))
    (Some (WrongType key)) (bad_single (is_some (identifier_in d))) tt
value_single key wanted.Kind d =
    chosen_single (is_type d) (if is_real d then Some Real else bad_unless (is_some (kind_in d)))
    (Some (WrongType key))
    (chosen_single (is_real d) (Some Real) (bad_unless (is_some (kind_in d)))
    tt (bad_single (is_some (kind_in d)))) tt

found_single : (key : Key) (o : Option Data) → IfSome (found_fault key o) IsOfPosition
found_single key None = chosen_single (is_required key) (Some (Missing key)) None tt tt
found_single key (Some d) = value_single key (wanted_by key) d

two_single : (a b : Option ConfigFault) → IfSome a IsOfPosition
    → IfSome b IsOfPosition → IfSome (least_of_two a b) IsOfPosition
two_single None b h k = k
two_single (Some f) None h k = h
two_single (Some f) (Some g) h k = chosen_single (nat_lt (rank g) (rank f)) (Some g) (Some f) k h

-- the least fault of positions is one that positions have
pub least_single : (positions : List PositionModel)
    → IfSome (least_fault (map fault_at positions)) IsOfPosition
least_single [] = tt
least_single (p ∷ positions) = two_single (fault_at p)
    (least_fault (map fault_at positions)) (found_single p.key p.found) (least_single positions)

first_own : (o : Option ConfigFault) (later : List (Option ConfigFault)) → IfSome o IsOfDatasets
    → IfSome (first_fault later) IsOfDatasets → IfSome (first_fault (o ∷ later)) IsOfDatasets
first_own None later h k = k
first_own (Some f) later h k = h

own_made : (o : Option ℕ) → IfSome (option_map (λ id. NoDataset id) o) IsOfDatasets
own_made None = tt
own_made (Some id) = tt

own_where : (b : Bool) (x : ConfigFault) → IsOfDatasets x
    → IfSome (if b then Some x else None) IsOfDatasets
own_where true x h = h
own_where false x h = tt

own_unless : (b : Bool) (x : ConfigFault) → IsOfDatasets x
    → IfSome (if b then None else Some x) IsOfDatasets
own_unless true x h = tt
own_unless false x h = h

-- the fault of datasets is one that datasets have
pub dataset_own : (ds : List DatasetModel) → IfSome (dataset_fault ds) IsOfDatasets
unfolding twice_id_in no_dataset_in no_count_in too_deep_in too_big_in
dataset_own ds =
    first_own (twice_id_in ds) _ (own_where _ TwiceId tt)
    (first_own (no_dataset_in ds) _ (own_made _)
    (first_own (no_count_in ds) _ (own_unless _ NoCount tt)
    (first_own (too_deep_in ds) _ (own_unless _ TooDeep tt)
    (first_own (too_big_in ds) [] (own_unless _ TooBig tt) tt))))

-- a fault of a position that comes before those of datasets
abbrev pub IsEarly : ConfigFault → Type 0
IsEarly f = rank f ≤ 5

pub early : (f : ConfigFault) → IsOfPosition f → (f ≡ TooMany → ⊥) → IsEarly f
early Toml h other = absurd h
early (Missing key) h other = lit≤ tt
early (WrongType key) h other = lit≤ tt
early Real h other = lit≤ tt
early BadId h other = lit≤ tt
early TwiceId h other = absurd h
early (NoDataset id) h other = absurd h
early NoCount h other = absurd h
early TooDeep h other = absurd h
early TooBig h other = absurd h
early TooMany h other = absurd (other refl)
early OutOfMemory h other = absurd h

own_rank : (f : ConfigFault) → IsOfDatasets f → (6 ≤ rank f) × (rank f ≤ 10)
own_rank Toml h = absurd h
own_rank (Missing key) h = absurd h
own_rank (WrongType key) h = absurd h
own_rank Real h = absurd h
own_rank BadId h = absurd h
own_rank TwiceId h = (lit≤ tt, lit≤ tt)
own_rank (NoDataset id) h = (lit≤ tt, lit≤ tt)
own_rank NoCount h = (lit≤ tt, lit≤ tt)
own_rank TooDeep h = (lit≤ tt, lit≤ tt)
own_rank TooBig h = (lit≤ tt, lit≤ tt)
own_rank TooMany h = absurd h
own_rank OutOfMemory h = absurd h

-- an early fault comes before those of datasets
pub early_first : (f : ConfigFault) (o : Option ConfigFault)
    → IsEarly f → IfSome o IsOfDatasets → least_of_two (Some f) o ≡ Some f
early_first f None h k = refl
early_first f (Some g) h k =
    let r = own_rank g k in
    ap (λ (v : Bool). if v then Some g else Some f)
    (not_less (rank g) (rank f) (omega (arith, h, r.0)))

-- no fault of positions comes before those of datasets
abbrev pub IsLate : Option ConfigFault → Type 0
IsLate o = None ≡ before_datasets o

own_before_many : (o : Option ConfigFault) (f : ConfigFault)
    → o ≡ Some f → IfSome o IsOfDatasets → least_of_two (Some TooMany) o ≡ Some f
own_before_many None f e h = cc
own_before_many (Some g) f e h =
    let r = own_rank g h in
    ap (λ (v : Bool). if v then Some g else Some TooMany)
    ((Decides-ltb (rank g) 11).1 (omega (arith, r.1))) ∙ e

-- the fault of datasets comes before too many of something
pub late_last : (least o : Option ConfigFault) (f : ConfigFault)
    → IsLate least → o ≡ Some f → IfSome o IsOfDatasets → least_of_two least o ≡ Some f
late_last None o f late e h = e
late_last (Some TooMany) o f late e h = own_before_many o f e h
late_last (Some Toml) o f late e h = cc
late_last (Some (Missing key)) o f late e h = cc
late_last (Some (WrongType key)) o f late e h = cc
late_last (Some Real) o f late e h = cc
late_last (Some BadId) o f late e h = cc
late_last (Some TwiceId) o f late e h = cc
late_last (Some (NoDataset id)) o f late e h = cc
late_last (Some NoCount) o f late e h = cc
late_last (Some TooDeep) o f late e h = cc
late_last (Some TooBig) o f late e h = cc
late_last (Some OutOfMemory) o f late e h = cc

-- a fault that comes before those of datasets isn't that of too many
pub before_first : (least : Option ConfigFault) (f : ConfigFault)
    → Some f ≡ before_datasets least → (Some f ≡ least) × (f ≡ TooMany → ⊥)
before_first None f e = cc
before_first (Some TooMany) f e = cc
before_first (Some Toml) f e = (e, λ many. cc)
before_first (Some (Missing key)) f e = (e, λ many. cc)
before_first (Some (WrongType key)) f e = (e, λ many. cc)
before_first (Some Real) f e = (e, λ many. cc)
before_first (Some BadId) f e = (e, λ many. cc)
before_first (Some TwiceId) f e = (e, λ many. cc)
before_first (Some (NoDataset id)) f e = (e, λ many. cc)
before_first (Some NoCount) f e = (e, λ many. cc)
before_first (Some TooDeep) f e = (e, λ many. cc)
before_first (Some TooBig) f e = (e, λ many. cc)
before_first (Some OutOfMemory) f e = (e, λ many. cc)

no_toml : (f : ConfigFault) → IsOfPosition f ⊎ IsOfDatasets f → f ≡ Toml → ⊥
no_toml f h e = elim h [ inl p ↦ by f e p | inr d ↦ of f e d ]
  where
    by : (g : ConfigFault) → g ≡ Toml → IsOfPosition g → ⊥
    by Toml s p = p
    by (Missing key) s p = cc
    by (WrongType key) s p = cc
    by Real s p = cc
    by BadId s p = cc
    by TwiceId s p = p
    by (NoDataset id) s p = p
    by NoCount s p = p
    by TooDeep s p = p
    by TooBig s p = p
    by TooMany s p = cc
    by OutOfMemory s p = p

    of : (g : ConfigFault) → g ≡ Toml → IsOfDatasets g → ⊥
    of Toml s p = p
    of (Missing key) s p = p
    of (WrongType key) s p = p
    of Real s p = p
    of BadId s p = p
    of TwiceId s p = cc
    of (NoDataset id) s p = cc
    of NoCount s p = cc
    of TooDeep s p = cc
    of TooBig s p = cc
    of TooMany s p = p
    of OutOfMemory s p = p

-- neither positions nor datasets have the fault that there is no table
pub never_toml_of : (a b : Option ConfigFault)
    → IfSome a IsOfPosition → IfSome b IsOfDatasets → least_of_two a b ≡ Some Toml → ⊥
never_toml_of None None h k e = cc
never_toml_of None (Some g) h k e = no_toml g (inr k) cc
never_toml_of (Some f) None h k e = no_toml f (inl h) cc
never_toml_of (Some f) (Some g) h k e = by (nat_lt (rank g) (rank f)) e
  where
    by : (b : Bool) → (if b then Some g else Some f) ≡ Some Toml → ⊥
    by true s = no_toml g (inr k) cc
    by false s = no_toml f (inl h) cc
