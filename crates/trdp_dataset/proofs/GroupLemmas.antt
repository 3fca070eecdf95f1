-- The groups of a file without a fault.
-- For `SlotNumberLemmas`.
-- By: no position of the node has a fault, and each address that is kept is in its range.
use Rattle.std.proofs.Common.{◌≡◌, ◌==◌, ◌&&◌, ◌≢◌, ◌≤◌, ℕ, Bool, true, false, nat_le}
use Rattle.std.proofs.Common.{nat_lt, List, [], ◌∷◌, length, All, Option, Some, None}
use Rattle.std.proofs.Common.{IfSome, option_and_then, if◌then◌else◌, refl, arith}
use Rattle.std.proofs.Common.{leb-true, eq-eqb, ltb-false}
use Rattle.std.specs.List.{cons_option}
use Rattle.std.proofs.lemmas.Bool.{and_parts}
use Rattle.std.proofs.lemmas.List.Elements.{All-nil, All-cons}
use Rattle.std.proofs.lemmas.List.Kept.{AllPairs-cons}
use Rattle.toml.specs.Data.{Data, Members}
use Rattle.trdp_dataset.specs.declared.fault.ConfigFault.{ConfigFault}
use Rattle.trdp_dataset.specs.declared.key.Key.{Key}
use Rattle.trdp_dataset.specs.declared.key.Key.TheVariants.{Node, Address, PdPort, MdPort}
use Rattle.trdp_dataset.specs.declared.key.Key.TheVariants.{OperatorPort, SpareControlPorts}
use Rattle.trdp_dataset.specs.declared.key.Key.TheVariants.{ControlAddress, Groups, Ttl}
use Rattle.trdp_dataset.specs.Keys.{is_required}
use Rattle.trdp_dataset.specs.Types.{in_range}
use Rattle.trdp_dataset.specs.Values.{items_in, address_in, address_within, addresses_among}
use Rattle.trdp_dataset.specs.Values.{are_addresses, is_among, has_again}
use Rattle.trdp_dataset.specs.Positions.{value_at, position_at, positions_at, node_in}
use Rattle.trdp_dataset.specs.Positions.{positions_of_node, node_positions}
use Rattle.trdp_dataset.specs.Faults.{again_fault, count_fault, addresses_fault, fault_at}
use Rattle.trdp_dataset.specs.Configs.{addresses_of, node_value, groups_in}
use Rattle.trdp_dataset.specs.Groups.{IsGroup, NoTwoAlike, AreGroups}
use Rattle.trdp_dataset.proofs.FilledLemmas.{AreGood, good_back, good_first, kept}
use Rattle.trdp_dataset.proofs.FilledLemmas.{tables_by, uncounted}
use Rattle.trdp_dataset.proofs.TwiceLemmas.{false_left, false_right}

not_there : (n m : ℕ) → (n == m) ≡ false → n ≢ m
not_there n m e same = let there = eq-eqb n m same in cc

others : (n : ℕ) (ns : List ℕ) → is_among ns n ≡ false → All (λ m. n ≢ m) ns
others n [] e = All-nil (λ m. n ≢ m)
others n (m ∷ ms) e = All-cons (λ m. n ≢ m) m ms
    (not_there n m (false_left (n == m) (is_among ms n) e))
    (others n ms (false_right (n == m) (is_among ms n) e))

-- where none is there twice, no two are alike
apart : (ns : List ℕ) → has_again ns ≡ false → NoTwoAlike ns
apart [] e = λ i j d less within. absurd (omega arith)
apart (n ∷ ns) e = AllPairs-cons (λ a b. a ≢ b) n ns
    (others n ns (false_left (is_among ns n) (has_again ns) e))
    (apart ns (false_right (is_among ns n) (has_again ns) e))

chosen_within : (least greatest n : ℕ) (b : Bool) → (nat_le least n && nat_le n greatest) ≡ b
    → IfSome (if b then Some n else None) (λ m. (least ≤ m) × (m ≤ greatest))
chosen_within least greatest n true e =
    let parts = and_parts (nat_le least n) (nat_le n greatest) e in
    (leb-true least n parts.0, leb-true n greatest parts.1)
chosen_within least greatest n false e = tt

range_within : (least greatest : ℕ) (o : Option ℕ)
    → IfSome (option_and_then (in_range least greatest) o) (λ m. (least ≤ m) × (m ≤ greatest))
range_within least greatest None = tt
range_within least greatest (Some n) =
    chosen_within least greatest n (nat_le least n && nat_le n greatest) refl

one_within : (P : ℕ → Type 0) (o : Option ℕ) (rest : List ℕ)
    → IfSome o P → All P rest → All P (cons_option o rest)
one_within P None rest h later = later
one_within P (Some n) rest h later = All-cons P n rest h later

-- each address that is kept is in the range
all_within : (least greatest : ℕ) (ds : List Data)
    → All (λ m. (least ≤ m) × (m ≤ greatest)) (addresses_among least greatest ds)
all_within least greatest [] = All-nil (λ m. (least ≤ m) × (m ≤ greatest))
all_within least greatest (d ∷ ds) = one_within (λ m. (least ≤ m) × (m ≤ greatest))
    (address_within least greatest d) (addresses_among least greatest ds)
    (range_within least greatest (address_in d)) (all_within least greatest ds)

-- where an array has no fault, nothing is there twice
not_again : (key : Key) (again : Bool) (other : Option ConfigFault)
    → again_fault key again other ≡ None → (again ≡ false) × (other ≡ None)
not_again key again (Some fault) e = absurd (cc)
not_again key true None e = absurd (cc)
not_again key false None e = (refl, refl)

-- an array of groups without a fault
groups_by : (d : Data) → addresses_fault Groups 32 3758096384 4026531839 d ≡ None
    → AreGroups (addresses_among 3758096384 4026531839 (items_in d))
groups_by d e =
    let groups = addresses_among 3758096384 4026531839 (items_in d) in
    let parts = tables_by Groups (are_addresses 3758096384 4026531839 d)
    (again_fault Groups (has_again groups) (count_fault Groups 32 (length (items_in d)))) e in
    let once = not_again Groups (has_again groups)
    (count_fault Groups 32 (length (items_in d))) parts.1 in
    let tests = uncounted Groups (is_required Groups && (length (items_in d) == 0))
    (nat_lt 32 (length (items_in d))) once.1 in
    let few = ltb-false 32 (length (items_in d)) tests.1 in
    let fewer = kept (address_within 3758096384 4026531839) (items_in d) in
    record {
      few = omega (arith, few, fewer);
      within = all_within 3758096384 4026531839 (items_in d);
      apart = apart groups once.0;
    }

none_given : AreGroups []
none_given = record {
  few = omega arith;
  within = All-nil IsGroup;
  apart = λ i j d less within. absurd (omega arith);
}

groups_good : (found : Option Data)
    → fault_at (record { key = Groups; found = found }) ≡ None
    → AreGroups (addresses_of Groups found)
unfolding addresses_of
groups_good None e = none_given
groups_good (Some d) e = groups_by d e

groups_of_node : (node : Option Members) → AreGood (positions_of_node node)
    → AreGroups (addresses_of Groups (option_and_then (value_at Groups) node))
unfolding addresses_of positions_at
groups_of_node None g = none_given
groups_of_node (Some node) g =
    let front = positions_at (Address ∷ PdPort ∷ MdPort ∷ OperatorPort
    ∷ SpareControlPorts ∷ ControlAddress ∷ []) node in
    let own = position_at node Groups in
    let last = position_at node Ttl in
    groups_good (value_at Groups node)
    (good_first own (last ∷ []) (good_back front (own ∷ last ∷ []) g))

-- they are at most 32 addresses of groups, none of them there twice
pub sound_groups : (top : Members) → AreGood (node_positions top) → AreGroups (groups_in top)
unfolding groups_in node_value node_positions
sound_groups top g = groups_of_node (node_in top)
    (good_back (positions_at (Node ∷ []) top) (positions_of_node (node_in top)) g)
