-- The least of several faults.
-- For `least_fault`, which is a loop, and `load`.
-- By: the least so far and the least of the rest are the least of all.
use Rattle.std.proofs.Common.{◌≡◌, ℕ, ◌+◌, ◌<◌, ◌≤◌, Bool, true, false, nat_lt}
use Rattle.std.proofs.Common.{if◌then◌else◌, length, get_or, drop, map, List, [], ◌∷◌}
use Rattle.std.proofs.Common.{Option, Some, None, refl, sym, ap, ◌∙◌, arith, is_none}
use Rattle.std.specs.List.{list_all}
use Rattle.std.proofs.lemmas.Bool.{ltb-true}
use Rattle.std.proofs.lemmas.Bool.Decides.{Decides-ltb}
use Rattle.std.proofs.lemmas.List.{at_drop_more}
use Rattle.trdp_dataset.specs.declared.fault.ConfigFault.{ConfigFault}
use Rattle.trdp_dataset.specs.declared.position.Position.{Position}
use Rattle.trdp_dataset.specs.Positions.{PositionModel}
use Rattle.trdp_dataset.specs.Seen.{position_seen, positions_seen}
use Rattle.trdp_dataset.specs.Faults.{rank, fault_at, least_of_two, least_fault}

less_through : (x y z : ℕ) → nat_lt x y ≡ true → nat_lt y z ≡ true → nat_lt x z ≡ true
less_through x y z e f = let a = ltb-true x y e in
    let b = ltb-true y z f in (Decides-ltb x z).1 (omega (arith, a, b))

-- a test that finds no smaller number
pub not_less : (x z : ℕ) → z ≤ x → nat_lt x z ≡ false
not_less x z above = by (nat_lt x z) refl
  where
    by : (b : Bool) → nat_lt x z ≡ b → nat_lt x z ≡ false
    by true e = let a = ltb-true x z e in absurd (omega (arith, a, above))
    by false e = e

-- a test that finds no smaller number, the other way round
pub at_most : (x y : ℕ) → nat_lt x y ≡ false → y ≤ x
at_most x y e = by (nat_lt x y) refl
  where
    by : (b : Bool) → nat_lt x y ≡ b → y ≤ x
    by true f = let a : true ≡ false = sym f ∙ e in cc
    by false f = let no : (x < y → true ≡ false) = λ less. sym ((Decides-ltb x y).1 less)
        ∙ e in grind (arith, no)

chosen_alone : (b : Bool) (f g : ConfigFault)
    → least_of_two (if b then Some g else Some f) None ≡ (if b then Some g else Some f)
chosen_alone true f g = refl
chosen_alone false f g = refl

of_three : (f g h : ConfigFault) (b c : Bool)
    → nat_lt (rank g) (rank f) ≡ b → nat_lt (rank h) (rank g) ≡ c
    → least_of_two (if b then Some g else Some f) (Some h)
    ≡ least_of_two (Some f) (if c then Some h else Some g)
of_three f g h true true e s =
    ap (λ (v : Bool). if v then Some h else Some g) s ∙ sym (ap (λ (v : Bool). if v
    then Some h else Some f) (less_through (rank h) (rank g) (rank f) s e))
of_three f g h true false e s = ap (λ (v : Bool). if v then Some h else Some g) s
    ∙ sym (ap (λ (v : Bool). if v then Some g else Some f) e)
of_three f g h false true e s = refl
of_three f g h false false e s =
    let one = at_most (rank g) (rank f) e in
    let other = at_most (rank h) (rank g) s in
    ap (λ (v : Bool). if v then Some h else Some f)
    (not_less (rank h) (rank f) (omega (arith, one, other)))
    ∙ sym (ap (λ (v : Bool). if v then Some g else Some f) e)

-- of three faults it doesn't matter which two are compared first
pub least_assoc : (a b c : Option ConfigFault)
    → least_of_two (least_of_two a b) c ≡ least_of_two a (least_of_two b c)
least_assoc None b c = refl
least_assoc (Some f) None c = refl
least_assoc (Some f) (Some g) None = chosen_alone (nat_lt (rank g) (rank f)) f g
least_assoc (Some f) (Some g) (Some h) =
    of_three f g h (nat_lt (rank g) (rank f)) (nat_lt (rank h) (rank g)) refl refl

-- one fault alone is the least
pub least_alone : (o : Option ConfigFault) → least_of_two o None ≡ o
least_alone None = refl
least_alone (Some f) = refl

-- the least fault of the positions from one on
abbrev pub least_from : List Position → ℕ → Option ConfigFault
least_from positions i = least_fault (map fault_at (positions_seen (drop i positions)))

-- one turn: the least so far and that of the rest is the least of all
pub walk_turn :
    (positions : List Position) (i : ℕ) (x : Position) (least fault next all : Option ConfigFault)
    → i < length positions → x ≡ get_or positions i x
    → fault ≡ fault_at (position_seen x) → next ≡ least_of_two least fault
    → least_of_two least (least_from positions i) ≡ all
    → least_of_two next (least_from positions (i + 1)) ≡ all
walk_turn positions i x least fault next all inside item found chosen so_far =
    let rest = least_from positions (i + 1) in
    let opened =
    at_drop_more (λ ps. least_fault (map fault_at (positions_seen ps))) positions i x inside
    ∙ (ap (λ p. least_of_two (fault_at (position_seen p)) rest) (sym item)
    ∙ ap (λ o. least_of_two o rest) (sym found)) in
    ap (λ o. least_of_two o rest) chosen
    ∙ (least_assoc least fault rest ∙ (ap (least_of_two least) (sym opened) ∙ so_far))

-- where of two faults the least is none, there is neither
pub neither : (a b : Option ConfigFault) → least_of_two a b ≡ None → (a ≡ None) × (b ≡ None)
neither None b e = (refl, e)
neither (Some f) None e = cc
neither (Some f) (Some g) e = absurd (by (nat_lt (rank g) (rank f)) e)
  where
    by : (b : Bool) → (if b then Some g else Some f) ≡ None → ⊥
    by true h = cc
    by false h = cc

-- where there is no least fault, there is none
pub none_least : (positions : List PositionModel) → least_fault (map fault_at positions) ≡ None
    → list_all (λ p. is_none (fault_at p)) positions ≡ true
none_least [] e = refl
none_least (p ∷ positions) e =
    let parts = neither (fault_at p) (least_fault (map fault_at positions)) e in
    rw (parts.0, none_least positions parts.1) refl
