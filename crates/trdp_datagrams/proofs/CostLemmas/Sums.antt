-- Sums over the objects of slots.
-- For `CostLemmas.Telegrams`.
-- By induction on the objects.
use Rattle.std.proofs.Common.{◌≡◌, ℕ, ◌+◌, ◌≤◌, List, [], ◌∷◌, length, cond, Some}
use Rattle.std.proofs.Common.{Bool, true, false, refl, ap, arith}
use Rattle.std.specs.Prelude.{◌==◌}
use Rattle.std.proofs.lemmas.List.{length-append}
use Rattle.std.proofs.lemmas.Option.{same_Some, none-some}
use Rattle.trdp_model.specs.declared.any_object.AnyObject.{AnyObject}
use Rattle.trdp_table.specs.Tables.{Keyed, TableState, all_objects, by_handle}

-- Sums over the objects.

-- one, where it is so
abbrev pub one_if : Bool → ℕ
one_if b = cond {A = ℕ} b 1 0

-- the sum of a number of each of these objects
abbrev pub total : (AnyObject → ℕ) → List Keyed → ℕ
total f [] = 0
total f (k ∷ ks) = f k.object + total f ks

-- the same of all slots
abbrev pub total_of : (AnyObject → ℕ) → TableState → ℕ
total_of f [] = 0
total_of f (x ∷ xs) = total f x.objects + total_of f xs

total_le : (f g : AnyObject → ℕ) → ((object : AnyObject) → f object ≤ g object)
    → (ks : List Keyed) → total f ks ≤ total g ks
total_le f g le [] = omega arith
total_le f g le (k ∷ ks) = omega (arith, le k.object, total_le f g le ks)

pub total_of-le : (f g : AnyObject → ℕ) → ((object : AnyObject) → f object ≤ g object)
    → (table : TableState) → total_of f table ≤ total_of g table
total_of-le f g le [] = omega arith
total_of-le f g le (x ∷ xs) = omega (arith, total_le f g le x.objects, total_of-le f g le xs)

total_both : (f g h : AnyObject → ℕ) → ((object : AnyObject) → f object + g object ≤ h object)
    → (ks : List Keyed) → total f ks + total g ks ≤ total h ks
total_both f g h le [] = omega arith
total_both f g h le (k ∷ ks) = omega (arith, le k.object, total_both f g h le ks)

pub total_of-both : (f g h : AnyObject → ℕ)
    → ((object : AnyObject) → f object + g object ≤ h object)
    → (table : TableState) → total_of f table + total_of g table ≤ total_of h table
total_of-both f g h le [] = omega arith
total_of-both f g h le (x ∷ xs) =
    omega (arith, total_both f g h le x.objects, total_of-both f g h le xs)

pub one_if-few : (b : Bool) → one_if b ≤ 1
one_if-few true = omega arith
one_if-few false = omega arith

total_few : (f : AnyObject → ℕ) → ((object : AnyObject) → f object ≤ 1)
    → (ks : List Keyed) → total f ks ≤ length ks
total_few f once [] = omega arith
total_few f once (k ∷ ks) = omega (arith, once k.object, total_few f once ks)

-- where each counts once at most, they are no more than the objects
pub total_of-few : (f : AnyObject → ℕ) → ((object : AnyObject) → f object ≤ 1)
    → (table : TableState) → total_of f table ≤ length (all_objects table)
total_of-few f once [] = omega arith
total_of-few f once (x ∷ xs) =
    omega (
      arith,
      total_few f once x.objects,
      total_of-few f once xs,
      length-append x.objects (all_objects xs),
    )

-- one of them counts
pub found_total : (f : AnyObject → ℕ) (h : ℕ) (ks : List Keyed) (keyed : Keyed)
    → by_handle h ks ≡ Some keyed → f keyed.object ≤ total f ks
found_total f h [] keyed at = absurd (none-some keyed at)
found_total f h (k ∷ ks) keyed at = either (k.handle == h) refl at (found_total f h ks keyed)
  where
    either : (b : Bool) → (k.handle == h) ≡ b → by_handle h (k ∷ ks) ≡ Some keyed
        → (by_handle h ks ≡ Some keyed → f keyed.object ≤ total f ks)
        → f keyed.object ≤ total f (k ∷ ks)
    either true is at rest =
        let same : k ≡ keyed = same_Some k keyed (rw is at at) in
        let one : f k.object ≡ f keyed.object = ap (λ (x : Keyed). f x.object) same in
        omega (arith, one)
    either false is at rest =
        let le = rest (rw is at at) in
        omega (arith, le)
