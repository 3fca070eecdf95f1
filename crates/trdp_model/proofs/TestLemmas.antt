-- Tests of numbers and of two facts.
-- For crates above, whose proofs take such tests apart.
-- By cases.
use Rattle.std.proofs.Common.{◌≡◌, ℕ}
use Rattle.std.proofs.Common.{Bool, true, false, refl, arith}
use Rattle.std.specs.Prelude.{◌==◌, ◌||◌}
use Rattle.std.proofs.lemmas.Bool.Decides.{nat_tests}
use Rattle.std.proofs.Common.{◌≡◌, ℕ}
use Rattle.std.proofs.Common.{Bool, true, false, refl}
use Rattle.std.proofs.Common.{arith}
use Rattle.std.specs.Prelude.{◌==◌, ◌&&◌}
use Rattle.std.proofs.lemmas.Bool.{false≢true}
use Rattle.std.proofs.lemmas.Bool.Decides.{nat_tests}

pub same_number : (h : ℕ) → (h == h) ≡ true
same_number h = grind (arith, nat_tests)

pub differ_either_way : (h k : ℕ) → (h == k) ≡ false → (k == h) ≡ false
differ_either_way h k is = grind (arith, nat_tests)

pub or_left : (a b : Bool) → (a || b) ≡ false → a ≡ false
or_left true b is = absurd (cc)
or_left false b is = refl

pub or_right : (a b : Bool) → (a || b) ≡ false → b ≡ false
or_right true b is = absurd (cc)
or_right false b is = is

pub and_right : (a b : Bool) → (a && b) ≡ true → b ≡ true
and_right true b both = both
and_right false b both = absurd (false≢true both)
