-- The order of rows is total.
-- For `RowLemmas` and `SearchLemmas`.
-- By cases on the three numbers of a rank, the first of which that differs decides.
use Rattle.std.proofs.Common.{◌≡◌, true, false, arith}
use Rattle.std.proofs.lemmas.Bool.Decides.{nat_tests}
use Rattle.trdp_index.specs.declared.rank.Rank.{Rank}
use Rattle.trdp_index.specs.Ranks.{is_before, is_same}

pub before-trans : (a b c : Rank) → is_before a b ≡ true
    → is_before b c ≡ true → is_before a c ≡ true
unfolding is_before
before-trans a b c ab bc = grind (arith, nat_tests)

-- what comes after a rank doesn't come before one that the rank doesn't come before
pub not_sooner : (a b c : Rank) → is_before a b ≡ true
    → is_before a c ≡ false → is_before b c ≡ false
unfolding is_before
not_sooner a b c ab ac = grind (arith, nat_tests)

-- of two that aren't the same one comes first
pub other_way : (a b : Rank) → is_before a b ≡ false → is_same a b ≡ false → is_before b a ≡ true
unfolding is_before is_same
other_way a b later other = grind (arith, nat_tests)

pub before_other : (a b : Rank) → is_before a b ≡ true → is_same a b ≡ false
unfolding is_before is_same
before_other a b before = grind (arith, nat_tests)

pub after_other : (a b : Rank) → is_before b a ≡ true → is_same a b ≡ false
unfolding is_before is_same
after_other a b after = grind (arith, nat_tests)

-- what comes after one of two that are the same comes after the other
pub after_same : (a b c : Rank) → is_same a c ≡ true → is_before a b ≡ true → is_before c b ≡ true
unfolding is_before is_same
after_same a b c same after = grind (arith, nat_tests)

-- of two that aren't the same only one is the same as a third
pub not_both : (a b c : Rank) → is_same a b ≡ false → is_same a c ≡ true → is_same b c ≡ false
unfolding is_same
not_both a b c other same = grind (arith, nat_tests)

-- what is the same as one of two that aren't isn't the same as the other
pub not_other : (a b c : Rank) → is_same a b ≡ true → is_same b c ≡ false → is_same a c ≡ false
unfolding is_same
not_other a b c same other = grind (arith, nat_tests)

-- what isn't the same as one of two that are isn't the same as the other
pub not_same : (a b c : Rank) → is_same a b ≡ false → is_same b c ≡ true → is_same a c ≡ false
unfolding is_same
not_same a b c other same = grind (arith, nat_tests)
