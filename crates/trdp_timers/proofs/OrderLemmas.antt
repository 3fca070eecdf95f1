-- The order of acting is total.
-- For `Heap::settle`, `rise` and `first_below`, and for `StepLemmas` and `KeyLemmas`.
-- By cases: a key without an order comes last, and two orders are compared number by number.
use Rattle.std.proofs.Common.{◌≡◌, true, false, Option, Some, None, refl, arith}
use Rattle.std.proofs.lemmas.Bool.Decides.{nat_tests}
use Rattle.trdp_timers.specs.declared.order.Order.{Order}
use Rattle.trdp_timers.specs.Orders.{is_sooner, goes_before, Leads}

sooner_asym : (a b : Order) → is_sooner a b ≡ true → is_sooner b a ≡ false
sooner_asym a b h = grind (arith, nat_tests)

sooner_trans : (a b c : Order) → is_sooner b a ≡ false
    → is_sooner c b ≡ false → is_sooner c a ≡ false
sooner_trans a b c h k = grind (arith, nat_tests)

pub leads_refl : (a : Option Order) → Leads a a
unfolding goes_before
leads_refl None = refl
leads_refl (Some a) = grind (arith, nat_tests)

pub leads_none : (a : Option Order) → Leads a None
unfolding goes_before
leads_none a = refl

pub leads_before : (a b : Option Order) → goes_before a b ≡ true → Leads a b
unfolding goes_before
leads_before None b h = cc
leads_before (Some a) None h = refl
leads_before (Some a) (Some b) h = sooner_asym a b h

pub leads_trans : (a b c : Option Order) → Leads a b → Leads b c → Leads a c
unfolding goes_before
leads_trans a b None h k = refl
leads_trans a None (Some c) h k = cc
leads_trans None (Some b) (Some c) h k = cc
leads_trans (Some a) (Some b) (Some c) h k = sooner_trans a b c h k
