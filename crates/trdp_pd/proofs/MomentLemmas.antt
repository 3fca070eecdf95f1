-- New publishers are due later than now.
-- For `new_is_later`.
-- By cases on the cycle, which is 0 for a publisher that is never due.
use Rattle.std.proofs.Common.{◌≡◌, ℕ, ◌+◌, Bool, true, false, refl, arith}
use Rattle.std.specs.Prelude.{◌==◌}
use Rattle.std.proofs.lemmas.Bool.Decides.{nat_tests}
use Rattle.trdp_pd.specs.declared.terms.PublisherTerms.{PublisherTerms}
use Rattle.trdp_pd.specs.Due.{has_come_by}
use Rattle.trdp_pd.specs.Publishers.{published, publisher_due}
use Rattle.trdp_pd.specs.PublisherLaws.{nat_le-past}

-- a new publisher isn't due by now
pub published-later :
    (terms : PublisherTerms) (now : ℕ)
    → has_come_by now (publisher_due (published terms now)) ≡ false
published-later terms now = either (terms.cycle == 0) refl
  where
    either :
        (b : Bool) → (terms.cycle == 0) ≡ b
        → has_come_by now (publisher_due (published terms now)) ≡ false
    either true is = rw is refl
    either false is =
        rw is (nat_le-past (now + terms.cycle) now (grind (arith, nat_tests)))
