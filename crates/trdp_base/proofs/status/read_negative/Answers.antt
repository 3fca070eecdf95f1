use Rattle.std.proofs.Common.{ℕ, pos, to_z, of_z, ◌-ℤ◌, suc, arith, Ok, ap, sym, ◌∙◌}
use Rattle.trdp_base.proofs.AddressLemmas.{err_not_ok, ok_same}
use Rattle.std.specs.Int.{w32, w64}
use Rattle.trdp_base.proofs.StatusLemmas.{below_zero, negated}
use Rattle.trdp_base.proofs.status.read_negative.Goals as goal

pub returns-in_err-number-clause-found : goal.returns-in_err-number-clause-found
returns-in_err-number-clause-found c = λ status fits e.
    let below = below_zero c.args.digits.now status fits e in
    absurd (err_not_ok (suc below.0)
    _ (c.in_err-number.ensures.found (suc below.0) (omega (arith, below.3)) below.2))

pub returns-then-number-eq0-clause-found : goal.returns-then-number-eq0-clause-found
returns-then-number-eq0-clause-found c = λ status fits e.
    let below = below_zero c.args.digits.now status fits e in
    let same = ok_same _ (suc below.0)
    (c.in_ok-number.ensures.found (suc below.0) (omega (arith, below.3)) below.2) in
    absurd (omega (arith, same, c.if-number-eq0.true))

pub returns-clause-found : goal.returns-clause-found
returns-clause-found c = λ status fits e.
    let below = below_zero c.args.digits.now status fits e in
    let same = ok_same _ (suc below.0)
    (c.in_ok-number.ensures.found (suc below.0) (omega (arith, below.3)) below.2) in
    ap Ok (ap (λ (n : ℕ). to_z w32 (of_z w32 (to_z w64 (of_z w64 (pos 0 -ℤ to_z w64 n))))) same
    ∙ negated below.0 below.3 ∙ sym below.1)
