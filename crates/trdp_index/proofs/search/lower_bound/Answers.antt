use Rattle.std.proofs.Common.{◌≡◌, ◌≤◌, ◌<◌, ◌-◌, ◌+◌, ◌/◌, ◌^◌, ℕ}
use Rattle.std.proofs.Common.{length, inl, inr, arith, sym, subst}
use Rattle.std.proofs.lemmas.Bool.{cases_lt}
use Rattle.trdp_index.proofs.HalvingLemmas.{step_bound, capped}
use Rattle.trdp_index.proofs.search.lower_bound.Goals as goal

pub loop-low-preserved-then-is_below : goal.loop-low-preserved-then-is_below
loop-low-preserved-then-is_below g c =
    let low = c.loop-low.low in
    let high = c.loop-low.high in
    let middle = low + (high - low) / 2 in
    let some : low < high = c.loop-low-test.true in
    let one : c.is_below.new.comparisons ≡ c.loop-low.comparisons + 1 =
    c.is_below.ensures.counted in
    let cost : (b : ℕ) → length c.args.rows.now < 2 ^ b
    → (j : ℕ) × (c.loop-low.comparisons + 1 + j ≤ c.args.comparisons.now + b)
    × (high - (middle + 1) < 2 ^ j) =
    λ b h. step_bound c.loop-low.comparisons c.args.comparisons.now b (high - low)
    (high - (middle + 1)) (c.loop-low.invariant.cost b h) (omega arith) (omega arith) in
    let all = capped c.loop-low.comparisons c.args.comparisons.now
    64 (high - (middle + 1)) (cost 64 c.loop-low.invariant.fits) in
    record {
      order = omega arith;
      within = c.loop-low.invariant.within;
      before = c.is_below.ensures.below c.if-is_below.true;
      after = c.loop-low.invariant.after;
      cost = λ b h. subst (λ (p : ℕ). (j : ℕ) × (p + j ≤ c.args.comparisons.now + b)
          × (high - (middle + 1) < 2 ^ j)) (sym one) (cost b h);
      fits = c.loop-low.invariant.fits;
      few = omega (arith, all, one);
      kept = omega (arith, one, c.loop-low.invariant.kept);
      untouched = λ same. absurd (omega (arith, same, one, c.loop-low.invariant.kept));
    }

pub loop-low-preserved : goal.loop-low-preserved
loop-low-preserved g c =
    let low = c.loop-low.low in
    let high = c.loop-low.high in
    let middle = low + (high - low) / 2 in
    let some : low < high = c.loop-low-test.true in
    let one : c.is_below.new.comparisons ≡ c.loop-low.comparisons + 1 =
    c.is_below.ensures.counted in
    let cost : (b : ℕ) → length c.args.rows.now < 2 ^ b → (j : ℕ)
    × (c.loop-low.comparisons + 1 + j ≤ c.args.comparisons.now + b) × (middle - low < 2 ^ j) =
    λ b h. step_bound c.loop-low.comparisons c.args.comparisons.now
    b (high - low) (middle - low) (c.loop-low.invariant.cost b h) (omega arith) (omega arith) in
    let all = capped c.loop-low.comparisons c.args.comparisons.now
    64 (middle - low) (cost 64 c.loop-low.invariant.fits) in
    record {
      order = omega arith;
      within = omega (arith, c.loop-low.invariant.within);
      before = c.loop-low.invariant.before;
      after = c.is_below.ensures.above c.if-is_below.false;
      cost = λ b h. subst (λ (p : ℕ). (j : ℕ)
          × (p + j ≤ c.args.comparisons.now + b) × (middle - low < 2 ^ j)) (sym one) (cost b h);
      fits = c.loop-low.invariant.fits;
      few = omega (arith, all, one);
      kept = omega (arith, one, c.loop-low.invariant.kept);
      untouched = λ same. absurd (omega (arith, same, one, c.loop-low.invariant.kept));
    }

pub returns-clause-least : goal.returns-clause-least
returns-clause-least g c = λ some.
    elim (cases_lt c.args.comparisons.now c.loop-low.comparisons) [
      | inl less ↦ less
      | inr same ↦
          let ends =
          c.loop-low.invariant.untouched (omega (arith, same, c.loop-low.invariant.kept)) in
          let met : c.loop-low.high ≤ c.loop-low.low = c.loop-low-test.false in
          absurd (omega (arith, ends.0, ends.1, some, met))
    ]
