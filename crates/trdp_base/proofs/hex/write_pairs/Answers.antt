use Rattle.std.proofs.Common.{◌≡◌, ◌+◌, ◌*◌, ◌<◌, ◌∷◌, ◌++◌, [], length, take, arith, ap, ◌∙◌}
use Rattle.std.specs.Prelude.{slice_set}
use Rattle.std.proofs.lemmas.List.{take_more_set, length-set}
use Rattle.trdp_base.proofs.HexLemmas.{push_more}
use Rattle.trdp_base.proofs.hex.write_pairs.Goals as goal

pub loop-index-preserved : goal.loop-index-preserved
loop-index-preserved c =
    let l = c.loop-index in
    let place = 2 * l.index in
    let high = c.digit_of.result in
    let low = c.digit_of-in-loop-index.result in
    let first = slice_set l.digits place high in
    let inside : place + 1 < length l.digits =
    omega (arith, c.loop-index-test.true, l.invariant.1) in
    let kept = length-set l.digits place high in
    let before = take_more_set l.digits place high (omega (arith, inside)) in
    let more : 2 * (l.index + 1) ≡ place + 1 + 1 = omega arith in (
      ap (λ n. take n (slice_set first (place + 1) low)) more
          ∙ take_more_set first (place + 1) low (omega (arith, kept, inside))
          ∙ ap (λ front. front ++ low ∷ []) before
          ∙ push_more [] _ c.args.bytes.now l.index high low c.loop-index-test.true
          c.digit_of.ensures c.digit_of-in-loop-index.ensures l.invariant.0,
      length-set first (place + 1) low ∙ kept ∙ l.invariant.1,
    )
