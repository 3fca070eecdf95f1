use Rattle.std.proofs.Common.{arith, sym}
use Rattle.std.proofs.lemmas.List.{take_all}
use Rattle.std.proofs.lemmas.List.Elements.{All-same}
use Rattle.trdp_base.specs.HexText.{IsHexDigit}
use Rattle.trdp_base.proofs.HexLemmas.{digits_more}
use Rattle.trdp_base.proofs.hex.are_digits.Goals as goal

pub loop-digit-preserved : goal.loop-digit-preserved
loop-digit-preserved c =
    let l = c.loop-digit in
    digits_more l.good c.is_digit-good.result c.args.text.now l.digit-index
    c.loop-digit-test.true l.invariant.0 l.invariant.1 c.is_digit-good.ensures

pub returns : goal.returns
returns c = (
  λ good. All-same IsHexDigit _ _ (sym (take_all c.loop-digit.digit-index c.args.text.now
      (omega (arith, c.loop-digit-test.false)))) (c.loop-digit.invariant.0 good),
  c.loop-digit.invariant.1,
)
