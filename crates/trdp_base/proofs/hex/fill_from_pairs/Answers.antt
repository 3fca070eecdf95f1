use Rattle.std.proofs.Common.{◌+◌, ◌*◌, ◌<◌, length, arith, sym, ap, ◌∙◌}
use Rattle.std.proofs.lemmas.List.{take_more_set, take_all, length-set}
use Rattle.std.proofs.lemmas.List.Elements.{All-push, All-same}
use Rattle.trdp_base.specs.HexText.{hex_pairs}
use Rattle.trdp_base.proofs.HexLemmas.{IsByte, read_more}
use Rattle.trdp_base.proofs.hex.fill_from_pairs.Goals as goal

pub loop-index-preserved : goal.loop-index-preserved
loop-index-preserved c =
    let l = c.loop-index in
    let high = c.value_of_digit.ensures in
    let low = c.value_of_digit-in-loop-index.ensures in
    let inside : l.index < length l.bytes =
    omega (arith, c.loop-index-test.true, c.requires.room, l.invariant.2) in
    let more = take_more_set l.bytes
    l.index (16 * c.value_of_digit.result + c.value_of_digit-in-loop-index.result) inside in (
      ap hex_pairs more ∙ read_more _ c.args.text.now l.index
          _ _ (omega (arith, inside, l.invariant.2)) low.small high.digit low.digit l.invariant.0,
      All-same IsByte
          _ _ more (All-push IsByte _ _ l.invariant.1 (omega (arith, high.small, low.small))),
      length-set l.bytes l.index _ ∙ l.invariant.2,
    )

pub returns-clause-bytes : goal.returns-clause-bytes
returns-clause-bytes c = All-same IsByte _ _ (sym (take_all _ _ (omega (
  arith,
  c.loop-index-test.false,
  c.requires.room,
  c.loop-index.invariant.2,
)))) c.loop-index.invariant.1
