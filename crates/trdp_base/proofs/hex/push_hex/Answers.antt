use Rattle.std.proofs.Common.{◌≡◌, ◌*◌, ◌<◌, length, arith, ap, ◌∙◌}
use Rattle.std.proofs.lemmas.Bool.Decides.{nat_tests}
use Rattle.trdp_base.specs.HexText.{text_of_hex}
use Rattle.trdp_base.proofs.HexLemmas.{text_of_some, length-hex_pairs}
use Rattle.trdp_base.proofs.hex.push_hex.Goals as goal

pub returns-in_err-reserve-clause-succeeds : goal.returns-in_err-reserve-clause-succeeds
returns-in_err-reserve-clause-succeeds c = λ room.
    let bytes = c.args.bytes.now in
    let empty = c.if-is_empty.ensures in
    let some : 0 < length bytes = grind (arith, nat_tests) in
    let twice : length (text_of_hex bytes) ≡ 2 * length bytes = ap length (text_of_some bytes some)
    ∙ length-hex_pairs bytes in
    absurd (omega (arith, twice, room, c.in_err-reserve.ensures.full))
