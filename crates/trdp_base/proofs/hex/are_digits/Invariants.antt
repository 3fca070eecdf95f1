use Rattle.std.proofs.Common.{take}
use Rattle.std.specs.Prelude.{All, IsTrue}
use Rattle.trdp_base.specs.HexText.{IsHexDigit}
use Rattle.trdp_base.proofs.hex.are_digits.Given as goal

abbrev pub invariant-loop-digit : goal.invariant-loop-digit
invariant-loop-digit l =
    (IsTrue l.good → All IsHexDigit (take l.digit-index l.text))
    × (All IsHexDigit l.text → IsTrue l.good)
