use Rattle.std.proofs.Common.{◌≡◌, ◌*◌, length, take}
use Rattle.trdp_base.specs.HexText.{hex_pairs}
use Rattle.trdp_base.proofs.hex.write_pairs.Given as goal

abbrev pub invariant-loop-index : goal.invariant-loop-index
invariant-loop-index l =
    (take (2 * l.index) l.digits ≡ hex_pairs (take l.index l.bytes))
    × (length l.digits ≡ 2 * length l.bytes)
