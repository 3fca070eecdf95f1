use Rattle.std.proofs.Common.{◌≡◌, ◌*◌, ◌/◌, length, take}
use Rattle.std.specs.Prelude.{All}
use Rattle.trdp_base.specs.HexText.{hex_pairs}
use Rattle.trdp_base.proofs.HexLemmas.{IsByte}
use Rattle.trdp_base.proofs.hex.fill_from_pairs.Given as goal

abbrev pub invariant-loop-index : goal.invariant-loop-index
invariant-loop-index l =
    (hex_pairs (take l.index l.bytes) ≡ take (2 * l.index) l.text)
    × All IsByte (take l.index l.bytes)
    × (length l.bytes ≡ length l.text / 2)
