use Rattle.std.proofs.Common.{◌<◌, ◌^◌}
use Rattle.trdp_base.proofs.NumberLemmas.{IsReadTo}
use Rattle.trdp_base.proofs.number.number_of.Given as goal

abbrev pub invariant-loop-character : goal.invariant-loop-character
invariant-loop-character l = record {
  read : IsReadTo l.text l.character-index l.number;
  small : l.number < 2 ^ 64;
}
