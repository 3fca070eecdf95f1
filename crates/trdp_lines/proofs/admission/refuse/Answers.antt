use Rattle.std.proofs.Common.{[], ◌∷◌, refl}
use Rattle.trdp_lines.proofs.BetweenLemmas.{told_next}
use Rattle.trdp_lines.proofs.admission.refuse.Goals as goal

pub returns-clause-refused : goal.returns-clause-refused
returns-clause-refused g c = record {
  writing = _;
  busy = refl;
  told = told_next _ _ _ (_ ∷ []) (_ ∷ []) c.write.ensures.told c.close.ensures.told;
}
