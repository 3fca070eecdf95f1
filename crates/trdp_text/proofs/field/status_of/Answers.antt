use Rattle.std.proofs.Common.{Some, ap, ◌∙◌}
use Rattle.std.proofs.lemmas.Int.{to_z-of_z}
use Rattle.std.specs.Prelude.{FitsSigned}
use Rattle.std.specs.Int.{w32}
use Rattle.trdp_text.proofs.ReadLemmas.Fields.{err_not_ok}
use Rattle.trdp_text.proofs.ReadLemmas.Statuses.{status_found, status_lacks}
use Rattle.trdp_text.proofs.field.status_of.Goals as goal

pub returns-in-Ok-clause-value : goal.returns-in-Ok-clause-value
returns-in-Ok-clause-value c =
    let fits : FitsSigned w32 c.in-Ok.status = assumption in
    ap Some (to_z-of_z w32 c.in-Ok.status fits)
    ∙ status_found c.args.word.now c.in-Ok.status fits c.in-Ok.ensures.value

pub returns-in-Err-clause-value : goal.returns-in-Err-clause-value
returns-in-Err-clause-value c =
    status_lacks c.args.word.now
    (λ status fits is. err_not_ok status _ (c.in-Err.ensures.found status fits is))
