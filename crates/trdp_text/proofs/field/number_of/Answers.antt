use Rattle.std.proofs.Common.{arith}
use Rattle.trdp_text.proofs.ReadLemmas.Fields.{number_found, number_lacks, err_not_ok}
use Rattle.trdp_text.proofs.field.number_of.Goals as goal

pub returns-in-Ok-clause-value : goal.returns-in-Ok-clause-value
returns-in-Ok-clause-value c =
    number_found c.args.word.now c.args.max c.in-Ok.number
    (omega (arith, c.ranges.max.fits)) c.in-Ok.ensures.value.1 c.in-Ok.ensures.value.0

pub returns-in-Err-clause-value : goal.returns-in-Err-clause-value
returns-in-Err-clause-value c =
    number_lacks c.args.word.now c.args.max
    (λ number within is. err_not_ok number _ (c.in-Err.ensures.found number within is))
