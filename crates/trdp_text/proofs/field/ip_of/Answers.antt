use Rattle.std.proofs.Common.{◌<◌, ◌^◌}
use Rattle.trdp_text.proofs.ReadLemmas.Fields.{ip_found, ip_lacks, err_not_ok}
use Rattle.trdp_text.proofs.field.ip_of.Goals as goal

pub returns-in-Ok-clause-value : goal.returns-in-Ok-clause-value
returns-in-Ok-clause-value c =
    let small : c.in-Ok.ip.0 < 2 ^ 32 = assumption in
    ip_found c.args.word.now c.in-Ok.ip small c.in-Ok.ensures.value

pub returns-in-Err-clause-value : goal.returns-in-Err-clause-value
returns-in-Err-clause-value c =
    ip_lacks c.args.word.now (λ ip small is. err_not_ok ip _ (c.in-Err.ensures.found ip small is))
