use Rattle.std.proofs.Common.{◌<◌, ◌^◌}
use Rattle.trdp_text.proofs.ReadLemmas.Fields.{place_found, place_lacks, err_not_ok}
use Rattle.trdp_text.proofs.field.place_of.Goals as goal

pub returns-in-Ok-clause-value : goal.returns-in-Ok-clause-value
returns-in-Ok-clause-value c =
    let small : c.in-Ok.place.ip.0 < 2 ^ 32 = assumption in
    let port : c.in-Ok.place.port < 2 ^ 16 = assumption in
    place_found c.args.word.now c.in-Ok.place small port c.in-Ok.ensures.value

pub returns-in-Err-clause-value : goal.returns-in-Err-clause-value
returns-in-Err-clause-value c =
    place_lacks c.args.word.now
    (λ place small port is. err_not_ok place _ (c.in-Err.ensures.found place small port is))
