use Rattle.std.proofs.Common.{Some, ap}
use Rattle.trdp_text.proofs.ReadLemmas.Fields.{uri_found, uri_lacks, ok_same}
use Rattle.trdp_text.proofs.field.uri_of.Goals as goal

pub returns-in-Ok-clause-value : goal.returns-in-Ok-clause-value
returns-in-Ok-clause-value c =
    uri_found c.args.word.now c.in-Ok.uri c.in-Ok.ensures.good.0
    c.in-Ok.ensures.good.1 c.in-Ok.ensures.value

pub returns-in-Ok-clause-found : goal.returns-in-Ok-clause-found
returns-in-Ok-clause-found c = λ uri small good is.
    ap Some (ok_same _ _ (c.in-Ok.ensures.found uri good small is))

pub returns-in-Err-clause-value : goal.returns-in-Err-clause-value
returns-in-Err-clause-value c = uri_lacks c.args.word.now c.in-Err.ensures.bad.1
