use Rattle.std.proofs.Common.{◌∙◌, ap}
use Rattle.trdp_md.specs.declared.caller.Caller.{Caller}
use Rattle.trdp_md.proofs.ConfirmLemmas.{terms-confirming as confirming_terms}
use Rattle.trdp_calls.proofs.callers.confirm_by.Goals as goal

pub returns-in-None-clause-terms : goal.returns-in-None-clause-terms
returns-in-None-clause-terms c =
    ap (λ (x : Caller). x.terms) c.confirm.ensures.state
    ∙ confirming_terms c.args.caller.now c.args.place

pub returns-in-Some-closed-clause-terms : goal.returns-in-Some-closed-clause-terms
returns-in-Some-closed-clause-terms c =
    ap (λ (x : Caller). x.terms) c.confirm.ensures.state
    ∙ confirming_terms c.args.caller.now c.args.place
