use Rattle.std.proofs.Common.{rules, sym}
use Rattle.trdp_base.proofs.UriLemmas.{up_to_zero, before_none}
use Rattle.trdp_base.proofs.uri.front.Goals as goal

pub returns-in-Some : goal.returns-in-Some
returns-in-Some c =
    up_to_zero c.args.field.now c.in-Some.end (λ k below. search rules) (search rules)

pub returns-in-None : goal.returns-in-None
returns-in-None c = sym (before_none c.args.field.now (search rules))
