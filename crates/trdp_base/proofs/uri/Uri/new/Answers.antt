use Rattle.std.proofs.Common.{rules, ◌∙◌}
use Rattle.trdp_base.proofs.UriLemmas.{before_none}
use Rattle.trdp_base.proofs.uri.Uri.new.Goals as goal

pub returns-clause-value : goal.returns-clause-value
returns-clause-value c = c.from_field.ensures ∙ before_none c.args.bytes.now (search rules)

pub returns-clause-valid : goal.returns-clause-valid
returns-clause-valid c = search rules
