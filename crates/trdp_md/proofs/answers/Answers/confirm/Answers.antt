use Rattle.std.proofs.Common.{rules}
use Rattle.std.proofs.lemmas.List.{take-map}
use Rattle.trdp_md.specs.Answers.{confirmed, confirmed_if}
use Rattle.trdp_md.proofs.answers.Answers.confirm.Goals as goal

pub returns : goal.returns
unfolding confirmed
returns c = search (rules, take-map (confirmed_if c.args.place))
