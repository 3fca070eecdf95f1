use Rattle.std.proofs.Common.{sym, ◌∙◌, ap}
use Rattle.std.specs.Option.{option_copied}
use Rattle.trdp_program.proofs.StreamLemmas.{cut_last, cut_none}
use Rattle.trdp_program.proofs.totals_log.is_cut_behind.Goals as goal

pub returns-in-Some : goal.returns-in-Some
returns-in-Some c =
    sym (cut_last c.args.before c.args.bytes.now c.in-Some.byte.now
    (sym c.last.ensures.value ∙ ap option_copied c.in-Some.is))

pub returns-in-None : goal.returns-in-None
returns-in-None c =
    sym (cut_none c.args.before c.args.bytes.now
    (sym c.last.ensures.value ∙ ap option_copied c.in-None.is))
