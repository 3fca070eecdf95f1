use Rattle.std.proofs.Common.{sym}
use Rattle.trdp_store.proofs.StoreLemmas.Slots.{slots_kept}
use Rattle.trdp_calls.proofs.publishers.publish.Goals as goal

pub returns-in-Some-clause-others : goal.returns-in-Some-clause-others
returns-in-Some-clause-others c = sym (slots_kept c.args.store.now c.args.s c.requires.slot)

pub returns-in_err-publisher-clause-others : goal.returns-in_err-publisher-clause-others
returns-in_err-publisher-clause-others c =
    sym (slots_kept c.args.store.now c.args.s c.requires.slot)
