use Rattle.std.proofs.Common.{sym}
use Rattle.trdp_store.proofs.StoreLemmas.Slots.{slots_kept}
use Rattle.trdp_calls.proofs.subscriptions.subscribe.Goals as goal

pub returns-in_err-subscription-in-Ok-clause-others :
    goal.returns-in_err-subscription-in-Ok-clause-others
returns-in_err-subscription-in-Ok-clause-others c =
    sym (slots_kept c.args.store.now c.args.s c.requires.slot)

pub returns-in-Err-clause-others : goal.returns-in-Err-clause-others
returns-in-Err-clause-others c = sym (slots_kept c.args.store.now c.args.s c.requires.slot)
