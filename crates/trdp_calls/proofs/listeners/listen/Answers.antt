use Rattle.std.proofs.Common.{sym}
use Rattle.trdp_store.proofs.StoreLemmas.Slots.{slots_kept}
use Rattle.trdp_calls.proofs.listeners.listen.Goals as goal

pub returns-then-gt-clause-others : goal.returns-then-gt-clause-others
returns-then-gt-clause-others c = sym (slots_kept c.args.store.now c.args.s c.requires)
