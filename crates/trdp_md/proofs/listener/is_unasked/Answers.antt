use Rattle.std.proofs.Common.{rules}
use Rattle.trdp_md.specs.Listeners.{is_unasked}
use Rattle.trdp_md.proofs.listener.is_unasked.Goals as goal

pub returns-in-Notify : goal.returns-in-Notify
unfolding is_unasked
returns-in-Notify c = search rules
