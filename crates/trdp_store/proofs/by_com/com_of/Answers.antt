use Rattle.std.proofs.Common.{rules}
use Rattle.trdp_store.proofs.by_com.com_of.Goals as goal

pub returns-in-Listener : goal.returns-in-Listener
returns-in-Listener c = search rules
