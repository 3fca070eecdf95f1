use Rattle.std.proofs.Common.{sym, ◌∙◌, ap}
use Rattle.trdp_memory.specs.MemoryConnections.{accepted_of, comes_at}
use Rattle.trdp_memory.proofs.FirstLemmas.{found_none, find_element}
use Rattle.trdp_memory.proofs.connection_log.accepted_at.Goals as goal

pub returns-in-None : goal.returns-in-None
returns-in-None c = ap accepted_of (sym (found_none (comes_at c.args.accept) c.args.comings.now
    (sym c.coming_index.ensures ∙ c.in-None.is)))

pub returns-in-Some : goal.returns-in-Some
returns-in-Some c = ap accepted_of (sym (find_element (comes_at c.args.accept)
    c.args.comings.now c.in-Some.index _ (sym c.coming_index.ensures ∙ c.in-Some.is)))
