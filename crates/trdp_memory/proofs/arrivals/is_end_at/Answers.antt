use Rattle.std.proofs.Common.{sym, ◌∙◌, ap}
use Rattle.trdp_memory.specs.MemoryWires.{ArrivalModel, arrives_at, ends_at, is_end_if}
use Rattle.trdp_memory.proofs.FirstLemmas.{found_none, found_some, element_found}
use Rattle.trdp_memory.proofs.arrivals.is_end_at.Goals as goal

pub returns-in-None : goal.returns-in-None
unfolding ends_at
returns-in-None c = ap is_end_if (sym (found_none (arrives_at c.args.port c.args.number)
    c.args.arrivals.now (sym c.arrival_index.ensures ∙ c.in-None.is)))

pub returns-in-Some : goal.returns-in-Some
unfolding ends_at
returns-in-Some c =
    let at = sym c.arrival_index.ensures ∙ c.in-Some.is in
    let arrival = c.index-arrivals-index.result in
    let test = arrives_at c.args.port c.args.number in
    ap (λ (a : ArrivalModel). a.ends) c.arrival.view_is
    ∙ ap is_end_if (sym (found_some test c.args.arrivals.now c.in-Some.index at
    ∙ element_found test c.args.arrivals.now c.in-Some.index arrival at
    c.index-arrivals-index.is))
