use Rattle.std.proofs.Common.{sym, ◌∙◌, ap, take, length}
use Rattle.trdp_memory.specs.MemoryWires.{ArrivalModel, arrives_at, cut_to, room_after}
use Rattle.trdp_wire.specs.Told.{Came}
use Rattle.trdp_memory.proofs.FirstLemmas.{element_found}
use Rattle.trdp_memory.proofs.TakeRowLemmas.{arrives_not, arrives}
use Rattle.trdp_memory.proofs.arrivals.take_arrival.Goals as goal

pub returns-in-None-clause-arrived : goal.returns-in-None-clause-arrived
returns-in-None-clause-arrived c = arrives_not c.args.arrivals.now
    c.args.port c.args.number (length c.args.room.now) (sym c.arrival_index.ensures ∙ c.in-None.is)

pub returns-in-None-clause-room : goal.returns-in-None-clause-room
unfolding room_after
returns-in-None-clause-room c = search

pub returns-in-Some-clause-arrived : goal.returns-in-Some-clause-arrived
returns-in-Some-clause-arrived c =
    let at = sym c.arrival_index.ensures ∙ c.in-Some.is in
    let arrival = c.index-arrivals-index.result in
    let there = element_found (arrives_at c.args.port c.args.number)
    c.args.arrivals.now c.in-Some.index arrival at c.index-arrivals-index.is in
    let bytes = c.deref.ensures.value ∙ ap (λ (a : ArrivalModel). a.bytes) c.arrival.view_is in
    ap (λ (a : ArrivalModel). Came a.from (take c.fill-len.result c.fill-len.new.room))
    c.arrival.view_is
    ∙ arrives c.args.arrivals.now c.args.port c.args.number (length c.args.room.now)
    c.in-Some.index arrival (take c.fill-len.result c.fill-len.new.room) at there
    (c.fill-len.ensures.bytes ∙ ap (take (length c.args.room.now)) bytes)

pub returns-in-Some-clause-told : goal.returns-in-Some-clause-told
returns-in-Some-clause-told c =
    let at = sym c.arrival_index.ensures ∙ c.in-Some.is in
    let arrival = c.index-arrivals-index.result in
    let there = element_found (arrives_at c.args.port c.args.number)
    c.args.arrivals.now c.in-Some.index arrival at c.index-arrivals-index.is in
    let bytes = c.deref.ensures.value ∙ ap (λ (a : ArrivalModel). a.bytes) c.arrival.view_is in
    ap (cut_to c.fill-len.result) there
    ∙ ap (λ l. Came arrival.from (take c.fill-len.result l)) (sym bytes)
    ∙ ap (Came arrival.from) c.fill-len.ensures.cut
    ∙ ap (λ (a : ArrivalModel). Came a.from (take c.fill-len.result c.fill-len.new.room))
    (sym c.arrival.view_is)

pub returns-in-Some-clause-room : goal.returns-in-Some-clause-room
unfolding room_after
returns-in-Some-clause-room c = c.fill-len.ensures.rest
