use Rattle.std.proofs.Common.{sym, ◌∙◌, ap, take, length}
use Rattle.trdp_memory.specs.Waiting.{WaitingDatagram, is_at}
use Rattle.trdp_wire.specs.Told.{Came}
use Rattle.trdp_memory.proofs.FirstLemmas.{element_found}
use Rattle.trdp_memory.proofs.WaitingLemmas.{next_none, next_some}
use Rattle.trdp_memory.proofs.memory_sockets.MemorySockets.next_at.Goals as goal

pub returns-in_err-index-clause-found : goal.returns-in_err-index-clause-found
returns-in_err-index-clause-found c =
    let none = rw c.deref.ensures.value at (sym c.index_at.ensures ∙ c.in_err-index.was) in
    rw c.from_residual.ensures (next_none c.args.self.now.arrivals.items c.args.socket
    (length c.args.room.now) none)

pub returns-clause-found : goal.returns-clause-found
returns-clause-found c =
    let waiting = c.args.self.now.arrivals.items in
    let at = rw c.deref.ensures.value at (sym c.index_at.ensures ∙ c.in_ok-index.was) in
    let datagram = c.remove-arrival.result in
    let there = element_found (is_at c.args.socket) waiting c.in_ok-index.index datagram at
    c.remove-arrival.ensures.value in
    let bytes = c.deref-2.ensures.value
    ∙ ap (λ (d : WaitingDatagram). d.bytes) c.arrival.view_is in
    ap (λ (d : WaitingDatagram). Came d.from (take c.fill-len.result c.fill-len.new.room))
    c.arrival.view_is
    ∙ next_some waiting c.args.socket (length c.args.room.now) c.in_ok-index.index datagram
    (take c.fill-len.result c.fill-len.new.room) at there
    (c.fill-len.ensures.bytes ∙ ap (take (length c.args.room.now)) bytes)
