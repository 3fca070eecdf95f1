use Rattle.std.proofs.Common.{sym}
use Rattle.trdp_outbox.proofs.RowLemmas.{AllWithin-get, no_record, some_record}
use Rattle.trdp_outbox.proofs.outbox.Outbox.get.Goals as goal

pub part-requires : goal.part-requires
part-requires c =
    rw c.deref-in-Some.ensures.value
    (AllWithin-get _ c.self.inside.rows.items c.args.i
    c.in-Some.row.now (sym (rw c.deref.ensures.value at c.in-Some.ensures)) c.self.invariant)

pub returns-in-None : goal.returns-in-None
returns-in-None c = rw (← c.self.view_is) (no_record c.self.inside.bytes.items
    c.self.inside.rows.items c.args.i (rw c.deref.ensures.value at c.in-None.ensures))

pub returns-in-Some : goal.returns-in-Some
returns-in-Some c =
    rw (← c.self.view_is, c.record.ensures)
    (some_record c.self.inside.bytes.items c.self.inside.rows.items
    c.args.i c.in-Some.row.now c.part.result.now (rw c.deref.ensures.value at c.in-Some.ensures)
    (rw c.deref-in-Some.ensures.value at c.part.ensures))
