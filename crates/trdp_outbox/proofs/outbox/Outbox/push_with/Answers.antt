use Rattle.std.proofs.Common.{◌≡◌, length, arith}
use Rattle.trdp_outbox.proofs.RowLemmas.{AllWithin-row, records-push}
use Rattle.trdp_outbox.proofs.outbox.Outbox.push_with.Goals as goal

pub invariant_of-self : goal.invariant_of-self
invariant_of-self c =
    let at : c.len-at.result ≡ length c.self.inside.bytes.items = omega (arith, c.len-at.ensures) in
    rw (c.append-len.ensures.items, c.push_row.ensures.items)
    (AllWithin-row c.self.inside.bytes.items c.args.bytes.now
    c.self.inside.rows.items _ c.self.invariant at c.append-len.ensures.length)

pub returns-clause-records : goal.returns-clause-records
returns-clause-records c =
    let at : c.len-at.result ≡ length c.self.inside.bytes.items = omega (arith, c.len-at.ensures) in
    rw (c.append-len.ensures.items, c.push_row.ensures.items, ← c.self.view_is)
    (records-push c.self.inside.bytes.items c.args.bytes.now
    c.self.inside.rows.items _ c.self.invariant at c.append-len.ensures.length)
