use Rattle.std.proofs.Common.{◌≡◌, length, arith, ap, length-append}
use Rattle.trdp_head.specs.MdBytes.{md_bytes}
use Rattle.trdp_outbox.proofs.RowLemmas.{AllWithin-row, records-push}
use Rattle.trdp_outbox.proofs.outbox.Outbox.push_md.Goals as goal

pub invariant_of-self : goal.invariant_of-self
invariant_of-self c =
    let telegram = md_bytes c.args.head.now c.args.payload.now in
    let len : c.push_md-len.result ≡ length telegram =
    omega (
      arith,
      c.push_md-len.ensures.length,
      c.push_md-len.ensures.len,
      ap length c.push_md-len.ensures.items,
      length-append c.self.inside.bytes.items telegram,
    ) in
    let at : c.len-at.result ≡ length c.self.inside.bytes.items = omega (arith, c.len-at.ensures) in
    rw (c.push_md-len.ensures.items, c.push_row.ensures.items)
    (AllWithin-row c.self.inside.bytes.items telegram
    c.self.inside.rows.items _ c.self.invariant at len)

pub returns-clause-records : goal.returns-clause-records
returns-clause-records c =
    let telegram = md_bytes c.args.head.now c.args.payload.now in
    let len : c.push_md-len.result ≡ length telegram =
    omega (
      arith,
      c.push_md-len.ensures.length,
      c.push_md-len.ensures.len,
      ap length c.push_md-len.ensures.items,
      length-append c.self.inside.bytes.items telegram,
    ) in
    let at : c.len-at.result ≡ length c.self.inside.bytes.items = omega (arith, c.len-at.ensures) in
    rw (c.push_md-len.ensures.items, c.push_row.ensures.items, ← c.self.view_is)
    (records-push c.self.inside.bytes.items telegram
    c.self.inside.rows.items _ c.self.invariant at len)
