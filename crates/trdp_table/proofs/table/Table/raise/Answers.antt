use Rattle.std.proofs.Common.{◌≤◌, arith}
use Rattle.trdp_table.specs.Tables.{last_handle}
use Rattle.trdp_table.proofs.TableLemmas.Known.{within_slots}
use Rattle.trdp_table.proofs.TableLemmas.Found.{slot_read}
use Rattle.trdp_table.proofs.TableLemmas.Kept.{IsKeptTable-next}
use Rattle.trdp_table.proofs.TableLemmas.SeenChanges.{next_seen}
use Rattle.trdp_table.proofs.table.Table.raise.Goals as goal

pub invariant_of-self : goal.invariant_of-self
invariant_of-self c =
    let slots = c.self.inside.slots.items in
    let pool = c.self.inside.pool in
    let lt = within_slots slots pool c.args.self.now c.args.slot c.self.view_is c.requires in
    let row = slot_read slots c.args.slot c.index_mut.result.now
    lt (rw c.from.ensures at c.index_mut.ensures.value) in
    let le : c.args.next ≤ last_handle = omega (arith, c.ranges.next.fits) in
    rw (c.from.ensures, c.raise.ensures, ← row)
    (IsKeptTable-next slots pool c.args.slot c.args.next c.self.invariant lt le)

pub returns : goal.returns
returns c =
    let slots = c.self.inside.slots.items in
    let pool = c.self.inside.pool in
    let lt = within_slots slots pool c.args.self.now c.args.slot c.self.view_is c.requires in
    let row = slot_read slots c.args.slot c.index_mut.result.now
    lt (rw c.from.ensures at c.index_mut.ensures.value) in
    rw (← c.self.view_is, c.from.ensures, c.raise.ensures, ← row)
    (next_seen slots pool c.args.slot c.args.next)
