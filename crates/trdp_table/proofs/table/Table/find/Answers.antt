use Rattle.std.proofs.Common.{sym}
use Rattle.trdp_table.proofs.TableLemmas.Known.{within_slots}
use Rattle.trdp_table.proofs.TableLemmas.Found.{slot_read, found_key}
use Rattle.trdp_table.proofs.table.Table.find.Goals as goal

pub returns : goal.returns
returns c =
    let slots = c.self.inside.slots.items in
    let pool = c.self.inside.pool in
    let lt = within_slots slots pool c.args.self.now c.args.slot c.self.view_is c.requires in
    let row =
    slot_read slots c.args.slot c.index.result.now lt (rw c.from.ensures at c.index.ensures) in
    rw (← c.self.view_is, c.find.ensures, ← row)
    (sym (found_key slots pool c.args.slot c.args.handle))
