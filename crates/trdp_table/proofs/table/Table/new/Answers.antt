use Rattle.trdp_table.proofs.TableLemmas.Known.{opened_kept, opened_seen}
use Rattle.trdp_table.proofs.table.Table.new.Goals as goal

pub invariant_of-result : goal.invariant_of-result
invariant_of-result c =
    rw (c.in_ok-slots.ensures.slots, c.in_ok-pool.ensures, c.total_room.ensures)
    (opened_kept c.args.quotas.now c.requires c.in_ok-slots.ensures.limited)

pub returns : goal.returns
returns c = rw c.in_ok-slots.ensures.slots (opened_seen c.in_ok-pool.pool c.args.quotas.now)
