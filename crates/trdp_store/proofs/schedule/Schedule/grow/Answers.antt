use Rattle.std.proofs.Common.{◌-◌, length, None, is_ok}
use Rattle.trdp_store.proofs.OrderLemmas.Grown.{padded_if, kept_schedule}
use Rattle.trdp_store.proofs.OrderLemmas.Grown.{schedule_rows, schedule_grown}
use Rattle.trdp_store.proofs.schedule.Schedule.grow.Goals as goal

pub invariant_of-self-in_err-lengthen-2 : goal.invariant_of-self-in_err-lengthen-2
invariant_of-self-in_err-lengthen-2 c =
    rw c.in_err-lengthen-2.ensures
    (schedule_rows c.self.inside.timers.orders c.self.inside.rows.items c.lengthen.new.sizes.items
    c.self.inside.bytes.items c.args.room c.self.invariant c.requires c.in_ok-lengthen.ensures)

pub invariant_of-self-2 : goal.invariant_of-self-2
invariant_of-self-2 c =
    schedule_grown c.self.inside.timers.orders c.grow.new.self.orders c.self.inside.rows.items
    c.lengthen.new.sizes.items c.self.inside.bytes.items c.lengthen-2.new.sizes.items c.args.room
    (is_ok c.grow.result) c.self.invariant c.requires c.in_ok-lengthen.ensures
    c.in_ok-lengthen-2.ensures c.grow.ensures.orders

pub returns-clause-kept : goal.returns-clause-kept
returns-clause-kept c =
    rw (← c.self.view_is)
    (kept_schedule _ _
    (padded_if (is_ok c.grow.result) None c.self.inside.timers.orders c.grow.new.self.orders
    (c.args.room - length c.self.inside.timers.orders) c.grow.ensures.orders)
    (record { more = _; padded_is = c.in_ok-lengthen.ensures })
    (record { more = _; padded_is = c.in_ok-lengthen-2.ensures }))
