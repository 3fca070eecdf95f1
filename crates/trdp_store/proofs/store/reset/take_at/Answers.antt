use Rattle.std.proofs.Common.{◌∙◌, sym, ap, arith}
use Rattle.std.proofs.lemmas.Bool.{false≢true}
use Rattle.trdp_store.proofs.OrderLemmas.Removed.{without_order, scheduled_without}
use Rattle.trdp_store.proofs.OrderLemmas.Counts.{orders_counted}
use Rattle.trdp_store.proofs.OrderLemmas.Emptied.{has_owner, owned_at, gone_at, key_at}
use Rattle.trdp_store.proofs.OrderLemmas.Emptied.{one_fewer, emptied_after}
use Rattle.trdp_store.proofs.store.reset.take_at.Goals as goal

pub returns-in_default-owner-clause-fewer : goal.returns-in_default-owner-clause-fewer
returns-in_default-owner-clause-fewer c =
    absurd (false≢true (c.in_default-owner.ensures.variant ∙ has_owner c.args.table.now c.args.slot
    c.args.index c.in-Some.key c.sound.ensures.found c.sound.ensures.listed c.in-Some.ensures))

pub returns-in_default-owner-clause-table : goal.returns-in_default-owner-clause-table
returns-in_default-owner-clause-table c =
    absurd (false≢true (c.in_default-owner.ensures.variant ∙ has_owner c.args.table.now c.args.slot
    c.args.index c.in-Some.key c.sound.ensures.found c.sound.ensures.listed c.in-Some.ensures))

pub returns-clause-scheduled : goal.returns-clause-scheduled
returns-clause-scheduled c =
    let table = c.args.table.now in
    let at = owned_at table c.args.slot c.args.index c.in-Some.key c.sound.ensures.found
    c.sound.ensures.listed c.in-Some.ensures c.in-Some-owner.field-0-0 c.in-Some-owner.handle
    c.in-Some-owner.ensures.owner in
    rw c.remove.ensures.table
    (scheduled_without table c.args.schedule.now c.dismiss-comparisons.new.self
    c.args.slot c.in-Some-owner.handle c.requires.scheduled c.sound.ensures.sound
    c.sound.ensures.found c.requires.slot
    (c.dismiss-comparisons.ensures.orders ∙ ap (without_order c.args.schedule.now.orders)
    (sym (key_at table c.args.slot c.in-Some-owner.handle c.in-Some.key at)))
    c.dismiss-comparisons.ensures.rows c.dismiss-comparisons.ensures.bytes)

pub returns-clause-table : goal.returns-clause-table
returns-clause-table c = rw c.remove.ensures.table
    (gone_at c.args.table.now c.args.slot c.args.index c.in-Some.key c.sound.ensures.found
    c.sound.ensures.listed c.in-Some.ensures c.in-Some-owner.field-0-0 c.in-Some-owner.handle
    c.in-Some-owner.ensures.owner)

pub returns-clause-fewer : goal.returns-clause-fewer
returns-clause-fewer c =
    let table = c.args.table.now in
    let at = owned_at table c.args.slot c.args.index c.in-Some.key c.sound.ensures.found
    c.sound.ensures.listed c.in-Some.ensures c.in-Some-owner.field-0-0 c.in-Some-owner.handle
    c.in-Some-owner.ensures.owner in
    rw c.remove.ensures.table
    (one_fewer table c.args.slot c.in-Some-owner.handle c.in-Some.key c.requires.slot
    (c.sound.ensures.sound.slots c.args.slot).rising at)

pub returns-clause-others : goal.returns-clause-others
returns-clause-others c = rw c.remove.ensures.table
    (emptied_after c.args.table.now c.args.slot c.in-Some-owner.handle c.requires.slot)

pub returns-clause-cost : goal.returns-clause-cost
returns-clause-cost c = λ b within.
    let few = orders_counted c.args.table.now
    c.args.schedule.now c.requires.scheduled c.sound.ensures.found in
    c.dismiss-comparisons.ensures.cost b (omega (arith, within, few, c.sound.ensures.room))
