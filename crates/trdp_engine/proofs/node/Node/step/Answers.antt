use Rattle.std.proofs.Common.{length, refl, ap, sym, ◌∙◌, arith, rules}
use Rattle.trdp_engine.specs.NodeStates.{uncounted}
use Rattle.trdp_model.specs.Events.{event_model}
use Rattle.trdp_engine.proofs.CostLemmas.Bounds.{bounded_none, bounded_if}
use Rattle.trdp_model.proofs.AddedSlotLemmas.{added_alone, added_appends, added_count}
use Rattle.trdp_model.proofs.StepLemmas.{steps_alone, taken_alone, appends_at, appends_none}
use Rattle.trdp_model.proofs.StepLemmas.{always, unchanged_each}
use Rattle.trdp_model.proofs.ViewLemmas.{slots_stay}
use Rattle.trdp_engine.proofs.node.Node.step.Goals as goal

pub returns-in-Moment-clause-steps : goal.returns-in-Moment-clause-steps
returns-in-Moment-clause-steps c =
    taken_alone (uncounted c.args.self.now) (uncounted c.step_moment.new.self)
    c.args.out.now.records
    c.step_moment.new.out.records (event_model c.args.event.now) c.step_moment.result
    (rw c.in-Moment.is c.step_moment.ensures.fault) (rw c.in-Moment.is refl)
    c.step_moment.ensures.count
    c.step_moment.ensures.appends (rw c.in-Moment.is c.step_moment.ensures.outcomes)

pub returns-in-Topology-clause-steps : goal.returns-in-Topology-clause-steps
returns-in-Topology-clause-steps c =
    steps_alone (uncounted c.args.self.now) (uncounted c.step_topology.new.self)
    c.args.out.now.records
    c.args.out.now.records (event_model c.args.event.now) (rw c.in-Topology.is refl)
    (rw c.in-Topology.is refl) (ap length c.step_topology.ensures.slots)
    (appends_none c.args.self.now.slots c.args.out.now.records c.args.out.now.records refl)
    (rw (c.in-Topology.is, c.step_topology.ensures.slots)
    (unchanged_each c.args.self.now.slots c.args.out.now.records))

pub returns-in-Role-clause-steps : goal.returns-in-Role-clause-steps
returns-in-Role-clause-steps c =
    taken_alone (uncounted c.args.self.now) (uncounted c.step_role.new.self) c.args.out.now.records
    c.args.out.now.records (event_model c.args.event.now) c.step_role.result
    (rw c.in-Role.is c.step_role.ensures.fault) (rw c.in-Role.is refl)
    (ap length c.step_role.ensures.slots)
    (appends_none c.args.self.now.slots c.args.out.now.records c.args.out.now.records refl)
    (rw (c.in-Role.is, c.step_role.ensures.slots)
    (always c.step_role.result (unchanged_each c.args.self.now.slots c.args.out.now.records)))

pub returns-in-Datagram-clause-memory : goal.returns-in-Datagram-clause-memory
returns-in-Datagram-clause-memory c = rw c.in-Datagram.is c.step_datagram.ensures.memory

pub returns-in-Datagram-clause-steps : goal.returns-in-Datagram-clause-steps
returns-in-Datagram-clause-steps c =
    taken_alone (uncounted c.args.self.now) (uncounted c.step_datagram.new.self)
    c.args.out.now.records
    c.step_datagram.new.out.records (event_model c.args.event.now) c.step_datagram.result
    (rw c.in-Datagram.is c.step_datagram.ensures.fault) (rw c.in-Datagram.is refl)
    c.step_datagram.ensures.count
    c.step_datagram.ensures.appends (rw c.in-Datagram.is c.step_datagram.ensures.outcomes)

pub returns-in-Call-clause-steps : goal.returns-in-Call-clause-steps
returns-in-Call-clause-steps c =
    taken_alone (uncounted c.args.self.now) (uncounted c.step_call.new.self) c.args.out.now.records
    c.step_call.new.out.records (event_model c.args.event.now) c.step_call.result
    (rw c.in-Call.is c.step_call.ensures.fault) (rw c.in-Call.is refl) c.step_call.ensures.count
    c.step_call.ensures.appends (rw c.in-Call.is c.step_call.ensures.outcomes)

pub returns-in-Moment-clause-cost : goal.returns-in-Moment-clause-cost
returns-in-Moment-clause-cost c = rw c.in-Moment.is c.step_moment.ensures.cost

pub returns-in-Topology-clause-cost : goal.returns-in-Topology-clause-cost
returns-in-Topology-clause-cost c = bounded_none c.args.self.now.slots
    (event_model c.args.event.now) c.step_topology.new.self.counts c.step_topology.ensures.counts

pub returns-in-Role-clause-cost : goal.returns-in-Role-clause-cost
returns-in-Role-clause-cost c = bounded_if c.step_role.result c.args.self.now.slots
    (event_model c.args.event.now) c.step_role.new.self.counts c.step_role.ensures.counts

pub returns-in-Datagram-clause-cost : goal.returns-in-Datagram-clause-cost
returns-in-Datagram-clause-cost c = rw c.in-Datagram.is c.step_datagram.ensures.cost

pub returns-in-Moment-clause-count : goal.returns-in-Moment-clause-count
returns-in-Moment-clause-count c = always c.step_moment.result (c.step_moment.ensures.count
    ∙ sym (slots_stay (length c.args.self.now.slots) (event_model c.args.event.now)
    (rw c.in-Moment.is refl)))

pub returns-in-Moment-clause-appends : goal.returns-in-Moment-clause-appends
returns-in-Moment-clause-appends c =
    appends_at c.args.self.now.slots c.step_moment.new.self.slots _ _
    (omega (arith, c.step_moment.ensures.count)) c.step_moment.ensures.appends

pub returns-in-Datagram-clause-count : goal.returns-in-Datagram-clause-count
returns-in-Datagram-clause-count c = always c.step_datagram.result (c.step_datagram.ensures.count
    ∙ sym (slots_stay (length c.args.self.now.slots) (event_model c.args.event.now)
    (rw c.in-Datagram.is refl)))

pub returns-in-Datagram-clause-appends : goal.returns-in-Datagram-clause-appends
returns-in-Datagram-clause-appends c =
    appends_at c.args.self.now.slots c.step_datagram.new.self.slots _ _
    (omega (arith, c.step_datagram.ensures.count)) c.step_datagram.ensures.appends

pub returns-in-Call-clause-count : goal.returns-in-Call-clause-count
returns-in-Call-clause-count c = always c.step_call.result (c.step_call.ensures.count
    ∙ sym (slots_stay (length c.args.self.now.slots) (event_model c.args.event.now)
    (rw c.in-Call.is refl)))

pub returns-in-Call-clause-appends : goal.returns-in-Call-clause-appends
returns-in-Call-clause-appends c =
    appends_at c.args.self.now.slots c.step_call.new.self.slots _ _
    (omega (arith, c.step_call.ensures.count)) c.step_call.ensures.appends

pub returns-in-Topology-clause-count : goal.returns-in-Topology-clause-count
returns-in-Topology-clause-count c = ap length c.step_topology.ensures.slots
    ∙ sym (slots_stay (length c.args.self.now.slots) (event_model c.args.event.now)
    (rw c.in-Topology.is refl))

pub returns-in-Topology-clause-appends : goal.returns-in-Topology-clause-appends
returns-in-Topology-clause-appends c = appends_none _ _ _ refl

pub returns-in-Role-clause-count : goal.returns-in-Role-clause-count
returns-in-Role-clause-count c = always c.step_role.result (ap length c.step_role.ensures.slots
    ∙ sym (slots_stay (length c.args.self.now.slots) (event_model c.args.event.now)
    (rw c.in-Role.is refl)))

pub returns-in-Role-clause-appends : goal.returns-in-Role-clause-appends
returns-in-Role-clause-appends c = appends_none _ _ _ refl

pub returns-in-AddSlot-clause-count : goal.returns-in-AddSlot-clause-count
returns-in-AddSlot-clause-count c =
    rw c.in-AddSlot.is
    (added_count (uncounted c.args.self.now) (uncounted c.step_add_slot.new.self)
    c.in-AddSlot.quotas c.step_add_slot.result
    c.step_add_slot.ensures.fault c.step_add_slot.ensures.slots)

pub returns-in-AddSlot-clause-steps : goal.returns-in-AddSlot-clause-steps
returns-in-AddSlot-clause-steps c =
    rw c.in-AddSlot.is
    (added_alone (uncounted c.args.self.now) (uncounted c.step_add_slot.new.self)
    c.args.out.now.records
    c.step_add_slot.new.out.records c.in-AddSlot.quotas c.step_add_slot.result
    c.step_add_slot.ensures.fault c.step_add_slot.ensures.slots c.step_add_slot.ensures.told)

pub returns-in-AddSlot-clause-appends : goal.returns-in-AddSlot-clause-appends
returns-in-AddSlot-clause-appends c =
    added_appends (uncounted c.args.self.now) (uncounted c.step_add_slot.new.self)
    c.args.out.now.records
    c.step_add_slot.new.out.records c.in-AddSlot.quotas c.step_add_slot.result
    c.step_add_slot.ensures.unrecorded c.step_add_slot.ensures.slots c.step_add_slot.ensures.told

pub returns-in-AddSlot-clause-cost : goal.returns-in-AddSlot-clause-cost
returns-in-AddSlot-clause-cost c = bounded_if c.step_add_slot.result c.args.self.now.slots
    (event_model c.args.event.now) c.step_add_slot.new.self.counts c.step_add_slot.ensures.counts

pub returns-in-Call-clause-cost : goal.returns-in-Call-clause-cost
returns-in-Call-clause-cost c = search rules
