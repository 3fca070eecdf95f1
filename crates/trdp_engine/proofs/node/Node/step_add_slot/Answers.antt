use Rattle.std.proofs.Common.{rules, arith}
use Rattle.std.proofs.lemmas.Grind.{common_steps}
use Rattle.trdp_model.proofs.AddedSlotLemmas.{opening_fits}
use Rattle.trdp_store.proofs.StoreLemmas.Opened.{room_grows}
use Rattle.trdp_store.proofs.StoreLemmas.OpenedSlots.{slots_opened}
use Rattle.trdp_engine.proofs.node.Node.step_add_slot.Goals as goal

pub invariant_of-self-2 : goal.invariant_of-self-2
invariant_of-self-2 c = (
  c.self.invariant.0,
  c.self.invariant.1,
  rw (c.in_ok-slot.ensures.opened, slots_opened c.self.inside.store c.args.quotas)
      (opening_fits _ _ c.args.quotas c.self.invariant.2),
  rw c.in_ok-slot.ensures.opened (omega (
    arith,
    room_grows c.self.inside.store c.args.quotas,
    c.room.ensures.room,
    c.room_of.ensures.room,
    c.clear.ensures.len,
    c.in_ok-reserve_exact.ensures.ok,
  )),
)

pub push_plain_answer-requires : goal.push_plain_answer-requires
push_plain_answer-requires c = search rules

pub returns-clause-globals : goal.returns-clause-globals
returns-clause-globals c = search rules

pub returns-clause-told : goal.returns-clause-told
returns-clause-told c = grind (arith, common_steps)

pub returns-then-slots-ge-SLOTS_MAX-clause-fault : goal.returns-then-slots-ge-SLOTS_MAX-clause-fault
returns-then-slots-ge-SLOTS_MAX-clause-fault c = grind (arith, common_steps)
