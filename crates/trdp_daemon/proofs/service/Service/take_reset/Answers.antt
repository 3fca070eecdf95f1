use Rattle.std.proofs.Common.{◌<◌, [], length, refl, sym, arith}
use Rattle.trdp_engine.specs.NodeStates.{uncounted}
use Rattle.trdp_model.specs.Events.{CallIs, ResetCall}
use Rattle.trdp_model.specs.declared.fault.NodeFault.TheVariants.{NoSlot}
use Rattle.trdp_outbox.proofs.SlotOrderLemmas.Played.{node_played}
use Rattle.trdp_daemon.proofs.ResetLemmas.{not_there, reset_told}
use Rattle.trdp_daemon.proofs.ServiceLemmas.{records_told}
use Rattle.trdp_daemon.proofs.StepLemmas.{node_refused, records_played, records_refused}
use Rattle.trdp_daemon.proofs.TellingLemmas.{tells_none}
use Rattle.trdp_daemon.proofs.service.Service.take_reset.Goals as goal

pub returns-then-from-slots-clause-told : goal.returns-then-from-slots-clause-told
returns-then-from-slots-clause-told g c =
    let refused = not_there (uncounted c.args.self.now.node) c.args.slot
    (omega (arith, c.if-from-slots.true, c.from.ensures, c.slots.ensures.count)) in
    records_told c.args.self.now _ (CallIs c.args.slot ResetCall)
    c.args.self.now.contacts.items []
    (sym (node_refused NoSlot (uncounted c.args.self.now.node) (CallIs c.args.slot ResetCall)
    refused (λ is. absurd (cc)))) refl refl refl refl
    (sym (records_refused NoSlot (uncounted c.args.self.now.node) (CallIs c.args.slot ResetCall)
    refused (λ is. absurd (cc))))
    (tells_none _ _ _ _)

pub returns-clause-node : goal.returns-clause-node
returns-clause-node g c =
    node_played (uncounted c.args.self.now.node) (uncounted c.step.new.self) _ _ _
    c.in-Ok.ensures.fault c.step.ensures.config c.in-Ok.ensures.globals c.in-Ok.ensures.steps

pub returns-clause-told : goal.returns-clause-told
returns-clause-told g c =
    records_told c.args.self.now _ (CallIs c.args.slot ResetCall) c.deref.result.now _
    (returns-clause-node g c) refl refl refl c.deref.ensures.value
    (records_played (uncounted c.args.self.now.node) (uncounted c.step.new.self) _ _ _
    c.in-Ok.ensures.fault c.clear.ensures.records c.in-Ok.ensures.steps)
    c.tell_records.ensures

pub returns-clause-sound : goal.returns-clause-sound
returns-clause-sound g c =
    let there : c.args.slot < length c.args.self.now.node.slots =
    omega (arith, c.if-from-slots.false, c.from.ensures, c.slots.ensures.count) in
    let told = reset_told (uncounted c.args.self.now.node) (uncounted c.step.new.self) _ _
    c.args.slot there c.clear.ensures.records c.in-Ok.ensures.steps in (
      rw c.step.ensures.config c.requires.sound.0,
      c.requires.sound.1,
      omega (arith, told),
    )
