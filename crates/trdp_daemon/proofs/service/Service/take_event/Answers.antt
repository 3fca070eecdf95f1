use Rattle.std.proofs.Common.{[], refl, sym, ◌∙◌, ap, rules, Err}
use Rattle.trdp_engine.specs.NodeStates.{uncounted}
use Rattle.trdp_model.specs.Events.{event_model}
use Rattle.trdp_outbox.proofs.SlotOrderLemmas.Played.{node_played}
use Rattle.trdp_daemon.proofs.StepLemmas.{node_refused, records_played, records_refused}
use Rattle.trdp_daemon.proofs.ServiceLemmas.{comes_lost, comes_told, missed}
use Rattle.trdp_daemon.proofs.ServiceLemmas.{records_told}
use Rattle.trdp_daemon.proofs.TellingLemmas.{tells_none}
use Rattle.trdp_daemon.proofs.service.Service.take_event.Goals as goal

pub returns-in-Ok-clause-node : goal.returns-in-Ok-clause-node
returns-in-Ok-clause-node g c =
    node_played (uncounted c.args.self.now.node) (uncounted c.step.new.self) _ _ _
    c.in-Ok.ensures.fault c.step.ensures.config c.in-Ok.ensures.globals c.in-Ok.ensures.steps

pub returns-in-Ok-clause-told : goal.returns-in-Ok-clause-told
returns-in-Ok-clause-told g c =
    records_told c.args.self.now _ (event_model c.args.event.now) c.deref.result.now _
    (returns-in-Ok-clause-node g c) refl refl refl c.deref.ensures.value
    (records_played (uncounted c.args.self.now.node) (uncounted c.step.new.self) _ _ _
    c.in-Ok.ensures.fault c.clear.ensures.records c.in-Ok.ensures.steps) c.tell_records.ensures

pub returns-in-Ok-clause-comes : goal.returns-in-Ok-clause-comes
returns-in-Ok-clause-comes g c = comes_told (returns-in-Ok-clause-told g c)

pub returns-in-Err-OutOfMemory-clause-comes : goal.returns-in-Err-OutOfMemory-clause-comes
returns-in-Err-OutOfMemory-clause-comes g c =
    comes_lost c.args.self.now _ (event_model c.args.event.now)
    (c.step.ensures.memory (c.in-Err-OutOfMemory.is ∙ ap Err c.in-Err-OutOfMemory.field-0-is))
    (search rules)
    (missed c.args.self.now _ c.in-Err-OutOfMemory.ensures.kept refl refl refl
    c.miss.ensures.carried)

pub returns-in-Err-clause-node : goal.returns-in-Err-clause-node
returns-in-Err-clause-node g c =
    ap uncounted c.in-Err.ensures.kept
    ∙ sym (node_refused c.in-Err.fault (uncounted c.args.self.now.node)
    (event_model c.args.event.now) c.in-Err.ensures.fault (search rules))

pub returns-in-Err-clause-told : goal.returns-in-Err-clause-told
returns-in-Err-clause-told g c =
    records_told c.args.self.now _ (event_model c.args.event.now) c.args.self.now.contacts.items []
    (returns-in-Err-clause-node g c) refl refl refl refl
    (sym (records_refused c.in-Err.fault (uncounted c.args.self.now.node)
    (event_model c.args.event.now) c.in-Err.ensures.fault (search rules)))
    (tells_none _ _ _ _)

pub returns-in-Err-clause-comes : goal.returns-in-Err-clause-comes
returns-in-Err-clause-comes g c = comes_told (returns-in-Err-clause-told g c)
