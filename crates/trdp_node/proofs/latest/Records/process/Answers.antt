use Rattle.trdp_model.specs.Events.{event_model}
use Rattle.trdp_node.proofs.NodeLemmas.{answered}
use Rattle.trdp_node.proofs.latest.Records.process.Goals as goal

pub invariant_of-self : goal.invariant_of-self
invariant_of-self c = c.start-self-inside.ensures.reads _

pub returns : goal.returns
returns c = answered c.args.node.now c.step.new.self c.self.inside.outbox.records _
    (event_model c.args.event.now) c.step.result (rw c.self.view_is c.requires)
    c.step.ensures.fault c.step.ensures.kept c.step.ensures.unrecorded c.step.ensures.memory
    c.step.ensures.config c.step.ensures.globals c.step.ensures.steps
