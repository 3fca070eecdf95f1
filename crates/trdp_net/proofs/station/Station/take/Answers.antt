use Rattle.std.proofs.Common.{length}
use Rattle.trdp_engine.specs.NodeStates.{uncounted}
use Rattle.trdp_model.specs.Events.{event_model}
use Rattle.trdp_model.specs.Alone.{refused_as}
use Rattle.trdp_net.specs.declared.told.Told.{Told}
use Rattle.trdp_net.proofs.RunningLemmas.{admitted_by, takes}
use Rattle.trdp_net.proofs.station.Station.take.Goals as goal

pub returns-clause-taken : goal.returns-clause-taken
returns-clause-taken c =
    let old = c.self.inside.node in
    let event = event_model c.args.event.now in
    let step = c.in_ok-step.ensures in
    let told : Told = record {
      home = c.self.inside.home;
      slots = c.slots-slots.result;
      out = c.step.new.out;
    } in
    rw (← c.self.view_is) (takes (uncounted old) (uncounted c.step.new.self)
    c.new-out.result.records event told (record {
      admitted =
          admitted_by (refused_as (length old.slots) old.globals event) c.in_ok-step.field-0
          step.fault;
      config = step.config;
      globals = step.globals;
      slots = step.steps;
    })
    c.new-out.ensures c.self.invariant c.slots-slots.ensures.count)
