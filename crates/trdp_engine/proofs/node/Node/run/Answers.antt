use Rattle.std.proofs.Common.{arith, refl, ◌∙◌, map, take, rules}
use Rattle.std.proofs.lemmas.Option.{slice_get-get_or, slice_get_past}
use Rattle.trdp_model.specs.Events.{event_model}
use Rattle.trdp_engine.specs.NodeRuns.{NoneTaken}
use Rattle.trdp_engine.proofs.NodeLemmas.Latest.{has_come, globals_next, latest_next, slots_next}
use Rattle.trdp_engine.proofs.NodeLemmas.Runs.{node_grows}
use Rattle.trdp_engine.proofs.NodeLemmas.Runs.{one_event, so_far, one_more}
use Rattle.trdp_model.proofs.StepLemmas.{appends_none, appends_more}
use Rattle.trdp_engine.proofs.node.Node.run.Goals as goal

pub loop-event-init : goal.loop-event-init
loop-event-init c = record {
  taken = refl;
  config = refl;
  count = refl;
  runs = λ s later. refl;
  appends = appends_none c.args.self.now.slots c.args.out.now.records c.args.out.now.records refl;
  globals = refl;
  counted = NoneTaken tt refl;
}

pub loop-event-preserved : goal.loop-event-preserved
loop-event-preserved c = record {
  taken = omega arith;
  config = c.step-result.ensures.config ∙ c.loop-event.invariant.config;
  count =
      rw (
        one_more c.args.events.now c.loop-event.event-index
            c.event-item.result c.loop-event-test.true,
        ← c.event-item.is,
      )
      (slots_next c.args.self.now c.loop-event.self c.step-result.new.self
      (map event_model (take c.loop-event.event-index c.args.events.now))
      (event_model c.event-item.result) c.step-result.result c.step-result.ensures.fault
      (c.is_out_of_memory.ensures.no c.if-is_out_of_memory.false) c.step-result.ensures.kept
      c.step-result.ensures.count c.loop-event.invariant.count);
  runs = λ s.
      rw (
        one_more c.args.events.now c.loop-event.event-index
            c.event-item.result c.loop-event-test.true,
        ← c.event-item.is,
      )
      (one_event c.args.self.now c.loop-event.self c.step-result.new.self
      c.args.out.now.records c.loop-event.out.records c.step-result.new.out.records
      _ _ s _ c.step-result.result c.loop-event.invariant.config refl
      c.step-result.ensures.fault (c.is_out_of_memory.ensures.no c.if-is_out_of_memory.false)
      c.step-result.ensures.kept c.step-result.ensures.unrecorded c.step-result.ensures.globals
      c.step-result.ensures.count c.step-result.ensures.steps (c.loop-event.invariant.runs s));
  appends = appends_more c.loop-event.self.slots c.step-result.new.self.slots _ _ _
      (node_grows c.loop-event.self c.step-result.new.self (event_model c.event-item.result)
      c.step-result.result c.step-result.ensures.kept c.step-result.ensures.count)
      c.loop-event.invariant.appends c.step-result.ensures.appends;
  globals =
      rw (
        one_more c.args.events.now c.loop-event.event-index
            c.event-item.result c.loop-event-test.true,
        ← c.event-item.is,
      )
      (globals_next c.args.self.now c.loop-event.self c.step-result.new.self
      (map event_model (take c.loop-event.event-index c.args.events.now))
      (event_model c.event-item.result) c.step-result.result
      c.loop-event.invariant.count c.step-result.ensures.fault
      (c.is_out_of_memory.ensures.no c.if-is_out_of_memory.false) c.step-result.ensures.kept
      c.step-result.ensures.globals c.loop-event.invariant.globals);
  counted =
      rw (
        one_more c.args.events.now c.loop-event.event-index
            c.event-item.result c.loop-event-test.true,
        ← c.event-item.is,
      )
      (latest_next c.args.self.now c.loop-event.self c.step-result.new.self _ _ c.step-result.result
      c.step-result.ensures.fault
      (c.is_out_of_memory.ensures.no c.if-is_out_of_memory.false)
      (has_come c.args.self.now c.loop-event.self c.args.out.now.records
      c.loop-event.out.records _ c.loop-event.invariant.runs)
      c.loop-event.invariant.globals c.step-result.ensures.kept
      c.step-result.ensures.cost c.loop-event.invariant.counted);
}

pub returns-then-is_out_of_memory-clause-alone : goal.returns-then-is_out_of_memory-clause-alone
returns-then-is_out_of_memory-clause-alone c = λ s.
    let memory = c.is_out_of_memory.ensures.yes c.if-is_out_of_memory.true in
    let kept = rw memory at c.step-result.ensures.kept in
    let unrecorded = rw memory at c.step-result.ensures.unrecorded in
    rw (c.loop-event.invariant.taken, kept, unrecorded)
    (so_far c.args.self.now c.loop-event.self _ _ _ s (c.loop-event.invariant.runs s))

pub returns-clause-alone : goal.returns-clause-alone
returns-clause-alone c = λ s. rw c.loop-event.invariant.taken
    (so_far c.args.self.now c.loop-event.self _ _ _ s (c.loop-event.invariant.runs s))

pub returns-then-is_out_of_memory-clause-stops : goal.returns-then-is_out_of_memory-clause-stops
returns-then-is_out_of_memory-clause-stops c =
    let memory = c.is_out_of_memory.ensures.yes c.if-is_out_of_memory.true in
    let kept = rw memory at c.step-result.ensures.kept in
    rw (
      c.loop-event.invariant.taken,
      kept,
      slice_get-get_or c.args.events.now
          c.loop-event.event-index c.event-item.result c.loop-event-test.true,
      ← c.event-item.is,
    )
    (c.step-result.ensures.memory memory)

pub returns-clause-stops : goal.returns-clause-stops
returns-clause-stops c = rw (
  c.loop-event.invariant.taken,
  slice_get_past c.args.events.now c.loop-event.event-index (omega arith),
) tt

pub returns-then-is_out_of_memory-clause-lacks : goal.returns-then-is_out_of_memory-clause-lacks
returns-then-is_out_of_memory-clause-lacks c =
    let memory = c.is_out_of_memory.ensures.yes c.if-is_out_of_memory.true in
    let kept = rw memory at c.step-result.ensures.kept in
    rw (
      c.loop-event.invariant.taken,
      kept,
      slice_get-get_or c.args.events.now
          c.loop-event.event-index c.event-item.result c.loop-event-test.true,
      ← c.event-item.is,
    )
    (c.step-result.ensures.still memory)

pub returns-clause-lacks : goal.returns-clause-lacks
returns-clause-lacks c = rw (
  c.loop-event.invariant.taken,
  slice_get_past c.args.events.now c.loop-event.event-index (omega arith),
) tt

pub returns-then-is_out_of_memory-clause-counted : goal.returns-then-is_out_of_memory-clause-counted
returns-then-is_out_of_memory-clause-counted c =
    let memory = c.is_out_of_memory.ensures.yes c.if-is_out_of_memory.true in
    let kept = rw memory at c.step-result.ensures.kept in
    rw (c.loop-event.invariant.taken, kept) c.loop-event.invariant.counted

pub returns-clause-counted : goal.returns-clause-counted
returns-clause-counted c = rw c.loop-event.invariant.taken c.loop-event.invariant.counted

pub returns-then-is_out_of_memory-clause-count : goal.returns-then-is_out_of_memory-clause-count
returns-then-is_out_of_memory-clause-count c =
    let memory = c.is_out_of_memory.ensures.yes c.if-is_out_of_memory.true in
    let kept = rw memory at c.step-result.ensures.kept in
    rw (c.loop-event.invariant.taken, kept) c.loop-event.invariant.count

pub returns-clause-count : goal.returns-clause-count
returns-clause-count c = rw c.loop-event.invariant.taken c.loop-event.invariant.count

pub returns-then-is_out_of_memory-clause-appends : goal.returns-then-is_out_of_memory-clause-appends
returns-then-is_out_of_memory-clause-appends c = search rules
