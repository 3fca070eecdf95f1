use Rattle.std.proofs.Common.{◌≡◌, ℕ, length, map, take}
use Rattle.trdp_model.specs.Events.{event_model}
use Rattle.trdp_model.specs.NodeModels.{Appends}
use Rattle.trdp_engine.specs.NodeRuns.{CountsLatest, globals_through, slots_through}
use Rattle.trdp_engine.proofs.NodeLemmas.Runs.{RunsAsAloneSoFar}
use Rattle.trdp_engine.proofs.node.Node.run.Given as goal

-- each slot has run as it does by itself over the events so far
abbrev pub invariant-loop-event : goal.invariant-loop-event
invariant-loop-event l = record {
  taken : l.taken ≡ l.event-index;
  config : l.self.config ≡ l.fn.self.config;
  count : length l.self.slots
      ≡ slots_through (length l.fn.self.slots) (map event_model (take l.event-index l.events));
  runs : (s : ℕ) → RunsAsAloneSoFar l.fn.self l.self l.fn.out.records
      l.out.records (map event_model (take l.event-index l.events)) s;
  appends : Appends l.self.slots l.fn.out.records l.out.records;
  globals : l.self.globals ≡ globals_through (length l.fn.self.slots) l.fn.self.globals
      (map event_model (take l.event-index l.events));
  counted : CountsLatest l.fn.self l.self (map event_model (take l.event-index l.events));
}
