use Rattle.std.proofs.Common.{◌≡◌, ℕ, length}
use Rattle.trdp_engine.specs.NodeStates.{uncounted}
use Rattle.trdp_model.specs.Events.{event_model}
use Rattle.trdp_model.specs.Alone.{refused_as, globals_after}
use Rattle.trdp_model.specs.NodeModels.{StepsAsAlone}
use Rattle.trdp_net.specs.Ties.{MovesSo}
use Rattle.trdp_net.proofs.TieLemmas.{admits, moves_so}
use Rattle.trdp_net.proofs.node.step.Goals as goal

pub returns-clause-moves : goal.returns-clause-moves
returns-clause-moves c =
    admits c.step.result
    (refused_as (length c.args.node.now.slots) c.args.node.now.globals
    (event_model c.args.event.now))
    (c.step.new.self.globals ≡ globals_after c.args.node.now.globals
    (event_model c.args.event.now))
    ((s : ℕ) → StepsAsAlone (uncounted c.args.node.now) (uncounted c.step.new.self)
    c.args.out.now.records c.step.new.out.records (event_model c.args.event.now) s)
    (MovesSo (uncounted c.args.node.now) (uncounted c.step.new.self)
    c.args.out.now.records c.step.new.out.records (event_model c.args.event.now))
    c.step.ensures.fault c.step.ensures.globals c.step.ensures.steps
    (λ admitted globals steps.
    moves_so (uncounted c.args.node.now) (uncounted c.step.new.self)
    c.args.out.now.records c.step.new.out.records (event_model c.args.event.now) (record {
      admitted = admitted;
      config = c.step.ensures.config;
      globals = globals;
      slots = steps;
    }))
