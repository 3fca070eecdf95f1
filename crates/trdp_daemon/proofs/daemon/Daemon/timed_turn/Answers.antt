use Rattle.std.proofs.Common.{◌≡◌, ◌<◌, ◌≤◌, suc, ◌+◌, List, [], ◌∷◌, ◌++◌, length, take, get_or}
use Rattle.std.proofs.Common.{refl, sym, ◌∙◌, ap, subst, arith, rules, max, min}
use Rattle.std.proofs.Math.Seq.{take-suc}
use Rattle.std.proofs.lemmas.List.{take_all}
use Rattle.trdp_base.specs.Moments.{last_moment}
use Rattle.trdp_engine.specs.NodeStates.{NodeState}
use Rattle.trdp_model.specs.Events.{MomentIs}
use Rattle.trdp_wire.specs.declared.port.Port.{Port}
use Rattle.trdp_daemon.specs.Daemons.{DaemonState}
use Rattle.trdp_daemon.specs.Resting.{TakesTurnAt}
use Rattle.trdp_daemon.specs.Services.{TakesAtPorts, service_state}
use Rattle.trdp_base.specs.Reported.{TellsMore}
use Rattle.trdp_daemon.specs.Turns.{begun, moment_of}
use Rattle.trdp_daemon.proofs.DaemonLemmas.{daemon_of}
use Rattle.trdp_daemon.proofs.RestLemmas.{turn_at}
use Rattle.trdp_daemon.proofs.TurnLemmas.{moment_begun, turn_taken, visits_none, visits_next}
use Rattle.trdp_daemon.proofs.daemon.Daemon.timed_turn.Goals as goal

pub loop-i-init : goal.loop-i-init
loop-i-init g c = record {
  is_sound = c.take_event.ensures.sound;
  config_is = refl;
  ports_are = refl;
  room_is = search rules;
  clock_is = refl;
  taken = visits_none _ _ c.take_event.new.self c.take_event.new.link;
}

pub loop-i-preserved : goal.loop-i-preserved
loop-i-preserved g c =
    let ports = c.self.inside.ports.items in
    let port = c.index.result.now in
    let below : c.loop-i.i < length ports = omega arith in
    let next : c.loop-i.i + 1 ≡ suc c.loop-i.i = omega arith in
    let here = c.index.ensures
    ∙ ap (λ (l : List Port). get_or l c.loop-i.i port) c.loop-i.invariant.ports_are in
    let more = ap (λ n. take n ports) next ∙ take-suc ports c.loop-i.i port below
    ∙ ap (λ (p : Port). take c.loop-i.i ports ++ p ∷ []) (sym here) in
    record {
      is_sound = c.visit.ensures.sound;
      config_is = c.visit.ensures.config ∙ c.loop-i.invariant.config_is;
      ports_are = c.loop-i.invariant.ports_are;
      room_is = c.loop-i.invariant.room_is;
      clock_is = c.loop-i.invariant.clock_is;
      taken = visits_next ports c.loop-i.i port more c.loop-i.invariant.taken c.visit.ensures.takes;
    }

pub returns : goal.returns
returns g c =
    let before = c.self.inside.service in
    let ports = c.self.inside.ports.items in
    let last = c.loop-i.self-inside in
    let enough : length ports ≤ c.loop-i.i = omega arith in
    let visits = subst (λ (l : List Port). TakesAtPorts g.W.Wire.takings g.W.Wire.gives
    c.take_event.new.self last.service c.take_event.new.link last.link l)
    (take_all c.loop-i.i ports enough) c.loop-i.invariant.taken in
    let moment = moment_begun before c.begin.new.self c.take_event.new.self
    (begun (service_state before) c.now-reading.result) _
    (moment_of (service_state before).node c.now-reading.result) c.begin.ensures.begun
    (ap MomentIs (c.moment_of.ensures ∙ ap (λ (n : NodeState).
    max n.globals.now (min c.now-reading.result last_moment)) c.begin.ensures.node))
    c.take_event.ensures.comes in
    let clock = subst (λ (k : g.row.C.Denot). TellsMore (g.C.Clock.readings c.self.inside.clock)
    (g.C.Clock.readings k) (c.now-reading.result ∷ [])) (sym c.loop-i.invariant.clock_is)
    c.now-reading.ensures.told in
    let one = turn_at before last.service
    c.self.inside.link last.link c.self.inside.clock last.clock ports c.now-reading.result
    c.self.invariant.1 (c.loop-i.invariant.config_is ∙ c.take_event.ensures.config
    ∙ ap (λ (n : NodeState). n.config) c.begin.ensures.node) clock
    (turn_taken ports c.now-reading.result moment visits) in
    subst (λ (d : DaemonState g.row.W.Denot g.row.C.Denot).
    TakesTurnAt g.W.Wire.takings g.W.Wire.gives g.C.Clock.readings c.now-reading.result d
    (daemon_of last.service last.link last.clock)) c.self.view_is one
