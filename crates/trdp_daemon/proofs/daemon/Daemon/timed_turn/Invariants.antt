use Rattle.std.specs.Prelude.{◌≡◌, take, vec_len}
use Rattle.trdp_daemon.specs.Services.{IsSoundService, TakesAtPorts}
use Rattle.trdp_daemon.specs.Turns.{take_room}
use Rattle.trdp_daemon.proofs.daemon.Daemon.timed_turn.Given as goal

-- takes were made at the ports so far
pub record Visited (sound config ports room clock takes : Type 0) : Type 0 where
  pub is_sound : sound
  pub config_is : config
  pub ports_are : ports
  pub room_is : room
  pub clock_is : clock
  pub taken : takes

abbrev pub invariant-loop-i : goal.invariant-loop-i
invariant-loop-i g l =
    let now = l.self-inside in
    let first = l.initial.self-inside in
    Visited (IsSoundService now.service) (now.service.node.config ≡ first.service.node.config)
    (now.ports.items ≡ first.ports.items) (vec_len now.room ≡ take_room) (now.clock ≡ first.clock)
    (TakesAtPorts g.W.Wire.takings g.W.Wire.gives first.service now.service first.link now.link
    (take l.i first.ports.items))
