use Rattle.std.proofs.Common.{rules, ap, ◌∙◌, Ok}
use Rattle.trdp_engine.specs.NodeStates.{uncounted}
use Rattle.trdp_daemon.specs.Services.{service_state}
use Rattle.trdp_daemon.proofs.TurnLemmas.{Asked, asked_control, asked_other, port_passed}
use Rattle.trdp_daemon.proofs.TurnLemmas.{port_taken}
use Rattle.trdp_daemon.proofs.VisitLemmas.{visited_datagram, visited_end, visited_fault, visited_nothing}
use Rattle.trdp_daemon.proofs.LeaseLemmas.{quiet_end, quiet_still}
use Rattle.trdp_daemon.proofs.service.Service.visit.Goals.{in-Control, in_default}
use Rattle.trdp_daemon.proofs.service.Service.visit.Goals as goal

pub returns-then-not-is_there-clause-takes : goal.returns-then-not-is_there-clause-takes
returns-then-not-is_there-clause-takes g c =
    let asks : Asked (service_state c.args.self.now).node
    c.args.port c.match-port.port c.match-port.is_there = elim c.match-port.branch [
      | in-Control w ↦ asked_control (uncounted c.args.self.now.node) _ _ _ _ _ _
          w.in-Control.is w.port-is w.from.ensures w.slots.ensures.count w.is_there-is
      | in_default w ↦ asked_other (uncounted c.args.self.now.node) _ _ _
          w.in_default.not-Control w.port-is w.is_there-is
    ] in
    port_passed _ _ c.args.self.now c.args.link.now asks c.if-not-is_there.true

pub returns-in-Ok-Some-clause-takes : goal.returns-in-Ok-Some-clause-takes
returns-in-Ok-Some-clause-takes g c =
    let asks : Asked (service_state c.args.self.now).node
    c.args.port c.match-port.port c.match-port.is_there = elim c.match-port.branch [
      | in-Control w ↦ asked_control (uncounted c.args.self.now.node) _ _ _ _ _ _
          w.in-Control.is w.port-is w.from.ensures w.slots.ensures.count w.is_there-is
      | in_default w ↦ asked_other (uncounted c.args.self.now.node) _ _ _
          w.in_default.not-Control w.port-is w.is_there-is
    ] in
    port_taken asks c.if-not-is_there.false
    (visited_end c.args.self.now _ c.match-port.port c.take-found.result.1 c.take-found.result.0 _ _
    c.take-found.new.room (c.in-Ok-Some.is ∙ ap Ok (rw c.in-Ok-Some.is at c.in-Ok-Some.field-0-is))
    c.if-is_end.true (search rules) c.take-found.ensures.takes c.take_end.ensures.comes)

pub returns-in-Ok-Some-2-clause-takes : goal.returns-in-Ok-Some-2-clause-takes
returns-in-Ok-Some-2-clause-takes g c =
    let asks : Asked (service_state c.args.self.now).node
    c.args.port c.match-port.port c.match-port.is_there = elim c.match-port.branch [
      | in-Control w ↦ asked_control (uncounted c.args.self.now.node) _ _ _ _ _ _
          w.in-Control.is w.port-is w.from.ensures w.slots.ensures.count w.is_there-is
      | in_default w ↦ asked_other (uncounted c.args.self.now.node) _ _ _
          w.in_default.not-Control w.port-is w.is_there-is
    ] in
    port_taken asks c.if-not-is_there.false
    (visited_datagram c.args.self.now _ c.match-port.port c.take-found.result.1 c.take-found.result.0
    c.in-Ok-Some-2.from c.in-Ok-Some-2.len c.take-found.new.room _
    (c.in-Ok-Some-2.is ∙ ap Ok (rw c.in-Ok-Some-2.is at c.in-Ok-Some-2.field-0-is)) c.if-is_end.false
    c.split_at.ensures.front (search rules) c.take-found.ensures.takes
    c.take_datagram.ensures.comes)

pub returns-in-Ok-None-clause-takes : goal.returns-in-Ok-None-clause-takes
returns-in-Ok-None-clause-takes g c =
    let asks : Asked (service_state c.args.self.now).node
    c.args.port c.match-port.port c.match-port.is_there = elim c.match-port.branch [
      | in-Control w ↦ asked_control (uncounted c.args.self.now.node) _ _ _ _ _ _
          w.in-Control.is w.port-is w.from.ensures w.slots.ensures.count w.is_there-is
      | in_default w ↦ asked_other (uncounted c.args.self.now.node) _ _ _
          w.in_default.not-Control w.port-is w.is_there-is
    ] in
    port_taken asks c.if-not-is_there.false
    (visited_nothing c.args.self.now _ c.match-port.port (λ place. c.take-found.result.1) c.take-found.result.0 c.take-found.new.room
    (c.in-Ok-None.is ∙ ap Ok (rw c.in-Ok-None.is at c.in-Ok-None.field-0-is)) (search rules) c.take-found.ensures.takes
    (quiet_end c.args.self.now _ c.match-port.port c.is_silent_at-anew.result
    c.is_silent_at-anew.ensures c.if-anew.true c.take_end-in-Ok-None.ensures.comes))

pub returns-else-anew-clause-takes : goal.returns-else-anew-clause-takes
returns-else-anew-clause-takes g c =
    let asks : Asked (service_state c.args.self.now).node
    c.args.port c.match-port.port c.match-port.is_there = elim c.match-port.branch [
      | in-Control w ↦ asked_control (uncounted c.args.self.now.node) _ _ _ _ _ _
          w.in-Control.is w.port-is w.from.ensures w.slots.ensures.count w.is_there-is
      | in_default w ↦ asked_other (uncounted c.args.self.now.node) _ _ _
          w.in_default.not-Control w.port-is w.is_there-is
    ] in
    port_taken asks c.if-not-is_there.false
    (visited_nothing c.args.self.now _ c.match-port.port (λ place. c.take-found.result.1) c.take-found.result.0 c.take-found.new.room
    (c.in-Ok-None.is ∙ ap Ok (rw c.in-Ok-None.is at c.in-Ok-None.field-0-is)) (search rules) c.take-found.ensures.takes
    (quiet_still _ _ _ c.args.self.now c.match-port.port c.is_silent_at-anew.result
    c.is_silent_at-anew.ensures c.if-anew.false))

pub returns-in-Err-clause-takes : goal.returns-in-Err-clause-takes
returns-in-Err-clause-takes g c =
    let asks : Asked (service_state c.args.self.now).node
    c.args.port c.match-port.port c.match-port.is_there = elim c.match-port.branch [
      | in-Control w ↦ asked_control (uncounted c.args.self.now.node) _ _ _ _ _ _
          w.in-Control.is w.port-is w.from.ensures w.slots.ensures.count w.is_there-is
      | in_default w ↦ asked_other (uncounted c.args.self.now.node) _ _ _
          w.in_default.not-Control w.port-is w.is_there-is
    ] in
    port_taken asks c.if-not-is_there.false
    (visited_fault c.args.self.now c.match-port.port (λ place. c.take-found.result.1) c.take-found.result.0 c.in-Err.field-0
    c.take-found.new.room c.in-Err.is (search rules) c.take-found.ensures.takes)
