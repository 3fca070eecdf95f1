use Rattle.std.specs.List.{flat_map}
use Rattle.trdp_wire.specs.Ports.{control_numbers}
use Rattle.trdp_controls.specs.Folders.{file_unless_0, files_of}
use Rattle.trdp_controls.proofs.ListenLemmas.{listened_both, stops_before, stops_behind}
use Rattle.trdp_controls.proofs.ListenLemmas.{stops_with}
use Rattle.trdp_controls.proofs.control_wire.ControlWire.open.Goals as goal

pub returns-in_err-operator-clause-listens : goal.returns-in_err-operator-clause-listens
returns-in_err-operator-clause-listens g c =
    let fault = c.in_err-operator.field-0.0 in
    let operator = file_unless_0 c.args.config.now.operator_port in
    let rest = flat_map file_unless_0 (control_numbers c.args.config.now) in
    stops_with (files_of c.args.config.now) _ _ c.from_residual.result fault
    c.from_residual.ensures.1 (stops_before operator rest fault _ _
    c.in_err-operator.ensures.listens)

pub returns-in_err-controls-clause-listens : goal.returns-in_err-controls-clause-listens
returns-in_err-controls-clause-listens g c =
    let fault = c.in_err-controls.field-0.0 in
    let operator = file_unless_0 c.args.config.now.operator_port in
    let rest = flat_map file_unless_0 (control_numbers c.args.config.now) in
    stops_with (files_of c.args.config.now) _ _ c.from_residual-in_err-controls.result fault
    c.from_residual-in_err-controls.ensures.1 (stops_behind operator rest fault _ _ _
    c.in_ok-operator.ensures.listens c.in_err-controls.ensures.listens)

pub returns-clause-listens : goal.returns-clause-listens
returns-clause-listens g c =
    let operator = file_unless_0 c.args.config.now.operator_port in
    let rest = flat_map file_unless_0 (control_numbers c.args.config.now) in
    listened_both operator rest _ _ _ c.in_ok-operator.ensures.listens
    c.in_ok-controls.ensures.listens
