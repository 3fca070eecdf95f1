use Rattle.trdp_controls.specs.Folders.{file_unless_0}
use Rattle.trdp_controls.proofs.ListenLemmas.{one_file, one_refused, stops_wanting, stops_with}
use Rattle.trdp_controls.proofs.opening.path_at.Goals as goal

pub returns-in_err-connections-clause-listens : goal.returns-in_err-connections-clause-listens
returns-in_err-connections-clause-listens g c =
    let number = c.place_of_port-number.result.port in
    let fault = c.in_err-connections.field-0.0 in
    rw c.place_of_port-number.ensures at (stops_with (file_unless_0 number) _ _ c.from_residual.result
    fault c.from_residual.ensures.1 (one_refused number fault _ _ c.if-number-eq0.false
    c.in_err-connections.ensures.told))

pub returns-in-Ok-clause-listens : goal.returns-in-Ok-clause-listens
returns-in-Ok-clause-listens g c = rw c.place_of_port-number.ensures at (
    one_file c.place_of_port-number.result.port _ _ c.if-number-eq0.false
    c.in_ok-connections.ensures.told)

pub returns-clause-listens : goal.returns-clause-listens
returns-clause-listens g c =
    let number = c.place_of_port-number.result.port in
    rw c.place_of_port-number.ensures at (stops_wanting (file_unless_0 number) _ _
    (one_file number _ _ c.if-number-eq0.false c.in_ok-connections.ensures.told))
