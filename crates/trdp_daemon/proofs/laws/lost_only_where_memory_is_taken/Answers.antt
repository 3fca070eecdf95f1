use Rattle.trdp_daemon.proofs.ServiceLemmas.{wanting, is_wanting, event_not_lost, reset_not_lost}
use Rattle.trdp_daemon.proofs.ServiceLemmas.{operator_not_lost}
use Rattle.trdp_daemon.proofs.LineLossLemmas.{control_line_sure, operator_line_read}
use Rattle.trdp_daemon.proofs.LineLossLemmas.{operator_line_sure}
use Rattle.trdp_daemon.proofs.laws.lost_only_where_memory_is_taken.Goals as goal

pub returns-clause-tested : goal.returns-clause-tested
returns-clause-tested c = λ node event.
    (is_wanting node event, λ may. wanting node event may.0 may.1)

pub returns-clause-reset : goal.returns-clause-reset
returns-clause-reset c = λ service slot loss. reset_not_lost service slot loss

pub returns-clause-event : goal.returns-clause-event
returns-clause-event c = λ service event loss never. event_not_lost service event loss never

pub returns-clause-operator : goal.returns-clause-operator
returns-clause-operator c = λ service from event never. operator_not_lost service from event never

pub returns-clause-operator_line : goal.returns-clause-operator_line
returns-clause-operator_line c = λ service totals from bytes loss none.
    operator_line_sure service totals from bytes loss none

pub returns-clause-operator_read : goal.returns-clause-operator_read
returns-clause-operator_read c = λ service totals from bytes.
    operator_line_read service totals from bytes

pub returns-clause-control_line : goal.returns-clause-control_line
returns-clause-control_line c = λ service totals slot from bytes none.
    control_line_sure service totals slot from bytes none
