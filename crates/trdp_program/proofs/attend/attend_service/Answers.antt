use Rattle.trdp_program.proofs.AttendLemmas.{early_end, no_bind_fault}
use Rattle.trdp_program.proofs.attend.attend_service.Goals as goal

pub returns-in-Ok-Udp-clause-fault : goal.returns-in-Ok-Udp-clause-fault
returns-in-Ok-Udp-clause-fault g c =
    rw c.in-Ok-Udp.is (no_bind_fault c.attend_all_lines.result c.attend_all_lines.ensures.memory)

pub returns-in-Ok-Controls-clause-fault : goal.returns-in-Ok-Controls-clause-fault
returns-in-Ok-Controls-clause-fault g c =
    rw c.in-Ok-Controls.is (no_bind_fault c.attend_all_lines-in-Ok-Controls.result
    c.attend_all_lines-in-Ok-Controls.ensures.memory)

pub returns-in-Err-clause-err : goal.returns-in-Err-clause-err
returns-in-Err-clause-err g c =
    rw c.from.ensures (early_end c.in-Err.fault c.args.start.config c.args.start.lease c.args.step
    (g.W.Stream.attempts c.args.writer.now))
