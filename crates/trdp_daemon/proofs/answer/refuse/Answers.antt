use Rattle.std.proofs.Common.{rules}
use Rattle.trdp_daemon.specs.Visits.{fault_telling, text_of_line_fault}
use Rattle.trdp_daemon.proofs.answer.refuse.Goals as goal

pub returns-in-TooLong : goal.returns-in-TooLong
unfolding fault_telling text_of_line_fault
returns-in-TooLong g c = search rules

pub returns-in-Unknown : goal.returns-in-Unknown
unfolding fault_telling text_of_line_fault
returns-in-Unknown g c = search rules

pub returns-in-Count : goal.returns-in-Count
unfolding fault_telling text_of_line_fault
returns-in-Count g c = search rules

pub returns-in-BadWord : goal.returns-in-BadWord
unfolding fault_telling text_of_line_fault
returns-in-BadWord g c = search rules
