use Rattle.std.proofs.Common.{rules}
use Rattle.trdp_text.specs.RecordText.{text_of_fault}
use Rattle.trdp_daemon.specs.Visits.{operator_text}
use Rattle.trdp_daemon.proofs.answer.operator_text.Goals as goal

pub returns-in-Some-NoSlot : goal.returns-in-Some-NoSlot
unfolding operator_text text_of_fault
returns-in-Some-NoSlot c = search rules

pub returns-in-Some-Past : goal.returns-in-Some-Past
unfolding operator_text text_of_fault
returns-in-Some-Past c = search rules

pub returns-in-Some-TooLate : goal.returns-in-Some-TooLate
unfolding operator_text text_of_fault
returns-in-Some-TooLate c = search rules

pub returns-in-Some-NoGroup : goal.returns-in-Some-NoGroup
unfolding operator_text text_of_fault
returns-in-Some-NoGroup c = search rules

pub returns-in-Some-OutOfMemory : goal.returns-in-Some-OutOfMemory
unfolding operator_text text_of_fault
returns-in-Some-OutOfMemory c = search rules

pub returns-in-Some-SlotsFull : goal.returns-in-Some-SlotsFull
unfolding operator_text text_of_fault
returns-in-Some-SlotsFull c = search rules
