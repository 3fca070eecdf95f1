use Rattle.std.specs.Prelude.{◌≡◌, ◌≤◌, ◌+◌, ◌*◌, ◌++◌, drop, vec_len, vec_capacity}
use Rattle.trdp_daemon.specs.Questions.{text_of_slots}
use Rattle.trdp_daemon.proofs.question.put_slots.Given as goal

-- the lines so far and those of the slots that are left are all, and each was short
abbrev pub invariant-loop-slot : goal.invariant-loop-slot
invariant-loop-slot l = record {
  put : l.text.items ++ text_of_slots l.reading l.contacts l.slot (drop l.slot l.node.slots)
      ≡ l.fn.text.items ++ text_of_slots l.reading l.contacts 0 l.node.slots;
  len : vec_len l.text ≤ vec_len l.fn.text + 73 * l.slot;
  capacity : vec_capacity l.fn.text ≤ vec_capacity l.text;
}
