use Rattle.std.proofs.Common.{◌-◌, ◌^◌}
use Rattle.trdp_timers.proofs.heap.Heap.+due_below.Given as goal

abbrev pub decreases-due_below : goal.decreases-due_below
decreases-due_below l = 2 ^ 64 - l.place
