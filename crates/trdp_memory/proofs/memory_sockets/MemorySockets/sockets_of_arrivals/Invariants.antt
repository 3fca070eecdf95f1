use Rattle.std.proofs.Common.{◌≡◌, take}
use Rattle.trdp_memory.specs.Waiting.{sockets_in}
use Rattle.trdp_memory.proofs.memory_sockets.MemorySockets.sockets_of_arrivals.Given as goal

-- the sockets of the datagrams so far
abbrev pub invariant-loop-arrival : goal.invariant-loop-arrival
invariant-loop-arrival l = l.sockets.items ≡ sockets_in (take l.arrival-index l.arrival-items)
