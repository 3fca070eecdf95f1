use Rattle.std.proofs.Common.{◌≡◌, map, take}
use Rattle.trdp_engine.proofs.start.quotas_of.Given as goal

-- the quotas so far are those of the front of the configuration
abbrev pub invariant-loop-s : goal.invariant-loop-s
invariant-loop-s l = l.quotas.items ≡ map (λ slot. slot.quotas) (take l.s l.config.slots)
