-- The match of topology counters.
use Rattle.std.specs.Prelude.{ℕ, Bool, ◌==◌, ◌&&◌, ◌||◌}
use Rattle.trdp_base.specs.declared.topo.Topo.{Topo}

-- topology counters match: one of the two is 0, which matches any, or they are equal
-- rule: topology.match
abbrev pub counts_valid : ℕ → ℕ → Bool
counts_valid a b = a == 0 || b == 0 || a == b

-- both topology counters match
abbrev pub topo_valid : Topo → Topo → Bool
topo_valid a b = counts_valid a.etb b.etb && counts_valid a.op_trn b.op_trn
