-- A wire that fails, and how its failures are counted.
use Rattle.std.specs.Prelude.{ℕ, ◌+◌, ◌-◌, ◌^◌, nat_lt, Bool, if◌then◌else◌}
use Rattle.trdp_wire.specs.Told.{Arrived, Failed, Nothing}

-- a wire that fails reports that, unless the count of its failures is at its last value
unfoldable pub failure_after : ℕ → Arrived
failure_after failures = if nat_lt failures (2 ^ 64 - 1) then Failed else Nothing

-- a count that goes up where this holds
unfoldable pub one_more_if : Bool → ℕ → ℕ
one_more_if more n = if more then n + 1 else n
