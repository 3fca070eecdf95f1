-- Moments.
use Rattle.std.specs.Prelude.{ℕ, ◌^◌}

-- the last moment, in microseconds since the node began (profile)
-- rule: time.range
abbrev pub last_moment : ℕ
last_moment = 2 ^ 62
