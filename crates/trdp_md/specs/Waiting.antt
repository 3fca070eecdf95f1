-- The waiting time that a received message sets.
use Rattle.std.specs.Prelude.{ℕ, ◌+◌, ◌==◌, if◌then◌else◌}

-- the time of a received replyTimeout; 0 means 5,000,000 microseconds
-- rule: replier.time
unfoldable pub reply_time : ℕ → ℕ
reply_time timeout = if timeout == 0 then 5000000 else timeout

-- the end of such a time that begins now
unfoldable pub reply_by : ℕ → ℕ → ℕ
reply_by timeout now = now + reply_time timeout
