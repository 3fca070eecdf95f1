-- The limits of a slot's quotas (profile).
use Rattle.std.specs.Prelude.{ℕ}

-- the most objects of one kind in a slot
-- rule: slot.quota
abbrev pub quota_limit : ℕ
quota_limit = 256

-- the kinds of objects: publishers, subscriptions, requesters, listeners, callers and repliers
abbrev pub quota_kinds : ℕ
quota_kinds = 6
