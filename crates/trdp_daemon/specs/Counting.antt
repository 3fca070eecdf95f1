-- What the totals count.
use Rattle.std.specs.Prelude.{ℕ, zero, suc, ◌+◌, ◌-◌, ◌^◌, min, List, length, filter}
use Rattle.trdp_daemon.specs.declared.totals.Totals.{Totals}
use Rattle.trdp_wire.specs.Told.{Taking, Give, has_come, has_failed}

-- a count that is that much higher, one by one; it stops at 2^64 - 1
abbrev pub counted : ℕ → ℕ → ℕ
counted n zero = n
counted n (suc more) = counted (min (n + 1) (2 ^ 64 - 1)) more

-- nothing was counted
abbrev pub no_totals : Totals
no_totals = record { taken = 0; offered = 0; lost = 0; unread = 0; memory = 0 }

-- how many datagrams came at these takes
abbrev pub datagrams_in : List Taking → ℕ
datagrams_in takings = length (filter (λ t. has_come t.arrived) takings)

-- how many of these takes failed
abbrev pub unread_in : List Taking → ℕ
unread_in takings = length (filter (λ t. has_failed t.arrived) takings)

-- how many of these gives failed
abbrev pub lost_in : List Give → ℕ
lost_in gives = length (filter (λ g. g.failed) gives)

-- the totals after these takes and gives, with that many entries lost where an allocation failed
abbrev pub totals_after : Totals → List Taking → List Give → ℕ → Totals
totals_after totals takings gives missed = record {
  taken = counted totals.taken (datagrams_in takings);
  offered = counted totals.offered (length gives);
  lost = counted totals.lost (lost_in gives);
  unread = counted totals.unread (unread_in takings);
  memory = counted totals.memory missed;
}
