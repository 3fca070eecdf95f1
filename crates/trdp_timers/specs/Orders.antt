-- The order in which objects act.
use Rattle.std.specs.Prelude.{◌≡◌, ℕ, Bool, true, false, ◌==◌, ◌&&◌, ◌||◌, nat_lt, nat_le}
use Rattle.std.specs.Prelude.{Option, Some, None}
use Rattle.trdp_timers.specs.declared.order.Order.{Order}

-- sooner by the due moment, then by the slot, then by the handle
abbrev pub is_sooner : Order → Order → Bool
is_sooner a b =
    nat_lt a.due b.due
    || (a.due == b.due
    && (nat_lt a.slot b.slot || (a.slot == b.slot && nat_lt a.handle b.handle)))

-- the sooner goes before; what isn't set goes last
unfoldable pub goes_before : Option Order → Option Order → Bool
goes_before None b = false
goes_before (Some a) None = true
goes_before (Some a) (Some b) = is_sooner a b

-- a goes no later than b
abbrev pub Leads : Option Order → Option Order → Type 0
Leads a b = goes_before b a ≡ false

-- it is set, and its due moment is t or before
abbrev pub is_due_by : ℕ → Option Order → Bool
is_due_by t None = false
is_due_by t (Some order) = nat_le order.due t
