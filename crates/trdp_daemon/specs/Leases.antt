-- A lease: how long the application of a slot may be silent.
use Rattle.std.specs.Prelude.{ℕ, ◌+◌, nat_lt, Bool, false, Option, Some, None, if◌then◌else◌}
use Rattle.trdp_model.specs.Events.{CallIs, ResetCall}
use Rattle.trdp_daemon.specs.declared.contact.Contact.{Contact}
use Rattle.trdp_wire.specs.declared.port.Port.{Port}
use Rattle.trdp_wire.specs.declared.port.Port.TheVariants.{Pd, Md, PdGroup, MdGroup}
use Rattle.trdp_wire.specs.declared.port.Port.TheVariants.{Operator, Control}
use Rattle.trdp_daemon.specs.Effects.{ServiceState, Effect, Loss, contact_of, event_effect, still}
use Rattle.trdp_daemon.specs.Effects.{with_contact}

-- whether a lease has run out after the latest line of a slot by this reading of the clock: the
-- line came more than that many microseconds before. It never does where there is no lease, nor
-- where there was no line
-- rule: slot.lease
unfoldable pub has_run_out : Option ℕ → ℕ → Option Contact → Bool
has_run_out None reading contact = false
has_run_out (Some lease) reading None = false
has_run_out (Some lease) reading (Some contact) = nat_lt (contact.reading + lease) reading

-- whether the lease has run out for a slot by the reading of the turn
abbrev pub is_silent : ServiceState → ℕ → Bool
is_silent service slot =
    has_run_out service.lease service.reading (contact_of service.contacts slot)

-- the same of the slot of a port; at a port of no slot nobody is silent
unfoldable pub is_silent_at : ServiceState → Port → Bool
is_silent_at service Pd = false
is_silent_at service Md = false
is_silent_at service (PdGroup group) = false
is_silent_at service (MdGroup group) = false
is_silent_at service Operator = false
is_silent_at service (Control slot) = is_silent service slot

-- the latest line of a slot is forgotten, and with it where its application is
abbrev pub forgotten : ServiceState → ℕ → ServiceState
forgotten service slot = with_contact service slot None

-- the reset of a slot whose application has ended. Its latest line is forgotten before, so that
-- the reset is reported to no one, and no lease runs out for it before its next line
-- rule: slot.end
abbrev pub end_effect : ServiceState → ℕ → Loss → Effect
end_effect service slot loss =
    event_effect (forgotten service slot) (CallIs slot ResetCall) loss

-- the same where the lease has run out for a slot
-- rule: slot.silence
abbrev pub silence_effect : ServiceState → ℕ → Loss → Effect
silence_effect service slot loss =
    if is_silent service slot then end_effect service slot loss else still service

-- the effect of a take that found nothing: a slot's application may have been silent for too long
unfoldable pub quiet_effect : ServiceState → Port → Loss → Effect
quiet_effect service Pd loss = still service
quiet_effect service Md loss = still service
quiet_effect service (PdGroup group) loss = still service
quiet_effect service (MdGroup group) loss = still service
quiet_effect service Operator loss = still service
quiet_effect service (Control slot) loss = silence_effect service slot loss

-- the effect of a take that handed in the end of an application: at a control port that slot's has
-- ended; at the others there is none
unfoldable pub ended_effect : ServiceState → Port → Loss → Effect
ended_effect service Pd loss = still service
ended_effect service Md loss = still service
ended_effect service (PdGroup group) loss = still service
ended_effect service (MdGroup group) loss = still service
ended_effect service Operator loss = still service
ended_effect service (Control slot) loss = end_effect service slot loss
