-- Which events carry bytes.
use Rattle.std.specs.Prelude.{Bool, false, Option, Some, None, is_some}
use Rattle.trdp_model.specs.CarriedBytes.{event_bytes}
use Rattle.trdp_model.specs.Events.{EventModel}

-- the event carries bytes; where there is none, none carries any
abbrev pub carries_bytes : Option EventModel → Bool
carries_bytes None = false
carries_bytes (Some event) = is_some (event_bytes event)
