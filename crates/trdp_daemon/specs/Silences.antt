-- How often the lease runs out for a slot.
use Rattle.std.specs.Prelude.{◌≡◌, ℕ, ◌+◌, ◌==◌, ◌&&◌, if◌then◌else◌, Bool, false, is_ok}
use Rattle.std.specs.Prelude.{List, [], ◌∷◌, not}
use Rattle.trdp_text.specs.PortLines.{control_line_of}
use Rattle.trdp_wire.specs.declared.port.Port.{Port}
use Rattle.trdp_wire.specs.declared.port.Port.TheVariants.{Pd, Md, PdGroup, MdGroup}
use Rattle.trdp_wire.specs.declared.port.Port.TheVariants.{Operator, Control}
use Rattle.trdp_daemon.specs.Effects.{ServiceState}
use Rattle.trdp_daemon.specs.Leases.{is_silent}
use Rattle.trdp_wire.specs.Told.{Arrived, Failed, Nothing, Came}
use Rattle.trdp_daemon.specs.Turns.{Visit, visit_effect, Turn, moment_effect, turn_effect}

-- whether what came to a port reads as a line of this slot
unfoldable pub is_line_of : ℕ → Port → List ℕ → Bool
is_line_of slot Pd bytes = false
is_line_of slot Md bytes = false
is_line_of slot (PdGroup group) bytes = false
is_line_of slot (MdGroup group) bytes = false
is_line_of slot Operator bytes = false
is_line_of slot (Control s) bytes = s == slot && is_ok (control_line_of s bytes)

-- no line of this slot came by a take at a port that answered this; the end of an application is
-- none
abbrev pub BringsNoLine : ℕ → Port → (ended : Bool) → Arrived → Type 0
BringsNoLine slot port ended Failed = Unit {0}
BringsNoLine slot port ended Nothing = Unit {0}
BringsNoLine slot port ended (Came from bytes) =
    (not ended && is_line_of slot port bytes) ≡ false

-- nor by any of these takes
abbrev pub BringNoLine : ℕ → List Visit → Type 0
BringNoLine slot [] = Unit {0}
BringNoLine slot (visit ∷ visits) =
    BringsNoLine slot visit.taking.port visit.taking.ended visit.taking.arrived
    × BringNoLine slot visits

-- nor in any of these turns
abbrev pub HaveNoLine : ℕ → List Turn → Type 0
HaveNoLine slot [] = Unit {0}
HaveNoLine slot (turn ∷ turns) = BringNoLine slot turn.visits × HaveNoLine slot turns

-- whether the port is the control port of this slot
unfoldable pub is_control_of : ℕ → Port → Bool
is_control_of slot Pd = false
is_control_of slot Md = false
is_control_of slot (PdGroup group) = false
is_control_of slot (MdGroup group) = false
is_control_of slot Operator = false
is_control_of slot (Control s) = s == slot

-- whether the lease runs out for this slot at a take that answered this: at its control port
-- nothing was found, and it is silent
unfoldable pub runs_out : ℕ → ServiceState → Port → Arrived → Bool
runs_out slot service port Failed = false
runs_out slot service port Nothing = is_control_of slot port && is_silent service slot
runs_out slot service port (Came from bytes) = false

-- how often it does so at these takes, one after another
abbrev pub times_out : ℕ → ServiceState → List Visit → ℕ
times_out slot service [] = 0
times_out slot service (visit ∷ visits) =
    (if runs_out slot service visit.taking.port visit.taking.arrived then 1 else 0)
    + times_out slot (visit_effect service visit).service visits

-- how often it does so in these turns
abbrev pub times_out_in : ℕ → ServiceState → List Turn → ℕ
times_out_in slot service [] = 0
times_out_in slot service (turn ∷ turns) =
    times_out slot (moment_effect service turn).service turn.visits
    + times_out_in slot (turn_effect service turn).service turns
