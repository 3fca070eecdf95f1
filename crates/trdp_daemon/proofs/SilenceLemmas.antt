-- The lease runs out for a slot once before its next line.
-- For `silence_resets_once`, and for EndLemmas.
-- By induction on the takes: where a slot's latest line was forgotten, it stays so up to its next.
use Rattle.std.proofs.Common.{◌≡◌, ℕ, zero, suc, ◌+◌, ◌≤◌, Bool, true, false}
use Rattle.std.proofs.Common.{if◌then◌else◌, List, [], ◌∷◌, Option, Some, None, Result, Ok, Err}
use Rattle.std.proofs.Common.{refl, sym, ◌∙◌, ap, subst, arith}
use Rattle.std.specs.Prelude.{◌==◌, ◌&&◌, is_ok, not, option_map, slice_set}
use Rattle.std.proofs.lemmas.Bool.{eq-eqb, eqb-true}
use Rattle.std.proofs.lemmas.List.{get_or-set_other}
use Rattle.trdp_base.specs.declared.place.Place.{Place}
use Rattle.trdp_model.specs.Events.{EventModel, CallIs, ResetCall}
use Rattle.trdp_text.specs.EventBytes.{carries_bytes}
use Rattle.trdp_text.specs.PortLines.{OperatorSays, Orders, Asks}
use Rattle.trdp_text.specs.PortLines.{control_line_of, operator_line_of}
use Rattle.trdp_text.specs.declared.fault.LineFault.{LineFault}
use Rattle.trdp_daemon.specs.declared.contact.Contact.{Contact}
use Rattle.trdp_wire.specs.declared.port.Port.{Port}
use Rattle.trdp_wire.specs.declared.port.Port.TheVariants.{Pd, Md, PdGroup, MdGroup}
use Rattle.trdp_wire.specs.declared.port.Port.TheVariants.{Operator, Control}
use Rattle.trdp_daemon.specs.declared.totals.Totals.{Totals}
use Rattle.trdp_wire.specs.Told.{Arrived, Failed, Nothing, Came}
use Rattle.trdp_daemon.specs.Effects.{ServiceState, Effect, Loss, LineLost, EventLost, TextsLost}
use Rattle.trdp_daemon.specs.Effects.{contact_of, event_effect, event_taken, may_take_memory}
use Rattle.trdp_daemon.specs.Effects.{missing, read_again, still, telling_only}
use Rattle.trdp_daemon.specs.Leases.{end_effect, ended_effect, forgotten, has_run_out, is_silent}
use Rattle.trdp_daemon.specs.Leases.{quiet_effect}
use Rattle.trdp_daemon.specs.Silences.{is_line_of, BringsNoLine, BringNoLine, HaveNoLine}
use Rattle.trdp_daemon.specs.Silences.{is_control_of, runs_out, times_out, times_out_in}
use Rattle.trdp_daemon.specs.Turns.{Visit, visit_effect, visits_effect, Turn, turn_effect}
use Rattle.trdp_daemon.specs.Turns.{begun, moment_effect, moment_of}
use Rattle.trdp_daemon.specs.Visits.{operator_event, operator_effect, operator_taken, heard_from}
use Rattle.trdp_daemon.specs.Visits.{came_effect, control_event, control_effect, datagram_effect}
use Rattle.trdp_daemon.specs.Visits.{taking_effect, contact_from, lives_still}

-- a slot whose latest line is forgotten has none
pub none_there : (contacts : List (Option Contact)) (slot : ℕ)
    → contact_of (slice_set contacts slot None) slot ≡ None
none_there [] slot = refl
none_there (contact ∷ contacts) zero = refl
none_there (contact ∷ contacts) (suc slot) = none_there contacts slot

-- nor does one that had none get a line where that of a slot is forgotten
none_more : (contacts : List (Option Contact)) (s slot : ℕ) → contact_of contacts slot ≡ None
    → contact_of (slice_set contacts s None) slot ≡ None
none_more [] s slot none = none
none_more (contact ∷ contacts) zero zero none = refl
none_more (contact ∷ contacts) zero (suc slot) none = none
none_more (contact ∷ contacts) (suc s) zero none = none
none_more (contact ∷ contacts) (suc s) (suc slot) none = none_more contacts s slot none

-- nor where another slot has a line
none_elsewhere : (contacts : List (Option Contact)) (s slot : ℕ) (contact : Option Contact)
    → (s == slot) ≡ false → contact_of contacts slot ≡ None
    → contact_of (slice_set contacts s contact) slot ≡ None
none_elsewhere contacts s slot contact other none =
    get_or-set_other contacts s slot contact None
    (λ same. let is = eq-eqb s slot (sym same) in absurd (cc)) ∙ none

-- nor where that of a slot would have come again
none_again : (contacts : List (Option Contact)) (s slot reading : ℕ)
    → contact_of contacts slot ≡ None
    → contact_of (slice_set contacts s (option_map (read_again reading) (contact_of contacts s)))
    slot ≡ None
none_again [] s slot reading none = none
none_again (contact ∷ contacts) zero zero reading none = rw none refl
none_again (contact ∷ contacts) zero (suc slot) reading none = none
none_again (contact ∷ contacts) (suc s) zero reading none = none
none_again (contact ∷ contacts) (suc s) (suc slot) reading none =
    none_again contacts s slot reading none

-- an effect after which a slot has no latest line
abbrev HasNone : ℕ → Effect → Type 0
HasNone slot effect = contact_of effect.service.contacts slot ≡ None

either_none : (b : Bool) (slot : ℕ) (x y : Effect) → HasNone slot x → HasNone slot y
    → HasNone slot (if b then x else y)
either_none true slot x y first second = first
either_none false slot x y first second = second

event_none : (slot : ℕ) (s : ServiceState) (event : EventModel) (loss : Loss)
    → contact_of s.contacts slot ≡ None → HasNone slot (event_effect s event loss)
unfolding event_effect
event_none slot s event LineLost none = either_none (may_take_memory s.node event) slot
    (telling_only s missing) (event_taken s event []) none none
event_none slot s event EventLost none = either_none (may_take_memory s.node event) slot
    (telling_only s missing) (event_taken s event []) none none
event_none slot s event (TextsLost marks) none = none

operator_event_none : (slot : ℕ) (s : ServiceState) (from : Place) (event : EventModel)
    (loss : Loss) → contact_of s.contacts slot ≡ None
    → HasNone slot (operator_event s from event loss)
unfolding operator_event
operator_event_none slot s from event LineLost none = event_none slot s event (TextsLost []) none
operator_event_none slot s from event EventLost none =
    either_none (may_take_memory s.node event) slot (telling_only s missing)
    (operator_taken s from event []) none (event_none slot s event (TextsLost []) none)
operator_event_none slot s from event (TextsLost marks) none =
    event_none slot s event (TextsLost marks) none

operator_none : (slot : ℕ) (s : ServiceState) (from : Place) (totals : Totals)
    (line : Result (Option OperatorSays) LineFault) (loss : Loss)
    → contact_of s.contacts slot ≡ None → HasNone slot (operator_effect s from totals line loss)
unfolding operator_effect
operator_none slot s from totals (Err fault) loss none = none
operator_none slot s from totals (Ok None) loss none = none
operator_none slot s from totals (Ok (Some (Orders event))) loss none =
    operator_event_none slot s from event loss none
operator_none slot s from totals (Ok (Some (Asks question))) loss none = none

control_event_none : (slot : ℕ) (s : ServiceState) (heard : ℕ) (from : Place)
    (event : EventModel) (loss : Loss) → contact_of s.contacts slot ≡ None
    → contact_of (heard_from s heard from).contacts slot ≡ None
    → HasNone slot (control_event s heard from event loss)
unfolding control_event
control_event_none slot s heard from event LineLost none after =
    either_none (carries_bytes (Some event)) slot (telling_only (lives_still s heard) missing)
    (event_effect (heard_from s heard from) event (TextsLost []))
    (none_again s.contacts heard slot s.reading none)
    (event_none slot (heard_from s heard from) event (TextsLost []) after)
control_event_none slot s heard from event EventLost none after =
    event_none slot (heard_from s heard from) event EventLost after
control_event_none slot s heard from event (TextsLost marks) none after =
    event_none slot (heard_from s heard from) event (TextsLost marks) after

first_false : (b : Bool) → (b && true) ≡ false → b ≡ false
first_false true is = absurd (cc)
first_false false is = refl

-- what comes to a control port is no line, or one of another slot
control_none : (slot : ℕ) (s : ServiceState) (heard : ℕ) (from : Place)
    (line : Result (Option EventModel) LineFault) (loss : Loss)
    → (heard == slot && is_ok line) ≡ false → contact_of s.contacts slot ≡ None
    → HasNone slot (control_effect s heard from line loss)
unfolding control_effect
control_none slot s heard from (Err fault) loss other none =
    none_again s.contacts heard slot s.reading none
control_none slot s heard from (Ok None) loss other none = none_elsewhere s.contacts heard slot
    (Some (contact_from s from)) (first_false (heard == slot) other) none
control_none slot s heard from (Ok (Some event)) loss other none =
    control_event_none slot s heard from event loss none
    (none_elsewhere s.contacts heard slot (Some (contact_from s from))
    (first_false (heard == slot) other) none)

datagram_none : (slot : ℕ) (s : ServiceState) (totals : Totals) (port : Port) (from : Place)
    (bytes : List ℕ) (loss : Loss) → is_line_of slot port bytes ≡ false
    → contact_of s.contacts slot ≡ None
    → HasNone slot (datagram_effect s totals port from bytes loss)
unfolding datagram_effect is_line_of
datagram_none slot s totals Pd from bytes loss other none = event_none slot s _ loss none
datagram_none slot s totals Md from bytes loss other none = event_none slot s _ loss none
datagram_none slot s totals (PdGroup group) from bytes loss other none =
    event_none slot s _ loss none
datagram_none slot s totals (MdGroup group) from bytes loss other none =
    event_none slot s _ loss none
datagram_none slot s totals Operator from bytes loss other none =
    operator_none slot s from totals (operator_line_of bytes) loss none
datagram_none slot s totals (Control heard) from bytes loss other none =
    control_none slot s heard from (control_line_of heard bytes) loss other none

end_none : (slot : ℕ) (s : ServiceState) (t : ℕ) (loss : Loss)
    → contact_of s.contacts slot ≡ None → HasNone slot (end_effect s t loss)
end_none slot s t loss none =
    event_none slot (forgotten s t) (CallIs t ResetCall) loss (none_more s.contacts t slot none)

quiet_none : (slot : ℕ) (s : ServiceState) (port : Port) (loss : Loss)
    → contact_of s.contacts slot ≡ None → HasNone slot (quiet_effect s port loss)
unfolding quiet_effect
quiet_none slot s Pd loss none = none
quiet_none slot s Md loss none = none
quiet_none slot s (PdGroup group) loss none = none
quiet_none slot s (MdGroup group) loss none = none
quiet_none slot s Operator loss none = none
quiet_none slot s (Control t) loss none = either_none (is_silent s t) slot
    (end_effect s t loss) (still s) (end_none slot s t loss none) none

ended_none : (slot : ℕ) (s : ServiceState) (port : Port) (loss : Loss)
    → contact_of s.contacts slot ≡ None → HasNone slot (ended_effect s port loss)
unfolding ended_effect
ended_none slot s Pd loss none = none
ended_none slot s Md loss none = none
ended_none slot s (PdGroup group) loss none = none
ended_none slot s (MdGroup group) loss none = none
ended_none slot s Operator loss none = none
ended_none slot s (Control t) loss none = end_none slot s t loss none

came_none : (slot : ℕ) (ended : Bool) (s : ServiceState) (totals : Totals) (port : Port)
    (from : Place) (bytes : List ℕ) (loss : Loss)
    → (not ended && is_line_of slot port bytes) ≡ false → contact_of s.contacts slot ≡ None
    → HasNone slot (came_effect ended s totals port from bytes loss)
came_none slot true s totals port from bytes loss other none = ended_none slot s port loss none
came_none slot false s totals port from bytes loss other none =
    datagram_none slot s totals port from bytes loss other none

taking_none : (slot : ℕ) (s : ServiceState) (totals : Totals) (port : Port)
    (ended : Bool) (arrived : Arrived) (loss : Loss)
    → BringsNoLine slot port ended arrived → contact_of s.contacts slot ≡ None
    → HasNone slot (taking_effect s totals port ended arrived loss)
unfolding taking_effect
taking_none slot s totals port ended Failed loss other none = none
taking_none slot s totals port ended Nothing loss other none = quiet_none slot s port loss none
taking_none slot s totals port ended (Came from bytes) loss other none =
    came_none slot ended s totals port from bytes loss other none

no_lease : (lease : Option ℕ) (reading : ℕ) → has_run_out lease reading None ≡ false
unfolding has_run_out
no_lease None reading = refl
no_lease (Some lease) reading = refl

second_false : (a b : Bool) → b ≡ false → (a && b) ≡ false
second_false true b is = is
second_false false b is = refl

-- for a slot without a latest line no lease runs out
never_out : (slot : ℕ) (s : ServiceState) (port : Port) (arrived : Arrived)
    → contact_of s.contacts slot ≡ None → runs_out slot s port arrived ≡ false
unfolding runs_out
never_out slot s port Failed none = refl
never_out slot s port Nothing none = second_false (is_control_of slot port) (is_silent s slot)
    (ap (λ c. has_run_out s.lease s.reading c) none ∙ no_lease s.lease s.reading)
never_out slot s port (Came from bytes) none = refl

both_true : (a b : Bool) → (a && b) ≡ true → (a ≡ true) × (b ≡ true)
both_true true b is = (refl, is)
both_true false b is = absurd (cc)

-- where the lease runs out for a slot, its latest line is forgotten
out_none : (slot : ℕ) (s : ServiceState) (totals : Totals) (port : Port) (ended : Bool)
    (arrived : Arrived) (loss : Loss) → runs_out slot s port arrived ≡ true
    → HasNone slot (taking_effect s totals port ended arrived loss)
unfolding runs_out is_control_of taking_effect quiet_effect
out_none slot s totals port ended Failed loss out = absurd (cc)
out_none slot s totals Pd ended Nothing loss out = absurd (cc)
out_none slot s totals Md ended Nothing loss out = absurd (cc)
out_none slot s totals (PdGroup group) ended Nothing loss out = absurd (cc)
out_none slot s totals (MdGroup group) ended Nothing loss out = absurd (cc)
out_none slot s totals Operator ended Nothing loss out = absurd (cc)
out_none slot s totals (Control t) ended Nothing loss out =
    let both = both_true (t == slot) (is_silent s slot) out in
    let same = eqb-true t slot both.0 in
    let silent : is_silent s t ≡ true = ap (λ n. is_silent s n) same ∙ both.1 in
    let cleared = subst (λ (n : ℕ). contact_of (slice_set s.contacts n None) slot ≡ None) (sym same)
    (none_there s.contacts slot) in
    subst (λ (b : Bool). HasNone slot (if b then end_effect s t loss else still s)) (sym silent)
    (event_none slot (forgotten s t) (CallIs t ResetCall) loss cleared)
out_none slot s totals port ended (Came from bytes) loss out = absurd (cc)

-- 1 where a slot has a latest line, and else 0
abbrev pub held : Option Contact → ℕ
held None = 0
held (Some contact) = 1

abbrev pub held_in : ℕ → ServiceState → ℕ
held_in slot s = held (contact_of s.contacts slot)

none_held : (slot : ℕ) (s : ServiceState) → contact_of s.contacts slot ≡ None → held_in slot s ≡ 0
none_held slot s none = ap held none

held_most : (contact : Option Contact) → held contact ≤ 1
held_most None = omega arith
held_most (Some contact) = omega arith

-- a take takes as much away as the lease runs out
visit_out : (slot : ℕ) (s : ServiceState) (visit : Visit)
    → BringsNoLine slot visit.taking.port visit.taking.ended visit.taking.arrived
    → (if runs_out slot s visit.taking.port visit.taking.arrived then 1 else 0)
    + held_in slot (visit_effect s visit).service ≤ held_in slot s
visit_out slot s visit lineless = by_contact (contact_of s.contacts slot) refl
  where
    after : ServiceState
    after = (visit_effect s visit).service

    by_test : (out : Bool) → runs_out slot s visit.taking.port visit.taking.arrived ≡ out
        → (if out then 1 else 0) + held_in slot after ≤ 1
    by_test true is = omega (
      arith,
      none_held slot after
          (out_none slot s visit.totals visit.taking.port visit.taking.ended visit.taking.arrived
          visit.loss is),
    )
    by_test false is = omega (arith, held_most (contact_of after.contacts slot))

    by_contact : (contact : Option Contact) → contact_of s.contacts slot ≡ contact
        → (if runs_out slot s visit.taking.port visit.taking.arrived then 1 else 0)
        + held_in slot after ≤ held contact
    by_contact None none = rw (never_out slot s visit.taking.port visit.taking.arrived none)
        (omega (
          arith,
          none_held slot after (taking_none slot s visit.totals visit.taking.port
              visit.taking.ended visit.taking.arrived visit.loss lineless none),
        ))
    by_contact (Some contact) some =
        by_test (runs_out slot s visit.taking.port visit.taking.arrived) refl

visits_out : (slot : ℕ) (s : ServiceState) (visits : List Visit) → BringNoLine slot visits
    → times_out slot s visits + held_in slot (visits_effect s visits).service ≤ held_in slot s
visits_out slot s [] lineless = omega arith
visits_out slot s (visit ∷ visits) (here, lineless) =
    omega (
      arith,
      visit_out slot s visit here,
      visits_out slot (visit_effect s visit).service visits lineless,
    )

-- nor does a moment give a slot a line
moment_out : (slot : ℕ) (s : ServiceState) (turn : Turn)
    → held_in slot (moment_effect s turn).service ≤ held_in slot s
moment_out slot s turn = by_contact (contact_of s.contacts slot) refl
  where
    after : ServiceState
    after = (moment_effect s turn).service

    by_contact : (contact : Option Contact) → contact_of s.contacts slot ≡ contact
        → held_in slot after ≤ held contact
    by_contact None none = omega (
      arith,
      none_held slot after (event_none slot (begun s turn.reading)
          (moment_of s.node turn.reading) turn.loss none),
    )
    by_contact (Some contact) some = held_most (contact_of after.contacts slot)

turns_out : (slot : ℕ) (s : ServiceState) (turns : List Turn) → HaveNoLine slot turns
    → times_out_in slot s turns ≤ held_in slot s
turns_out slot s [] lineless = omega arith
turns_out slot s (turn ∷ turns) (here, lineless) =
    omega (
      arith,
      moment_out slot s turn,
      visits_out slot (moment_effect s turn).service turn.visits here,
      turns_out slot (turn_effect s turn).service turns lineless,
    )

pub turns_once : (slot : ℕ) (s : ServiceState) (turns : List Turn) → HaveNoLine slot turns
    → times_out_in slot s turns ≤ 1
turns_once slot s turns lineless =
    omega (arith, turns_out slot s turns lineless, held_most (contact_of s.contacts slot))
