use Rattle.std.proofs.Common.{◌++◌, ap, sym, ◌∙◌}
use Rattle.std.specs.Prelude.{OnOk, Result, Ok, Err}
use Rattle.trdp_wire.specs.declared.port.Port.TheVariants.{Control}
use Rattle.trdp_wire.specs.Ports.{control_numbers, port_unless_0}
use Rattle.trdp_wire.proofs.ControlPortLemmas.{ports_next, no_slot}
use Rattle.trdp_wire.proofs.configured_ports.push_control.Goals as goal

on_ok : {A E : Type 0} {P Q : Type 0} (r : Result A E) → (P → Q) → OnOk r P → OnOk r Q
on_ok (Ok x) f p = f p
on_ok (Err e) f p = tt

pub returns-in-Some : goal.returns-in-Some
returns-in-Some c =
    on_ok c.push_unless_0.result (λ more. ports_next (control_numbers c.args.config.now)
    c.args.slot c.in-Some.number _ _ (sym c.control_number.ensures ∙ c.in-Some.is) (more
    ∙ ap (λ n. c.args.ports.now.items ++ port_unless_0 c.in-Some.number (Control n))
    c.slot_number-slot.ensures)) c.push_unless_0.ensures

pub returns-in-None : goal.returns-in-None
returns-in-None c = absurd (no_slot (control_numbers c.args.config.now)
    c.args.slot c.requires.slot (sym c.control_number.ensures ∙ c.in-None.is))
