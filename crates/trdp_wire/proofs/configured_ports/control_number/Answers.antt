use Rattle.std.proofs.Common.{sym, ◌∙◌, arith}
use Rattle.trdp_wire.proofs.ControlPortLemmas.{number_among, number_behind}
use Rattle.trdp_wire.proofs.configured_ports.control_number.Goals as goal

pub returns-then-slot-slots : goal.returns-then-slot-slots
returns-then-slot-slots c = c.control_port.ensures.value
    ∙ sym (number_among c.args.config.now.slots c.args.config.now.spare_control_ports c.args.slot
    (omega (arith, c.slots-slots.ensures.value, c.if-slot-slots.true)))

pub returns-else-slot-slots : goal.returns-else-slot-slots
returns-else-slot-slots c = c.spare_control_port.ensures.value
    ∙ sym (number_behind c.args.config.now.slots c.args.config.now.spare_control_ports c.args.slot
    _ (omega (arith, c.slots-slots.ensures.value, c.if-slot-slots.false)))
