use Rattle.std.proofs.Common.{◌≡◌, length, arith, ◌∷◌, ◌++◌, ap, ◌∙◌}
use Rattle.trdp_wire.specs.declared.port.Port.TheVariants.{Md, Operator, Pd}
use Rattle.trdp_wire.specs.Ports.{control_numbers, group_ports, port_unless_0}
use Rattle.trdp_wire.proofs.ControlPortLemmas.{numbers_count, ports_start, ports_end}
use Rattle.trdp_wire.proofs.configured_ports.ports_of.Goals as goal

pub loop-slot-init : goal.loop-slot-init
loop-slot-init c = ports_start c.args.config.now _ _ c.operator_port.ensures.value
    (c.in_ok-push_unless_0.ensures
    ∙ ap (λ l. l ++ port_unless_0 c.operator_port.result Operator)
    (c.in_ok-push_groups.ensures ∙ ap (λ l. l ++ group_ports c.groups.result.now)
    c.in_ok-ports.ensures.items ∙ ap (λ gs. Pd ∷ Md ∷ group_ports gs) c.groups.ensures.value))

pub returns : goal.returns
returns c =
    let end : length (control_numbers c.args.config.now) ≡ c.loop-slot.slot = omega (
      arith,
      c.loop-slot-test.false,
      c.loop-slot.auto.slot-end,
      c.slots.ensures.value,
      c.spare_control_ports.ensures.value,
      numbers_count c.args.config.now.slots c.args.config.now.spare_control_ports,
    ) in
    ports_end c.loop-slot.slot (control_numbers c.args.config.now) _ _ end c.loop-slot.invariant
