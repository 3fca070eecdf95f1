use Rattle.std.proofs.Common.{refl}
use Rattle.trdp_controls.proofs.control_wire.ControlWireWire.give.Goals as goal

pub returns-in-Operator-clause-gives : goal.returns-in-Operator-clause-gives
returns-in-Operator-clause-gives g c = rw (c.in-Operator.is, c.count_lost.ensures.operator) (
  record {
    answer = c.give_text-said.result;
    says = c.give_text-said.ensures;
    fault = c.count_lost.ensures.counted;
  },
  c.count_lost.ensures.network,
  rw c.count_lost.ensures.controls refl,
)

pub returns-in-Control-clause-gives : goal.returns-in-Control-clause-gives
returns-in-Control-clause-gives g c =
    rw (c.in-Control.is, c.count_lost-in-Control.ensures.controls) (
      record {
        answer = c.give_text_at-said.result;
        says = rw c.from.ensures at c.give_text_at-said.ensures;
        fault = c.count_lost-in-Control.ensures.counted;
      },
      c.count_lost-in-Control.ensures.network,
      c.count_lost-in-Control.ensures.operator,
    )
