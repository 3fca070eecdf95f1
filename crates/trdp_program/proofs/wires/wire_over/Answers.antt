use Rattle.trdp_program.proofs.wires.wire_over.Goals as goal

pub returns-in-Ok-open-clause-beside : goal.returns-in-Ok-open-clause-beside
returns-in-Ok-open-clause-beside g c =
    let stays = c.report_to.ensures.stays in
    rw (c.in-Ok.is, c.in-Some.is) (
      record {
        network_is = c.in-Ok-open.ensures.network;
        operator = rw stays at c.in-Ok-open.ensures.operator;
        controls = rw stays at c.in-Ok-open.ensures.controls;
      },
      rw (c.in-Ok.is, c.in-Some.is) at c.requires.bound,
    )
