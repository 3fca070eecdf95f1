use Rattle.std.proofs.Common.{arith, rules}
use Rattle.trdp_base.proofs.NumberLemmas.{length-text_of_port}
use Rattle.trdp_base.proofs.address.put_port.Goals as goal

pub put_number-requires : goal.put_number-requires
put_number-requires c = record {
  room = omega (
    arith,
    length-text_of_port c.from.result (omega (arith, c.from.ensures, c.ranges.port.fits)),
  );
}

pub returns-clause-length : goal.returns-clause-length
returns-clause-length c = omega (
  arith,
  c.put_number.ensures.len,
  length-text_of_port c.from.result (omega (arith, c.from.ensures, c.ranges.port.fits)),
)

pub returns-clause-items : goal.returns-clause-items
returns-clause-items c = search rules
