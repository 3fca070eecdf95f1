use Rattle.std.proofs.Common.{arith}
use Rattle.trdp_base.proofs.NumberLemmas.{length-text_of_number}
use Rattle.trdp_base.proofs.number.push_number.Goals as goal

pub put_number-requires : goal.put_number-requires
put_number-requires c = record {
  room = omega (
    arith,
    length-text_of_number c.args.number c.ranges.number.fits,
    c.in_ok-reserve.ensures.ok,
  );
}

pub returns-clause-length : goal.returns-clause-length
returns-clause-length c =
    let digits = length-text_of_number c.args.number c.ranges.number.fits in
    omega (arith, digits, c.put_number.ensures.len, c.in_ok-reserve.ensures.len)
