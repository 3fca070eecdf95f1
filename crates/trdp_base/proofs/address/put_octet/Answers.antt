use Rattle.std.proofs.Common.{◌+◌, ◌++◌, ◌∙◌, ap, sym, arith}
use Rattle.trdp_base.proofs.NumberLemmas.{length-text_of_octet, written_digit}
use Rattle.trdp_base.proofs.address.put_octet.Goals as goal

pub put_number-requires : goal.put_number-requires
put_number-requires c = record {
  room = omega (
    arith,
    length-text_of_octet c.from.result (omega (arith, c.from.ensures, c.ranges.octet.fits)),
  );
}

pub returns-else-octet-lt10-clause-length : goal.returns-else-octet-lt10-clause-length
returns-else-octet-lt10-clause-length c = omega (
  arith,
  c.put_number.ensures.len,
  length-text_of_octet c.from.result (omega (arith, c.from.ensures, c.ranges.octet.fits)),
)

pub returns-then-octet-lt10-clause-items : goal.returns-then-octet-lt10-clause-items
returns-then-octet-lt10-clause-items c =
    let digit = written_digit c.args.octet (48 + c.args.octet) c.if-octet-lt10.true
    (omega (arith, c.if-octet-lt10.true)) in
    c.push_reserved.ensures.items ∙ ap (λ ds. c.args.out.now.items ++ ds) (sym digit)
