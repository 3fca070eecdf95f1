use Rattle.std.proofs.Common.{◌∷◌, ◌++◌, [], length, ◌∙◌, sym, ap, arith, append_assoc}
use Rattle.trdp_base.proofs.NumberLemmas.{written_digit, written_last, length-written_more}
use Rattle.trdp_base.proofs.number.+put_number.Goals as goal

pub push_reserved-requires : goal.push_reserved-requires
push_reserved-requires t c =
    let digit = written_digit c.args.number c.digit_of.result c.if-number-lt10.true
    c.digit_of.ensures in
    omega (arith, ap length digit, c.requires.room)

pub returns-then-number-lt10-clause-items : goal.returns-then-number-lt10-clause-items
returns-then-number-lt10-clause-items t c =
    let digit = written_digit c.args.number c.digit_of.result c.if-number-lt10.true
    c.digit_of.ensures in
    c.push_reserved.ensures.items ∙ ap (λ ds. c.args.out.now.items ++ ds) (sym digit)

pub returns-then-number-lt10-clause-len : goal.returns-then-number-lt10-clause-len
returns-then-number-lt10-clause-len t c =
    let digit = written_digit c.args.number c.digit_of.result c.if-number-lt10.true
    c.digit_of.ensures in
    omega (arith, ap length digit, c.push_reserved.ensures.len)

pub put_number-requires : goal.put_number-requires
put_number-requires t c =
    let more = length-written_more c.args.number c.if-number-lt10.false c.ranges.number.fits in
    (omega (arith, c.if-number-lt10.false), omega (arith, more, c.requires.room))

pub push_reserved-requires-2 : goal.push_reserved-requires-2
push_reserved-requires-2 t c =
    let more = length-written_more c.args.number c.if-number-lt10.false c.ranges.number.fits in
    omega (arith, more, c.requires.room, c.put_number.ensures.len, c.put_number.ensures.capacity)

pub returns-clause-items : goal.returns-clause-items
returns-clause-items t c =
    let last = written_last c.args.number c.digit_of-2.result c.if-number-lt10.false
    c.ranges.number.fits c.digit_of-2.ensures in
    c.push_reserved-2.ensures.items
    ∙ ap (λ ds. ds ++ c.digit_of-2.result ∷ []) c.put_number.ensures.items
    ∙ append_assoc c.args.out.now.items _ (c.digit_of-2.result ∷ [])
    ∙ ap (λ ds. c.args.out.now.items ++ ds) (sym last)

pub returns-clause-len : goal.returns-clause-len
returns-clause-len t c =
    let more = length-written_more c.args.number c.if-number-lt10.false c.ranges.number.fits in
    omega (arith, more, c.put_number.ensures.len, c.push_reserved-2.ensures.len)
