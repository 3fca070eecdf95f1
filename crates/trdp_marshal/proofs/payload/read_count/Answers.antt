use Rattle.trdp_marshal.proofs.SkipLemmas.{count_read}
use Rattle.trdp_marshal.proofs.payload.read_count.Goals as goal

pub returns-in-Unsigned : goal.returns-in-Unsigned
returns-in-Unsigned c = λ nested count.
    count_read nested c.args.element c.form.result
    c.in-Unsigned.width c.len.result count c.args.bytes.now _
    c.requires c.form.ensures.value c.in-Unsigned.is c.len.ensures.value c.number.ensures.value
