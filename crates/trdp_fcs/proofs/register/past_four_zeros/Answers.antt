use Rattle.std.proofs.Common.{arith}
use Rattle.trdp_fcs.proofs.LookUpLemmas.{past_word}
use Rattle.trdp_fcs.proofs.register.past_four_zeros.Goals as goal

pub returns : goal.returns
returns c =
    rw (c.from.ensures, c.from-2.ensures, c.from-3.ensures, c.from-4.ensures, c.to_le_bytes.ensures)
    (past_word c.tables-tables.result.now 0 c.args.register
    c.tables-tables.ensures (omega arith) (omega (arith, c.ranges.register.fits)))
