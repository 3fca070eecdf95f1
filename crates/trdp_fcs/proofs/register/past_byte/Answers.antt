use Rattle.std.proofs.Common.{bit_xor}
use Rattle.trdp_fcs.proofs.LookUpLemmas.{past_one}
use Rattle.trdp_fcs.proofs.register.past_byte.Goals as goal

pub returns : goal.returns
returns c =
    rw (c.from-2.ensures, c.to_le_bytes.ensures, c.from.ensures)
    (past_one c.tables.result.now (bit_xor c.args.register c.args.byte) c.tables.ensures)
