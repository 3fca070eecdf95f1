use Rattle.trdp_fcs.proofs.LookUpLemmas.{past_eight_of}
use Rattle.trdp_fcs.proofs.register.past_eight.Goals as goal

pub returns : goal.returns
returns c =
    rw (c.past_four_zeros-back.ensures, c.past_eight_zeros.ensures)
    (past_eight_of c.args.bytes.now c.args.register c.from_le_bytes-2.result c.from_le_bytes.result
    c.told-bytes c.fits-bytes c.from_le_bytes-2.ensures c.from_le_bytes.ensures)
