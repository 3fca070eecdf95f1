use Rattle.std.proofs.Common.{ap, ◌∙◌, ℕ, bit_xor}
use Rattle.trdp_fcs.specs.Register.{past_zeros}
use Rattle.trdp_fcs.proofs.LookUpLemmas.{past_four_of}
use Rattle.trdp_fcs.proofs.register.past_four.Goals as goal

pub returns : goal.returns
returns c =
    c.past_four_zeros.ensures
    ∙ ap (λ (x : ℕ). past_zeros 4 (bit_xor c.args.register x)) c.from_le_bytes.ensures
    ∙ past_four_of c.args.bytes.now c.args.register c.told-bytes c.fits-bytes
