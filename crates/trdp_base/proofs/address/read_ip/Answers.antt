use Rattle.std.proofs.Common.{Ok, ◌∙◌}
use Rattle.trdp_base.proofs.AddressLemmas.{address_of, text_is_read, bits_of_text, text_of_read}
use Rattle.trdp_base.proofs.address.read_ip.Goals as goal

pub returns-in-Ok-clause-value : goal.returns-in-Ok-clause-value
returns-in-Ok-clause-value c =
    rw c.to_bits.ensures (text_of_read c.args.text.now c.in-Ok.address c.in-Ok.ensures)

pub returns-in-Ok-clause-found : goal.returns-in-Ok-clause-found
returns-in-Ok-clause-found c = λ ip small e.
    let bits = c.to_bits.ensures
    ∙ bits_of_text c.args.text.now ip c.in-Ok.address small e c.in-Ok.ensures in
    λ i. Ok (record { 0 = bits i })

pub returns-in-Err-clause-found : goal.returns-in-Err-clause-found
returns-in-Err-clause-found c = λ ip small e.
    absurd (c.in-Err.ensures (address_of ip) (text_is_read c.args.text.now ip e))
