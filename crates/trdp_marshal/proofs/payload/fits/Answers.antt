use Rattle.std.proofs.Common.{arith}
use Rattle.trdp_marshal.proofs.SpellingLemmas.{fits_other}
use Rattle.trdp_marshal.proofs.payload.fits.Goals as goal

pub returns-else-id-eq0-clause-meaning : goal.returns-else-id-eq0-clause-meaning
returns-else-id-eq0-clause-meaning c =
    fits_other c.args.registry.now c.args.id c.args.bytes.now c.fits_dataset.result
    c.if-id-eq0.false (λ i. omega (arith, c.type_inv.bytes i)) c.fits_dataset.ensures
