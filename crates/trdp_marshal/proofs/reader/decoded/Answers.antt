use Rattle.std.proofs.Common.{sym, arith}
use Rattle.trdp_marshal.proofs.SpellingLemmas.{read_spells}
use Rattle.trdp_marshal.proofs.DecodeLemmas.{unknown, misfit, faultless, memory_alone, decoded}
use Rattle.trdp_marshal.proofs.reader.decoded.Goals as goal

pub returns-then-not-has_items-clause-fault : goal.returns-then-not-has_items-clause-fault
returns-then-not-has_items-clause-fault c =
    unknown c.args.registry.now c.args.id c.args.bytes.now (sym c.if-not-has_items.ensures)

pub returns-then-not-fits_dataset-clause-fault : goal.returns-then-not-fits_dataset-clause-fault
returns-then-not-fits_dataset-clause-fault c = misfit c.args.registry.now
    c.args.id c.args.bytes.now (sym c.if-not-has_items.ensures) (sym c.if-not-fits_dataset.ensures)

pub returns-in_err-item-clause-fault : goal.returns-in_err-item-clause-fault
returns-in_err-item-clause-fault c =
    memory_alone c.args.registry.now c.args.id
    c.args.bytes.now c.from_residual.result c.in_err-item.field-0.0 c.from_residual.ensures.1
    c.in_err-item.ensures (sym c.if-not-has_items.ensures) (sym c.if-not-fits_dataset.ensures)

pub returns-clause-reading : goal.returns-clause-reading
returns-clause-reading c = decoded c.args.registry.now c.args.id c.args.bytes.now
    _ c.in_ok-item.field-0-1.now c.in_ok-item.ensures (sym c.if-not-fits_dataset.ensures)

pub returns-clause-value : goal.returns-clause-value
returns-clause-value c = read_spells c.args.registry.now
    c.args.id _ c.args.bytes.now (λ i. omega (arith, c.type_inv.bytes i)) (returns-clause-reading c)

pub returns-clause-fault : goal.returns-clause-fault
returns-clause-fault c = faultless c.args.registry.now
    c.args.id c.args.bytes.now (sym c.if-not-has_items.ensures) (sym c.if-not-fits_dataset.ensures)
