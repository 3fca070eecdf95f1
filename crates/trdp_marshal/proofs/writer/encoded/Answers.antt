use Rattle.std.proofs.Common.{sym}
use Rattle.trdp_marshal.specs.Items.{model_of}
use Rattle.trdp_marshal.proofs.SpellingLemmas.{spells}
use Rattle.trdp_marshal.proofs.WriterLemmas.{no_dataset, wrong_shape, too_long}
use Rattle.trdp_marshal.proofs.WriterLemmas.{sendable, encoded, memory_only}
use Rattle.trdp_marshal.proofs.writer.encoded.Goals as goal

pub returns-then-not-has_items-clause-fault : goal.returns-then-not-has_items-clause-fault
returns-then-not-has_items-clause-fault c = no_dataset c.args.registry.now
    c.args.id (model_of c.args.item.now) (sym c.if-not-has_items.ensures)

pub returns-in-None-clause-fault : goal.returns-in-None-clause-fault
returns-in-None-clause-fault c = wrong_shape c.args.registry.now
    c.args.id (model_of c.args.item.now) (sym c.if-not-has_items.ensures) c.in-None.ensures

pub returns-then-len-eq-TOO_LONG-clause-fault : goal.returns-then-len-eq-TOO_LONG-clause-fault
returns-then-len-eq-TOO_LONG-clause-fault c =
    too_long c.args.registry.now c.args.id (model_of c.args.item.now)
    c.in-Some.len (sym c.if-not-has_items.ensures) c.in-Some.ensures c.if-len-eq-TOO_LONG.true

pub returns-in_err-bytes-in-Some-clause-fault : goal.returns-in_err-bytes-in-Some-clause-fault
returns-in_err-bytes-in-Some-clause-fault c =
    memory_only c.from_residual.result _ c.from_residual.ensures.1
    (sendable c.args.registry.now c.args.id (model_of c.args.item.now)
    c.in-Some.len (sym c.if-not-has_items.ensures) c.in-Some.ensures c.if-len-eq-TOO_LONG.false)

pub returns-in_err-write_dataset-in-Some-clause-fault :
    goal.returns-in_err-write_dataset-in-Some-clause-fault
returns-in_err-write_dataset-in-Some-clause-fault c =
    memory_only c.from_residual-in_err-write_dataset-in-Some.result
    _ c.from_residual-in_err-write_dataset-in-Some.ensures.1
    (sendable c.args.registry.now c.args.id (model_of c.args.item.now)
    c.in-Some.len (sym c.if-not-has_items.ensures) c.in-Some.ensures c.if-len-eq-TOO_LONG.false)

pub returns-in_ok-write_dataset-in-Some-clause-spelling :
    goal.returns-in_ok-write_dataset-in-Some-clause-spelling
returns-in_ok-write_dataset-in-Some-clause-spelling c =
    encoded c.args.registry.now c.args.id (model_of c.args.item.now) c.in-Some.len _ _
    c.in-Some.ensures c.in_ok-bytes-in-Some.ensures.items c.in_ok-write_dataset-in-Some.ensures

pub returns-in_ok-write_dataset-in-Some-clause-value :
    goal.returns-in_ok-write_dataset-in-Some-clause-value
returns-in_ok-write_dataset-in-Some-clause-value c = spells c.args.registry.now
    c.args.id (model_of c.args.item.now) _ (returns-in_ok-write_dataset-in-Some-clause-spelling c)

pub returns-in_ok-write_dataset-in-Some-clause-fault :
    goal.returns-in_ok-write_dataset-in-Some-clause-fault
returns-in_ok-write_dataset-in-Some-clause-fault c =
    sendable c.args.registry.now c.args.id (model_of c.args.item.now)
    c.in-Some.len (sym c.if-not-has_items.ensures) c.in-Some.ensures c.if-len-eq-TOO_LONG.false
