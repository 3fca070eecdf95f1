use Rattle.std.proofs.Common.{sym, ap, ◌∙◌, arith}
use Rattle.std.specs.Prelude.{is_some}
use Rattle.trdp_marshal.specs.Reading.{dataset_at, reading}
use Rattle.trdp_marshal.proofs.SkipLemmas.{dataset_skipped, within_below}
use Rattle.trdp_marshal.proofs.SkipLemmas.{read_unknown, whole_taken, whole_nowhere}
use Rattle.trdp_marshal.proofs.FixedLemmas.{whole_fixed}
use Rattle.trdp_marshal.proofs.payload.fits_dataset.Goals as goal

pub returns-in-Some : goal.returns-in-Some
returns-in-Some c = whole_fixed c.args.registry.now
    c.args.id c.in-Some.size c.args.bytes.now c.sound.ensures.sound c.in-Some.ensures.value

pub returns-in_default-elements : goal.returns-in_default-elements
unfolding reading
returns-in_default-elements c =
    whole_nowhere (dataset_at c.args.registry.now 5 c.args.id c.args.bytes.now) (read_unknown
    c.args.registry.now 5 c.args.id c.args.bytes.now (sym c.in_default-elements.ensures.value))

pub skip_elements-requires-clause-deep : goal.skip_elements-requires-clause-deep
skip_elements-requires-clause-deep c =
    let known = sym c.in-Some-elements.ensures.value in
    within_below c.args.registry.now 5 c.args.id c.in-Some-elements.elements.now
    (c.sound.ensures.sound.deep c.args.id (ap is_some known)) known

pub returns-in-Some-skip_elements : goal.returns-in-Some-skip_elements
unfolding reading
returns-in-Some-skip_elements c =
    let known = sym c.in-Some-elements.ensures.value in
    let found = dataset_at c.args.registry.now 5 c.args.id c.args.bytes.now in
    c.is_empty.ensures ∙ sym (whole_taken found c.in-Some-skip_elements.rest.now
    (c.in-Some-skip_elements.ensures ∙ sym (dataset_skipped c.args.registry.now
    5 c.args.id c.args.bytes.now c.in-Some-elements.elements.now (omega arith) known)))

pub returns-in-None : goal.returns-in-None
unfolding reading
returns-in-None c =
    let known = sym c.in-Some-elements.ensures.value in
    whole_nowhere (dataset_at c.args.registry.now 5 c.args.id c.args.bytes.now)
    (c.in-None.ensures ∙ sym (dataset_skipped c.args.registry.now
    5 c.args.id c.args.bytes.now c.in-Some-elements.elements.now (omega arith) known))
