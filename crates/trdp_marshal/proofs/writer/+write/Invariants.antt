use Rattle.std.proofs.Common.{◌+◌, ◌-◌, ◌*◌, drop}
use Rattle.trdp_marshal.specs.Items.{models_in}
use Rattle.trdp_marshal.specs.Spelling.{form_spelling, repeated_spelling}
use Rattle.trdp_marshal.specs.Spelling.{entries_spelling, dataset_spelling}
use Rattle.trdp_marshal.proofs.WriterLemmas.{Continues}
use Rattle.trdp_marshal.proofs.writer.+write.Given as goal

abbrev pub decreases-write_dataset : goal.decreases-write_dataset
decreases-write_dataset l = 5 * l.depth

abbrev pub decreases-write_form : goal.decreases-write_form
decreases-write_form l = 5 * l.depth + 1

abbrev pub decreases-write_repeated : goal.decreases-write_repeated
decreases-write_repeated l = 5 * l.depth + 2

abbrev pub decreases-write_entry : goal.decreases-write_entry
decreases-write_entry l = 5 * l.depth + 3

abbrev pub decreases-write_entries : goal.decreases-write_entries
decreases-write_entries l = 5 * l.depth + 4

abbrev pub invariant-write_entries-loop-i : goal.invariant-write_entries-loop-i
invariant-write_entries-loop-i l =
    Continues (entries_spelling (form_spelling (dataset_spelling l.registry l.depth))
    l.elements 0 (models_in l.items)) l.fn.out.items
    (entries_spelling (form_spelling (dataset_spelling l.registry l.depth))
    (drop l.i l.elements) l.count (models_in (drop l.i l.items))) l.out.items

abbrev pub invariant-write_repeated-loop-item : goal.invariant-write_repeated-loop-item
invariant-write_repeated-loop-item l =
    Continues (repeated_spelling (form_spelling (dataset_spelling l.registry l.depth) l.form)
    l.count (models_in l.items)) l.fn.out.items
    (repeated_spelling (form_spelling (dataset_spelling l.registry l.depth) l.form)
    (l.count - l.item-index) (models_in (drop l.item-index l.items))) l.out.items
