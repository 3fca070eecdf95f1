use Rattle.std.proofs.Common.{◌≡◌, ◌≤◌, ◌+◌, ◌-◌, ◌*◌, drop}
use Rattle.trdp_marshal.specs.Items.{models_in}
use Rattle.trdp_marshal.specs.Spelling.{form_spelling, repeated_spelling}
use Rattle.trdp_marshal.specs.Spelling.{entries_spelling, dataset_spelling}
use Rattle.trdp_marshal.specs.Lengths.{measured}
use Rattle.trdp_marshal.proofs.MeasureLemmas.{plus}
use Rattle.trdp_marshal.proofs.measure.+measure.Given as goal

abbrev pub decreases-measure_dataset : goal.decreases-measure_dataset
decreases-measure_dataset l = 5 * l.depth

abbrev pub decreases-measure_form : goal.decreases-measure_form
decreases-measure_form l = 5 * l.depth + 1

abbrev pub decreases-measure_repeated : goal.decreases-measure_repeated
decreases-measure_repeated l = 5 * l.depth + 2

abbrev pub decreases-measure_entry : goal.decreases-measure_entry
decreases-measure_entry l = 5 * l.depth + 3

abbrev pub decreases-measure_entries : goal.decreases-measure_entries
decreases-measure_entries l = 5 * l.depth + 4

abbrev pub invariant-measure_entries-loop-i : goal.invariant-measure_entries-loop-i
invariant-measure_entries-loop-i l =
    (plus l.total (measured (entries_spelling (form_spelling (dataset_spelling l.registry l.depth))
    (drop l.i l.elements) l.count (models_in (drop l.i l.items)))) ≡ measured (entries_spelling
    (form_spelling (dataset_spelling l.registry l.depth)) l.elements 0 (models_in l.items)))
    × (l.total ≤ 65389)

abbrev pub invariant-measure_repeated-loop-item : goal.invariant-measure_repeated-loop-item
invariant-measure_repeated-loop-item l =
    (plus l.total (measured (repeated_spelling (form_spelling (dataset_spelling l.registry l.depth)
    l.form) (l.count - l.item-index) (models_in (drop l.item-index l.items))))
    ≡ measured (repeated_spelling (form_spelling (dataset_spelling l.registry l.depth) l.form)
    l.count (models_in l.items)))
    × (l.total ≤ 65389)
