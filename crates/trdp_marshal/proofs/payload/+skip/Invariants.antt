use Rattle.std.proofs.Common.{◌≡◌, ◌+◌, ◌-◌, ◌*◌, drop}
use Rattle.trdp_marshal.specs.Reading.{form_at, repeated_at, entries_at, dataset_at, skipped}
use Rattle.trdp_marshal.proofs.payload.+skip.Given as goal

abbrev pub decreases-skip_datasets : goal.decreases-skip_datasets
decreases-skip_datasets l = 3 * l.depth

abbrev pub decreases-skip_values : goal.decreases-skip_values
decreases-skip_values l = 3 * l.depth + 1

abbrev pub decreases-skip_elements : goal.decreases-skip_elements
decreases-skip_elements l = 3 * l.depth + 2

abbrev pub invariant-skip_elements-loop-i : goal.invariant-skip_elements-loop-i
invariant-skip_elements-loop-i l =
    skipped
    (entries_at (form_at (dataset_at l.registry l.depth)) (drop l.i l.elements) l.count l.rest)
    ≡ skipped (entries_at (form_at (dataset_at l.registry l.depth)) l.elements 0 l.bytes)

abbrev pub invariant-skip_datasets-loop : goal.invariant-skip_datasets-loop
invariant-skip_datasets-loop l =
    skipped (repeated_at (dataset_at l.registry l.depth l.id) (l.count - l.counter) l.rest)
    ≡ skipped (repeated_at (dataset_at l.registry l.depth l.id) l.count l.bytes)
