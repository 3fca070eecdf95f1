use Rattle.std.proofs.Common.{◌≡◌, ◌+◌, ◌-◌, ◌*◌, drop}
use Rattle.trdp_marshal.specs.Reading.{form_at, repeated_at, entries_at, dataset_at}
use Rattle.trdp_marshal.proofs.ReaderLemmas.{with_front}
use Rattle.trdp_marshal.proofs.reader.+read.Given as goal

abbrev pub decreases-read_dataset : goal.decreases-read_dataset
decreases-read_dataset l = 5 * l.depth

abbrev pub decreases-read_form : goal.decreases-read_form
decreases-read_form l = 5 * l.depth + 1

abbrev pub decreases-read_repeated : goal.decreases-read_repeated
decreases-read_repeated l = 5 * l.depth + 2

abbrev pub decreases-read_entry : goal.decreases-read_entry
decreases-read_entry l = 5 * l.depth + 3

abbrev pub decreases-read_entries : goal.decreases-read_entries
decreases-read_entries l = 5 * l.depth + 4

abbrev pub invariant-read_entries-loop-element : goal.invariant-read_entries-loop-element
invariant-read_entries-loop-element l =
    with_front l.items.items (entries_at (form_at (dataset_at l.registry l.depth))
    (drop l.element-index l.elements) l.count l.rest)
    ≡ entries_at (form_at (dataset_at l.registry l.depth)) l.elements 0 l.bytes

abbrev pub invariant-read_repeated-loop : goal.invariant-read_repeated-loop
invariant-read_repeated-loop l =
    with_front l.items.items
    (repeated_at (form_at (dataset_at l.registry l.depth) l.form) (l.count - l.counter) l.rest)
    ≡ repeated_at (form_at (dataset_at l.registry l.depth) l.form) l.count l.bytes
