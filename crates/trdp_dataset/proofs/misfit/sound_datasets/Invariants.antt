use Rattle.std.proofs.Common.{◌≡◌, [], drop, map}
use Rattle.trdp_dataset.specs.Misfits.{rows_seen, firsts, sound_dataset}
use Rattle.trdp_dataset.proofs.misfit.sound_datasets.Given as goal

abbrev pub invariant-loop-row : goal.invariant-loop-row
invariant-loop-row l =
    firsts l.sound (map (sound_dataset l.known) (rows_seen (drop l.row-index l.rows)))
    ≡ firsts [] (map (sound_dataset l.known) (rows_seen l.rows))
