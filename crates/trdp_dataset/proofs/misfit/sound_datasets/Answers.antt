use Rattle.trdp_dataset.specs.Misfits.{sound_dataset}
use Rattle.trdp_dataset.proofs.MisfitLemmas.{firsts_turn}
use Rattle.trdp_dataset.proofs.misfit.sound_datasets.Goals as goal

pub loop-row-preserved : goal.loop-row-preserved
loop-row-preserved c = firsts_turn (sound_dataset c.args.known.now) c.args.rows.now
    c.loop-row.row-index c.row-item.result c.loop-row.sound c.push_sound.new.sound _
    c.loop-row-test.true c.row-item.is c.in_ok-push_sound.ensures.value c.loop-row.invariant
