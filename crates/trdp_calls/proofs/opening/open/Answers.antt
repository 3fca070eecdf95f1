use Rattle.trdp_store.proofs.StoreLemmas.Slots.{slots_of_added}
use Rattle.trdp_store.proofs.StoreLemmas.Counts.{room_added}
use Rattle.trdp_calls.proofs.opening.open.Goals as goal

pub returns-clause-others : goal.returns-clause-others
returns-clause-others c =
    slots_of_added c.args.store.now c.add.new.self
    c.args.s c.args.object c.add.result c.requires.slot c.add.ensures.added c.add.ensures.kept

pub returns-clause-room : goal.returns-clause-room
returns-clause-room c =
    room_added c.args.store.now c.add.new.self
    c.args.s c.args.object c.add.result c.requires.slot c.add.ensures.added c.add.ensures.kept
