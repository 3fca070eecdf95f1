use Rattle.std.proofs.Common.{arith}
use Rattle.trdp_store.proofs.DueLemmas.Room.{due_rooms, due_counted}
use Rattle.trdp_store.proofs.store.Store.due_room.Goals as goal

pub returns-clause-room : goal.returns-clause-room
returns-clause-room c =
    rw (← c.self.view_is)
    (due_rooms c.self.inside.table c.self.inside.schedule
    c.args.t c.self.invariant.by_moment c.sound.ensures.sound
    (record { found = c.sound.ensures.found; listed = c.sound.ensures.listed })
    c.due_room.result.0 c.due_room.ensures.rows c.due_room.ensures.bytes)

pub returns-clause-cost : goal.returns-clause-cost
returns-clause-cost c =
    let counted = due_counted c.self.inside.table
    c.self.inside.schedule c.args.t c.self.invariant.by_moment c.sound.ensures.sound
    (record { found = c.sound.ensures.found; listed = c.sound.ensures.listed }) in
    rw (← c.self.view_is) (omega (arith, c.due_room.ensures.cost, counted))
