use Rattle.std.proofs.Common.{arith}
use Rattle.trdp_store.proofs.OrderLemmas.Rooms.{room_limited}
use Rattle.trdp_store.proofs.store.Store.room.Goals as goal

pub returns-clause-within : goal.returns-clause-within
returns-clause-within c =
    omega (arith, c.room.ensures, room_limited c.self.inside.table c.sound.ensures.sound)
