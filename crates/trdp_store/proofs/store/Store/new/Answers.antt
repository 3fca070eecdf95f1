use Rattle.std.proofs.Common.{arith}
use Rattle.trdp_store.proofs.ComLemmas.Kept.{indexed_new}
use Rattle.trdp_store.proofs.SessionLemmas.Kept.{session_new}
use Rattle.trdp_store.proofs.OrderLemmas.Added.{scheduled_new}
use Rattle.trdp_store.proofs.StoreLemmas.Kinds.{new_kinds}
use Rattle.trdp_store.proofs.OrderLemmas.Rooms.{room_limited}
use Rattle.trdp_store.proofs.store.Store.new.Goals as goal

pub with_room-requires-3 : goal.with_room-requires-3
with_room-requires-3 c =
    omega (arith, c.room-room.ensures, room_limited c.in_ok-table.table c.sound.ensures.sound)

pub invariant_of-result : goal.invariant_of-result
invariant_of-result c =
    rw (
      c.in_ok-coms.ensures,
      c.in_ok-sessions.ensures,
      c.in_ok-schedule.ensures,
      c.room-room.ensures,
      c.in_ok-table.ensures,
    )
    (record {
      by_com = indexed_new c.args.quotas.now _ (omega arith);
      by_session = session_new c.args.quotas.now _ (omega arith);
      by_moment = scheduled_new c.args.quotas.now _ (omega arith);
      kinds = new_kinds c.args.quotas.now;
    })
