use Rattle.std.proofs.Common.{length, ap, arith}
use Rattle.trdp_store.proofs.StoreLemmas.Opened.{roomier_in_session, roomier_indexed, store_opened}
use Rattle.trdp_store.proofs.OrderLemmas.Grown.{scheduled_kept}
use Rattle.trdp_store.proofs.OrderLemmas.Rooms.{slots_room}
use Rattle.trdp_store.proofs.store.Store.open_slot.Goals as goal

pub overflow_add-room : goal.overflow_add-room
overflow_add-room c =
    omega (
      arith,
      c.room.ensures,
      slots_room c.self.inside.table c.sound.ensures.sound.slots,
      ap length c.self.view_is,
      c.requires,
      c.room_of.ensures.within,
    )

pub grow-requires : goal.grow-requires
grow-requires c =
    omega (
      arith,
      c.room.ensures,
      slots_room c.self.inside.table c.sound.ensures.sound.slots,
      ap length c.self.view_is,
      c.requires,
      c.room_of.ensures.within,
    )

pub invariant_of-self : goal.invariant_of-self
invariant_of-self c = record {
  by_com = c.self.invariant.by_com;
  by_session = c.self.invariant.by_session;
  by_moment = scheduled_kept _ _ _ c.self.invariant.by_moment c.grow.ensures.kept;
  kinds = c.self.invariant.kinds;
}

pub invariant_of-self-in_err-grow-2 : goal.invariant_of-self-in_err-grow-2
invariant_of-self-in_err-grow-2 c = rw c.in_err-grow-2.ensures.err (record {
  by_com = c.self.invariant.by_com;
  by_session = c.self.invariant.by_session;
  by_moment = scheduled_kept _ _ _ c.self.invariant.by_moment c.grow.ensures.kept;
  kinds = c.self.invariant.kinds;
})

pub invariant_of-self-in_err-grow-3 : goal.invariant_of-self-in_err-grow-3
invariant_of-self-in_err-grow-3 c = rw c.in_err-grow-3.ensures.err (record {
  by_com = roomier_indexed _ _ _ _ c.self.invariant.by_com c.in_ok-grow-2.ensures.ok;
  by_session = c.self.invariant.by_session;
  by_moment = scheduled_kept _ _ _ c.self.invariant.by_moment c.grow.ensures.kept;
  kinds = c.self.invariant.kinds;
})

pub invariant_of-self-in_err-reserve : goal.invariant_of-self-in_err-reserve
invariant_of-self-in_err-reserve c = record {
  by_com = roomier_indexed _ _ _ _ c.self.invariant.by_com c.in_ok-grow-2.ensures.ok;
  by_session = roomier_in_session _ _ _ _ c.self.invariant.by_session c.in_ok-grow-3.ensures.ok;
  by_moment = scheduled_kept _ _ _ c.self.invariant.by_moment c.grow.ensures.kept;
  kinds = c.self.invariant.kinds;
}

pub invariant_of-self-in_err-slot : goal.invariant_of-self-in_err-slot
invariant_of-self-in_err-slot c = rw c.in_err-slot.ensures.kept (record {
  by_com = roomier_indexed _ _ _ _ c.self.invariant.by_com c.in_ok-grow-2.ensures.ok;
  by_session = roomier_in_session _ _ _ _ c.self.invariant.by_session c.in_ok-grow-3.ensures.ok;
  by_moment = scheduled_kept _ _ _ c.self.invariant.by_moment c.grow.ensures.kept;
  kinds = c.self.invariant.kinds;
})

pub invariant_of-self-2 : goal.invariant_of-self-2
invariant_of-self-2 c = rw c.in_ok-slot.ensures.added
    (store_opened _ c.args.quotas _ _ _ _ _ _ _ c.self.invariant
    (omega (arith, c.room.ensures, c.room_of.ensures.room)) c.grow.ensures.kept
    c.in_ok-grow.ensures.room c.in_ok-grow.ensures.rows c.in_ok-grow.ensures.bytes
    c.in_ok-grow-2.ensures.ok c.in_ok-grow-3.ensures.ok)
