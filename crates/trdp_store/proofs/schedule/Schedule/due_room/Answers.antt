use Rattle.trdp_store.proofs.OrderLemmas.Rooms.{rows_fit, bytes_fit}
use Rattle.trdp_store.proofs.schedule.Schedule.due_room.Goals as goal

pub due_totals-rows-requires-clause-first_fits : goal.due_totals-rows-requires-clause-first_fits
due_totals-rows-requires-clause-first_fits c =
    rw c.deref.ensures.value (rows_fit _ _ _ c.self.invariant)

pub due_totals-rows-requires-clause-second_fits : goal.due_totals-rows-requires-clause-second_fits
due_totals-rows-requires-clause-second_fits c =
    rw c.deref-2.ensures.value (bytes_fit _ _ _ c.self.invariant)
