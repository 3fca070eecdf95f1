use Rattle.std.proofs.Common.{◌∙◌, ap, length}
use Rattle.std.proofs.lemmas.List.{length-replicate}
use Rattle.trdp_store.proofs.OrderLemmas.Rooms.{schedule_new}
use Rattle.trdp_store.proofs.schedule.Schedule.with_room.Goals as goal

pub invariant_of-result : goal.invariant_of-result
invariant_of-result c =
    schedule_new _ _ _ c.args.room c.requires (ap length c.in_ok-timers.ensures.room
    ∙ length-replicate c.args.room _) c.in_ok-rows.ensures c.in_ok-bytes.ensures
