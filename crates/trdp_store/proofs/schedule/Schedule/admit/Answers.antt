use Rattle.trdp_store.proofs.OrderLemmas.Rooms.{schedule_admits}
use Rattle.trdp_store.proofs.schedule.Schedule.admit.Goals as goal

pub invariant_of-self : goal.invariant_of-self
invariant_of-self c =
    schedule_admits _ _ _ c.args.key c.args.room.rows
    c.args.room.bytes c.self.invariant c.requires.rows c.requires.bytes
