use Rattle.std.proofs.Common.{◌≡◌, ◌++◌, List}
use Rattle.trdp_model.specs.Records.{RecordModel}
use Rattle.trdp_outbox.specs.SlotOrder.{by_slot}
use Rattle.trdp_daemon.specs.Tellings.{Tells}
use Rattle.trdp_daemon.proofs.telling.tell_records.Given as goal

-- what the records that came send was offered, and the others are still to come
abbrev pub invariant-loop-record : goal.invariant-loop-record
invariant-loop-record g l = record {
  can : (goal.iterator-loop-record g).can_next l.record-iterator;
  ends : (goal.iterator-loop-record g).is_finite l.record-iterator;
  came : (done : List RecordModel)
      × Tells g.W.Wire.takings g.W.Wire.gives l.contacts l.fn.link l.link done
      × (by_slot l.records.records ≡ done ++ l.record-iterator);
}
