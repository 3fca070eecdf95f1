use Rattle.std.proofs.Common.{◌≡◌, ◌++◌, List}
use Rattle.std.specs.List.{flat_map}
use Rattle.trdp_model.specs.Records.{RecordModel}
use Rattle.trdp_outbox.specs.SlotOrder.{by_slot}
use Rattle.trdp_text.specs.RecordText.{text_of_record}
use Rattle.trdp_text.proofs.print_all.print_records.Given as goal

-- the text of the records that came, followed by that of the others
abbrev pub invariant-loop-record : goal.invariant-loop-record
invariant-loop-record l = record {
  can : (goal.iterator-loop-record).can_next l.record-iterator;
  ends : (goal.iterator-loop-record).is_finite l.record-iterator;
  came : (done : List RecordModel)
      × (l.text.items ≡ l.fn.text.items ++ flat_map text_of_record done)
      × (by_slot l.records.records ≡ done ++ l.record-iterator);
}
