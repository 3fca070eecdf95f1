-- A slot gets a new object, or refuses it.
use Rattle.std.specs.Prelude.{List, [], ◌∷◌, Option, Some, None, slice_index, nat_lt, nat_le}
use Rattle.std.specs.Prelude.{if◌then◌else◌}
use Rattle.trdp_model.specs.declared.any_object.AnyObject.{AnyObject}
use Rattle.trdp_model.specs.declared.kind.Kind.{Kind}
use Rattle.trdp_model.specs.Kinds.{kind_index}
use Rattle.trdp_model.specs.declared.fault.Refusal.{Refusal}
use Rattle.trdp_model.specs.declared.fault.Refusal.TheVariants.{Quota, Exhausted}
use Rattle.trdp_model.specs.Records.{Content, AnswerModel, HandleIs, RefusedIs, Answers}
use Rattle.trdp_model.specs.Slots.{SlotState, Outcome, kind_count, with_new_object}

-- a slot with that one answer
abbrev pub answered : SlotState → AnswerModel → Outcome
answered slot answer = record { slot = slot; records = Answers answer ∷ [] }

-- a refused call changes nothing, and its one record says why
-- rule: refusal.unchanged
abbrev pub refused : SlotState → Refusal → Outcome
refused slot refusal = answered slot (RefusedIs refusal)

-- a slot refuses a new object of a kind whose quota is used up, and any once the handles up to
-- 2^32 - 1 are given out
-- rule: slot.share
abbrev pub opening_refusal : SlotState → Kind → Option Refusal
opening_refusal slot kind =
    if nat_le (slice_index slot.quotas (kind_index kind)) (kind_count kind slot.objects)
    then Some Quota
    else if nat_lt 4294967295 slot.next then Some Exhausted else None

-- a new object is answered by its handle, and then come these records
abbrev pub opened_with : Option Refusal → SlotState → AnyObject → List Content → Outcome
opened_with (Some refusal) slot object records = refused slot refusal
opened_with None slot object records =
    record { slot = with_new_object slot object; records = Answers (HandleIs slot.next) ∷ records }

-- a new object is answered by its handle
abbrev pub opened_unless : Option Refusal → SlotState → AnyObject → Outcome
opened_unless refusal slot object = opened_with refusal slot object []
