-- What the operator can ask, and the answers.
use Rattle.std.specs.Prelude.{ℕ, suc, ◌-◌, List, [], ◌∷◌, ◌++◌, codes, Option, Some, None}
use Rattle.std.specs.Prelude.{slice_index, slice_index_or}
use Rattle.trdp_base.specs.NumberText.{text_of_number}
use Rattle.trdp_model.specs.declared.kind.Kind.{Kind}
use Rattle.trdp_model.specs.declared.kind.Kind.TheVariants.{Publisher, Subscription, Requester}
use Rattle.trdp_model.specs.declared.kind.Kind.TheVariants.{Listener, Caller, Replier}
use Rattle.trdp_model.specs.Kinds.{kind_index}
use Rattle.trdp_model.specs.Slots.{SlotState, empty_slot, kind_count}
use Rattle.trdp_text.specs.declared.operator_line.Question.{Question}
use Rattle.trdp_text.specs.declared.operator_line.Question.TheVariants as question
use Rattle.trdp_daemon.specs.declared.contact.Contact.{Contact}
use Rattle.trdp_daemon.specs.declared.totals.Totals.{Totals}
use Rattle.trdp_daemon.specs.Effects.{ServiceState, contact_of}

-- the most bytes of an answer: those of a datagram in one frame of Ethernet
abbrev pub frame_room : ℕ
frame_room = 1472

-- the answer about a daemon's totals, without the end of the line
abbrev pub text_of_totals : Totals → List ℕ
text_of_totals totals =
    codes "taken " ++ text_of_number totals.taken
    ++ codes " offered " ++ text_of_number totals.offered
    ++ codes " lost " ++ text_of_number totals.lost
    ++ codes " unread " ++ text_of_number totals.unread
    ++ codes " memory " ++ text_of_number totals.memory

-- the slot of that number; where there is none, an empty one without quotas
abbrev pub slot_numbered : List SlotState → ℕ → SlotState
slot_numbered slots s = slice_index_or slots s (empty_slot [])

-- how many objects of a kind a slot has, and how many it may have, after a space
unfoldable pub text_of_usage : SlotState → Kind → List ℕ
text_of_usage slot kind =
    codes " " ++ text_of_number (kind_count kind slot.objects)
    ++ codes "/" ++ text_of_number (slice_index slot.quotas (kind_index kind))

-- the same of each kind
unfoldable pub text_of_usages : SlotState → List ℕ
text_of_usages slot =
    text_of_usage slot Publisher ++ text_of_usage slot Subscription
    ++ text_of_usage slot Requester ++ text_of_usage slot Listener
    ++ text_of_usage slot Caller ++ text_of_usage slot Replier

-- how many microseconds before this reading of the clock a slot had its latest line, 0 where that
-- came later; `-` where it had none
unfoldable pub text_of_age : ℕ → Option Contact → List ℕ
text_of_age reading None = codes "-"
text_of_age reading (Some contact) = text_of_number (reading - contact.reading)

-- the line of the slot s, by this reading of the clock
unfoldable pub text_of_slot : ℕ → List (Option Contact) → ℕ → SlotState → List ℕ
text_of_slot reading contacts s slot =
    text_of_number s ++ text_of_usages slot
    ++ codes " " ++ text_of_age reading (contact_of contacts s) ++ codes "\n"

-- the lines of these slots, of which the first has the number s, slots rising
abbrev pub text_of_slots : ℕ → List (Option Contact) → ℕ → List SlotState → List ℕ
text_of_slots reading contacts s [] = []
text_of_slots reading contacts s (slot ∷ slots) =
    text_of_slot reading contacts s slot ++ text_of_slots reading contacts (suc s) slots

-- the answer to a question, where these are the totals
-- rule: control.question
unfoldable pub text_of_question : ServiceState → Totals → Question → List ℕ
text_of_question service totals question.Totals = text_of_totals totals ++ codes "\n"
text_of_question service totals question.Slots =
    text_of_slots service.reading service.contacts 0 service.node.slots
