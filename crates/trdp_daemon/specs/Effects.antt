-- What one event gives: the datagrams that are offered, and the entries that are lost where an
-- allocation fails.
use Rattle.std.specs.Prelude.{ℕ, suc, ◌+◌, List, [], ◌∷◌, ◌++◌, Bool, true, false, length}
use Rattle.std.specs.Prelude.{Option, Some, None, option_map, slice_index_or, slice_set, nat_lt}
use Rattle.std.specs.Prelude.{not}
use Rattle.std.specs.Prelude.{if◌then◌else◌}
use Rattle.std.specs.List.{list_any}
use Rattle.trdp_base.specs.declared.place.Place.{Place}
use Rattle.trdp_filter.specs.declared.globals.Globals.{Globals}
use Rattle.trdp_model.specs.declared.fault.NodeFault.{NodeFault}
use Rattle.trdp_model.specs.declared.record.Protocol.{Protocol}
use Rattle.trdp_model.specs.declared.record.Protocol.TheVariants.{Pd as PdData, Md as MdData}
use Rattle.trdp_model.specs.Alone.{refused_as, records_after, told_opening}
use Rattle.trdp_model.specs.Configs.{NodeSetup, setup_of}
use Rattle.trdp_model.specs.Datagrams.{concerns, telegram_of}
use Rattle.trdp_model.specs.Events.{EventModel, MomentIs, TopologyIs, RoleIs, DatagramIs, CallIs}
use Rattle.trdp_model.specs.Events.{AddSlotIs, ResetCall}
use Rattle.trdp_model.specs.NodeModels.{NodeModel}
use Rattle.trdp_model.specs.NodeModels.{due_in}
use Rattle.trdp_model.specs.Records.{Content, Answers, Indicates, Sends, RecordModel, labelled}
use Rattle.trdp_model.specs.Slots.{SlotState}
use Rattle.trdp_text.specs.RecordText.{text_of_record}
use Rattle.trdp_model.specs.NodeModels.{node_after}
use Rattle.trdp_daemon.specs.declared.contact.Contact.{Contact}
use Rattle.trdp_wire.specs.declared.port.Port.{Port}
use Rattle.trdp_wire.specs.declared.port.Port.TheVariants.{Pd, Md, Control}
use Rattle.trdp_wire.specs.Told.{Offer, offer_to}

-- what is offered, and how many entries were lost where an allocation failed
pub record Telling : Type 0 where
  pub offers : List Offer
  pub missed : ℕ

abbrev pub silence : Telling
silence = record { offers = []; missed = 0 }

-- one offer
abbrev pub offering : Port → Place → List ℕ → Telling
offering port to bytes = record { offers = offer_to port to bytes ∷ []; missed = 0 }

-- one entry was lost
abbrev pub missing : Telling
missing = record { offers = []; missed = 1 }

-- one telling after another
abbrev pub both : Telling → Telling → Telling
both first second =
    record { offers = first.offers ++ second.offers; missed = first.missed + second.missed }

-- a text of a slot goes from its control port to the slot's control place; without one it is
-- dropped; a text for which an allocation failed is lost
unfoldable pub text_telling : ℕ → Option Place → Bool → List ℕ → Telling
text_telling slot None lost text = silence
text_telling slot (Some to) true text = missing
text_telling slot (Some to) false text = offering (Control slot) to text

-- the port that telegrams of a protocol leave from
abbrev pub port_of : Protocol → Port
port_of PdData = Pd
port_of MdData = Md

-- the latest line of a slot, if it had one
abbrev pub contact_of : List (Option Contact) → ℕ → Option Contact
contact_of contacts slot = slice_index_or contacts slot None

-- the latest line of a slot, as if it had come in the turn of this reading
abbrev pub read_again : ℕ → Contact → Contact
read_again reading contact = record contact { reading = reading }

-- the control place of a slot, if it has one: where its latest line came from
abbrev pub contact_place : List (Option Contact) → ℕ → Option Place
contact_place contacts slot = option_map (λ contact. contact.place) (contact_of contacts slot)

-- a telegram goes where it is sent to; what else a record says goes as its line
unfoldable pub content_telling : List (Option Contact) → Bool → RecordModel → Content → Telling
content_telling contacts lost r (Answers answer) =
    text_telling r.slot (contact_place contacts r.slot) lost (text_of_record r)
content_telling contacts lost r (Indicates indication) =
    text_telling r.slot (contact_place contacts r.slot) lost (text_of_record r)
content_telling contacts lost r (Sends protocol to telegram) =
    offering (port_of protocol) to telegram

abbrev pub record_telling : List (Option Contact) → Bool → RecordModel → Telling
record_telling contacts lost r = content_telling contacts lost r r.content

-- whether the first of some records lost its text; past the last mark none did
abbrev pub is_first_lost : List Bool → Bool
is_first_lost [] = false
is_first_lost (lost ∷ marks) = lost

-- the marks of the records after the first
abbrev pub later_marks : List Bool → List Bool
later_marks [] = []
later_marks (lost ∷ marks) = marks

-- records one after another, of which the marks say whether the text was lost
abbrev pub records_telling : List (Option Contact) → List Bool → List RecordModel → Telling
records_telling contacts marks [] = silence
records_telling contacts marks (r ∷ records) =
    both (record_telling contacts (is_first_lost marks) r)
    (records_telling contacts (later_marks marks) records)

-- the records that these slots, of which the first has the number s, get at an event that the node
-- takes: slots rising, each slot's in their order
abbrev pub slots_records : NodeSetup → Globals → EventModel → ℕ → List SlotState
    → List RecordModel
slots_records setup g event s [] = []
slots_records setup g event s (slot ∷ slots) =
    labelled s (records_after setup s slot g event)
    ++ slots_records setup g event (suc s) slots

-- the records of an event with this fault, which the node rejects, or with none
abbrev pub records_unless : Option NodeFault → NodeModel → EventModel → List RecordModel
records_unless (Some fault) node event = []
records_unless None node event =
    slots_records (setup_of node.config) node.globals event 0 node.slots
    ++ labelled (length node.slots) (told_opening event)

-- the records of an event
abbrev pub event_records : NodeModel → EventModel → List RecordModel
event_records node event =
    records_unless (refused_as (length node.slots) node.globals event) node event

-- a node; the latest line of each of the slots that it may have, none before the first or once it
-- was forgotten; the reading of the clock of the latest turn, 0 before the first. The lease is how
-- many microseconds the application of a slot may be silent, none if that has no bound
pub record ServiceState : Type 0 where
  pub node : NodeModel
  pub contacts : List (Option Contact)
  pub reading : ℕ
  pub lease : Option ℕ

-- the latest line of a slot is this one, or it has none
abbrev pub with_contact : ServiceState → ℕ → Option Contact → ServiceState
with_contact service slot contact =
    record service { contacts = slice_set service.contacts slot contact }

-- what was lost of a reading of the clock or of a datagram, where an allocation failed
pub data Loss : Type 0 where
  LineLost : Loss  -- it wasn't read as a line, where that carries bytes
  EventLost : Loss  -- it was read, and the node didn't take it, where it may need memory
  TextsLost : (marks : List Bool) → Loss  -- the texts of those of its records

-- the texts that were lost, where the event was taken
abbrev pub texts_lost : Loss → List Bool
texts_lost LineLost = []
texts_lost EventLost = []
texts_lost (TextsLost marks) = marks

-- the service after an effect, and what was offered and lost by it
pub record Effect : Type 0 where
  pub service : ServiceState
  pub telling : Telling

-- nothing happens
abbrev pub still : ServiceState → Effect
still service = record { service = service; telling = silence }

-- something is offered or lost, and nothing else happens
abbrev pub telling_only : ServiceState → Telling → Effect
telling_only service telling = record { service = service; telling = telling }

-- one thing after another
abbrev pub then_effect : Effect → (ServiceState → Effect) → Effect
then_effect first next = record {
  service = (next first.service).service;
  telling = both first.telling (next first.service).telling;
}

-- a call that resets a slot
abbrev pub is_reset : EventModel → Bool
is_reset (CallIs s ResetCall) = true
is_reset event = false

-- whether an event may need memory: a call but a reset, for whose answer there is room from the
-- start; a moment at which something is due; a datagram that concerns a slot; the opening of a
-- slot
unfoldable pub may_take_memory : NodeModel → EventModel → Bool
may_take_memory node (MomentIs t) = nat_lt 0 (due_in t node.slots)
may_take_memory node (TopologyIs topo) = false
may_take_memory node (RoleIs group leader) = false
may_take_memory node (DatagramIs protocol src dst bytes) =
    list_any (concerns node.globals (telegram_of protocol src dst bytes)) node.slots
may_take_memory node (CallIs s call) = not (is_reset (CallIs s call))
may_take_memory node (AddSlotIs quotas) = true

-- an event is lost where it may need memory; elsewhere it has this effect
abbrev pub lost_or : ServiceState → EventModel → Effect → Effect
lost_or service event effect =
    if may_take_memory service.node event then telling_only service missing else effect

-- the node takes an event, and its records are offered, but for the texts that are marked as lost
abbrev pub event_taken : ServiceState → EventModel → List Bool → Effect
event_taken service event marks = record {
  service = record service { node = node_after service.node event };
  telling = records_telling service.contacts marks (event_records service.node event);
}

-- an event is lost, or the node takes it
unfoldable pub event_effect : ServiceState → EventModel → Loss → Effect
event_effect service event LineLost = lost_or service event (event_taken service event [])
event_effect service event EventLost = lost_or service event (event_taken service event [])
event_effect service event (TextsLost marks) = event_taken service event marks
