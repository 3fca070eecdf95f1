-- What a datagram does to a slot.
use Rattle.std.specs.Prelude.{ℕ, List, [], ◌∷◌, Option, Some, None, Bool, false, not, find, ◌==◌}
use Rattle.std.specs.Prelude.{option_map, true, filter, ◌&&◌, ◌||◌, ◌++◌, if◌then◌else◌}
use Rattle.std.specs.List.{flat_map, list_any}
use Rattle.trdp_base.specs.declared.place.Place.{Place}
use Rattle.trdp_base.specs.declared.topo.Topo.{Topo}
use Rattle.trdp_head.specs.declared.md.MdKind.{MdKind}
use Rattle.trdp_head.specs.declared.md.MdKind.TheVariants as message
use Rattle.trdp_head.specs.PdTelegrams.{pd_telegram_of}
use Rattle.trdp_head.specs.MdTelegrams.{md_telegram_of}
use Rattle.trdp_filter.specs.declared.globals.Globals.{Globals}
use Rattle.trdp_filter.specs.Counts.{topo_valid}
use Rattle.trdp_filter.specs.Telegrams.{TelegramModel, PdIs, MdIs, payload_of}
use Rattle.trdp_model.specs.declared.any_object.AnyObject.{AnyObject}
use Rattle.trdp_pd.specs.declared.object.Taken.{Taken}
use Rattle.trdp_pd.specs.declared.object.Taken.TheVariants.{Nothing, Stored, Alive, Pulled, Heard}
use Rattle.trdp_pd.specs.declared.object.Taken.TheVariants.{Replied, RepliedLast, Confirmed}
use Rattle.trdp_pd.specs.declared.object.Reason.TheVariants.{Done}
use Rattle.trdp_model.specs.declared.kind.Kind.TheVariants.{Listener as Listening}
use Rattle.trdp_model.specs.Kinds.{kind_of, is_same_kind}
use Rattle.trdp_model.specs.Objects.{dataset_of, is_addressed, after_taking, taken}
use Rattle.trdp_model.specs.declared.record.Protocol.{Protocol}
use Rattle.trdp_model.specs.declared.record.Protocol.TheVariants.{Pd, Md}
use Rattle.trdp_model.specs.Configs.{NodeSetup, is_fitting}
use Rattle.trdp_model.specs.Records.{Content, Indicates, AliveIs, ConfirmedIs}
use Rattle.trdp_model.specs.Pulls.{answer_place, pull_answer}
use Rattle.trdp_model.specs.Notices.{heard}
use Rattle.trdp_model.specs.Replies.{replied, closing}
use Rattle.trdp_model.specs.Requests.{asked_by_hearing}
use Rattle.trdp_model.specs.Slots.{Entry, SlotState, Outcome, unchanged}
use Rattle.trdp_model.specs.Acts.{Act, entry_left}

-- the telegram of a datagram, if it is one of its protocol
abbrev pub telegram_of : Protocol → Place → Place → List ℕ → Option TelegramModel
telegram_of Pd src dst bytes =
    option_map (λ telegram. PdIs src dst telegram) (pd_telegram_of bytes)
telegram_of Md src dst bytes =
    option_map (λ telegram. MdIs src dst telegram) (md_telegram_of bytes)

-- the topology counters of a telegram
abbrev pub counts_of : TelegramModel → Topo
counts_of (PdIs src dst telegram) = telegram.head.topo
counts_of (MdIs src dst telegram) = telegram.head.topo

-- bytes are a value of a dataset; without a dataset any bytes will do
abbrev pub is_value_of : NodeSetup → Option ℕ → List ℕ → Bool
is_value_of setup None bytes = true
is_value_of setup (Some dataset) bytes = is_fitting setup dataset bytes

-- the payload is a value of the object's dataset, if it has one
abbrev pub fits_object : NodeSetup → TelegramModel → AnyObject → Bool
fits_object setup telegram object =
    is_value_of setup (dataset_of object) (payload_of telegram)

-- the telegram is for the object of the entry
abbrev pub is_for_entry : TelegramModel → Globals → Entry → Bool
is_for_entry telegram globals entry = is_addressed entry.object telegram globals

-- the records of an object that did this with a telegram
abbrev pub taken_records :
    NodeSetup → TelegramModel → ℕ → AnyObject → Taken → List Content
taken_records setup telegram handle object Nothing = []
taken_records setup telegram handle object Stored = []
taken_records setup telegram handle object Alive = Indicates (AliveIs handle) ∷ []
taken_records setup telegram handle object (Pulled head) =
    pull_answer object (answer_place setup telegram) head
taken_records setup telegram handle object Heard = heard handle telegram
taken_records setup telegram handle object Replied = replied handle telegram
taken_records setup telegram handle object RepliedLast =
    replied handle telegram ++ closing handle Done ∷ []
taken_records setup telegram handle object (Confirmed status) =
    Indicates (ConfirmedIs handle status) ∷ []

-- what is left of an object that did this with a telegram: a caller ends with its last answer, a
-- replier with its confirmation
abbrev pub left_taking : Taken → AnyObject → Option AnyObject
left_taking Nothing object = Some object
left_taking Stored object = Some object
left_taking Alive object = Some object
left_taking (Pulled head) object = Some object
left_taking Heard object = Some object
left_taking Replied object = Some object
left_taking RepliedLast object = None
left_taking (Confirmed status) object = None

-- the act of an object that is handed a telegram
abbrev pub taking_act : NodeSetup → TelegramModel → Globals → Entry → Act
taking_act setup telegram globals entry =
    let fits : Bool = fits_object setup telegram entry.object in
    record {
      left =
          left_taking (taken entry.object telegram globals fits)
          (after_taking entry.object telegram globals fits);
      records =
          taken_records setup telegram entry.handle entry.object
          (taken entry.object telegram globals fits);
    }

-- the object is a listener
abbrev pub is_listening : Entry → Bool
is_listening entry = is_same_kind (kind_of entry.object) Listening

-- the handle of the listener that hears a telegram: the first of a slot's list that it is for
-- rule: listener.first
abbrev pub hearing : TelegramModel → Globals → List Entry → Option ℕ
hearing telegram globals objects =
    option_map
    (λ entry. entry.handle)
    (find (λ entry. is_listening entry && is_for_entry telegram globals entry) objects)

-- the handle is that one
abbrev pub is_handle : Option ℕ → ℕ → Bool
is_handle None handle = false
is_handle (Some wanted) handle = wanted == handle

-- the telegram is for the object, and of listeners it is the one that hears it
abbrev pub acts_where : Option ℕ → TelegramModel → Globals → Entry → Bool
acts_where listener telegram globals entry =
    is_for_entry telegram globals entry
    && (not (is_listening entry) || is_handle listener entry.handle)

-- which objects of a slot's list act at a telegram: each that it is for, but of the listeners the
-- first alone
abbrev pub is_acting : TelegramModel → Globals → List Entry → Entry → Bool
is_acting telegram globals objects entry =
    acts_where (hearing telegram globals objects) telegram globals entry

-- the objects of a slot's list that act at a telegram, by rising handle
-- rule: delivery.order
abbrev pub acting : TelegramModel → Globals → List Entry → List Entry
acting telegram globals objects = filter (is_acting telegram globals objects) objects

-- what a telegram leaves of an object of a slot's list
abbrev pub after_telegram :
    NodeSetup → TelegramModel → Globals → List Entry → Entry → List Entry
after_telegram setup telegram globals objects entry =
    if is_acting telegram globals objects entry
    then entry_left entry (taking_act setup telegram globals entry).left
    else entry ∷ []

-- the objects of a slot that act at a telegram do so in the order of their handles
-- rule: delivery.order
abbrev pub handed : NodeSetup → SlotState → Globals → TelegramModel → Outcome
handed setup slot globals telegram = record {
  slot = record slot {
    objects = flat_map (after_telegram setup telegram globals slot.objects) slot.objects;
  };
  records =
      flat_map (λ entry. (taking_act setup telegram globals entry).records)
      (acting telegram globals slot.objects);
}

-- the message type that asks for an answer
abbrev pub is_request_kind : MdKind → Bool
is_request_kind message.Request = true
is_request_kind kind = false

-- the telegram is a request
abbrev pub is_request : TelegramModel → Bool
is_request (PdIs src dst telegram) = false
is_request (MdIs src dst telegram) = is_request_kind telegram.head.kind

-- effect of a request on a slot: its objects stay, and of its listeners the first that the request
-- is for hears it
abbrev pub requested : SlotState → Globals → TelegramModel → Outcome
requested slot globals (PdIs src dst telegram) = unchanged slot
requested slot globals (MdIs src dst telegram) =
    asked_by_hearing (hearing (MdIs src dst telegram) globals slot.objects) slot globals src
    telegram

-- effect of a telegram on a slot: a request may open a replier, and any other telegram is for the
-- objects that there are
abbrev pub received : NodeSetup → SlotState → Globals → TelegramModel → Outcome
received setup slot globals telegram =
    if is_request telegram
    then requested slot globals telegram
    else handed setup slot globals telegram

-- the telegram's topology counters match the node's
abbrev pub is_valid_at : Globals → TelegramModel → Bool
is_valid_at globals telegram = topo_valid (counts_of telegram) globals.topo

-- effect of a datagram on a slot: none where it is no telegram or its topology counters don't
-- match the node's
-- rule: telegram.counters
abbrev pub received_if : NodeSetup → SlotState → Globals → Option TelegramModel → Outcome
received_if setup slot globals None = unchanged slot
received_if setup slot globals (Some telegram) =
    if is_valid_at globals telegram then received setup slot globals telegram else unchanged slot

-- the datagram concerns the slot: it is a telegram whose topology counters match the node's, and
-- it is for one of the slot's objects
abbrev pub concerns : Globals → Option TelegramModel → SlotState → Bool
concerns globals None slot = false
concerns globals (Some telegram) slot =
    is_valid_at globals telegram && list_any (is_for_entry telegram globals) slot.objects
