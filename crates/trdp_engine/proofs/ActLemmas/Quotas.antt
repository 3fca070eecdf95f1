-- No call changes the quotas of the slot that makes it.
-- For `Node::step_call` and `put_value`.
-- By cases on the call: one object acts, a new one is opened, or none is concerned.
use Rattle.std.proofs.Common.{◌≡◌, ℕ, List, [], ◌∷◌, Option, Some, None, refl}
use Rattle.trdp_filter.specs.declared.globals.Globals.{Globals}
use Rattle.trdp_marshal.specs.Items.{ItemModel}
use Rattle.trdp_model.specs.declared.any_object.AnyObject.{AnyObject}
use Rattle.trdp_model.specs.declared.fault.Refusal.{Refusal}
use Rattle.trdp_model.specs.Acts.{Act}
use Rattle.trdp_model.specs.Calls.{at_entry, at_object, told_unless, called}
use Rattle.trdp_model.specs.Configs.{NodeSetup}
use Rattle.trdp_model.specs.Events.{CallModel, PublishCall, PutCall, UnpublishCall}
use Rattle.trdp_model.specs.Events.{SubscribeCall, GetCall, UnsubscribeCall, OpenPullCall}
use Rattle.trdp_model.specs.Events.{PullCall, ClosePullCall, ListenCall, UnlistenCall}
use Rattle.trdp_model.specs.Events.{NotifyCall, RequestCall, ReplyCall, QueryCall}
use Rattle.trdp_model.specs.Events.{ReplyErrorCall, ConfirmCall, AbortCall, ResetCall}
use Rattle.trdp_model.specs.Openings.{opened_with}
use Rattle.trdp_model.specs.Records.{Content}
use Rattle.trdp_model.specs.Slots.{Entry, SlotState, entry_under}
use Rattle.trdp_model.specs.Values.{takes_item, valued}

acted_quotas : (slot : SlotState) (handle : ℕ) (act : AnyObject → Act)
    → (at_object slot handle act).slot.quotas ≡ slot.quotas
acted_quotas slot handle act = either (entry_under handle slot.objects)
  where
    either : (found : Option Entry) → (at_entry found slot handle act).slot.quotas ≡ slot.quotas
    either None = refl
    either (Some entry) = refl

opened_quotas :
    (refusal : Option Refusal) (slot : SlotState) (object : AnyObject) (records : List Content)
    → (opened_with refusal slot object records).slot.quotas ≡ slot.quotas
opened_quotas (Some refusal) slot object records = refl
opened_quotas None slot object records = refl

told_quotas : (refusal : Option Refusal) (slot : SlotState) (records : List Content)
    → (told_unless refusal slot records).slot.quotas ≡ slot.quotas
told_quotas (Some refusal) slot records = refl
told_quotas None slot records = refl

pub called_quotas : (setup : NodeSetup) (slot : SlotState) (globals : Globals) (call : CallModel)
    → (called setup slot globals call).slot.quotas ≡ slot.quotas
called_quotas setup slot globals (PublishCall terms) = opened_quotas _ slot _ []
called_quotas setup slot globals (PutCall handle bytes) = acted_quotas slot handle _
called_quotas setup slot globals (UnpublishCall handle) = acted_quotas slot handle _
called_quotas setup slot globals (SubscribeCall terms) = opened_quotas _ slot _ []
called_quotas setup slot globals (GetCall handle) = acted_quotas slot handle _
called_quotas setup slot globals (UnsubscribeCall handle) = acted_quotas slot handle _
called_quotas setup slot globals (OpenPullCall terms) = opened_quotas _ slot _ []
called_quotas setup slot globals (PullCall handle) = acted_quotas slot handle _
called_quotas setup slot globals (ClosePullCall handle) = acted_quotas slot handle _
called_quotas setup slot globals (ListenCall filter) = opened_quotas _ slot _ []
called_quotas setup slot globals (UnlistenCall handle) = acted_quotas slot handle _
called_quotas setup slot globals (NotifyCall terms payload) = told_quotas _ slot _
called_quotas setup slot globals (RequestCall terms payload) = opened_quotas _ slot _ _
called_quotas setup slot globals (ReplyCall handle com_id status payload) =
    acted_quotas slot handle _
called_quotas setup slot globals (QueryCall handle com_id status timeout payload) =
    acted_quotas slot handle _
called_quotas setup slot globals (ReplyErrorCall handle com_id status) = acted_quotas slot handle _
called_quotas setup slot globals (ConfirmCall handle place status) = acted_quotas slot handle _
called_quotas setup slot globals (AbortCall handle) = acted_quotas slot handle _
called_quotas setup slot globals ResetCall = refl

-- a value handed over as an item
pub valued_quotas : (setup : NodeSetup) (slot : SlotState) (handle : ℕ) (item : ItemModel)
    → (valued setup slot handle item).slot.quotas ≡ slot.quotas
valued_quotas setup slot handle item = acted_quotas slot handle (takes_item setup item)
