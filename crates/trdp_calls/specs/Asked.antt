-- What a call asks of one object.
use Rattle.std.specs.Prelude.{◌≡◌, ℕ, Bool, true, false, [], Some}
use Rattle.trdp_filter.specs.declared.globals.Globals.{Globals}
use Rattle.trdp_model.specs.declared.any_object.AnyObject.{AnyObject}
use Rattle.trdp_model.specs.declared.kind.Kind.TheVariants.{Publisher, Subscription, Requester}
use Rattle.trdp_model.specs.declared.kind.Kind.TheVariants.{Listener}
use Rattle.trdp_model.specs.Configs.{NodeSetup}
use Rattle.trdp_model.specs.Acts.{Act}
use Rattle.trdp_model.specs.Pulls.{pulls}
use Rattle.trdp_model.specs.Calls.{puts, shows, ends, at_object, called}
use Rattle.trdp_model.specs.Events.{CallModel, PublishCall, PutCall, UnpublishCall, SubscribeCall}
use Rattle.trdp_model.specs.Events.{GetCall, UnsubscribeCall, OpenPullCall, PullCall}
use Rattle.trdp_model.specs.Events.{ClosePullCall, ListenCall, UnlistenCall, NotifyCall}
use Rattle.trdp_model.specs.Events.{RequestCall, ReplyCall, QueryCall, ReplyErrorCall}
use Rattle.trdp_model.specs.Events.{ConfirmCall, AbortCall, ResetCall}
use Rattle.trdp_model.specs.Slots.{SlotState}
use Rattle.trdp_model.specs.Replies.{replies, queries, reply_errors, confirms, aborts}

-- the call makes an object, sends a message without one, or ends all objects
abbrev pub concerns_no_object : CallModel → Bool
concerns_no_object (PublishCall terms) = true
concerns_no_object (SubscribeCall terms) = true
concerns_no_object (OpenPullCall terms) = true
concerns_no_object (ListenCall filter) = true
concerns_no_object (NotifyCall terms payload) = true
concerns_no_object (RequestCall terms payload) = true
concerns_no_object ResetCall = true
concerns_no_object _ = false

-- what the call makes of the object of that handle; a call that concerns no single object leaves
-- each as it is
abbrev pub asked_act : NodeSetup → Globals → ℕ → CallModel → AnyObject → Act
asked_act setup globals handle (PutCall _ bytes) object = puts setup bytes object
asked_act setup globals handle (GetCall _) object = shows object
asked_act setup globals handle (PullCall _) object = pulls globals object
asked_act setup globals handle (UnpublishCall _) object = ends Publisher object
asked_act setup globals handle (UnsubscribeCall _) object = ends Subscription object
asked_act setup globals handle (ClosePullCall _) object = ends Requester object
asked_act setup globals handle (UnlistenCall _) object = ends Listener object
asked_act setup globals handle (ReplyCall _ com_id status payload) object =
    replies com_id status payload object
asked_act setup globals handle (QueryCall _ com_id status timeout payload) object =
    queries globals.now com_id status timeout payload object
asked_act setup globals handle (ReplyErrorCall _ com_id status) object =
    reply_errors com_id status object
asked_act setup globals handle (ConfirmCall _ place status) object =
    confirms handle place status object
asked_act setup globals handle (AbortCall _) object = aborts object
asked_act setup globals handle _ object = record { left = Some object; records = [] }

-- the call asks something of the object of that handle, and has no other effect
abbrev pub IsAskedOf : CallModel → ℕ → Type 0
IsAskedOf call handle =
    (setup : NodeSetup) (slot : SlotState) (globals : Globals) → called setup slot globals call
    ≡ at_object slot handle (asked_act setup globals handle call)
