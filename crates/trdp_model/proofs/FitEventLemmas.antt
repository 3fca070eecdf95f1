-- Each event leaves each object fit.
-- For a node's steps: to a moment, by a datagram, by a call, and by a value that is an item.
-- By `FitLemmas` and `FitActLemmas` for each object, and by `AllObjectLemmas` for a slot.
use Rattle.std.proofs.Common.{◌≡◌, ℕ, List, ◌∷◌, Some, None, Option, Ok, Bool, true, false, refl}
use Rattle.std.specs.Prelude.{◌==◌, if◌then◌else◌, []}
use Rattle.trdp_dataset.specs.Registries.{IsRegistry}
use Rattle.trdp_base.specs.declared.place.Place.{Place}
use Rattle.trdp_filter.specs.declared.globals.Globals.{Globals}
use Rattle.trdp_filter.specs.Telegrams.{TelegramModel, PdIs, MdIs}
use Rattle.trdp_model.specs.declared.any_object.AnyObject.{AnyObject}
use Rattle.trdp_model.specs.declared.any_object.AnyObject.TheVariants.{Publisher, Subscription}
use Rattle.trdp_model.specs.declared.any_object.AnyObject.TheVariants.{Requester, Listener}
use Rattle.trdp_model.specs.declared.any_object.AnyObject.TheVariants.{Caller, Replier}
use Rattle.trdp_model.specs.declared.kind.Kind.TheVariants.{Publisher as Publishing}
use Rattle.trdp_model.specs.declared.kind.Kind.TheVariants.{Subscription as Subscribing}
use Rattle.trdp_model.specs.declared.kind.Kind.TheVariants.{Requester as Requesting}
use Rattle.trdp_model.specs.declared.kind.Kind.TheVariants.{Listener as Listening}
use Rattle.trdp_model.specs.declared.kind.Kind.TheVariants.{Replier as Replying}
use Rattle.trdp_head.specs.MdTelegrams.{MdTelegram}
use Rattle.trdp_pd.specs.Subscriptions.{SubscriptionState}
use Rattle.trdp_model.specs.declared.fault.Refusal.{Refusal}
use Rattle.trdp_model.specs.Configs.{NodeSetup}
use Rattle.trdp_model.specs.Slots.{Entry, SlotState, unchanged, entry_under}
use Rattle.trdp_model.specs.Acts.{Act}
use Rattle.trdp_model.specs.Events.{CallModel, PublishCall, PutCall, UnpublishCall}
use Rattle.trdp_model.specs.Events.{SubscribeCall, GetCall, UnsubscribeCall, OpenPullCall}
use Rattle.trdp_model.specs.Events.{PullCall, ClosePullCall, ListenCall, UnlistenCall}
use Rattle.trdp_model.specs.Events.{NotifyCall, RequestCall, ReplyCall, QueryCall}
use Rattle.trdp_model.specs.Events.{ReplyErrorCall, ConfirmCall, AbortCall, ResetCall, CallIs}
use Rattle.trdp_model.specs.Calls.{subscribe_refusal, puts, ends, shows}
use Rattle.trdp_model.specs.Calls.{at_entry, at_object, told_unless, called}
use Rattle.trdp_model.specs.Openings.{opening_refusal}
use Rattle.trdp_model.specs.Requests.{has_session, request_refusal, request_sent}
use Rattle.trdp_model.specs.Requests.{asked_unless, asked, asked_by_hearing}
use Rattle.trdp_model.specs.Replies.{replies, queries, reply_errors, confirms, aborts}
use Rattle.trdp_model.specs.Records.{Content}
use Rattle.trdp_model.specs.Notices.{notify_refusal, notice}
use Rattle.trdp_model.specs.Pulls.{pulls}
use Rattle.trdp_model.specs.Datagrams.{hearing, after_telegram, is_request}
use Rattle.trdp_model.specs.Datagrams.{requested, received, is_valid_at, received_if}
use Rattle.trdp_model.specs.Moments.{after_moment, moved_to}
use Rattle.trdp_marshal.specs.Items.{ItemModel}
use Rattle.trdp_model.specs.Values.{takes_item, valued, valued_at}
use Rattle.trdp_model.specs.Looks.{as_subscription, subscription_of, subscription_at}
use Rattle.trdp_model.specs.Alone.{plain_effect}
use Rattle.trdp_model.specs.Fitting.{ShowsFitting, IsFit, AllFit}
use Rattle.trdp_model.proofs.FitLemmas.{subscribed_fits, IsLeftFit, entry_taking_fits}
use Rattle.trdp_model.proofs.FitLemmas.{entry_firing_fits}
use Rattle.trdp_model.proofs.AllObjectLemmas.{AllObjects-found, AllObjects-append}
use Rattle.trdp_model.proofs.AllObjectLemmas.{AllObjects-each, AllObjects-acted}
use Rattle.trdp_model.proofs.FitActLemmas.{subscribed_dataset, opened_fits, request_fits, puts_fits}
use Rattle.trdp_model.proofs.FitActLemmas.{ends_fits, pulls_fits, replies_fits}
use Rattle.trdp_model.proofs.FitActLemmas.{queries_fits, reply_errors_fits}
use Rattle.trdp_model.proofs.FitActLemmas.{confirms_fits, aborts_fits, takes_item_fits}

-- a call at one object
at_object_fits : (setup : NodeSetup) (slot : SlotState) (handle : ℕ) (act : AnyObject → Act)
    → ((object : AnyObject) → IsFit setup object → IsLeftFit setup (act object).left)
    → AllFit setup slot.objects → AllFit setup (at_object slot handle act).slot.objects
at_object_fits setup slot handle act keeps all = either (entry_under handle slot.objects) refl
  where
    either : (found : Option Entry) → entry_under handle slot.objects ≡ found
        → AllFit setup (at_entry found slot handle act).slot.objects
    either None is = all
    either (Some entry) is = AllObjects-acted (IsFit setup) handle (act entry.object).left
        (keeps entry.object (AllObjects-found (IsFit setup) handle slot.objects entry all is))
        slot.objects all

-- a moment
pub moved_fits : (setup : NodeSetup) (slot : SlotState) (globals : Globals)
    → IsRegistry setup.registry → AllFit setup slot.objects
    → AllFit setup (moved_to slot globals).slot.objects
moved_fits setup slot globals sound all = AllObjects-each (IsFit setup)
    (after_moment globals) (entry_firing_fits setup globals sound) slot.objects all

-- a request
asked_unless_fits : (setup : NodeSetup) (refusal : Option Refusal) (slot : SlotState) (listener : ℕ)
    (globals : Globals) (src : Place) (telegram : MdTelegram) → AllFit setup slot.objects
    → AllFit setup (asked_unless refusal slot listener globals src telegram).slot.objects
asked_unless_fits setup (Some refusal) slot listener globals src telegram all = all
asked_unless_fits setup None slot listener globals src telegram all =
    AllObjects-append (IsFit setup) slot.objects _ all (tt, tt)

asked_fits : (setup : NodeSetup) (slot : SlotState) (listener : ℕ)
    (globals : Globals) (src : Place) (telegram : MdTelegram) → AllFit setup slot.objects
    → AllFit setup (asked slot listener globals src telegram).slot.objects
asked_fits setup slot listener globals src telegram all =
    either (has_session Replying telegram.head.session slot.objects) refl
  where
    either : (b : Bool) → has_session Replying telegram.head.session slot.objects ≡ b
        → AllFit setup (asked slot listener globals src telegram).slot.objects
    either true is = rw is all
    either false is = rw is (asked_unless_fits setup
        (opening_refusal slot Replying) slot listener globals src telegram all)

heard_fits : (setup : NodeSetup) (listener : Option ℕ) (slot : SlotState)
    (globals : Globals) (src : Place) (telegram : MdTelegram) → AllFit setup slot.objects
    → AllFit setup (asked_by_hearing listener slot globals src telegram).slot.objects
heard_fits setup None slot globals src telegram all = all
heard_fits setup (Some listener) slot globals src telegram all =
    asked_fits setup slot listener globals src telegram all

requested_fits :
    (setup : NodeSetup) (slot : SlotState) (globals : Globals) (telegram : TelegramModel)
    → AllFit setup slot.objects → AllFit setup (requested slot globals telegram).slot.objects
requested_fits setup slot globals (PdIs src dst telegram) all = all
requested_fits setup slot globals (MdIs src dst telegram) all = heard_fits setup
    (hearing (MdIs src dst telegram) globals slot.objects) slot globals src telegram all

-- a telegram
telegram_fits :
    (setup : NodeSetup) (slot : SlotState) (globals : Globals) (telegram : TelegramModel)
    → AllFit setup slot.objects → AllFit setup (received setup slot globals telegram).slot.objects
telegram_fits setup slot globals telegram all = either (is_request telegram) refl
  where
    either : (b : Bool) → is_request telegram ≡ b
        → AllFit setup (received setup slot globals telegram).slot.objects
    either true is = rw is (requested_fits setup slot globals telegram all)
    either false is = rw is (AllObjects-each (IsFit setup)
        (after_telegram setup telegram globals slot.objects)
        (entry_taking_fits setup telegram globals slot.objects) slot.objects all)

-- a datagram
pub received_fits :
    (setup : NodeSetup) (slot : SlotState) (globals : Globals) (telegram : Option TelegramModel)
    → AllFit setup slot.objects
    → AllFit setup (received_if setup slot globals telegram).slot.objects
received_fits setup slot globals None all = all
received_fits setup slot globals (Some telegram) all = either (is_valid_at globals telegram) refl
  where
    either : (b : Bool) → is_valid_at globals telegram ≡ b
        → AllFit setup (received_if setup slot globals (Some telegram)).slot.objects
    either true is = rw is (telegram_fits setup slot globals telegram all)
    either false is = rw is all

-- a call that concerns no object
told_fits :
    (setup : NodeSetup) (refusal : Option Refusal) (slot : SlotState) (records : List Content)
    → AllFit setup slot.objects → AllFit setup (told_unless refusal slot records).slot.objects
told_fits setup (Some refusal) slot records all = all
told_fits setup None slot records all = all

-- a call
pub called_fits : (setup : NodeSetup) (slot : SlotState) (globals : Globals) (call : CallModel)
    → IsRegistry setup.registry → AllFit setup slot.objects
    → AllFit setup (called setup slot globals call).slot.objects
called_fits setup slot globals (PublishCall terms) sound all =
    opened_fits setup _ slot _ [] all (λ is. tt)
called_fits setup slot globals (PutCall handle bytes) sound all =
    at_object_fits setup slot handle (puts setup bytes) (puts_fits setup bytes) all
called_fits setup slot globals (UnpublishCall handle) sound all =
    at_object_fits setup slot handle (ends Publishing) (ends_fits setup Publishing) all
called_fits setup slot globals (SubscribeCall terms) sound all =
    opened_fits setup (subscribe_refusal setup slot terms) slot _ [] all (λ is.
    subscribed_fits setup terms globals.now sound (subscribed_dataset setup slot terms is))
called_fits setup slot globals (GetCall handle) sound all =
    at_object_fits setup slot handle shows (λ object fit. fit) all
called_fits setup slot globals (UnsubscribeCall handle) sound all =
    at_object_fits setup slot handle (ends Subscribing) (ends_fits setup Subscribing) all
called_fits setup slot globals (OpenPullCall terms) sound all =
    opened_fits setup _ slot _ [] all (λ is. tt)
called_fits setup slot globals (PullCall handle) sound all =
    at_object_fits setup slot handle (pulls globals) (pulls_fits setup globals) all
called_fits setup slot globals (ClosePullCall handle) sound all =
    at_object_fits setup slot handle (ends Requesting) (ends_fits setup Requesting) all
called_fits setup slot globals (ListenCall filter) sound all =
    opened_fits setup _ slot _ [] all (λ is. tt)
called_fits setup slot globals (UnlistenCall handle) sound all =
    at_object_fits setup slot handle (ends Listening) (ends_fits setup Listening) all
called_fits setup slot globals (NotifyCall terms payload) sound all =
    told_fits setup (notify_refusal globals terms payload) slot (notice terms payload ∷ []) all
called_fits setup slot globals (RequestCall terms payload) sound all =
    opened_fits setup (request_refusal slot globals terms payload)
    slot _ (request_sent terms payload ∷ []) all (request_fits setup slot globals terms payload)
called_fits setup slot globals (ReplyCall handle com_id status payload) sound all = at_object_fits
    setup slot handle (replies com_id status payload) (replies_fits setup com_id status payload) all
called_fits setup slot globals (QueryCall handle com_id status timeout payload) sound all =
    at_object_fits setup slot handle (queries globals.now com_id status timeout payload)
    (queries_fits setup globals.now com_id status timeout payload) all
called_fits setup slot globals (ReplyErrorCall handle com_id status) sound all = at_object_fits
    setup slot handle (reply_errors com_id status) (reply_errors_fits setup com_id status) all
called_fits setup slot globals (ConfirmCall handle place status) sound all = at_object_fits setup
    slot handle (confirms handle place status) (confirms_fits setup handle place status) all
called_fits setup slot globals (AbortCall handle) sound all =
    at_object_fits setup slot handle aborts (aborts_fits setup) all
called_fits setup slot globals ResetCall sound all = tt

-- a value handed over as an item
pub valued_fits : (setup : NodeSetup) (slot : SlotState) (handle : ℕ) (item : ItemModel)
    → AllFit setup slot.objects → AllFit setup (valued setup slot handle item).slot.objects
valued_fits setup slot handle item all =
    at_object_fits setup slot handle (takes_item setup item) (takes_item_fits setup item) all

as_subscription_fits : (setup : NodeSetup) (object : AnyObject) (s : SubscriptionState)
    → IsFit setup object → as_subscription object ≡ Ok s → ShowsFitting setup s
as_subscription_fits setup (Publisher p) s fit is = absurd (cc)
as_subscription_fits setup (Subscription t) s fit is = let same : t ≡ s = cc in rw (← same) fit
as_subscription_fits setup (Requester r) s fit is = absurd (cc)
as_subscription_fits setup (Listener l) s fit is = absurd (cc)
as_subscription_fits setup (Caller c) s fit is = absurd (cc)
as_subscription_fits setup (Replier r) s fit is = absurd (cc)

-- the subscription of a handle shows a value of its dataset
pub subscription_fits :
    (setup : NodeSetup) (handle : ℕ) (objects : List Entry) (s : SubscriptionState)
    → AllFit setup objects → subscription_at handle objects ≡ Ok s → ShowsFitting setup s
subscription_fits setup handle objects s all is =
    either setup handle objects s (entry_under handle objects) refl all is
  where
    either : (setup : NodeSetup) (handle : ℕ) (objects : List Entry)
        (s : SubscriptionState) (entry : Option Entry) → entry_under handle objects ≡ entry
        → AllFit setup objects → subscription_of entry ≡ Ok s → ShowsFitting setup s
    either setup handle objects s None found all is = absurd (cc)
    either setup handle objects s (Some entry) found all is = as_subscription_fits setup
        entry.object s (AllObjects-found (IsFit setup) handle objects entry all found) is

-- any call, whether of the slot's own or not
pub plain_call_fits :
    (setup : NodeSetup) (s r : ℕ) (slot : SlotState) (globals : Globals) (call : CallModel)
    → IsRegistry setup.registry → AllFit setup slot.objects
    → AllFit setup (plain_effect setup r slot globals (CallIs s call)).slot.objects
plain_call_fits setup s r slot globals call sound all = either (s == r)
  where
    either : (b : Bool)
        → AllFit setup (if b then called setup slot globals call else unchanged slot).slot.objects
    either true = called_fits setup slot globals call sound all
    either false = all

-- a value that any slot hands over
pub valued_at_fits :
    (setup : NodeSetup) (s r : ℕ) (slot : SlotState) (handle : ℕ) (item : ItemModel)
    → AllFit setup slot.objects → AllFit setup (valued_at setup s r slot handle item).slot.objects
valued_at_fits setup s r slot handle item all = either (s == r)
  where
    either : (b : Bool)
        → AllFit setup (if b then valued setup slot handle item else unchanged slot).slot.objects
    either true = valued_fits setup slot handle item all
    either false = all
