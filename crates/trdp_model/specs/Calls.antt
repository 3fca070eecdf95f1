-- What a call does to the slot that makes it.
use Rattle.std.specs.Prelude.{ℕ, List, [], ◌∷◌, length, Option, Some, None, Result, Ok, Err, Bool}
use Rattle.std.specs.Prelude.{not, ◌==◌, ◌||◌, nat_lt, nat_le, if◌then◌else◌}
use Rattle.trdp_filter.specs.declared.globals.Globals.{Globals}
use Rattle.trdp_pd.specs.declared.terms.PublisherTerms.{PublisherTerms}
use Rattle.trdp_pd.specs.declared.terms.SubscriptionTerms.{SubscriptionTerms}
use Rattle.trdp_model.specs.declared.any_object.AnyObject.{AnyObject}
use Rattle.trdp_model.specs.declared.any_object.AnyObject.TheVariants.{Publisher, Subscription}
use Rattle.trdp_model.specs.declared.any_object.AnyObject.TheVariants.{Requester, Listener}
use Rattle.trdp_model.specs.declared.any_object.AnyObject.TheVariants.{Caller}
use Rattle.trdp_filter.specs.declared.filters.MdFilter.{MdFilter}
use Rattle.trdp_md.specs.Listeners.{listening}
use Rattle.trdp_md.specs.Callers.{new_caller}
use Rattle.trdp_pd.specs.Publishers.{PublisherState, published}
use Rattle.trdp_pd.specs.Subscriptions.{SubscriptionState, subscribed}
use Rattle.trdp_pd.specs.Requesters.{opened}
use Rattle.trdp_pd.specs.Peeks.{shown}
use Rattle.trdp_model.specs.declared.kind.Kind.{Kind}
use Rattle.trdp_model.specs.declared.kind.Kind.TheVariants.{Publisher as Publishing}
use Rattle.trdp_model.specs.declared.kind.Kind.TheVariants.{Subscription as Subscribing}
use Rattle.trdp_model.specs.declared.kind.Kind.TheVariants.{Requester as Requesting}
use Rattle.trdp_model.specs.declared.kind.Kind.TheVariants.{Listener as Listening}
use Rattle.trdp_model.specs.Kinds.{kind_of, is_same_kind}
use Rattle.trdp_model.specs.declared.fault.Refusal.{Refusal}
use Rattle.trdp_model.specs.declared.fault.Refusal.TheVariants.{NoHandle, WrongKind, Cycle}
use Rattle.trdp_model.specs.declared.fault.Refusal.TheVariants.{Timeout, Range, NoDataset}
use Rattle.trdp_model.specs.declared.fault.Refusal.TheVariants.{TooLong, Shape}
use Rattle.trdp_model.specs.declared.look.LookFault.{LookFault}
use Rattle.trdp_model.specs.declared.look.LookFault.TheVariants.{NoHandle as NoSuchHandle}
use Rattle.trdp_model.specs.declared.look.LookFault.TheVariants.{WrongKind as NoSubscription}
use Rattle.trdp_model.specs.Looks.{as_subscription}
use Rattle.trdp_model.specs.Configs.{NodeSetup, is_dataset, zero_size_of, is_fitting}
use Rattle.trdp_model.specs.Records.{Content, AnswerModel, DoneIs, ValueIs, RefusedIs, Answers}
use Rattle.trdp_model.specs.Slots.{Entry, SlotState, Outcome, entry_under, emptied}
use Rattle.trdp_model.specs.Openings.{refused, opening_refusal, opened_unless, opened_with}
use Rattle.trdp_model.specs.Acts.{Act, answers, refuses, acted}
use Rattle.trdp_model.specs.Events.{CallModel, PublishCall, PutCall, UnpublishCall, SubscribeCall}
use Rattle.trdp_model.specs.Events.{GetCall, UnsubscribeCall, OpenPullCall, PullCall}
use Rattle.trdp_model.specs.Events.{ClosePullCall, ListenCall, UnlistenCall, NotifyCall}
use Rattle.trdp_model.specs.Events.{RequestCall, ReplyCall, QueryCall, ReplyErrorCall}
use Rattle.trdp_model.specs.Events.{ConfirmCall, AbortCall, ResetCall}
use Rattle.trdp_model.specs.Pulls.{pulls}
use Rattle.trdp_model.specs.Notices.{notify_refusal, notice}
use Rattle.trdp_model.specs.Requests.{request_refusal, request_sent}
use Rattle.trdp_model.specs.Replies.{replies, queries, reply_errors, confirms, aborts}
use Rattle.trdp_head.specs.Limits.{pd_payload_limit}

-- a time is 0 or at least 1,000 microseconds
-- rule: time.span
abbrev pub is_span : ℕ → Bool
is_span span = span == 0 || nat_le 1000 span

-- no such dataset, or one whose zero value, its shortest, is longer than process data carries
-- rule: refusal.dataset
abbrev pub dataset_refusal : NodeSetup → ℕ → Option Refusal → Option Refusal
dataset_refusal setup dataset later =
    if not (is_dataset setup dataset) then Some NoDataset else
    if nat_lt pd_payload_limit (zero_size_of setup dataset) then Some TooLong else later

-- first refusal of a publishing: the cycle, the dataset, the quota, the handles
-- rule: refusal.publish
abbrev pub publish_refusal : NodeSetup → SlotState → PublisherTerms → Option Refusal
publish_refusal setup slot terms =
    if not (is_span terms.cycle) then Some Cycle else
    dataset_refusal setup terms.dataset (opening_refusal slot Publishing)

-- first refusal of a subscription: the supervision time, the source range, the dataset, the
-- quota, the handles
-- rule: refusal.subscribe
abbrev pub subscribe_refusal : NodeSetup → SlotState → SubscriptionTerms → Option Refusal
subscribe_refusal setup slot terms =
    if not (is_span terms.supervision) then Some Timeout else
    if nat_lt terms.filter.high.0 terms.filter.low.0 then Some Range else
    dataset_refusal setup terms.dataset (opening_refusal slot Subscribing)

-- first refusal of a listener: the source range, the quota, the handles
-- rule: refusal.listen
abbrev pub listen_refusal : SlotState → MdFilter → Option Refusal
listen_refusal slot filter =
    if nat_lt filter.high.0 filter.low.0 then Some Range else opening_refusal slot Listening

-- why a publisher refuses such a value: more than 1432 bytes, or no value of its dataset
-- rule: refusal.value
abbrev pub value_refusal : NodeSetup → ℕ → List ℕ → Option Refusal
value_refusal setup dataset bytes =
    if nat_lt pd_payload_limit (length bytes) then Some TooLong else
    if not (is_fitting setup dataset bytes) then Some Shape else None

-- a value that isn't refused is the publisher's from now on
-- rule: publisher.value
abbrev pub puts_unless : Option Refusal → List ℕ → PublisherState → Act
puts_unless (Some refusal) bytes p = refuses (Publisher p) refusal
puts_unless None bytes p = answers (Publisher (record p { value = Some bytes })) DoneIs

-- the act of an object that is handed a value
abbrev pub puts : NodeSetup → List ℕ → AnyObject → Act
puts setup bytes (Publisher p) = puts_unless (value_refusal setup p.terms.dataset bytes) bytes p
puts setup bytes object = refuses object WrongKind

-- the act of an object of which one of that kind is to end
-- rule: listener.end
abbrev pub ends : Kind → AnyObject → Act
ends kind object =
    if is_same_kind (kind_of object) kind
    then record { left = None; records = Answers DoneIs ∷ [] }
    else refuses object WrongKind

-- the refusal where there is no subscription to look at
abbrev pub look_refusal : LookFault → Refusal
look_refusal NoSuchHandle = NoHandle
look_refusal NoSubscription = WrongKind

-- the answer to a look at a subscription: what it shows, or why there is none
abbrev pub get_answer : Result SubscriptionState LookFault → AnswerModel
get_answer (Ok s) = ValueIs (shown s)
get_answer (Err fault) = RefusedIs (look_refusal fault)

-- the act of an object that is looked at
abbrev pub shows : AnyObject → Act
shows object = answers object (get_answer (as_subscription object))

-- a call at an object of the slot: the object acts, and where there is none the call is refused
-- rule: refusal.handle
abbrev pub at_entry : Option Entry → SlotState → ℕ → (AnyObject → Act) → Outcome
at_entry None slot handle act = refused slot NoHandle
at_entry (Some entry) slot handle act = record {
  slot = record slot { objects = acted handle (act entry.object).left slot.objects };
  records = (act entry.object).records;
}

-- the same, at the object of a handle
abbrev pub at_object : SlotState → ℕ → (AnyObject → Act) → Outcome
at_object slot handle act = at_entry (entry_under handle slot.objects) slot handle act

-- a call that concerns no object: it is done, with these records
abbrev pub told_unless : Option Refusal → SlotState → List Content → Outcome
told_unless (Some refusal) slot records = refused slot refusal
told_unless None slot records = record { slot = slot; records = Answers DoneIs ∷ records }

-- effect of a call on the slot that makes it
abbrev pub called : NodeSetup → SlotState → Globals → CallModel → Outcome
called setup slot globals (PublishCall terms) =
    opened_unless (publish_refusal setup slot terms) slot
    (Publisher (published terms globals.now))
called setup slot globals (PutCall handle bytes) = at_object slot handle (puts setup bytes)
called setup slot globals (UnpublishCall handle) = at_object slot handle (ends Publishing)
called setup slot globals (SubscribeCall terms) =
    opened_unless (subscribe_refusal setup slot terms) slot
    (Subscription (subscribed terms (zero_size_of setup terms.dataset) globals.now))
called setup slot globals (GetCall handle) = at_object slot handle shows
called setup slot globals (UnsubscribeCall handle) = at_object slot handle (ends Subscribing)
called setup slot globals (OpenPullCall terms) =
    opened_unless (opening_refusal slot Requesting) slot (Requester (opened terms))
called setup slot globals (PullCall handle) = at_object slot handle (pulls globals)
called setup slot globals (ClosePullCall handle) = at_object slot handle (ends Requesting)
called setup slot globals (ListenCall filter) =
    opened_unless (listen_refusal slot filter) slot (Listener (listening filter))
called setup slot globals (UnlistenCall handle) = at_object slot handle (ends Listening)
called setup slot globals (NotifyCall terms payload) =
    told_unless (notify_refusal globals terms payload) slot (notice terms payload ∷ [])
called setup slot globals (RequestCall terms payload) =
    opened_with (request_refusal slot globals terms payload) slot
    (Caller (new_caller terms payload globals.now)) (request_sent terms payload ∷ [])
called setup slot globals (ReplyCall handle com_id status payload) =
    at_object slot handle (replies com_id status payload)
called setup slot globals (QueryCall handle com_id status timeout payload) =
    at_object slot handle (queries globals.now com_id status timeout payload)
called setup slot globals (ReplyErrorCall handle com_id status) =
    at_object slot handle (reply_errors com_id status)
called setup slot globals (ConfirmCall handle place status) =
    at_object slot handle (confirms handle place status)
called setup slot globals (AbortCall handle) = at_object slot handle aborts
called setup slot globals ResetCall = told_unless None (emptied slot) []
