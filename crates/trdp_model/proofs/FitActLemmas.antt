-- What a call does to one object leaves it fit.
-- For `FitEventLemmas`.
-- By cases on the kind: a call changes an object of its own kind, and no value of a subscription.
use Rattle.std.proofs.Common.{◌≡◌, ℕ, ◌≤◌, ℤ, List, [], Some, None, Option, Bool, true, false, refl}
use Rattle.std.proofs.Common.{arith}
use Rattle.std.specs.Prelude.{not, nat_lt, if◌then◌else◌}
use Rattle.std.proofs.lemmas.Bool.Decides.{nat_tests}
use Rattle.trdp_base.specs.declared.place.Place.{Place}
use Rattle.trdp_filter.specs.declared.globals.Globals.{Globals}
use Rattle.trdp_model.specs.declared.any_object.AnyObject.{AnyObject}
use Rattle.trdp_model.specs.declared.any_object.AnyObject.TheVariants.{Publisher, Subscription}
use Rattle.trdp_model.specs.declared.any_object.AnyObject.TheVariants.{Requester, Listener}
use Rattle.trdp_model.specs.declared.any_object.AnyObject.TheVariants.{Caller, Replier}
use Rattle.trdp_model.specs.declared.kind.Kind.{Kind}
use Rattle.trdp_model.specs.declared.kind.Kind.TheVariants.{Subscription as Subscribing}
use Rattle.trdp_model.specs.Kinds.{kind_of, is_same_kind}
use Rattle.trdp_model.specs.Objects.{is_sound}
use Rattle.trdp_pd.specs.declared.object.Reason.{Reason}
use Rattle.trdp_head.specs.declared.md.MdHead.{MdHead}
use Rattle.trdp_md.specs.declared.caller.Caller.{Caller as AnyCaller}
use Rattle.trdp_md.specs.declared.replier.Replier.{Replier as AnyReplier}
use Rattle.trdp_md.specs.declared.terms.CallerTerms.{CallerTerms}
use Rattle.trdp_md.specs.Callers.{new_caller, confirming, closed_of, is_sound_caller}
use Rattle.trdp_pd.specs.declared.terms.SubscriptionTerms.{SubscriptionTerms}
use Rattle.trdp_pd.specs.Publishers.{PublisherState}
use Rattle.trdp_pd.specs.Requesters.{RequesterState}
use Rattle.trdp_filter.specs.Counts.{topo_valid}
use Rattle.trdp_model.specs.declared.fault.Refusal.{Refusal}
use Rattle.trdp_model.specs.declared.fault.Refusal.TheVariants.{State, Timeout, Range}
use Rattle.trdp_model.specs.declared.fault.Refusal.TheVariants.{NoDataset, TooLong}
use Rattle.trdp_model.specs.Configs.{NodeSetup, is_dataset, zero_size_of}
use Rattle.trdp_model.specs.Slots.{SlotState}
use Rattle.trdp_model.specs.Calls.{dataset_refusal, subscribe_refusal}
use Rattle.trdp_model.specs.Calls.{value_refusal, puts_unless, puts, ends, is_span}
use Rattle.trdp_model.specs.Openings.{opening_refusal, opened_with}
use Rattle.trdp_model.specs.Requests.{request_refusal}
use Rattle.trdp_model.specs.Replies.{reply_refusal, query_refusal, error_refusal}
use Rattle.trdp_model.specs.Replies.{answers_unless, replies, queries, reply_errors, concluded}
use Rattle.trdp_model.specs.Replies.{confirm_refusal, confirms_unless, confirms, aborts}
use Rattle.trdp_model.specs.Records.{Content}
use Rattle.trdp_model.specs.Pulls.{pulls_if, pulls}
use Rattle.trdp_marshal.specs.Items.{ItemModel}
use Rattle.trdp_model.specs.Values.{item_refusal_of, bytes_for, valued_unless, takes_item}
use Rattle.trdp_model.specs.Fitting.{IsFit, AllFit}
use Rattle.trdp_model.proofs.AllObjectLemmas.{AllObjects-append}
use Rattle.trdp_model.proofs.FitLemmas.{IsLeftFit}
use Rattle.trdp_md.proofs.ConfirmLemmas.{terms-confirming as confirming_terms}

-- a subscription that isn't refused is of a dataset that values may be of
if_none : (b : Bool) (refusal : Refusal) (later : Option Refusal)
    → (if b then Some refusal else later) ≡ None → (b ≡ false) × (later ≡ None)
if_none true refusal later is = absurd (cc)
if_none false refusal later is = (refl, is)

not_false : (b : Bool) → not b ≡ false → b ≡ true
not_false true is = refl
not_false false is = absurd (cc)

pub subscribed_dataset : (setup : NodeSetup) (slot : SlotState) (terms : SubscriptionTerms)
    → subscribe_refusal setup slot terms ≡ None → is_dataset setup terms.dataset ≡ true
subscribed_dataset setup slot terms is =
    let opens : Option Refusal =
    dataset_refusal setup terms.dataset (opening_refusal slot Subscribing) in
    let longest : Option Refusal = if nat_lt 1432 (zero_size_of setup terms.dataset)
    then Some TooLong else opening_refusal slot Subscribing in
    let timed = if_none (not (is_span terms.supervision))
    Timeout (if nat_lt terms.filter.high.0 terms.filter.low.0 then Some Range else opens) is in
    let ranged = if_none (nat_lt terms.filter.high.0 terms.filter.low.0) Range opens timed.1 in
    let known = if_none (not (is_dataset setup terms.dataset)) NoDataset longest ranged.1 in
    not_false (is_dataset setup terms.dataset) known.0

-- a caller is sound by its terms
sound_by_terms : (c d : AnyCaller) → d.terms ≡ c.terms
    → is_sound (Caller c) ≡ true → is_sound (Caller d) ≡ true
unfolding is_sound_caller
sound_by_terms c d same sound = cc

-- a request that isn't refused waits for a millisecond at least
request_waits : (slot : SlotState) (globals : Globals) (terms : CallerTerms) (payload : List ℕ)
    → request_refusal slot globals terms payload ≡ None → 1000 ≤ terms.timeout
request_waits slot globals terms payload is =
    let counted = if_none (not (topo_valid terms.topo globals.topo)) State _ is in
    let long = (if_none (nat_lt terms.timeout 1000) Timeout _ counted.1).0 in
    grind (arith, nat_tests)

waiting_sound : (terms : CallerTerms) (payload : List ℕ) (now : ℕ) → 1000 ≤ terms.timeout
    → is_sound (Caller (new_caller terms payload now)) ≡ true
unfolding is_sound_caller
waiting_sound terms payload now long = grind (arith, nat_tests)

-- so its caller is sound
pub request_fits : (setup : NodeSetup) (slot : SlotState) (globals : Globals)
    (terms : CallerTerms) (payload : List ℕ) → request_refusal slot globals terms payload ≡ None
    → IsFit setup (Caller (new_caller terms payload globals.now))
request_fits setup slot globals terms payload is =
    waiting_sound terms payload globals.now (request_waits slot globals terms payload is)

pub opened_fits :
    (setup : NodeSetup) (refusal : Option Refusal) (slot : SlotState) (object : AnyObject)
    (records : List Content) → AllFit setup slot.objects → (refusal ≡ None → IsFit setup object)
    → AllFit setup (opened_with refusal slot object records).slot.objects
opened_fits setup (Some refusal) slot object records all fit = all
opened_fits setup None slot object records all fit =
    AllObjects-append (IsFit setup) slot.objects _ all (fit refl, tt)

-- what calls leave of an object
puts_unless_fits : (setup : NodeSetup) (refusal : Option Refusal)
    (bytes : List ℕ) (p : PublisherState) → IsLeftFit setup (puts_unless refusal bytes p).left
puts_unless_fits setup (Some refusal) bytes p = tt
puts_unless_fits setup None bytes p = tt

pub puts_fits : (setup : NodeSetup) (bytes : List ℕ) (object : AnyObject)
    → IsFit setup object → IsLeftFit setup (puts setup bytes object).left
puts_fits setup bytes (Publisher p) fit =
    puts_unless_fits setup (value_refusal setup p.terms.dataset bytes) bytes p
puts_fits setup bytes (Subscription s) fit = fit
puts_fits setup bytes (Requester r) fit = tt
puts_fits setup bytes (Listener l) fit = tt
puts_fits setup bytes (Caller c) fit = fit
puts_fits setup bytes (Replier r) fit = tt

pub ends_fits : (setup : NodeSetup) (kind : Kind) (object : AnyObject)
    → IsFit setup object → IsLeftFit setup (ends kind object).left
ends_fits setup kind object fit = either (is_same_kind (kind_of object) kind) refl
  where
    either : (b : Bool) → is_same_kind (kind_of object) kind ≡ b
        → IsLeftFit setup (ends kind object).left
    either true is = rw is tt
    either false is = rw is fit

pulls_if_fits : (setup : NodeSetup) (valid : Bool) (r : RequesterState)
    → IsLeftFit setup (pulls_if valid r).left
pulls_if_fits setup true r = tt
pulls_if_fits setup false r = tt

pub pulls_fits : (setup : NodeSetup) (globals : Globals) (object : AnyObject)
    → IsFit setup object → IsLeftFit setup (pulls globals object).left
pulls_fits setup globals (Publisher p) fit = tt
pulls_fits setup globals (Subscription s) fit = fit
pulls_fits setup globals (Requester r) fit =
    pulls_if_fits setup (topo_valid r.terms.topo globals.topo) r
pulls_fits setup globals (Listener l) fit = tt
pulls_fits setup globals (Caller c) fit = fit
pulls_fits setup globals (Replier r) fit = tt

answers_unless_fits : (setup : NodeSetup) (refusal : Option Refusal)
    (r : AnyReplier) (left : Option AnyObject) (head : MdHead) (payload : List ℕ)
    → IsLeftFit setup left → IsLeftFit setup (answers_unless refusal r left head payload).left
answers_unless_fits setup (Some refusal) r left head payload fit = tt
answers_unless_fits setup None r left head payload fit = fit

pub replies_fits :
    (setup : NodeSetup) (com_id : ℕ) (status : ℤ) (payload : List ℕ) (object : AnyObject)
    → IsFit setup object → IsLeftFit setup (replies com_id status payload object).left
replies_fits setup com_id status payload (Publisher p) fit = tt
replies_fits setup com_id status payload (Subscription s) fit = fit
replies_fits setup com_id status payload (Requester r) fit = tt
replies_fits setup com_id status payload (Listener l) fit = tt
replies_fits setup com_id status payload (Caller c) fit = fit
replies_fits setup com_id status payload (Replier r) fit =
    answers_unless_fits setup (reply_refusal r status payload) r _ _ payload tt

pub queries_fits :
    (setup : NodeSetup) (now com_id : ℕ) (status : ℤ) (timeout : ℕ) (payload : List ℕ)
    (object : AnyObject) → IsFit setup object
    → IsLeftFit setup (queries now com_id status timeout payload object).left
queries_fits setup now com_id status timeout payload (Publisher p) fit = tt
queries_fits setup now com_id status timeout payload (Subscription s) fit = fit
queries_fits setup now com_id status timeout payload (Requester r) fit = tt
queries_fits setup now com_id status timeout payload (Listener l) fit = tt
queries_fits setup now com_id status timeout payload (Caller c) fit = fit
queries_fits setup now com_id status timeout payload (Replier r) fit =
    answers_unless_fits setup (query_refusal r status timeout payload) r _ _ payload tt

pub reply_errors_fits : (setup : NodeSetup) (com_id : ℕ) (status : ℤ) (object : AnyObject)
    → IsFit setup object → IsLeftFit setup (reply_errors com_id status object).left
reply_errors_fits setup com_id status (Publisher p) fit = tt
reply_errors_fits setup com_id status (Subscription s) fit = fit
reply_errors_fits setup com_id status (Requester r) fit = tt
reply_errors_fits setup com_id status (Listener l) fit = tt
reply_errors_fits setup com_id status (Caller c) fit = fit
reply_errors_fits setup com_id status (Replier r) fit =
    answers_unless_fits setup (error_refusal r status) r _ _ [] tt

concluded_fits : (setup : NodeSetup) (reason : Option Reason) (handle : ℕ)
    (c : AnyCaller) (records : List Content) → IsFit setup (Caller c)
    → IsLeftFit setup (concluded reason handle c records).left
concluded_fits setup None handle c records fit = fit
concluded_fits setup (Some reason) handle c records fit = tt

confirms_unless_fits : (setup : NodeSetup) (refusal : Option Refusal)
    (handle : ℕ) (place : Place) (status : ℤ) (c : AnyCaller) → IsFit setup (Caller c)
    → IsLeftFit setup (confirms_unless refusal handle place status c).left
confirms_unless_fits setup (Some refusal) handle place status c fit = fit
confirms_unless_fits setup None handle place status c fit =
    concluded_fits setup (closed_of (confirming c place)) handle (confirming c place)
    _ (sound_by_terms c (confirming c place) (confirming_terms c place) fit)

pub confirms_fits :
    (setup : NodeSetup) (handle : ℕ) (place : Place) (status : ℤ) (object : AnyObject)
    → IsFit setup object → IsLeftFit setup (confirms handle place status object).left
confirms_fits setup handle place status (Publisher p) fit = tt
confirms_fits setup handle place status (Subscription s) fit = fit
confirms_fits setup handle place status (Requester r) fit = tt
confirms_fits setup handle place status (Listener l) fit = tt
confirms_fits setup handle place status (Caller c) fit =
    confirms_unless_fits setup (confirm_refusal c place status) handle place status c fit
confirms_fits setup handle place status (Replier r) fit = tt

pub aborts_fits : (setup : NodeSetup) (object : AnyObject)
    → IsFit setup object → IsLeftFit setup (aborts object).left
aborts_fits setup (Publisher p) fit = tt
aborts_fits setup (Subscription s) fit = fit
aborts_fits setup (Requester r) fit = tt
aborts_fits setup (Listener l) fit = tt
aborts_fits setup (Caller c) fit = tt
aborts_fits setup (Replier r) fit = tt

pub takes_item_fits : (setup : NodeSetup) (item : ItemModel) (object : AnyObject)
    → IsFit setup object → IsLeftFit setup (takes_item setup item object).left
takes_item_fits setup item object fit = either (item_refusal_of setup item object)
  where
    either : (refusal : Option Refusal)
        → IsLeftFit setup (valued_unless refusal setup item object).left
    either (Some refusal) = fit
    either None = puts_fits setup (bytes_for setup item object) object fit
