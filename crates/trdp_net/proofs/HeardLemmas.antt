-- From which places an answer is reported to an object at a moment and at a call: from none.
-- For `no_invented_reply`, its clause `distinct`, through `HeardSlotLemmas`.
-- By cases on the kind of object: no record of these acts is the indication of an answer.
use Rattle.std.proofs.Common.{◌≡◌, ℕ, ℤ, List, [], ◌∷◌, map, Option, Some, None, Bool, true}
use Rattle.std.proofs.Common.{false, refl}
use Rattle.std.specs.Prelude.{if◌then◌else◌}
use Rattle.trdp_base.specs.declared.place.Place.{Place}
use Rattle.trdp_head.specs.declared.pd.PdHead.{PdHead}
use Rattle.trdp_head.specs.declared.md.MdHead.{MdHead}
use Rattle.trdp_head.specs.MdBytes.{md_bytes}
use Rattle.trdp_filter.specs.declared.globals.Globals.{Globals}
use Rattle.trdp_filter.specs.Counts.{topo_valid}
use Rattle.trdp_pd.specs.declared.object.Reason.{Reason}
use Rattle.trdp_pd.specs.declared.object.Fired.TheVariants as fires
use Rattle.trdp_pd.specs.Effects.{Firing}
use Rattle.trdp_pd.specs.Publishers.{PublisherState, may_send, next_due}
use Rattle.trdp_pd.specs.Publishers.{next_counter, data_head}
use Rattle.trdp_md.specs.declared.caller.Caller.{Caller as AnyCaller}
use Rattle.trdp_md.specs.declared.replier.Replier.{Replier as AnyReplier}
use Rattle.trdp_md.specs.Answers.{has_answered, awaits, confirmed, confirmed_if}
use Rattle.trdp_md.specs.Callers.{confirming, closed_of, confirm_of, request_of, reason_of}
use Rattle.trdp_md.specs.Callers.{is_repeating, waiting_again, repeating}
use Rattle.trdp_model.specs.declared.kind.Kind.{Kind}
use Rattle.trdp_model.specs.Kinds.{kind_of, is_same_kind}
use Rattle.trdp_model.specs.declared.any_object.AnyObject.{AnyObject}
use Rattle.trdp_model.specs.declared.any_object.AnyObject.TheVariants.{Publisher, Subscription}
use Rattle.trdp_model.specs.declared.any_object.AnyObject.TheVariants.{Requester, Listener}
use Rattle.trdp_model.specs.declared.any_object.AnyObject.TheVariants.{Caller, Replier}
use Rattle.trdp_model.specs.declared.record.Protocol.TheVariants.{Md}
use Rattle.trdp_model.specs.declared.fault.Refusal.{Refusal}
use Rattle.trdp_model.specs.declared.fault.Refusal.TheVariants as refusals
use Rattle.trdp_model.specs.Configs.{NodeSetup}
use Rattle.trdp_model.specs.Records.{Content, AnswerModel, DoneIs, Answers, Sends}
use Rattle.trdp_model.specs.Records.{value_sent}
use Rattle.trdp_model.specs.Acts.{Act, answers, refuses}
use Rattle.trdp_model.specs.Moments.{firing_act, firing_records, left_firing}
use Rattle.trdp_model.specs.Calls.{value_refusal, puts, puts_unless, ends, shows}
use Rattle.trdp_model.specs.Pulls.{pulls, pulls_if}
use Rattle.trdp_model.specs.Replies.{replies, queries, reply_errors, confirms, aborts}
use Rattle.trdp_model.specs.Replies.{answers_unless, confirms_unless, confirm_refusal, concluded}
use Rattle.trdp_model.specs.Replies.{reply_refusal, query_refusal, error_refusal}
use Rattle.trdp_net.specs.Promises.{replied_in, IsNew}
use Rattle.trdp_net.proofs.CallerLemmas.{answered_before}

-- what was reported to an object is among what it knows to have been answered
abbrev pub Covers : List Place → AnyObject → Type 0
Covers places (Publisher p) = Unit {0}
Covers places (Subscription u) = Unit {0}
Covers places (Requester r) = Unit {0}
Covers places (Listener l) = Unit {0}
Covers places (Caller c) = (p : Place) → has_answered c.answers p ≡ false → IsNew p places
Covers places (Replier r) = Unit {0}

-- the same of what is left of an object
abbrev pub CoversLeft : List Place → Option AnyObject → Type 0
CoversLeft places None = Unit {0}
CoversLeft places (Some x) = Covers places x

-- the records report no answer
abbrev pub IsQuiet : List Content → Type 0
IsQuiet records = (h : ℕ) → replied_in h records ≡ []

-- an act that reports no answer
pub record QuietAct (places : List Place) (act : Act) : Type 0 where
  pub covers : CoversLeft places act.left
  pub quiet : IsQuiet act.records

answers_quiet : (places : List Place) (x : AnyObject) (answer : AnswerModel) → Covers places x
    → QuietAct places (answers x answer)
answers_quiet places x answer covers = record { covers = covers; quiet = λ h. refl }

-- a value that is sent reports no answer
pub value_quiet : (to : Place) (head : PdHead) (value : Option (List ℕ))
    → IsQuiet (value_sent to head value)
value_quiet to head None h = refl
value_quiet to head (Some bytes) h = refl

-- the act of a publisher that fired so
abbrev fired_act : ℕ → PublisherState → Firing PublisherState → Act
fired_act handle p f = record {
  left = left_firing f.fired (Publisher f.object);
  records = firing_records handle (Publisher p) f.fired;
}

-- at a moment
pub fires_quiet : (places : List Place) (handle : ℕ) (globals : Globals)
    (x : AnyObject) → Covers places x → QuietAct places
    (firing_act globals (record { handle = handle; object = x }))
fires_quiet places handle globals (Publisher p) covers = either (may_send p globals)
  where
    either : (b : Bool) → QuietAct places (fired_act handle p
        (if b then record {
          object = record p { due = next_due p globals.now; counter = next_counter p.counter };
          fired = fires.Data (data_head p);
        }
        else record { object = record p { due = next_due p globals.now }; fired = fires.Nothing }))
    either true = record { covers = tt; quiet = value_quiet p.terms.to (data_head p) p.value }
    either false = record { covers = tt; quiet = λ h. refl }
fires_quiet places handle globals (Subscription u) covers =
    record { covers = tt; quiet = λ h. refl }
fires_quiet places handle globals (Requester r) covers =
    record { covers = tt; quiet = λ h. refl }
fires_quiet places handle globals (Listener l) covers =
    record { covers = tt; quiet = λ h. refl }
fires_quiet places handle globals (Caller c) covers = either (is_repeating c)
  where
    act : Firing AnyCaller → Act
    act f = record {
      left = left_firing f.fired (Caller f.object);
      records = firing_records handle (Caller c) f.fired;
    }

    repeats : (b : Bool) → QuietAct places (act
        (if b then record {
          object = record (waiting_again c globals.now) { counter = next_counter c.counter };
          fired = fires.Again (request_of c.terms c.counter);
        }
        else record { object = waiting_again c globals.now; fired = fires.Nothing }))
    repeats true = record { covers = covers; quiet = λ h. refl }
    repeats false = record { covers = covers; quiet = λ h. refl }

    either : (b : Bool) → QuietAct places (act
        (if b then repeating c globals
        else record { object = record c { deadline = None }; fired = fires.Closed (reason_of c) }))
    either true = repeats (topo_valid c.terms.topo globals.topo)
    either false = record { covers = tt; quiet = λ h. refl }
fires_quiet places handle globals (Replier r) covers =
    record { covers = tt; quiet = λ h. refl }

-- at a call

-- at a Put
pub puts_quiet : (places : List Place) (setup : NodeSetup) (bytes : List ℕ) (x : AnyObject)
    → Covers places x → QuietAct places (puts setup bytes x)
puts_quiet places setup bytes (Publisher p) covers =
    either (value_refusal setup p.terms.dataset bytes)
  where
    either : (refusal : Option Refusal) → QuietAct places (puts_unless refusal bytes p)
    either (Some refusal) = record { covers = tt; quiet = λ h. refl }
    either None = record { covers = tt; quiet = λ h. refl }
puts_quiet places setup bytes (Subscription u) covers = answers_quiet places (Subscription u) _ tt
puts_quiet places setup bytes (Requester r) covers = answers_quiet places (Requester r) _ tt
puts_quiet places setup bytes (Listener l) covers = answers_quiet places (Listener l) _ tt
puts_quiet places setup bytes (Caller c) covers = answers_quiet places (Caller c) _ covers
puts_quiet places setup bytes (Replier r) covers = answers_quiet places (Replier r) _ tt

-- at an Unpublish, Unsubscribe, ClosePull or Unlisten
pub ends_quiet : (places : List Place) (kind : Kind) (x : AnyObject) → Covers places x
    → QuietAct places (ends kind x)
ends_quiet places kind x covers = either (is_same_kind (kind_of x) kind)
  where
    either : (b : Bool) → QuietAct places
        (if b then record { left = None; records = Answers DoneIs ∷ [] }
        else refuses x refusals.WrongKind)
    either true = record { covers = tt; quiet = λ h. refl }
    either false = answers_quiet places x _ covers

-- at a Get
pub shows_quiet : (places : List Place) (x : AnyObject) → Covers places x
    → QuietAct places (shows x)
shows_quiet places x covers = answers_quiet places x _ covers

-- at a Pull
pub pulls_quiet : (places : List Place) (globals : Globals) (x : AnyObject) → Covers places x
    → QuietAct places (pulls globals x)
pulls_quiet places globals (Requester r) covers = either (topo_valid r.terms.topo globals.topo)
  where
    either : (b : Bool) → QuietAct places (pulls_if b r)
    either true = record { covers = tt; quiet = λ h. refl }
    either false = record { covers = tt; quiet = λ h. refl }
pulls_quiet places globals (Publisher p) covers = answers_quiet places (Publisher p) _ tt
pulls_quiet places globals (Subscription u) covers = answers_quiet places (Subscription u) _ tt
pulls_quiet places globals (Listener l) covers = answers_quiet places (Listener l) _ tt
pulls_quiet places globals (Caller c) covers = answers_quiet places (Caller c) _ covers
pulls_quiet places globals (Replier r) covers = answers_quiet places (Replier r) _ tt

answered_quiet : (places : List Place) (refusal : Option Refusal) (r : AnyReplier)
    (left : Option AnyObject) (head : MdHead) (payload : List ℕ) → CoversLeft places left
    → QuietAct places (answers_unless refusal r left head payload)
answered_quiet places (Some refusal) r left head payload covers =
    record { covers = tt; quiet = λ h. refl }
answered_quiet places None r left head payload covers =
    record { covers = covers; quiet = λ h. refl }

-- at a Reply
pub replies_quiet : (places : List Place) (com_id : ℕ) (status : ℤ) (payload : List ℕ)
    (x : AnyObject) → Covers places x → QuietAct places (replies com_id status payload x)
replies_quiet places com_id status payload (Replier r) covers =
    answered_quiet places (reply_refusal r status payload) r None _ payload tt
replies_quiet places com_id status payload (Publisher p) covers =
    answers_quiet places (Publisher p) _ tt
replies_quiet places com_id status payload (Subscription u) covers =
    answers_quiet places (Subscription u) _ tt
replies_quiet places com_id status payload (Requester r) covers =
    answers_quiet places (Requester r) _ tt
replies_quiet places com_id status payload (Listener l) covers =
    answers_quiet places (Listener l) _ tt
replies_quiet places com_id status payload (Caller c) covers =
    answers_quiet places (Caller c) _ covers

-- at a Query
pub queries_quiet : (places : List Place) (now com_id : ℕ) (status : ℤ) (timeout : ℕ)
    (payload : List ℕ) (x : AnyObject) → Covers places x
    → QuietAct places (queries now com_id status timeout payload x)
queries_quiet places now com_id status timeout payload (Replier r) covers =
    answered_quiet places (query_refusal r status timeout payload) r _ _ payload tt
queries_quiet places now com_id status timeout payload (Publisher p) covers =
    answers_quiet places (Publisher p) _ tt
queries_quiet places now com_id status timeout payload (Subscription u) covers =
    answers_quiet places (Subscription u) _ tt
queries_quiet places now com_id status timeout payload (Requester r) covers =
    answers_quiet places (Requester r) _ tt
queries_quiet places now com_id status timeout payload (Listener l) covers =
    answers_quiet places (Listener l) _ tt
queries_quiet places now com_id status timeout payload (Caller c) covers =
    answers_quiet places (Caller c) _ covers

-- at a ReplyError
pub errors_quiet : (places : List Place) (com_id : ℕ) (status : ℤ) (x : AnyObject)
    → Covers places x → QuietAct places (reply_errors com_id status x)
errors_quiet places com_id status (Replier r) covers =
    answered_quiet places (error_refusal r status) r None _ [] tt
errors_quiet places com_id status (Publisher p) covers = answers_quiet places (Publisher p) _ tt
errors_quiet places com_id status (Subscription u) covers =
    answers_quiet places (Subscription u) _ tt
errors_quiet places com_id status (Requester r) covers = answers_quiet places (Requester r) _ tt
errors_quiet places com_id status (Listener l) covers = answers_quiet places (Listener l) _ tt
errors_quiet places com_id status (Caller c) covers = answers_quiet places (Caller c) _ covers

confirming_covers : (places : List Place) (c : AnyCaller) (place : Place)
    → Covers places (Caller c) → Covers places (Caller (confirming c place))
unfolding confirming confirmed
confirming_covers places c place covers = either (awaits c.answers place)
  where
    either : (b : Bool) → Covers places
        (Caller (if b then record c { answers = map (confirmed_if place) c.answers } else c))
    either true = λ p none. covers p (answered_before place p c.answers none)
    either false = covers

confirms_unless_quiet : (places : List Place) (refusal : Option Refusal) (handle : ℕ)
    (place : Place) (status : ℤ) (c : AnyCaller) → Covers places (Caller c)
    → QuietAct places (confirms_unless refusal handle place status c)
confirms_unless_quiet places (Some refusal) handle place status c covers =
    record { covers = covers; quiet = λ h. refl }
confirms_unless_quiet places None handle place status c covers =
    either (closed_of (confirming c place)) (confirming_covers places c place covers)
  where
    either : (reason : Option Reason) → Covers places (Caller (confirming c place))
        → QuietAct places (concluded reason handle (confirming c place)
        (Answers DoneIs ∷ Sends Md place (md_bytes (confirm_of c.terms status) []) ∷ []))
    either None later = record { covers = later; quiet = λ h. refl }
    either (Some reason) later = record { covers = tt; quiet = λ h. refl }

-- at a Confirm
pub confirms_quiet : (places : List Place) (handle : ℕ) (place : Place) (status : ℤ)
    (x : AnyObject) → Covers places x → QuietAct places (confirms handle place status x)
confirms_quiet places handle place status (Caller c) covers =
    confirms_unless_quiet places (confirm_refusal c place status) handle place status c covers
confirms_quiet places handle place status (Publisher p) covers =
    answers_quiet places (Publisher p) _ tt
confirms_quiet places handle place status (Subscription u) covers =
    answers_quiet places (Subscription u) _ tt
confirms_quiet places handle place status (Requester r) covers =
    answers_quiet places (Requester r) _ tt
confirms_quiet places handle place status (Listener l) covers =
    answers_quiet places (Listener l) _ tt
confirms_quiet places handle place status (Replier r) covers =
    answers_quiet places (Replier r) _ tt

-- at an Abort
pub aborts_quiet : (places : List Place) (x : AnyObject) → Covers places x
    → QuietAct places (aborts x)
aborts_quiet places (Caller c) covers = record { covers = tt; quiet = λ h. refl }
aborts_quiet places (Replier r) covers = record { covers = tt; quiet = λ h. refl }
aborts_quiet places (Publisher p) covers = answers_quiet places (Publisher p) _ tt
aborts_quiet places (Subscription u) covers = answers_quiet places (Subscription u) _ tt
aborts_quiet places (Requester r) covers = answers_quiet places (Requester r) _ tt
aborts_quiet places (Listener l) covers = answers_quiet places (Listener l) _ tt
