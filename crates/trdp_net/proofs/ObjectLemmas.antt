-- An object of any kind in one move.
-- For the five promises of `laws`, through `SlotLemmas` and `CallEffectLemmas`.
-- By cases on the kind, of which each has its lemma in `DataObjectLemmas`, `CallerMoveLemmas`,
-- `CallerConfirmLemmas` or `ReplierLemmas`.
use Rattle.std.proofs.Common.{◌≡◌, ℕ, ◌<◌, ◌≤◌, ◌^◌, ℤ, List, [], ◌∷◌, length, Some, None}
use Rattle.std.proofs.Common.{Bool, true, false, refl, arith}
use Rattle.std.specs.Prelude.{nat_lt, not, if◌then◌else◌, FitsSigned}
use Rattle.std.specs.Int.{w32}
use Rattle.std.proofs.lemmas.Bool.Decides.{nat_tests}
use Rattle.trdp_base.specs.declared.place.Place.{Place}
use Rattle.trdp_head.specs.declared.md.MdKind.TheVariants as message
use Rattle.trdp_filter.specs.declared.globals.Globals.{Globals}
use Rattle.trdp_filter.specs.Counts.{topo_valid}
use Rattle.trdp_filter.specs.Telegrams.{TelegramModel, PdIs, MdIs}
use Rattle.trdp_md.specs.Listeners.{listener_addressed}
use Rattle.trdp_md.specs.declared.listener.Listener.{Listener as AnyListener}
use Rattle.trdp_pd.specs.declared.object.Taken.TheVariants as took
use Rattle.trdp_head.specs.declared.md.MdKind.{MdKind}
use Rattle.trdp_head.specs.MdTelegrams.{MdTelegram}
use Rattle.trdp_model.specs.declared.kind.Kind.{Kind}
use Rattle.trdp_model.specs.Kinds.{kind_of, is_same_kind}
use Rattle.trdp_model.specs.declared.any_object.AnyObject.{AnyObject}
use Rattle.trdp_model.specs.declared.any_object.AnyObject.TheVariants.{Publisher, Subscription}
use Rattle.trdp_model.specs.declared.any_object.AnyObject.TheVariants.{Requester, Listener}
use Rattle.trdp_model.specs.declared.any_object.AnyObject.TheVariants.{Caller, Replier}
use Rattle.trdp_model.specs.declared.fault.Refusal.TheVariants as refusals
use Rattle.trdp_model.specs.declared.record.Protocol.TheVariants.{Md}
use Rattle.trdp_model.specs.Configs.{NodeSetup, is_fitting}
use Rattle.trdp_model.specs.Records.{Content, AnswerModel, Answers, DoneIs}
use Rattle.trdp_model.specs.Acts.{answers, refuses}
use Rattle.trdp_model.specs.Moments.{firing_act}
use Rattle.trdp_model.specs.Notices.{message_of, heard_as}
use Rattle.trdp_model.specs.Datagrams.{taking_act, taken_records, left_taking}
use Rattle.trdp_model.specs.Calls.{value_refusal, puts, ends, shows}
use Rattle.trdp_model.specs.Pulls.{pulls}
use Rattle.trdp_model.specs.Replies.{replies, queries, reply_errors, confirms, aborts}
use Rattle.trdp_model.specs.Replies.{error_refusal}
use Rattle.trdp_model.specs.Replies.{confirm_refusal}
use Rattle.trdp_model.specs.Events.{PutCall, ReplyCall, QueryCall, ReplyErrorCall, ConfirmCall}
use Rattle.trdp_model.specs.Events.{MomentIs, CallIs}
use Rattle.trdp_net.specs.Networks.{Move, place_of}
use Rattle.trdp_net.specs.Provenance.{In, Spot, Gives, Held}
use Rattle.trdp_net.proofs.Kept.{ObjectKept, object_later, ActKept, nothing_kept}
use Rattle.trdp_net.proofs.DataObjectLemmas.{publisher_fires, publisher_takes, subscription_fires}
use Rattle.trdp_net.proofs.DataObjectLemmas.{subscription_takes, puts_kept, pulls_kept}
use Rattle.trdp_net.proofs.CallerMoveLemmas.{caller_takes, caller_fires}
use Rattle.trdp_net.proofs.CallerConfirmLemmas.{confirms_kept}
use Rattle.trdp_net.proofs.ReplierLemmas.{replier_takes, replier_fires, replies_kept, queries_kept}
use Rattle.trdp_net.proofs.ReplierLemmas.{errors_kept}
use Rattle.trdp_net.proofs.Explained.{DataBy, MessageBy, IsFrom, ToldBy}
use Rattle.trdp_net.proofs.TypedMoveLemmas.{IsTypedObject}
use Rattle.trdp_net.specs.Provenance.{Each}

-- at a moment
pub fires_kept : (past : List Move) (m : Move) (at : Spot) (t : ℕ) (globals : Globals)
    (x : AnyObject) → m.event ≡ MomentIs t → IsTypedObject x
    → ObjectKept past m.before.setup at x → Held at x m
    → ActKept past m at
    (firing_act globals (record { handle = at.handle; object = x }))
fires_kept past m at t globals (Publisher p) event fits kept held =
    publisher_fires past m at globals p fits kept
fires_kept past m at t globals (Subscription u) event fits kept held =
    subscription_fires past m at globals u
fires_kept past m at t globals (Requester r) event fits kept held =
    nothing_kept past m at (Requester r) kept
fires_kept past m at t globals (Listener l) event fits kept held =
    nothing_kept past m at (Listener l) kept
fires_kept past m at t globals (Caller c) event fits kept held =
    caller_fires past m at t globals c event fits kept held
fires_kept past m at t globals (Replier r) event fits kept held =
    replier_fires past m at globals r

-- what a telegram was sent as, to the node of a move whose event brings it
abbrev pub TelegramBy : List Move → Move → TelegramModel → Type 0
TelegramBy past m (PdIs src dst t) = DataBy t.head.kind past t
TelegramBy past m (MdIs src dst t) =
    IsFrom src m.event × MessageBy t.head.kind past src (place_of Md m.before.setup) t

-- a listener that heard a message
heard_kept : (kind : MdKind) (past : List Move) (m : Move) (k s h : ℕ) (src to : Place)
    (t : MdTelegram) → MessageBy kind past src to t
    → Each (ToldBy past m k s) (heard_as kind h (message_of src t))
heard_kept message.Notify past m k s h src to t origin = (origin, tt)
heard_kept message.Request past m k s h src to t origin = tt
heard_kept message.Reply past m k s h src to t origin = tt
heard_kept message.Query past m k s h src to t origin = tt
heard_kept message.Error past m k s h src to t origin = tt
heard_kept message.Confirm past m k s h src to t origin = tt

listener_takes : (past : List Move) (m : Move) (at : Spot) (setup : NodeSetup)
    (telegram : TelegramModel) (globals : Globals) (l : AnyListener)
    → TelegramBy past m telegram
    → ActKept past m at (taking_act setup telegram globals
    (record { handle = at.handle; object = Listener l }))
listener_takes past m at setup (PdIs src dst t) globals l origin =
    record { stays = tt; tells = tt }
listener_takes past m at setup (MdIs src dst t) globals l origin =
    either (listener_addressed l (MdIs src dst t) globals)
  where
    either : (b : Bool) → ActKept past m at (record {
      left = left_taking (if b then took.Heard else took.Nothing) (Listener l);
      records = taken_records setup (MdIs src dst t) at.handle (Listener l)
          (if b then took.Heard else took.Nothing);
    })
    either true = record {
      stays = tt;
      tells = heard_kept t.head.kind past m at.node at.slot at.handle src
          (place_of Md m.before.setup) t origin.1;
    }
    either false = record { stays = tt; tells = tt }

-- at a telegram
pub takes_kept : (past : List Move) (m : Move) (at : Spot) (setup : NodeSetup)
    (telegram : TelegramModel) (globals : Globals) (x : AnyObject)
    → TelegramBy past m telegram
    → IsTypedObject x → ObjectKept past m.before.setup at x → Held at x m
    → ((content : Content) → In content (taking_act setup telegram globals
    (record { handle = at.handle; object = x })).records
    → Gives at.node at.slot content m)
    → ActKept past m at (taking_act setup telegram globals
    (record { handle = at.handle; object = x }))
takes_kept past m at setup telegram globals (Publisher p) origin fits kept held given =
    publisher_takes past m at setup telegram globals p fits kept
takes_kept past m at setup (PdIs src dst t) globals (Subscription u) origin fits kept held
    given =
    subscription_takes past m at setup src dst t globals u origin kept
takes_kept past m at setup (MdIs src dst t) globals (Subscription u) origin fits kept held
    given =
    nothing_kept past m at (Subscription u) kept
takes_kept past m at setup telegram globals (Requester r) origin fits kept held given =
    nothing_kept past m at (Requester r) kept
takes_kept past m at setup telegram globals (Listener l) origin fits kept held given =
    listener_takes past m at setup telegram globals l origin
takes_kept past m at setup (PdIs src dst t) globals (Caller c) origin fits kept held given =
    nothing_kept past m at (Caller c) kept
takes_kept past m at setup (MdIs src dst t) globals (Caller c) origin fits kept held given =
    caller_takes past m at setup src dst (place_of Md m.before.setup) t globals c origin.1 origin.0
    kept held given
takes_kept past m at setup (PdIs src dst t) globals (Replier r) origin fits kept held given =
    nothing_kept past m at (Replier r) kept
takes_kept past m at setup (MdIs src dst t) globals (Replier r) origin fits kept held given =
    replier_takes past m at setup src dst t globals r origin.1 kept held

-- at a call

answers_kept : (past : List Move) (m : Move) (at : Spot) (x : AnyObject) (answer : AnswerModel)
    → ObjectKept past m.before.setup at x → ActKept past m at (answers x answer)
answers_kept past m at x answer kept =
    record { stays = object_later past m m.before.setup at x kept; tells = (tt, tt) }

value_limit : (setup : NodeSetup) (dataset : ℕ) (bytes : List ℕ)
    → value_refusal setup dataset bytes ≡ None → length bytes ≤ 1432
value_limit setup dataset bytes none =
    either (nat_lt 1432 (length bytes)) (not (is_fitting setup dataset bytes)) refl none
  where
    either : (a b : Bool) → nat_lt 1432 (length bytes) ≡ a
        → (if a then Some refusals.TooLong else if b then Some refusals.Shape else None) ≡ None
        → length bytes ≤ 1432
    either true b is none = absurd (cc none)
    either false b is none = grind (arith, nat_tests)

-- at a Put
pub put_kept : (past : List Move) (m : Move) (at : Spot) (setup : NodeSetup) (bytes : List ℕ)
    (x : AnyObject) → m.event ≡ CallIs at.slot (PutCall at.handle bytes)
    → ObjectKept past m.before.setup at x → Held at x m
    → ((content : Content) → In content (puts setup bytes x).records
    → Gives at.node at.slot content m)
    → ActKept past m at (puts setup bytes x)
put_kept past m at setup bytes (Publisher p) event kept held given =
    puts_kept past m at bytes (value_refusal setup p.terms.dataset bytes) p
    (value_limit setup p.terms.dataset bytes) event kept held given
put_kept past m at setup bytes (Subscription u) event kept held given =
    answers_kept past m at (Subscription u) _ kept
put_kept past m at setup bytes (Requester r) event kept held given =
    answers_kept past m at (Requester r) _ kept
put_kept past m at setup bytes (Listener l) event kept held given =
    answers_kept past m at (Listener l) _ kept
put_kept past m at setup bytes (Caller c) event kept held given =
    answers_kept past m at (Caller c) _ kept
put_kept past m at setup bytes (Replier r) event kept held given =
    answers_kept past m at (Replier r) _ kept

-- at an Unpublish, Unsubscribe, ClosePull or Unlisten
pub ends_kept : (past : List Move) (m : Move) (at : Spot) (kind : Kind) (x : AnyObject)
    → ObjectKept past m.before.setup at x → ActKept past m at (ends kind x)
ends_kept past m at kind x kept = either (is_same_kind (kind_of x) kind)
  where
    either : (b : Bool) → ActKept past m at
        (if b then record { left = None; records = Answers DoneIs ∷ [] }
        else refuses x refusals.WrongKind)
    either true = record { stays = tt; tells = (tt, tt) }
    either false = answers_kept past m at x _ kept

-- at a Get
pub shows_kept : (past : List Move) (m : Move) (at : Spot) (x : AnyObject)
    → ObjectKept past m.before.setup at x → ActKept past m at (shows x)
shows_kept past m at x kept = answers_kept past m at x _ kept

-- at a Pull
pub pull_kept : (past : List Move) (m : Move) (at : Spot) (globals : Globals) (x : AnyObject)
    → IsTypedObject x → ObjectKept past m.before.setup at x → ActKept past m at (pulls globals x)
pull_kept past m at globals (Requester r) fits kept =
    pulls_kept past m at (topo_valid r.terms.topo globals.topo) r fits
pull_kept past m at globals (Publisher p) fits kept =
    answers_kept past m at (Publisher p) _ kept
pull_kept past m at globals (Subscription u) fits kept =
    answers_kept past m at (Subscription u) _ kept
pull_kept past m at globals (Listener l) fits kept =
    answers_kept past m at (Listener l) _ kept
pull_kept past m at globals (Caller c) fits kept = answers_kept past m at (Caller c) _ kept
pull_kept past m at globals (Replier r) fits kept = answers_kept past m at (Replier r) _ kept

-- at a Reply
pub reply_kept : (past : List Move) (m : Move) (at : Spot) (com_id : ℕ) (status : ℤ)
    (payload : List ℕ) (x : AnyObject)
    → m.event ≡ CallIs at.slot (ReplyCall at.handle com_id status payload)
    → com_id < 2 ^ 32 → FitsSigned w32 status
    → IsTypedObject x → ObjectKept past m.before.setup at x → Held at x m
    → ((content : Content) → In content (replies com_id status payload x).records
    → Gives at.node at.slot content m)
    → ActKept past m at (replies com_id status payload x)
reply_kept past m at com_id status payload (Replier r) event c s fits kept held given =
    replies_kept past m at com_id status payload r event fits c s kept held given
reply_kept past m at com_id status payload (Publisher p) event c s fits kept held given =
    answers_kept past m at (Publisher p) _ kept
reply_kept past m at com_id status payload (Subscription u) event c s fits kept held given =
    answers_kept past m at (Subscription u) _ kept
reply_kept past m at com_id status payload (Requester r) event c s fits kept held given =
    answers_kept past m at (Requester r) _ kept
reply_kept past m at com_id status payload (Listener l) event c s fits kept held given =
    answers_kept past m at (Listener l) _ kept
reply_kept past m at com_id status payload (Caller x) event c s fits kept held given =
    answers_kept past m at (Caller x) _ kept

-- at a Query
pub query_kept : (past : List Move) (m : Move) (at : Spot) (now com_id : ℕ) (status : ℤ)
    (timeout : ℕ) (payload : List ℕ) (x : AnyObject)
    → m.event ≡ CallIs at.slot (QueryCall at.handle com_id status timeout payload)
    → com_id < 2 ^ 32 → FitsSigned w32 status → timeout < 2 ^ 32
    → IsTypedObject x → ObjectKept past m.before.setup at x → Held at x m
    → ((content : Content) → In content (queries now com_id status timeout payload x).records
    → Gives at.node at.slot content m)
    → ActKept past m at (queries now com_id status timeout payload x)
query_kept past m at now com_id status timeout payload
    (Replier r) event c s t fits kept held given =
    queries_kept past m at now com_id status timeout payload r event fits c s t kept held given
query_kept past m at now com_id status timeout payload (Publisher p) event c s t fits kept held
    given =
    answers_kept past m at (Publisher p) _ kept
query_kept past m at now com_id status timeout payload (Subscription u) event c s t fits kept held
    given =
    answers_kept past m at (Subscription u) _ kept
query_kept past m at now com_id status timeout payload (Requester r) event c s t fits kept held
    given =
    answers_kept past m at (Requester r) _ kept
query_kept past m at now com_id status timeout payload (Listener l) event c s t fits kept held
    given =
    answers_kept past m at (Listener l) _ kept
query_kept past m at now com_id status timeout payload
    (Caller x) event c s t fits kept held given =
    answers_kept past m at (Caller x) _ kept

-- at a ReplyError
pub error_kept : (past : List Move) (m : Move) (at : Spot) (com_id : ℕ) (status : ℤ)
    (x : AnyObject) → m.event ≡ CallIs at.slot (ReplyErrorCall at.handle com_id status)
    → com_id < 2 ^ 32 → FitsSigned w32 status
    → IsTypedObject x → ObjectKept past m.before.setup at x → Held at x m
    → ((content : Content) → In content (reply_errors com_id status x).records
    → Gives at.node at.slot content m)
    → ActKept past m at (reply_errors com_id status x)
error_kept past m at com_id status (Replier r) event c s fits kept held given =
    errors_kept past m at com_id status (error_refusal r status) r event fits c s kept held given
error_kept past m at com_id status (Publisher p) event c s fits kept held given =
    answers_kept past m at (Publisher p) _ kept
error_kept past m at com_id status (Subscription u) event c s fits kept held given =
    answers_kept past m at (Subscription u) _ kept
error_kept past m at com_id status (Requester r) event c s fits kept held given =
    answers_kept past m at (Requester r) _ kept
error_kept past m at com_id status (Listener l) event c s fits kept held given =
    answers_kept past m at (Listener l) _ kept
error_kept past m at com_id status (Caller x) event c s fits kept held given =
    answers_kept past m at (Caller x) _ kept

-- at a Confirm
pub confirm_kept : (past : List Move) (m : Move) (at : Spot) (place : Place) (status : ℤ)
    (x : AnyObject) → m.event ≡ CallIs at.slot (ConfirmCall at.handle place status)
    → FitsSigned w32 status
    → IsTypedObject x → ObjectKept past m.before.setup at x → Held at x m
    → ((content : Content) → In content (confirms at.handle place status x).records
    → Gives at.node at.slot content m)
    → ActKept past m at (confirms at.handle place status x)
confirm_kept past m at place status (Caller c) event s fits kept held given =
    confirms_kept past m at (confirm_refusal c place status) place status c refl event fits s kept
    held given
confirm_kept past m at place status (Publisher p) event s fits kept held given =
    answers_kept past m at (Publisher p) _ kept
confirm_kept past m at place status (Subscription u) event s fits kept held given =
    answers_kept past m at (Subscription u) _ kept
confirm_kept past m at place status (Requester r) event s fits kept held given =
    answers_kept past m at (Requester r) _ kept
confirm_kept past m at place status (Listener l) event s fits kept held given =
    answers_kept past m at (Listener l) _ kept
confirm_kept past m at place status (Replier r) event s fits kept held given =
    answers_kept past m at (Replier r) _ kept

-- at an Abort
pub abort_kept : (past : List Move) (m : Move) (at : Spot) (x : AnyObject)
    → ObjectKept past m.before.setup at x → ActKept past m at (aborts x)
abort_kept past m at (Caller c) kept = record { stays = tt; tells = (tt, tt) }
abort_kept past m at (Replier r) kept = record { stays = tt; tells = (tt, tt) }
abort_kept past m at (Publisher p) kept = answers_kept past m at (Publisher p) _ kept
abort_kept past m at (Subscription u) kept = answers_kept past m at (Subscription u) _ kept
abort_kept past m at (Requester r) kept = answers_kept past m at (Requester r) _ kept
abort_kept past m at (Listener l) kept = answers_kept past m at (Listener l) _ kept
