-- An object that fits sends what fits, at a call that fits.
-- For the promises that need `AreTypedSteps`, through `TypedSlotLemmas`.
-- By cases on the kind of object: its header's fields are its own or the call's.
use Rattle.std.proofs.Common.{◌≡◌, ℕ, ◌<◌, ◌≤◌, ◌^◌, ℤ, List, [], ◌∷◌, length}
use Rattle.std.proofs.Common.{Option, Some, None, Bool, true, false, refl, arith}
use Rattle.std.specs.Prelude.{if◌then◌else◌, FitsSigned}
use Rattle.std.specs.Int.{w32}
use Rattle.trdp_base.specs.declared.place.Place.{Place}
use Rattle.trdp_head.specs.declared.md.MdHead.{MdHead}
use Rattle.trdp_head.specs.declared.md.MdKind.TheVariants as message
use Rattle.trdp_head.specs.MdHeads.{IsMdHead}
use Rattle.trdp_head.specs.MdBytes.{md_bytes}
use Rattle.trdp_filter.specs.declared.globals.Globals.{Globals}
use Rattle.trdp_filter.specs.Counts.{topo_valid}
use Rattle.trdp_pd.specs.declared.object.Reason.{Reason}
use Rattle.trdp_md.specs.declared.replier.Replier.{Replier as AnyReplier}
use Rattle.trdp_md.specs.Answers.{awaits, confirmed}
use Rattle.trdp_md.specs.Callers.{confirming}
use Rattle.trdp_md.specs.Callers.{closed_of, confirm_of}
use Rattle.trdp_md.specs.Repliers.{queried, answer_with}
use Rattle.trdp_model.specs.declared.kind.Kind.{Kind}
use Rattle.trdp_model.specs.Kinds.{kind_of, is_same_kind}
use Rattle.trdp_model.specs.declared.any_object.AnyObject.{AnyObject}
use Rattle.trdp_model.specs.declared.any_object.AnyObject.TheVariants.{Publisher, Subscription}
use Rattle.trdp_model.specs.declared.any_object.AnyObject.TheVariants.{Requester, Listener}
use Rattle.trdp_model.specs.declared.any_object.AnyObject.TheVariants.{Caller, Replier}
use Rattle.trdp_model.specs.declared.record.Protocol.TheVariants.{Md}
use Rattle.trdp_model.specs.declared.fault.Refusal.{Refusal}
use Rattle.trdp_model.specs.declared.fault.Refusal.TheVariants as refusals
use Rattle.trdp_model.specs.Configs.{NodeSetup}
use Rattle.trdp_model.specs.Records.{DoneIs}
use Rattle.trdp_model.specs.Records.{Answers, Sends}
use Rattle.trdp_model.specs.Acts.{refuses}
use Rattle.trdp_model.specs.Calls.{puts}
use Rattle.trdp_model.specs.Calls.{ends, value_refusal}
use Rattle.trdp_model.specs.Calls.{puts_unless}
use Rattle.trdp_model.specs.Pulls.{pulls, pulls_if}
use Rattle.trdp_model.specs.Replies.{replies, queries, reply_errors, confirms, aborts}
use Rattle.trdp_model.specs.Replies.{answers_unless, confirms_unless, confirm_refusal, concluded}
use Rattle.trdp_model.specs.Replies.{reply_refusal, query_refusal, error_refusal}
use Rattle.trdp_net.proofs.HeadLemmas.{confirm_head, answer_head}
use Rattle.trdp_net.proofs.ReplierLemmas.{reply_limit, query_limit}
use Rattle.trdp_net.proofs.TypedMoveLemmas.{IsCaller, IsReplier, IsTypedObject}
use Rattle.trdp_net.proofs.TypedObjectLemmas.{IsSentTyped, md_typed, LeftTyped, ActTyped}
use Rattle.trdp_net.proofs.TypedObjectLemmas.{answers_typed}
use Rattle.trdp_net.proofs.TypedObjectLemmas.{next_fits}

-- at a call
pub puts_typed : (setup : NodeSetup) (bytes : List ℕ) (x : AnyObject) → IsTypedObject x
    → ActTyped (puts setup bytes x)
puts_typed setup bytes (Publisher p) fits = either (value_refusal setup p.terms.dataset bytes)
  where
    either : (refusal : Option Refusal) → ActTyped (puts_unless refusal bytes p)
    either (Some refusal) = record { left = fits; sends = (tt, tt) }
    either None = record {
      left = record { counter = fits.counter; com_id = fits.com_id; topo = fits.topo };
      sends = (tt, tt);
    }
puts_typed setup bytes (Subscription u) fits = answers_typed (Subscription u) _ fits
puts_typed setup bytes (Requester r) fits = answers_typed (Requester r) _ fits
puts_typed setup bytes (Listener l) fits = answers_typed (Listener l) _ fits
puts_typed setup bytes (Caller c) fits = answers_typed (Caller c) _ fits
puts_typed setup bytes (Replier r) fits = answers_typed (Replier r) _ fits

-- at an Unpublish, Unsubscribe, ClosePull or Unlisten
pub ends_typed : (kind : Kind) (x : AnyObject) → IsTypedObject x → ActTyped (ends kind x)
ends_typed kind x fits = either (is_same_kind (kind_of x) kind)
  where
    either : (b : Bool) → ActTyped
        (if b then record { left = None; records = Answers DoneIs ∷ [] }
        else refuses x refusals.WrongKind)
    either true = record { left = tt; sends = (tt, tt) }
    either false = answers_typed x _ fits

-- at a Pull
pub pulls_typed : (globals : Globals) (x : AnyObject) → IsTypedObject x
    → ActTyped (pulls globals x)
pulls_typed globals (Requester r) fits = either (topo_valid r.terms.topo globals.topo)
  where
    either : (b : Bool) → ActTyped (pulls_if b r)
    either true = record {
      left = record {
        counter = next_fits r.counter;
        com_id = fits.com_id;
        topo = fits.topo;
        reply_com_id = fits.reply_com_id;
        reply_ip = fits.reply_ip;
      };
      sends = (tt, (tt, tt));
    }
    either false = record { left = fits; sends = (tt, tt) }
pulls_typed globals (Publisher p) fits = answers_typed (Publisher p) _ fits
pulls_typed globals (Subscription u) fits = answers_typed (Subscription u) _ fits
pulls_typed globals (Listener l) fits = answers_typed (Listener l) _ fits
pulls_typed globals (Caller c) fits = answers_typed (Caller c) _ fits
pulls_typed globals (Replier r) fits = answers_typed (Replier r) _ fits

answered_typed : (refusal : Option Refusal) (r : AnyReplier) (left : Option AnyObject)
    (head : MdHead) (payload : List ℕ) → IsReplier r → LeftTyped left → IsMdHead head
    → (refusal ≡ None → length payload ≤ 65388)
    → ActTyped (answers_unless refusal r left head payload)
answered_typed (Some refusal) r left head payload fits left_fits head_fits limit =
    record { left = fits; sends = (tt, tt) }
answered_typed None r left head payload fits left_fits head_fits limit =
    record { left = left_fits; sends = (tt, (md_typed head payload head_fits (limit refl), tt)) }

-- at a Reply
pub replies_typed : (com_id : ℕ) (status : ℤ) (payload : List ℕ) (x : AnyObject)
    → com_id < 2 ^ 32 → FitsSigned w32 status → IsTypedObject x
    → ActTyped (replies com_id status payload x)
replies_typed com_id status payload (Replier r) c s fits =
    answered_typed (reply_refusal r status payload) r None
    (answer_with r message.Reply com_id status 0) payload fits tt
    (answer_head r message.Reply com_id status 0 fits c s (omega arith))
    (reply_limit r status payload)
replies_typed com_id status payload (Publisher p) c s fits = answers_typed (Publisher p) _ fits
replies_typed com_id status payload (Subscription u) c s fits =
    answers_typed (Subscription u) _ fits
replies_typed com_id status payload (Requester r) c s fits = answers_typed (Requester r) _ fits
replies_typed com_id status payload (Listener l) c s fits = answers_typed (Listener l) _ fits
replies_typed com_id status payload (Caller x) c s fits = answers_typed (Caller x) _ fits

-- at a Query
pub queries_typed : (now com_id : ℕ) (status : ℤ) (timeout : ℕ) (payload : List ℕ) (x : AnyObject)
    → com_id < 2 ^ 32 → FitsSigned w32 status → timeout < 2 ^ 32 → IsTypedObject x
    → ActTyped (queries now com_id status timeout payload x)
queries_typed now com_id status timeout payload (Replier r) c s t fits =
    answered_typed (query_refusal r status timeout payload) r
    (Some (Replier (queried r now timeout)))
    (answer_with r message.Query com_id status timeout) payload fits
    (record {
      topo = fits.topo;
      session = fits.session;
      source_uri = fits.source_uri;
      dest_uri = fits.dest_uri;
    })
    (answer_head r message.Query com_id status timeout fits c s t)
    (query_limit r status timeout payload)
queries_typed now com_id status timeout payload (Publisher p) c s t fits =
    answers_typed (Publisher p) _ fits
queries_typed now com_id status timeout payload (Subscription u) c s t fits =
    answers_typed (Subscription u) _ fits
queries_typed now com_id status timeout payload (Requester r) c s t fits =
    answers_typed (Requester r) _ fits
queries_typed now com_id status timeout payload (Listener l) c s t fits =
    answers_typed (Listener l) _ fits
queries_typed now com_id status timeout payload (Caller x) c s t fits =
    answers_typed (Caller x) _ fits

-- at a ReplyError
pub errors_typed : (com_id : ℕ) (status : ℤ) (x : AnyObject) → com_id < 2 ^ 32
    → FitsSigned w32 status
    → IsTypedObject x → ActTyped (reply_errors com_id status x)
errors_typed com_id status (Replier r) c s fits =
    answered_typed (error_refusal r status) r None (answer_with r message.Error com_id status 0) []
    fits tt (answer_head r message.Error com_id status 0 fits c s (omega arith))
    (λ none. omega arith)
errors_typed com_id status (Publisher p) c s fits = answers_typed (Publisher p) _ fits
errors_typed com_id status (Subscription u) c s fits = answers_typed (Subscription u) _ fits
errors_typed com_id status (Requester r) c s fits = answers_typed (Requester r) _ fits
errors_typed com_id status (Listener l) c s fits = answers_typed (Listener l) _ fits
errors_typed com_id status (Caller x) c s fits = answers_typed (Caller x) _ fits

-- at a Confirm
pub confirms_typed : (handle : ℕ) (place : Place) (status : ℤ) (x : AnyObject)
    → FitsSigned w32 status
    → IsTypedObject x → ActTyped (confirms handle place status x)
unfolding confirming
confirms_typed handle place status (Caller c) s fits = either (confirm_refusal c place status)
  where
    sent : IsSentTyped Md (md_bytes (confirm_of c.terms status) [])
    sent = md_typed (confirm_of c.terms status) [] (confirm_head c.terms status fits.terms s)
        (omega arith)

    later : IsCaller (confirming c place)
    later = by (awaits c.answers place)
      where
        by : (b : Bool)
            → IsCaller (if b then record c { answers = confirmed c.answers place } else c)
        by true = record { terms = fits.terms; counter = fits.counter; payload = fits.payload }
        by false = fits

    over : (reason : Option Reason) → ActTyped (concluded reason handle (confirming c place)
        (Answers DoneIs ∷ Sends Md place (md_bytes (confirm_of c.terms status) []) ∷ []))
    over None = record { left = later; sends = (tt, (sent, tt)) }
    over (Some reason) = record { left = tt; sends = (tt, (sent, (tt, tt))) }

    either : (refusal : Option Refusal) → ActTyped (confirms_unless refusal handle place status c)
    either (Some refusal) = record { left = fits; sends = (tt, tt) }
    either None = over (closed_of (confirming c place))
confirms_typed handle place status (Publisher p) s fits = answers_typed (Publisher p) _ fits
confirms_typed handle place status (Subscription u) s fits = answers_typed (Subscription u) _ fits
confirms_typed handle place status (Requester r) s fits = answers_typed (Requester r) _ fits
confirms_typed handle place status (Listener l) s fits = answers_typed (Listener l) _ fits
confirms_typed handle place status (Replier r) s fits = answers_typed (Replier r) _ fits

-- at an Abort
pub aborts_typed : (x : AnyObject) → IsTypedObject x → ActTyped (aborts x)
aborts_typed (Caller c) fits = record { left = tt; sends = (tt, tt) }
aborts_typed (Replier r) fits = record { left = tt; sends = (tt, tt) }
aborts_typed (Publisher p) fits = answers_typed (Publisher p) _ fits
aborts_typed (Subscription u) fits = answers_typed (Subscription u) _ fits
aborts_typed (Requester r) fits = answers_typed (Requester r) _ fits
aborts_typed (Listener l) fits = answers_typed (Listener l) _ fits
