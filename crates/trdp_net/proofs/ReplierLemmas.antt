-- A replier in one move.
-- For `no_invented_reply` and `no_invented_confirm`, through `ObjectLemmas`.
-- It was asked by the request that opened it, and awaits a confirmation only once it has queried.
use Rattle.std.proofs.Common.{◌≡◌, ℕ, ◌<◌, ◌≤◌, ◌^◌, ℤ, List, [], ◌∷◌, length, Option, Some, None}
use Rattle.std.proofs.Common.{Bool, true, false, refl, ap, subst, arith, inl, inr}
use Rattle.std.specs.Prelude.{nat_lt, not, if◌then◌else◌, FitsSigned, int_lt}
use Rattle.std.specs.Prelude.{pos}
use Rattle.std.specs.Int.{w32}
use Rattle.std.proofs.lemmas.Bool.Decides.{nat_tests}
use Rattle.trdp_base.specs.declared.place.Place.{Place}
use Rattle.trdp_base.specs.declared.session.SessionId.{SessionId}
use Rattle.trdp_head.specs.declared.md.MdKind.{MdKind}
use Rattle.trdp_head.specs.declared.md.MdKind.TheVariants as message
use Rattle.trdp_head.specs.MdTelegrams.{MdTelegram}
use Rattle.trdp_filter.specs.declared.globals.Globals.{Globals}
use Rattle.trdp_filter.specs.Telegrams.{TelegramModel, MdIs}
use Rattle.trdp_pd.specs.declared.object.Taken.TheVariants as took
use Rattle.trdp_pd.specs.Effects.{Reception}
use Rattle.trdp_md.specs.declared.replier.Replier.{Replier as AnyReplier}
use Rattle.trdp_md.specs.declared.replier.Stage.{Stage}
use Rattle.trdp_md.specs.declared.replier.Stage.TheVariants.{Asked, AwaitConfirm}
use Rattle.trdp_md.specs.Repliers.{is_for_replier, replier_taking, ended, missed, queried}
use Rattle.trdp_md.specs.Repliers.{answer_with}
use Rattle.trdp_md.specs.Sessions.{IsItsConfirmation}
use Rattle.trdp_md.proofs.ReplierLemmas.{confirmed}
use Rattle.trdp_model.specs.declared.any_object.AnyObject.{AnyObject}
use Rattle.trdp_model.specs.declared.any_object.AnyObject.TheVariants.{Replier}
use Rattle.trdp_model.specs.declared.record.Protocol.TheVariants.{Md}
use Rattle.trdp_model.specs.declared.fault.Refusal.{Refusal}
use Rattle.trdp_model.specs.declared.fault.Refusal.TheVariants as refusals
use Rattle.trdp_model.specs.Configs.{NodeSetup}
use Rattle.trdp_model.specs.Records.{Content, DoneIs, Answers}
use Rattle.trdp_model.specs.Acts.{Act}
use Rattle.trdp_model.specs.Replies.{answers_unless, reply_refusal, query_refusal}
use Rattle.trdp_model.specs.Replies.{is_unanswered}
use Rattle.trdp_model.specs.Moments.{firing_act}
use Rattle.trdp_model.specs.Datagrams.{taking_act, taken_records, left_taking}
use Rattle.trdp_model.specs.Events.{CallModel, ReplyCall, QueryCall, ReplyErrorCall, CallIs}
use Rattle.trdp_net.specs.Networks.{Move, place_of}
use Rattle.trdp_net.specs.Provenance.{Ever, In, Spot, Gives, Held, IsAnswerCall, IsAnswered}
use Rattle.trdp_net.specs.Provenance.{IsConfirmedBySome}
use Rattle.trdp_net.proofs.Kept.{ReplierKept, object_later, StaysKept, ActKept}
use Rattle.trdp_net.proofs.HeadLemmas.{answer_head}
use Rattle.trdp_net.proofs.SendingLemmas.{sends_md}
use Rattle.trdp_net.proofs.Explained.{MessageBy, ClosedBy}
use Rattle.trdp_net.proofs.TypedMoveLemmas.{IsReplier}
use Rattle.trdp_net.specs.Promises.{IsConfirmMade}

-- the act of a replier that took a telegram so
abbrev took_act : NodeSetup → TelegramModel → ℕ → AnyReplier → Reception AnyReplier → Act
took_act setup telegram handle r f = record {
  left = left_taking f.taken (Replier f.object);
  records = taken_records setup telegram handle (Replier r) f.taken;
}

confirm_origin : (past : List Move) (from to : Place) (t : MdTelegram)
    → t.head.kind ≡ message.Confirm → MessageBy t.head.kind past from to t
    → Ever (IsConfirmedBySome t.head.session from to t.head.status) past
confirm_origin past from to t is origin =
    subst (λ (k : MdKind). MessageBy k past from to t) is origin

-- a replier at a telegram that was made
pub replier_takes : (past : List Move) (m : Move) (at : Spot) (setup : NodeSetup)
    (src dst : Place) (t : MdTelegram) (globals : Globals) (r : AnyReplier)
    → MessageBy t.head.kind past src (place_of Md m.before.setup) t → ReplierKept past at r
    → Held at (Replier r) m
    → ActKept past m at (taking_act setup (MdIs src dst t) globals
    (record { handle = at.handle; object = Replier r }))
replier_takes past m at setup src dst t globals r origin kept held =
    either (is_for_replier r src t.head) refl
  where
    home : Place
    home = place_of Md m.before.setup

    by : is_for_replier r src t.head ≡ true → IsConfirmMade m past at t.head.status
    by is =
        let taken : (replier_taking r (MdIs src dst t) globals true).taken
        ≡ took.Confirmed t.head.status = rw is refl in
        let its : IsItsConfirmation r (MdIs src dst t) t.head.status =
        (confirmed r (MdIs src dst t) globals true t.head.status).0 taken in
        let session : t.head.session ≡ r.session = ap (λ (n : ℕ). record { 0 = n }) its.2 in
        record {
          r = r;
          held = held;
          queried = kept.queried its.0;
          home = src;
          home_is = its.3;
          confirmed =
              subst
              (λ (s : SessionId). Ever (IsConfirmedBySome s src home t.head.status) past) session
              (confirm_origin past src home t its.1 origin);
        }

    either : (b : Bool) → is_for_replier r src t.head ≡ b
        → ActKept past m at (took_act setup (MdIs src dst t) at.handle r
        (if b then record { object = ended r; taken = took.Confirmed t.head.status }
        else record { object = r; taken = took.Nothing }))
    either true is = record { stays = tt; tells = (by is, tt) }
    either false is =
        record { stays = object_later past m m.before.setup at (Replier r) kept; tells = tt }

-- a replier whose moment has come
pub replier_fires : (past : List Move) (m : Move) (at : Spot) (globals : Globals)
    (r : AnyReplier) → ActKept past m at
    (firing_act globals (record { handle = at.handle; object = Replier r }))
unfolding missed
replier_fires past m at globals r = record { stays = tt; tells = (by_stage r.stage, tt) }
  where
    by_stage : (stage : Stage) → ClosedBy past m at (missed stage)
    by_stage Asked = tt
    by_stage AwaitConfirm = tt

-- an answer that a replier makes
answered_kept : (past : List Move) (m : Move) (at : Spot) (kind : MdKind) (com_id : ℕ) (status : ℤ)
    (timeout : ℕ) (payload : List ℕ) (refusal : Option Refusal) (r : AnyReplier)
    (left : Option AnyObject) (call : CallModel)
    → (refusal ≡ None → length payload ≤ 65388)
    → m.event ≡ CallIs at.slot call
    → IsAnswerCall at.handle (record {
      src = place_of Md m.before.setup;
      kind = kind;
      status = status;
      com_id = com_id;
      payload = payload;
    }) call
    → IsReplier r → com_id < 2 ^ 32 → FitsSigned w32 status → timeout < 2 ^ 32
    → ReplierKept past at r → Held at (Replier r) m
    → ((by : Spot) → IsAnswered at by r.session (record {
      src = place_of Md m.before.setup;
      kind = kind;
      status = status;
      com_id = com_id;
      payload = payload;
    }) m past → StaysKept (m ∷ past) m.before.setup at left)
    → ((by : Spot) → IsAnswered at by r.session (record {
      src = place_of Md m.before.setup;
      kind = kind;
      status = status;
      com_id = com_id;
      payload = payload;
    }) m past → MessageBy kind (m ∷ past) (place_of Md m.before.setup) r.peer
    (record { head = answer_with r kind com_id status timeout; payload = payload }))
    → ((content : Content) → In content
    (answers_unless refusal r left (answer_with r kind com_id status timeout) payload).records
    → Gives at.node at.slot content m)
    → ActKept past m at
    (answers_unless refusal r left (answer_with r kind com_id status timeout) payload)
unfolding answer_with
answered_kept past m at kind com_id status timeout payload (Some refusal) r left call limit event
    is_answer fits com_id_fits status_fits timeout_fits kept held stays origin given =
    record { stays = object_later past m m.before.setup at (Replier r) kept; tells = (tt, tt) }
answered_kept past m at kind com_id status timeout payload None r left call limit event
    is_answer fits com_id_fits status_fits timeout_fits kept held stays origin given =
    let made : IsAnswered at kept.by r.session (record {
      src = place_of Md m.before.setup;
      kind = kind;
      status = status;
      com_id = com_id;
      payload = payload;
    }) m past = record {
      r = r;
      call = call;
      is_answer = is_answer;
      makes = record { event_is = event; gives = given (Answers DoneIs) (inl refl) };
      held = held;
      session_is = refl;
      place_is = refl;
      asked = kept.asked;
    } in
    record {
      stays = stays kept.by made;
      tells = (
        tt,
        (
          sends_md (m ∷ past) (place_of Md m.before.setup) r.peer
              (answer_with r kind com_id status timeout) payload
              (answer_head r kind com_id status timeout fits com_id_fits status_fits timeout_fits)
              (limit refl) (origin kept.by made),
          tt,
        ),
      );
    }

-- a granted Reply carries no more than a telegram of message data holds
pub reply_limit : (r : AnyReplier) (status : ℤ) (payload : List ℕ)
    → reply_refusal r status payload ≡ None → length payload ≤ 65388
reply_limit r status payload none =
    either (not (is_unanswered r.stage)) (int_lt status (pos 0)) (nat_lt 65388
    (length payload)) refl none
  where
    either : (a b c : Bool) → nat_lt 65388 (length payload) ≡ c
        → (if a then Some refusals.State else
        if b then Some refusals.Status else
        if c then Some refusals.TooLong else None) ≡ None
        → length payload ≤ 65388
    either true b c is none = absurd (cc none)
    either false true c is none = absurd (cc none)
    either false false true is none = absurd (cc none)
    either false false false is none = grind (arith, nat_tests)

-- the same of a granted Query
pub query_limit : (r : AnyReplier) (status : ℤ) (timeout : ℕ) (payload : List ℕ)
    → query_refusal r status timeout payload ≡ None → length payload ≤ 65388
query_limit r status timeout payload none =
    either (not (is_unanswered r.stage)) (nat_lt timeout 1000) none
  where
    either : (a b : Bool)
        → (if a then Some refusals.State else
        if b then Some refusals.Timeout else reply_refusal r status payload) ≡ None
        → length payload ≤ 65388
    either true b none = absurd (cc none)
    either false true none = absurd (cc none)
    either false false none = reply_limit r status payload none

-- a replier at a Reply
pub replies_kept : (past : List Move) (m : Move) (at : Spot) (com_id : ℕ) (status : ℤ)
    (payload : List ℕ) (r : AnyReplier)
    → m.event ≡ CallIs at.slot (ReplyCall at.handle com_id status payload)
    → IsReplier r → com_id < 2 ^ 32 → FitsSigned w32 status
    → ReplierKept past at r → Held at (Replier r) m
    → ((content : Content) → In content (answers_unless (reply_refusal r status payload) r None
    (answer_with r message.Reply com_id status 0) payload).records
    → Gives at.node at.slot content m)
    → ActKept past m at (answers_unless (reply_refusal r status payload) r None
    (answer_with r message.Reply com_id status 0) payload)
unfolding answer_with
replies_kept past m at com_id status payload r event fits com_id_fits status_fits kept held given =
    answered_kept past m at message.Reply com_id status 0 payload (reply_refusal r status payload)
    r None (ReplyCall at.handle com_id status payload) (reply_limit r status payload) event
    (refl, refl, refl, refl, refl) fits com_id_fits status_fits (omega arith) kept held
    (λ by made. tt) (λ by made. inl (at, by, made)) given

-- a replier at a Query
pub queries_kept : (past : List Move) (m : Move) (at : Spot) (now com_id : ℕ) (status : ℤ)
    (timeout : ℕ) (payload : List ℕ) (r : AnyReplier)
    → m.event ≡ CallIs at.slot (QueryCall at.handle com_id status timeout payload)
    → IsReplier r → com_id < 2 ^ 32 → FitsSigned w32 status → timeout < 2 ^ 32
    → ReplierKept past at r → Held at (Replier r) m
    → ((content : Content) → In content
    (answers_unless (query_refusal r status timeout payload) r
    (Some (Replier (queried r now timeout)))
    (answer_with r message.Query com_id status timeout) payload).records
    → Gives at.node at.slot content m)
    → ActKept past m at (answers_unless (query_refusal r status timeout payload) r
    (Some (Replier (queried r now timeout)))
    (answer_with r message.Query com_id status timeout) payload)
unfolding answer_with
queries_kept past m at now com_id status timeout payload r event fits com_id_fits status_fits
    timeout_fits kept held given =
    answered_kept past m at message.Query com_id status timeout payload
    (query_refusal r status timeout payload) r (Some (Replier (queried r now timeout)))
    (QueryCall at.handle com_id status timeout payload)
    (query_limit r status timeout payload) event
    (refl, refl, refl, refl, refl) fits com_id_fits status_fits timeout_fits kept held
    (λ by made. record {
      by = kept.by;
      asked = inr kept.asked;
      queried = λ awaits. inl (
        by,
        record {
          src = place_of Md m.before.setup;
          kind = message.Query;
          status = status;
          com_id = com_id;
          payload = payload;
        },
        refl,
        made,
      );
    })
    (λ by made. inl (at, by, made)) given

-- a replier at a ReplyError
pub errors_kept : (past : List Move) (m : Move) (at : Spot) (com_id : ℕ) (status : ℤ)
    (refusal : Option Refusal) (r : AnyReplier)
    → m.event ≡ CallIs at.slot (ReplyErrorCall at.handle com_id status)
    → IsReplier r → com_id < 2 ^ 32 → FitsSigned w32 status
    → ReplierKept past at r → Held at (Replier r) m
    → ((content : Content) → In content (answers_unless refusal r None
    (answer_with r message.Error com_id status 0) []).records
    → Gives at.node at.slot content m)
    → ActKept past m at (answers_unless refusal r None
    (answer_with r message.Error com_id status 0) [])
unfolding answer_with
errors_kept past m at com_id status refusal r event fits com_id_fits status_fits kept held given =
    answered_kept past m at message.Error com_id status 0 [] refusal r None
    (ReplyErrorCall at.handle com_id status) (λ none. omega arith) event
    (refl, refl, refl, refl, refl) fits com_id_fits status_fits (omega arith) kept held
    (λ by made. tt) (λ by made. inl (at, by, made)) given
