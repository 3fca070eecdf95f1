-- A caller in one move: at a telegram that was made, and at its deadline.
-- For `no_invented_reply`, `no_invented_confirm` and `no_early_done`, through `ObjectLemmas`.
-- What is known of a caller stays known, and each record is explained, by the rule's own tests.
use Rattle.std.proofs.Common.{◌≡◌, ℕ, List, [], ◌∷◌}
use Rattle.std.proofs.Common.{None, Bool, true, false, refl, ap, subst, arith, inl}
use Rattle.std.proofs.Common.{inr, sym, ◌∙◌}
use Rattle.std.specs.Prelude.{not, ◌==◌, ◌&&◌, if◌then◌else◌}
use Rattle.std.proofs.lemmas.Bool.Decides.{nat_tests}
use Rattle.trdp_base.specs.declared.place.Place.{Place}
use Rattle.trdp_base.specs.declared.session.SessionId.{SessionId}
use Rattle.trdp_head.specs.declared.md.MdHead.{MdHead}
use Rattle.trdp_head.specs.MdTelegrams.{MdTelegram}
use Rattle.trdp_filter.specs.declared.globals.Globals.{Globals}
use Rattle.trdp_filter.specs.Counts.{topo_valid}
use Rattle.trdp_filter.specs.Telegrams.{TelegramModel, MdIs}
use Rattle.trdp_pd.specs.declared.object.Reason.{Reason}
use Rattle.trdp_pd.specs.declared.object.Reason.TheVariants.{Done, NoReply, NotAllReplies}
use Rattle.trdp_pd.specs.declared.object.Reason.TheVariants.{NotConfirmed, ReplyMissed, NoConfirm}
use Rattle.trdp_pd.specs.declared.object.Taken.TheVariants as took
use Rattle.trdp_pd.specs.declared.object.Fired.TheVariants as fires
use Rattle.trdp_pd.specs.Effects.{Reception, Firing}
use Rattle.trdp_pd.specs.Publishers.{next_counter}
use Rattle.trdp_md.specs.declared.caller.Caller.{Caller as AnyCaller}
use Rattle.trdp_md.specs.Answers.{has_answered}
use Rattle.trdp_md.specs.Callers.{is_answer, is_for_caller, has_place, is_accepted_answer}
use Rattle.trdp_md.specs.Callers.{answer_of, answering, is_complete, answer_taken}
use Rattle.trdp_md.specs.Callers.{caller_firing, reason_of}
use Rattle.trdp_md.specs.Callers.{request_of}
use Rattle.trdp_md.specs.Callers.{is_repeating, waiting_again, repeating}
use Rattle.trdp_md.proofs.ConfirmLemmas.{fired-done}
use Rattle.trdp_model.specs.declared.any_object.AnyObject.TheVariants.{Caller}
use Rattle.trdp_model.specs.declared.record.Protocol.TheVariants.{Md}
use Rattle.trdp_model.specs.Configs.{NodeSetup}
use Rattle.trdp_model.specs.Records.{Content, MessageModel, ReplyModel, RepliedIs, Indicates}
use Rattle.trdp_model.specs.Acts.{Act}
use Rattle.trdp_model.specs.Events.{EventModel, MomentIs, TopologyIs, RoleIs, DatagramIs, CallIs}
use Rattle.trdp_model.specs.Events.{AddSlotIs}
use Rattle.trdp_model.specs.Replies.{reply_of}
use Rattle.trdp_model.specs.Moments.{firing_act, firing_records, left_firing}
use Rattle.trdp_model.specs.Datagrams.{taking_act, taken_records, left_taking}
use Rattle.trdp_net.specs.Networks.{Move, place_of}
use Rattle.trdp_net.specs.Provenance.{Ever, In, Spot, Gives, Held}
use Rattle.trdp_net.specs.Provenance.{IsAnsweredBySome}
use Rattle.trdp_net.specs.Provenance.{IsRequested, IsRequestedBySome, IsRequestedAs}
use Rattle.trdp_net.proofs.PartLemmas.{each_append, and_left, and_right, ever_map}
use Rattle.trdp_net.proofs.Kept.{AnswerKept, CallerKept, answers_later}
use Rattle.trdp_net.proofs.Kept.{object_later, ActKept, said_by}
use Rattle.trdp_net.proofs.HeadLemmas.{request_head}
use Rattle.trdp_net.proofs.SendingLemmas.{sends_md}
use Rattle.trdp_net.proofs.CallerLemmas.{answer_origin, query_owes}
use Rattle.trdp_net.proofs.CallerLemmas.{done_by, answered_push, answered_last}
use Rattle.trdp_net.proofs.Explained.{MessageBy, IsFrom, ClosedBy}
use Rattle.trdp_net.proofs.TypedMoveLemmas.{IsCaller}
use Rattle.trdp_md.proofs.AnswerLemmas.{flipped, all_apart_push}
use Rattle.trdp_md.proofs.CallerLemmas.{query-is_query}
use Rattle.trdp_md.proofs.ConfirmLemmas.{IsDone-is_complete}

-- a request was made, whichever caller it opened
by_some : (at : Spot) (session : SessionId) (said : MessageModel) (past : List Move)
    → Ever (IsRequested at session said) past → Ever (IsRequestedBySome session said) past
by_some at session said past e =
    ever_map (IsRequested at session said) (IsRequestedBySome session said) (λ m past r. (at, r))
    past e

-- the same, whatever it said
some_request : (at : Spot) (session : SessionId) (said : MessageModel) (past : List Move)
    → Ever (IsRequested at session said) past → Ever (IsRequestedAs at session) past
some_request at session said past e =
    ever_map (IsRequested at session said) (IsRequestedAs at session) (λ m past r. (said, r))
    past e

-- the act of a caller that took a telegram so
abbrev took_act : NodeSetup → TelegramModel → ℕ → AnyCaller → Reception AnyCaller → Act
took_act setup telegram handle c f = record {
  left = left_taking f.taken (Caller f.object);
  records = taken_records setup telegram handle (Caller c) f.taken;
}

-- an answer that came makes this of the caller
caller_answered : (past : List Move) (m : Move) (at : Spot) (src : Place) (t : MdTelegram)
    (now : ℕ) (c : AnyCaller) → is_accepted_answer c src t.head ≡ true
    → Ever (IsAnsweredBySome c.terms.session (reply_of src t)) past
    → Gives at.node at.slot (Indicates (RepliedIs at.handle (reply_of src t))) m
    → CallerKept past m.before.setup at c
    → CallerKept (m ∷ past) m.before.setup at (answering c src t.head now)
unfolding is_accepted_answer
caller_answered past m at src t now c accepted answered given kept = record {
  requested = inr kept.requested;
  limit = kept.limit;
  answers =
      each_append (AnswerKept (m ∷ past) at c.terms.session (place_of Md m.before.setup))
      c.answers (answer_of src t.head ∷ [])
      (answers_later past m at c.terms.session
      (place_of Md m.before.setup) c.answers kept.answers) (
        record {
          replied = inl (record {
            answer = reply_of src t;
            gives = given;
            place_is = refl;
            kind_is = refl;
            answered = answered;
          });
          owes = query-is_query t.head.kind;
          confirmed = λ query none. absurd (query_owes t.head.kind query none);
        },
        tt,
      );
  apart =
      all_apart_push c.answers (answer_of src t.head) kept.apart
      (flipped (has_answered c.answers src)
      (and_right (is_for_caller c t.head && has_place c) (not
      (has_answered c.answers src)) accepted));
}

session_same : (a b : SessionId) → (a.0 == b.0) ≡ true → a ≡ b
session_same a b is =
    let e : a.0 ≡ b.0 = grind (arith, nat_tests) in ap (λ (n : ℕ). record { 0 = n }) e

-- an accepted telegram is an answer of the caller's session
for_caller : (c : AnyCaller) (src : Place) (head : MdHead) → is_accepted_answer c src head ≡ true
    → (is_answer head.kind ≡ true) × (head.session ≡ c.terms.session)
unfolding is_accepted_answer is_for_caller
for_caller c src head is =
    let first = and_left (is_for_caller c head) (has_place c)
    (and_left (is_for_caller c head && has_place c) (not (has_answered c.answers src)) is) in
    let both = and_left (is_answer head.kind && head.session.0 == c.terms.session.0)
    (topo_valid head.topo c.terms.topo) first in (
      and_left (is_answer head.kind) (head.session.0 == c.terms.session.0) both,
      session_same head.session c.terms.session
          (and_right (is_answer head.kind) (head.session.0 == c.terms.session.0) both),
    )

-- a datagram is from one place
one_source : (event : EventModel) (a b : Place) → IsFrom a event → IsFrom b event → a ≡ b
one_source (DatagramIs protocol src dst bytes) a b is_a is_b = sym is_a ∙ is_b
one_source (MomentIs t) a b is_a is_b = absurd is_a
one_source (TopologyIs topo) a b is_a is_b = absurd is_a
one_source (RoleIs group leader) a b is_a is_b = absurd is_a
one_source (CallIs s call) a b is_a is_b = absurd is_a
one_source (AddSlotIs quotas) a b is_a is_b = absurd is_a

-- a caller at a telegram that was made
pub caller_takes : (past : List Move) (m : Move) (at : Spot) (setup : NodeSetup)
    (src dst to : Place) (t : MdTelegram) (globals : Globals) (c : AnyCaller)
    → MessageBy t.head.kind past src to t → IsFrom src m.event
    → CallerKept past m.before.setup at c → Held at (Caller c) m
    → ((content : Content) → In content (taking_act setup (MdIs src dst t) globals
    (record { handle = at.handle; object = Caller c })).records
    → Gives at.node at.slot content m)
    → ActKept past m at (taking_act setup (MdIs src dst t) globals
    (record { handle = at.handle; object = Caller c }))
unfolding answer_taken
caller_takes past m at setup src dst to t globals c origin from kept held given =
    either (is_accepted_answer c src t.head) refl given
  where
    after : AnyCaller
    after = answering c src t.head globals.now

    told : ReplyModel
    told = reply_of src t

    first_given : (b : Bool)
        → ((content : Content) → In content (took_act setup (MdIs src dst t) at.handle c
        (record { object = after; taken = if b then took.RepliedLast else took.Replied })).records
        → Gives at.node at.slot content m)
        → Gives at.node at.slot (Indicates (RepliedIs at.handle told)) m
    first_given true gives = gives (Indicates (RepliedIs at.handle told)) (inl refl)
    first_given false gives = gives (Indicates (RepliedIs at.handle told)) (inl refl)

    answered : is_accepted_answer c src t.head ≡ true
        → Ever (IsAnsweredBySome c.terms.session (reply_of src t)) past
    answered accepted =
        let for_it = for_caller c src t.head accepted in
        subst (λ (s : SessionId). Ever (IsAnsweredBySome s (reply_of src t)) past) for_it.1
        (answer_origin t.head.kind past src to t for_it.0 origin)

    last : (b : Bool) → is_complete after ≡ b → is_accepted_answer c src t.head ≡ true
        → CallerKept (m ∷ past) m.before.setup at after
        → ActKept past m at (took_act setup (MdIs src dst t) at.handle c
        (record { object = after; taken = if b then took.RepliedLast else took.Replied }))
    last true complete accepted later = record {
      stays = tt;
      tells = (
        record {
          c = c;
          held = held;
          requested = some_request at c.terms.session _ past kept.requested;
          answered = answered accepted;
          from = from;
        },
        (
          done_by past m at c after held refl (IsDone-is_complete after complete)
              (λ place none. (answered_push c.answers (answer_of src t.head) place none).0)
              (λ place also. subst (λ (p : Place). has_answered after.answers p ≡ true)
              (one_source m.event src place from also)
              (answered_last c.answers (answer_of src t.head)))
              later,
          tt,
        ),
      );
    }
    last false complete accepted later = record {
      stays = later;
      tells = (
        record {
          c = c;
          held = held;
          requested = some_request at c.terms.session _ past kept.requested;
          answered = answered accepted;
          from = from;
        },
        tt,
      );
    }

    either : (b : Bool) → is_accepted_answer c src t.head ≡ b
        → ((content : Content) → In content (took_act setup (MdIs src dst t) at.handle c
        (if b then record { object = after; taken = answer_taken after }
        else record { object = c; taken = took.Nothing })).records
        → Gives at.node at.slot content m)
        → ActKept past m at (took_act setup (MdIs src dst t) at.handle c
        (if b then record { object = after; taken = answer_taken after }
        else record { object = c; taken = took.Nothing }))
    either true accepted gives =
        last (is_complete after) refl accepted
        (caller_answered past m at src t globals.now c accepted (answered accepted)
        (first_given (is_complete after) gives) kept)
    either false accepted gives =
        record { stays = object_later past m m.before.setup at (Caller c) kept; tells = tt }

-- the act of a caller that fired so
abbrev fired_act : ℕ → AnyCaller → Firing AnyCaller → Act
fired_act handle c f = record {
  left = left_firing f.fired (Caller f.object);
  records = firing_records handle (Caller c) f.fired;
}

-- a request that is sent again is one that was made
again_origin : (past : List Move) (m : Move) (at : Spot) (home : Place) (c : AnyCaller)
    → Ever (IsRequested at c.terms.session (said_by home c.terms c.payload)) past
    → MessageBy (request_of c.terms c.counter).kind (m ∷ past) home c.terms.to
    (record { head = request_of c.terms c.counter; payload = c.payload })
unfolding request_of
again_origin past m at home c e = inr (by_some at c.terms.session _ past e)

-- a caller's deadline
pub caller_fires : (past : List Move) (m : Move) (at : Spot) (t : ℕ) (globals : Globals)
    (c : AnyCaller) → m.event ≡ MomentIs t → IsCaller c → CallerKept past m.before.setup at c
    → Held at (Caller c) m
    → ActKept past m at
    (firing_act globals (record { handle = at.handle; object = Caller c }))
caller_fires past m at t globals c event fits kept held = either (is_repeating c) refl
  where
    later : CallerKept (m ∷ past) m.before.setup at c
    later = object_later past m m.before.setup at (Caller c) kept

    by_reason : is_repeating c ≡ false → (reason : Reason) → reason_of c ≡ reason
        → ClosedBy past m at reason
    by_reason none Done is =
        let fired : (caller_firing c globals).fired ≡ fires.Closed Done =
        rw none (ap fires.Closed is) in
        done_by past m at c c held refl (fired-done c globals fired) (λ place none. none)
        (λ place from. absurd (subst (λ (v : EventModel). IsFrom place v) event from)) later
    by_reason none NoReply is = tt
    by_reason none NotAllReplies is = tt
    by_reason none NotConfirmed is = tt
    by_reason none ReplyMissed is = tt
    by_reason none NoConfirm is = tt

    repeats : (b : Bool) → ActKept past m at (fired_act at.handle c
        (if b then record {
          object = record (waiting_again c globals.now) { counter = next_counter c.counter };
          fired = fires.Again (request_of c.terms c.counter);
        }
        else record { object = waiting_again c globals.now; fired = fires.Nothing }))
    repeats true = record {
      stays = record {
        requested = later.requested;
        limit = later.limit;
        answers = later.answers;
        apart = later.apart;
      };
      tells = (
        sends_md (m ∷ past) (place_of Md m.before.setup) c.terms.to
            (request_of c.terms c.counter) c.payload
            (request_head c.terms c.counter fits.terms fits.counter) kept.limit
            (again_origin past m at (place_of Md m.before.setup) c kept.requested),
        tt,
      );
    }
    repeats false = record {
      stays = record {
        requested = later.requested;
        limit = later.limit;
        answers = later.answers;
        apart = later.apart;
      };
      tells = tt;
    }

    either : (b : Bool) → is_repeating c ≡ b → ActKept past m at (fired_act at.handle c
        (if b then repeating c globals
        else record { object = record c { deadline = None }; fired = fires.Closed (reason_of c) }))
    either true is = repeats (topo_valid c.terms.topo globals.topo)
    either false none = record { stays = tt; tells = (by_reason none (reason_of c) refl, tt) }
