-- A caller's answers: who made them, which await a confirmation, and when all have come.
-- For `CallerMoveLemmas`, `CallerConfirmLemmas`, `HeardLemmas` and `HeardTelegramLemmas`.
-- Each answer is kept with the move that reported it, by induction on the list.
use Rattle.std.proofs.Common.{◌≡◌, ◌≤◌, List, [], ◌∷◌, length, map}
use Rattle.std.proofs.Common.{Bool, true, false, refl, sym, subst, inl}
use Rattle.std.proofs.Common.{inr, ◌++◌, arith}
use Rattle.std.proofs.lemmas.Bool.Decides.{nat_tests}
use Rattle.std.specs.Prelude.{◌&&◌, ◌||◌, if◌then◌else◌}
use Rattle.std.specs.List.{list_any}
use Rattle.trdp_base.specs.declared.place.Place.{Place}
use Rattle.trdp_base.specs.declared.session.SessionId.{SessionId}
use Rattle.trdp_head.specs.declared.md.MdKind.{MdKind}
use Rattle.trdp_head.specs.declared.md.MdKind.TheVariants as message
use Rattle.trdp_head.specs.MdTelegrams.{MdTelegram}
use Rattle.trdp_md.specs.declared.answers.RequestAnswer.{RequestAnswer}
use Rattle.trdp_md.specs.declared.caller.Caller.{Caller as AnyCaller}
use Rattle.trdp_md.specs.declared.terms.CallerTerms.{CallerTerms}
use Rattle.trdp_md.specs.Answers.{is_place, has_answered, awaits, awaits_any}
use Rattle.trdp_md.specs.Answers.{confirmed_if}
use Rattle.trdp_md.specs.Callers.{is_answer, is_query}
use Rattle.trdp_md.specs.Sessions.{IsDone}
use Rattle.trdp_model.specs.declared.any_object.AnyObject.TheVariants.{Caller}
use Rattle.trdp_model.specs.declared.record.Protocol.TheVariants.{Md}
use Rattle.trdp_model.specs.Replies.{reply_of}
use Rattle.trdp_net.specs.Networks.{Move, place_of}
use Rattle.trdp_net.specs.Provenance.{Ever, Spot, Held}
use Rattle.trdp_net.specs.Provenance.{IsAnsweredBySome, IsReplied, IsConfirmedAs}
use Rattle.trdp_net.proofs.PartLemmas.{and_left, and_right}
use Rattle.trdp_net.proofs.Kept.{AnswerKept, CallerKept, answer_later}
use Rattle.trdp_net.proofs.Explained.{MessageBy, IsFrom, DoneBy}
use Rattle.trdp_net.specs.Promises.{IsSettled}
use Rattle.trdp_net.specs.Provenance.{Each}
use Rattle.trdp_md.proofs.AnswerLemmas.{or_left, or_right}
use Rattle.trdp_md.proofs.ConfirmLemmas.{place-is_place}

-- the answer that came was made
pub answer_origin : (kind : MdKind) (past : List Move) (from to : Place) (t : MdTelegram)
    → is_answer kind ≡ true → MessageBy kind past from to t
    → Ever (IsAnsweredBySome t.head.session (reply_of from t)) past
unfolding is_answer
answer_origin message.Notify past from to t is origin = absurd (cc)
answer_origin message.Request past from to t is origin = absurd (cc)
answer_origin message.Reply past from to t is origin = origin
answer_origin message.Query past from to t is origin = origin
answer_origin message.Error past from to t is origin = origin
answer_origin message.Confirm past from to t is origin = absurd (cc)

-- a query does await a confirmation when it comes
pub query_owes : (kind : MdKind) → kind ≡ message.Query → is_query kind ≡ false → ⊥
unfolding is_query
query_owes kind is none =
    let owed : is_query message.Query ≡ false = subst (λ (k : MdKind). is_query k ≡ false) is none
    in absurd (cc)

-- where none awaits a confirmation, all are settled
settled : (past : List Move) (at : Spot) (session : SessionId) (home : Place)
    (answers : List RequestAnswer) → awaits_any answers ≡ false
    → Each (AnswerKept past at session home) answers
    → Each (IsSettled past at session home) answers
unfolding awaits_any
settled past at session home [] none kept = tt
settled past at session home (a ∷ answers) none kept = (
  record {
    replied = kept.0.replied;
    confirmed = λ query. kept.0.confirmed query (or_left a.confirm_owed _ none);
  },
  settled past at session home answers (or_right a.confirm_owed _ none) kept.1,
)

-- the answer that awaits a confirmation is a query
pub asked_there : (past : List Move) (at : Spot) (session : SessionId) (home place : Place)
    (answers : List RequestAnswer) → Each (AnswerKept past at session home) answers
    → awaits answers place ≡ true → Ever (IsReplied at session place message.Query) past
unfolding awaits
asked_there past at session home place [] kept is = absurd (cc)
asked_there past at session home place (a ∷ answers) kept is =
    here (is_place a.place place && a.confirm_owed) refl is
    (λ later. asked_there past at session home place answers kept.1 later)
  where
    rest : Bool
    rest = list_any (λ answer. is_place answer.place place && answer.confirm_owed) answers

    here : (b : Bool) → (is_place a.place place && a.confirm_owed) ≡ b → (b || rest) ≡ true
        → (rest ≡ true → Ever (IsReplied at session place message.Query) past)
        → Ever (IsReplied at session place message.Query) past
    here true both found later =
        let query : a.kind ≡ message.Query =
        kept.0.owes (and_right (is_place a.place place) a.confirm_owed both) in
        let there : a.place ≡ place =
        place-is_place a.place place (and_left (is_place a.place place) a.confirm_owed both) in
        subst (λ (k : MdKind). Ever (IsReplied at session place k) past) query
        (subst (λ (p : Place). Ever (IsReplied at session p a.kind) past) there kept.0.replied)
    here false both found later = later found

-- the answers of the place that this move confirms
pub answers_confirmed : (past : List Move) (m : Move) (at : Spot) (session : SessionId)
    (home place : Place) (answers : List RequestAnswer) → IsConfirmedAs at session home place m past
    → Each (AnswerKept past at session home) answers
    → Each (AnswerKept (m ∷ past) at session home) (map (confirmed_if place) answers)
answers_confirmed past m at session home place [] made kept = tt
answers_confirmed past m at session home place (a ∷ answers) made kept = (
  one (is_place a.place place) refl,
  answers_confirmed past m at session home place answers made kept.1,
)
  where
    one : (b : Bool) → is_place a.place place ≡ b → AnswerKept (m ∷ past) at session home
        (if b then record a { confirm_owed = false } else a)
    one true is =
        let there : place ≡ a.place = sym (place-is_place a.place place is) in
        record {
          replied = inr kept.0.replied;
          owes = λ owed. absurd (cc owed);
          confirmed = λ query none.
              inl (subst (λ (p : Place). IsConfirmedAs at session home p m past) there made);
        }
    one false is = answer_later past m at session home a kept.0

-- a confirmation adds no place
pub answered_before : (place p : Place) (all : List RequestAnswer)
    → has_answered (map (confirmed_if place) all) p ≡ false → has_answered all p ≡ false
unfolding has_answered
answered_before place p [] none = refl
answered_before place p (a ∷ all) none =
    either (is_place a.place place) none (λ rest. answered_before place p all rest)
  where
    both : (x y : Bool) → (x || y) ≡ false → (y ≡ false → has_answered all p ≡ false)
        → (x || has_answered all p) ≡ false
    both true y is later = absurd (cc is)
    both false y is later = later is

    either : (b : Bool)
        → (is_place (let c : RequestAnswer = (if b then record a { confirm_owed = false } else a) in
        c).place
        p || has_answered (map (confirmed_if place) all) p) ≡ false
        → (has_answered (map (confirmed_if place) all) p ≡ false → has_answered all p ≡ false)
        → (is_place a.place p || has_answered all p) ≡ false
    either true is later = both (is_place a.place p) _ is later
    either false is later = both (is_place a.place p) _ is later

-- a place that hasn't answered didn't do so before the last answer, nor by it
pub answered_push : (all : List RequestAnswer) (a : RequestAnswer) (p : Place)
    → has_answered (all ++ a ∷ []) p ≡ false
    → (has_answered all p ≡ false) × (is_place a.place p ≡ false)
unfolding has_answered
answered_push [] a p none = (refl, or_left (is_place a.place p) false none)
answered_push (b ∷ all) a p none =
    let rest = answered_push all a p (or_right (is_place b.place p) _ none) in (
      both (is_place b.place p) (has_answered all p) (or_left (is_place b.place p) _ none) rest.0,
      rest.1,
    )
  where
    both : (x y : Bool) → x ≡ false → y ≡ false → (x || y) ≡ false
    both true y is_x is_y = absurd (cc is_x)
    both false y is_x is_y = is_y

-- the place of the last answer has answered
pub answered_last : (all : List RequestAnswer) (a : RequestAnswer)
    → has_answered (all ++ a ∷ []) a.place ≡ true
answered_last all a = either (has_answered (all ++ a ∷ []) a.place) refl
  where
    either : (b : Bool) → has_answered (all ++ a ∷ []) a.place ≡ b
        → has_answered (all ++ a ∷ []) a.place ≡ true
    either true is = is
    either false is =
        let other : is_place a.place a.place ≡ false = (answered_push all a a.place is).1 in
        grind (arith, nat_tests)

-- a caller that is done
pub done_by : (past : List Move) (m : Move) (at : Spot) (c : AnyCaller) (after : AnyCaller)
    → Held at (Caller c) m → after.terms ≡ c.terms → IsDone after
    → ((place : Place) → has_answered after.answers place ≡ false
    → has_answered c.answers place ≡ false)
    → ((place : Place) → IsFrom place m.event → has_answered after.answers place ≡ true)
    → CallerKept (m ∷ past) m.before.setup at after → DoneBy past m at
done_by past m at c after held terms done keeps adds kept = record {
  c = c;
  held = held;
  answers = after.answers;
  enough = subst (λ (t : CallerTerms). t.expected ≤ length after.answers) terms done.enough;
  some = done.some;
  apart = kept.apart;
  settled =
      subst
      (λ (t : CallerTerms).
      Each (IsSettled (m ∷ past) at t.session (place_of Md m.before.setup)) after.answers)
      terms
      (settled (m ∷ past) at after.terms.session (place_of Md m.before.setup) after.answers
      done.none_owed kept.answers);
  keeps = keeps;
  adds = adds;
}
