-- A caller that is done has confirmed each query that was reported to it.
-- For `no_early_done`.
-- By: what was reported to it is among its answers, one of each place, and each of these is
-- settled.
use Rattle.std.proofs.Common.{◌≡◌, ℕ, List, [], ◌∷◌, Option, Some, Bool, true, false, refl, sym}
use Rattle.std.proofs.Common.{◌∙◌, subst, ap, inl, inr, slice_get}
use Rattle.std.specs.Prelude.{◌||◌}
use Rattle.std.specs.List.{list_any}
use Rattle.trdp_base.specs.declared.place.Place.{Place}
use Rattle.trdp_dataset.specs.Configs.{ConfigModel}
use Rattle.trdp_head.specs.declared.md.MdKind.TheVariants as message
use Rattle.trdp_pd.specs.declared.object.Reason.TheVariants.{Done}
use Rattle.trdp_md.specs.declared.answers.RequestAnswer.{RequestAnswer}
use Rattle.trdp_md.specs.Answers.{is_place, has_answered}
use Rattle.trdp_md.proofs.ConfirmLemmas.{place-is_place}
use Rattle.trdp_model.specs.declared.any_object.AnyObject.TheVariants.{Caller}
use Rattle.trdp_model.specs.declared.record.Protocol.TheVariants.{Md}
use Rattle.trdp_model.specs.Records.{ReplyModel, RepliedIs, ClosedIs, Indicates}
use Rattle.trdp_model.specs.Slots.{SlotState}
use Rattle.trdp_net.specs.Networks.{Move, Step, place_of}
use Rattle.trdp_net.specs.Provenance.{Ever, Always, In, Spot, IsConfirmedAs}
use Rattle.trdp_net.specs.Promises.{history, AreSingle, IsToldOf, IsSettled, DoneIsDue}
use Rattle.trdp_net.specs.Promises.{replied_at, all_replied, AreDistinct}
use Rattle.trdp_net.proofs.PartLemmas.{each_in}
use Rattle.trdp_net.proofs.Explained.{spot, DoneBy, IsExplained}
use Rattle.trdp_net.proofs.TypedMoveLemmas.{IsTypedMove}
use Rattle.trdp_net.proofs.HeardLemmas.{Covers}
use Rattle.trdp_net.proofs.HeardRunLemmas.{HeardAt, HeardBefore, all_distinct, always_heard}
use Rattle.trdp_net.proofs.RunLemmas.{every_run}
use Rattle.trdp_net.proofs.PromiseLemmas.{told_by}
use Rattle.trdp_net.proofs.ToldLemmas.{new_or_in, distinct_rest, ever_place, one_answer, told_of_it}

-- the answer of a place that has answered
answer_there : (answers : List RequestAnswer) (place : Place) → has_answered answers place ≡ true
    → (a : RequestAnswer) × In a answers × (a.place ≡ place)
unfolding has_answered
answer_there [] place is = absurd (cc)
answer_there (a ∷ answers) place is =
    here (is_place a.place place) refl is (answer_there answers place)
  where
    rest : Bool
    rest = list_any (λ answer. is_place answer.place place) answers

    here : (b : Bool) → is_place a.place place ≡ b → (b || rest) ≡ true
        → (rest ≡ true → (x : RequestAnswer) × In x answers × (x.place ≡ place))
        → (x : RequestAnswer) × In x (a ∷ answers) × (x.place ≡ place)
    here true same found later = (a, inl refl, place-is_place a.place place same)
    here false same found later =
        let there = later found in (there.0, inr there.1, there.2)

-- before the move that closes it, no more than its answers had been reported to a caller
covers_before : (m : Move) (past : List Move) (at : Spot) (by : DoneBy past m at)
    → m.node ≡ at.node → HeardBefore m past → Covers (all_replied at past) (Caller by.c)
covers_before m past at by node_is heard = known
  where
    heard_at : HeardAt (λ h. all_replied (spot at.node at.slot h) past) (Some by.held.slot)
    heard_at =
        subst
        (λ (o : Option SlotState).
        HeardAt (λ h. all_replied (spot at.node at.slot h) past) o)
        by.held.slot_is
        (subst
        (λ (k : ℕ). HeardAt (λ h. all_replied (spot k at.slot h) past)
        (slice_get m.before.slots at.slot))
        node_is (heard at.slot))

    known : Covers (all_replied at past) (Caller by.c)
    known =
        each_in
        (λ e. Covers (all_replied (spot at.node at.slot e.handle) past) e.object)
        by.held.slot.objects (record { handle = at.handle; object = Caller by.c })
        heard_at.covers by.held.held

-- what was reported to a caller, by the move that closes it too, is among its answers
told_answered : (m : Move) (past : List Move) (at : Spot) (by : DoneBy past m at)
    → m.node ≡ at.node → IsExplained m past → HeardBefore m past → (answer : ReplyModel)
    → Ever (IsToldOf at answer) (m ∷ past) → has_answered by.answers answer.src ≡ true
told_answered m past at by node_is explained heard answer (inl gives) =
    by.adds answer.src
    (told_by past m at.node at.slot (Indicates (RepliedIs at.handle answer)) explained gives).from
told_answered m past at by node_is explained heard answer (inr told) =
    either (has_answered by.answers answer.src) refl
  where
    either : (b : Bool) → has_answered by.answers answer.src ≡ b
        → has_answered by.answers answer.src ≡ true
    either true is = is
    either false is =
        absurd (new_or_in answer.src (all_replied at past)
        (covers_before m past at by node_is heard answer.src (by.keeps answer.src is))
        (ever_place at answer past told))

-- each query that was reported to a caller that is done is confirmed
query_confirmed : (m : Move) (past : List Move) (at : Spot) (by : DoneBy past m at)
    → AreDistinct (all_replied at (m ∷ past)) → (answer : ReplyModel)
    → has_answered by.answers answer.src ≡ true → Ever (IsToldOf at answer) (m ∷ past)
    → answer.kind ≡ message.Query
    → Ever (IsConfirmedAs at by.c.terms.session (place_of Md m.before.setup) answer.src) (m ∷ past)
query_confirmed m past at by distinct answer known told query =
    let there = answer_there by.answers answer.src known in
    let settled =
    each_in (IsSettled (m ∷ past) at by.c.terms.session (place_of Md m.before.setup)) by.answers
    there.0 by.settled there.1 in
    let other =
    told_of_it at by.c.terms.session there.0.place there.0.kind (m ∷ past) settled.replied in
    let one : other.0 ≡ answer =
    one_answer at other.0 answer (m ∷ past) distinct (other.1 ∙ there.2) other.3 told in
    let kind_is : there.0.kind ≡ message.Query =
    sym other.2 ∙ (ap (λ (x : ReplyModel). x.kind) one ∙ query) in
    subst
    (λ (p : Place).
    Ever (IsConfirmedAs at by.c.terms.session (place_of Md m.before.setup) p) (m ∷ past))
    there.2 (settled.confirmed kind_is)

-- a move that closes a caller as done
due : (m : Move) (past : List Move) → IsExplained m past → HeardBefore m past
    → ((at : Spot) → AreDistinct (all_replied at (m ∷ past))) → DoneIsDue m past
due m past explained heard distinct at gives =
    let by : DoneBy past m at =
    told_by past m at.node at.slot (Indicates (ClosedIs at.handle Done)) explained gives in
    record {
      c = by.c;
      held = by.held;
      answers = by.answers;
      enough = by.enough;
      some = by.some;
      apart = by.apart;
      settled = by.settled;
      each_query = λ answer told query. query_confirmed m past at by (distinct at) answer
          (told_answered m past at by gives.node_is explained heard answer told) told query;
    }

always_due : (h : List Move) → Always IsExplained h → Always HeardBefore h
    → ((at : Spot) → AreDistinct (all_replied at h)) → Always DoneIsDue h
always_due [] explained heard distinct = tt
always_due (m ∷ past) explained heard distinct = (
  due m past explained.0 heard.0 distinct,
  always_due past explained.1 heard.1
      (λ at. distinct_rest (replied_at at m) (all_replied at past) (distinct at)),
)

-- no early completion
pub done_due : (configs : List ConfigModel) (steps : List Step) → AreSingle configs
    → Always IsTypedMove (history configs steps) → Always DoneIsDue (history configs steps)
done_due configs steps single typed =
    always_due (history configs steps) (every_run configs steps single typed).always
    (always_heard configs steps) (all_distinct configs steps)
