-- The answers of a caller: from different places, of its session, settled one place at a time.
-- For `caller_answers_stay_apart`, `caller_accepts_its_session` and `caller_confirms_one_place`.
-- By: only a place that hasn't answered is accepted, and what is settled keeps its place.
use Rattle.std.proofs.Common.{◌≡◌, ℕ, List, [], ◌∷◌, ◌++◌, map, Bool, true, false, refl, ap, arith}
use Rattle.std.proofs.Common.{inl, inr}
use Rattle.std.specs.Prelude.{◌&&◌, ◌||◌, not, ◌==◌, if◌then◌else◌}
use Rattle.std.specs.List.{list_any}
use Rattle.std.proofs.lemmas.Bool.Decides.{nat_tests}
use Rattle.trdp_base.specs.declared.place.Place.{Place}
use Rattle.trdp_base.specs.declared.session.SessionId.{SessionId}
use Rattle.trdp_head.specs.MdTelegrams.{MdTelegram}
use Rattle.trdp_head.specs.declared.md.MdHead.{MdHead}
use Rattle.trdp_head.specs.declared.md.MdKind.{MdKind}
use Rattle.trdp_head.specs.declared.md.MdKind.TheVariants as message
use Rattle.trdp_filter.specs.declared.globals.Globals.{Globals}
use Rattle.trdp_filter.specs.Counts.{topo_valid}
use Rattle.trdp_filter.specs.Telegrams.{TelegramModel, PdIs, MdIs}
use Rattle.trdp_md.specs.declared.answers.RequestAnswer.{RequestAnswer}
use Rattle.trdp_md.specs.declared.caller.Caller.{Caller}
use Rattle.trdp_md.specs.Answers.{is_place, has_answered, awaits, confirmed, confirmed_if}
use Rattle.trdp_md.specs.Callers.{is_answer, is_for_caller, has_place, is_accepted_answer}
use Rattle.trdp_md.specs.Callers.{answer_of}
use Rattle.trdp_md.specs.Callers.{caller_taking, confirming}
use Rattle.trdp_md.specs.Sessions.{IsAccepted, IsApart, AreApart, IsAnswerKind, SettlesAt}
use Rattle.trdp_md.proofs.ConfirmLemmas.{both}

-- of two tests of which neither passes
pub or_left : (a b : Bool) → (a || b) ≡ false → a ≡ false
or_left true b h = absurd (cc)
or_left false b h = refl

-- the same of the second
pub or_right : (a b : Bool) → (a || b) ≡ false → b ≡ false
or_right true b h = absurd (cc)
or_right false b h = h

-- a test that fails
pub flipped : (b : Bool) → not b ≡ true → b ≡ false
flipped true h = absurd (cc)
flipped false h = refl

-- two places that differ differ the other way round
pub swapped : (a b : Place) → is_place a b ≡ false → is_place b a ≡ false
swapped a b is = grind (arith, nat_tests)

-- one more answer, of another place
pub apart_push : (p : Place) (answers : List RequestAnswer) (a : RequestAnswer) → IsApart p answers
    → is_place a.place p ≡ false → IsApart p (answers ++ a ∷ [])
apart_push p [] a h is = (is, tt)
apart_push p (b ∷ answers) a h is = (h.0, apart_push p answers a h.1 is)

-- one more answer, of a place that has not answered
pub all_apart_push : (answers : List RequestAnswer) (a : RequestAnswer) → AreApart answers
    → has_answered answers a.place ≡ false → AreApart (answers ++ a ∷ [])
unfolding has_answered
all_apart_push [] a h none = (tt, tt)
all_apart_push (b ∷ answers) a h none = (
  apart_push b.place answers a h.0
      (swapped b.place a.place (or_left (is_place b.place a.place) _ none)),
  all_apart_push answers a h.1 (or_right (is_place b.place a.place) _ none),
)

-- a caller that is handed a telegram
pub apart_taking : (c : Caller) (telegram : TelegramModel) (globals : Globals) (fits : Bool)
    → AreApart c.answers → AreApart (caller_taking c telegram globals fits).object.answers
unfolding is_accepted_answer
apart_taking c (PdIs src dst t) globals fits h = h
apart_taking c (MdIs src dst t) globals fits h = either (is_accepted_answer c src t.head) refl
  where
    either : (b : Bool) → is_accepted_answer c src t.head ≡ b
        → AreApart (caller_taking c (MdIs src dst t) globals fits).object.answers
    either true is =
        rw is (all_apart_push c.answers (answer_of src t.head) h
        (flipped (has_answered c.answers src)
        (both (is_for_caller c t.head && has_place c) (not (has_answered c.answers src)) is).1))
    either false is = rw is h

-- the answer once it is settled, if it is
abbrev settled_if : RequestAnswer → Bool → RequestAnswer
settled_if a b = if b then record a { confirm_owed = false } else a

-- answers of a place that is confirmed are of the same places
apart_map : (p place : Place) (answers : List RequestAnswer) → IsApart p answers
    → IsApart p (map (confirmed_if place) answers)
apart_map p place [] h = tt
apart_map p place (a ∷ answers) h = (same (is_place a.place place), apart_map p place answers h.1)
  where
    same : (b : Bool)
        → is_place (settled_if a b).place
        p ≡ false
    same true = h.0
    same false = h.0

-- the same of all places
pub all_apart_map : (place : Place) (answers : List RequestAnswer) → AreApart answers
    → AreApart (map (confirmed_if place) answers)
all_apart_map place [] h = tt
all_apart_map place (a ∷ answers) h =
    (same (is_place a.place place), all_apart_map place answers h.1)
  where
    same : (b : Bool)
        → IsApart (settled_if a b).place
        (map (confirmed_if place) answers)
    same true = apart_map a.place place answers h.0
    same false = apart_map a.place place answers h.0

-- a caller that confirms a place
pub apart_confirming : (c : Caller) (place : Place) → AreApart c.answers
    → AreApart (confirming c place).answers
unfolding confirming confirmed
apart_confirming c place h = either (awaits c.answers place)
  where
    after : Bool → Caller
    after b = if b then record c { answers = map (confirmed_if place) c.answers } else c

    either : (b : Bool) → AreApart (after b).answers
    either true = all_apart_map place c.answers h
    either false = h

-- the tests on the message type
answer_kind : (kind : MdKind) → is_answer kind ≡ true → IsAnswerKind kind
unfolding is_answer
answer_kind message.Notify is = absurd (cc)
answer_kind message.Request is = absurd (cc)
answer_kind message.Reply is = inl refl
answer_kind message.Query is = inr (inl refl)
answer_kind message.Error is = inr (inr refl)
answer_kind message.Confirm is = absurd (cc)

-- it is an answer of the caller's session
first_part : (c : Caller) (src : Place) (head : MdHead) → is_accepted_answer c src head ≡ true
    → (is_answer head.kind ≡ true) × ((head.session.0 == c.terms.session.0) ≡ true)
unfolding is_accepted_answer is_for_caller
first_part c src head is =
    let free =
    both (is_for_caller c head && has_place c) (not (has_answered c.answers src)) is in
    let passes = both (is_for_caller c head) (has_place c) free.0 in
    let answers =
    both (is_answer head.kind && head.session.0 == c.terms.session.0)
    (topo_valid head.topo c.terms.topo) passes.0 in
    both (is_answer head.kind) (head.session.0 == c.terms.session.0) answers.0

-- identifiers that the test finds equal are one
session_same : (a b : SessionId) → (a.0 == b.0) ≡ true → a ≡ b
session_same a b is =
    let e : a.0 ≡ b.0 = grind (arith, nat_tests) in ap (λ (n : ℕ). record { 0 = n }) e

-- what a caller accepts is of its session
pub accepts_session : (c : Caller) (src dst : Place) (telegram : MdTelegram)
    → IsAccepted c (MdIs src dst telegram) → telegram.head.session ≡ c.terms.session
accepts_session c src dst t is =
    session_same t.head.session c.terms.session (first_part c src t.head is).1

-- what a caller accepts is an answer
pub accepts_kind : (c : Caller) (src dst : Place) (telegram : MdTelegram)
    → IsAccepted c (MdIs src dst telegram) → IsAnswerKind telegram.head.kind
accepts_kind c src dst t is = answer_kind t.head.kind (first_part c src t.head is).0

-- a confirmation settles the answers of its place
settles_map : (place : Place) (answers : List RequestAnswer)
    → SettlesAt place answers (map (confirmed_if place) answers)
settles_map place [] = tt
settles_map place (a ∷ answers) =
    let same = one (is_place a.place place) in
    (same.0, same.1, same.2, settles_map place answers)
  where
    stays : (b : Bool) → b ≡ (b && not false)
    stays true = refl
    stays false = refl

    goes : (b : Bool) → false ≡ (b && not true)
    goes true = refl
    goes false = refl

    one : (b : Bool)
        → ((settled_if a b).place
        ≡ a.place)
        × ((settled_if a b).kind ≡ a.kind)
        × ((settled_if a b).confirm_owed
        ≡ (a.confirm_owed && not b))
    one true = (refl, refl, goes a.confirm_owed)
    one false = (refl, refl, stays a.confirm_owed)

-- where no answer of the place awaits a confirmation, there is nothing to settle
settles_none :
    (place : Place) (answers : List RequestAnswer)
    → list_any (λ answer. is_place answer.place place && answer.confirm_owed) answers ≡ false
    → SettlesAt place answers answers
settles_none place [] none = tt
settles_none place (a ∷ answers) none = (
  refl,
  refl,
  stays
      (is_place a.place place)
      a.confirm_owed
      (or_left (is_place a.place place && a.confirm_owed) _ none),
  settles_none place answers (or_right (is_place a.place place && a.confirm_owed) _ none),
)
  where
    stays : (is owed : Bool) → (is && owed) ≡ false → owed ≡ (owed && not is)
    stays true true h = absurd (cc)
    stays true false h = refl
    stays false true h = refl
    stays false false h = refl

-- whether the place awaits a confirmation or not
pub settles_confirming :
    (c : Caller) (place : Place) → SettlesAt place c.answers (confirming c place).answers
unfolding confirming confirmed awaits
settles_confirming c place = either (awaits c.answers place) refl
  where
    either :
        (b : Bool) → awaits c.answers place ≡ b
        → SettlesAt place c.answers (confirming c place).answers
    either true is = rw is (settles_map place c.answers)
    either false is = rw is (settles_none place c.answers is)
