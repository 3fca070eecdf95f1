-- What a caller accepts, and what it keeps.
-- For `caller_tells_its_answers`, `caller_hears_each_place_once`, `caller_keeps` and two laws more.
-- By cases: an answer is accepted and added, or the telegram leaves the caller as it was.
use Rattle.std.proofs.Common.{◌≡◌, inl, inr, ℕ, ◌+◌, ◌<◌, Bool, true, false, refl, arith, List, []}
use Rattle.std.proofs.Common.{◌∷◌, ◌++◌}
use Rattle.std.specs.Prelude.{◌↔◌, ◌&&◌, ◌||◌, not}
use Rattle.std.proofs.lemmas.Bool.Decides.{nat_tests}
use Rattle.std.proofs.lemmas.List.Folds.{list_any-append}
use Rattle.std.proofs.lemmas.List.Elements.{All-nil, All-push}
use Rattle.trdp_base.specs.declared.place.Place.{Place}
use Rattle.trdp_head.specs.MdTelegrams.{MdTelegram}
use Rattle.trdp_head.specs.declared.md.MdHead.{MdHead}
use Rattle.trdp_head.specs.declared.md.MdKind.{MdKind}
use Rattle.trdp_head.specs.declared.md.MdKind.TheVariants.{Notify, Request, Reply, Query, Confirm}
use Rattle.trdp_head.specs.declared.md.MdKind.TheVariants.{Error}
use Rattle.trdp_filter.specs.declared.globals.Globals.{Globals}
use Rattle.trdp_filter.specs.Telegrams.{TelegramModel, PdIs, MdIs}
use Rattle.trdp_pd.specs.declared.object.Taken.TheVariants.{Nothing as NotTaken}
use Rattle.trdp_pd.specs.Due.{has_come_by}
use Rattle.trdp_pd.specs.PublisherLaws.{nat_le-past}
use Rattle.trdp_md.specs.declared.answers.RequestAnswer.{RequestAnswer}
use Rattle.trdp_md.specs.declared.caller.Caller.{Caller}
use Rattle.trdp_md.specs.declared.terms.CallerTerms.{CallerTerms}
use Rattle.trdp_md.specs.Answers.{is_place, has_answered}
use Rattle.trdp_md.specs.Callers.{new_caller, caller_due, caller_taking, is_accepted_answer}
use Rattle.trdp_md.specs.Callers.{is_complete}
use Rattle.trdp_md.specs.Callers.{is_for_caller, has_place, is_query, answer_taken, answering}
use Rattle.trdp_md.specs.Callers.{answer_of}
use Rattle.trdp_md.specs.Sessions.{IsAnswerTaken, IsAccepted, HasAdded, AwaitsQueriesOnly}
use Rattle.trdp_md.proofs.ConfirmLemmas.{OwesAsQuery}

false-true : false ≡ true → ⊥
false-true is = absurd (cc)

-- a new caller isn't due by now
pub called-later :
    (terms : CallerTerms) (payload : List ℕ) (now : ℕ) → 0 < terms.timeout
    → has_come_by now (caller_due (new_caller terms payload now)) ≡ false
called-later terms payload now some =
    nat_le-past (now + terms.timeout) now (omega (arith, some))

-- a telegram keeps the terms
pub terms-taking :
    (c : Caller) (telegram : TelegramModel) (globals : Globals) (fits : Bool)
    → (caller_taking c telegram globals fits).object.terms ≡ c.terms
terms-taking c (PdIs src dst telegram) globals fits = refl
terms-taking c (MdIs src dst telegram) globals fits =
    either (is_accepted_answer c src telegram.head) refl
  where
    either :
        (b : Bool) → is_accepted_answer c src telegram.head ≡ b
        → (caller_taking c (MdIs src dst telegram) globals fits).object.terms ≡ c.terms
    either true is = rw is refl
    either false is = rw is refl

-- an answer is reported as one
IsReplied-replied : (c : Caller) → IsAnswerTaken (answer_taken c)
unfolding answer_taken
IsReplied-replied c = either (is_complete c) refl
  where
    either : (b : Bool) → is_complete c ≡ b → IsAnswerTaken (answer_taken c)
    either true is = inr (rw is refl)
    either false is = inl (rw is refl)

nothing-told : IsAnswerTaken NotTaken → ⊥
nothing-told (inl is) = absurd (cc)
nothing-told (inr is) = absurd (cc)

-- what is reported is accepted
told-accepted :
    (c : Caller) (telegram : TelegramModel) (globals : Globals) (fits : Bool)
    → IsAnswerTaken (caller_taking c telegram globals fits).taken → IsAccepted c telegram
told-accepted c (PdIs src dst telegram) globals fits told = nothing-told told
told-accepted c (MdIs src dst telegram) globals fits told =
    either (is_accepted_answer c src telegram.head) refl
  where
    either :
        (b : Bool) → is_accepted_answer c src telegram.head ≡ b
        → is_accepted_answer c src telegram.head ≡ true
    either true is = is
    either false is = absurd (nothing-told (rw is at told))

-- what is accepted is reported
accepted-told :
    (c : Caller) (telegram : TelegramModel) (globals : Globals) (fits : Bool)
    → IsAccepted c telegram → IsAnswerTaken (caller_taking c telegram globals fits).taken
accepted-told c (PdIs src dst telegram) globals fits is = absurd (is)
accepted-told c (MdIs src dst telegram) globals fits is =
    rw is (IsReplied-replied (answering c src telegram.head globals.now))

pub tells :
    (c : Caller) (telegram : TelegramModel) (globals : Globals) (fits : Bool)
    → IsAnswerTaken (caller_taking c telegram globals fits).taken ↔ IsAccepted c telegram
tells c telegram globals fits =
    (told-accepted c telegram globals fits, accepted-told c telegram globals fits)

-- what is accepted is added
pub adds :
    (c : Caller) (telegram : TelegramModel) (globals : Globals) (fits : Bool)
    → IsAccepted c telegram → HasAdded c telegram (caller_taking c telegram globals fits).object
adds c (PdIs src dst telegram) globals fits is = absurd (is)
adds c (MdIs src dst telegram) globals fits is = rw is refl

-- a place that has answered isn't accepted
pub once :
    (c : Caller) (src dst : Place) (telegram : MdTelegram) → has_answered c.answers src ≡ true
    → IsAccepted c (MdIs src dst telegram) → ⊥
unfolding is_accepted_answer
once c src dst telegram has is =
    none
    (is_for_caller c telegram.head)
    (has_place c)
    (has_answered c.answers src)
    has
    is
  where
    none : (a b d : Bool) → d ≡ true → (a && b && not d) ≡ true → ⊥
    none true true true has is = false-true is
    none true false d has is = false-true is
    none false b d has is = false-true is
    none true true false has is = false-true has

-- answers that are added leave those that were there
has_answered-more :
    (answers more : List RequestAnswer) (place : Place) → has_answered answers place ≡ true
    → has_answered (answers ++ more) place ≡ true
unfolding has_answered
has_answered-more answers more place has =
    rw (list_any-append (λ answer. is_place answer.place place) answers more, has) refl

is_place-same : (place : Place) → is_place place place ≡ true
is_place-same place = grind (arith, nat_tests)

or-true : (b : Bool) → (b || true) ≡ true
or-true true = refl
or-true false = refl

-- an answer that is added is there
has_answered-added :
    (answers : List RequestAnswer) (src : Place) (head : MdHead)
    → has_answered (answers ++ answer_of src head ∷ []) src ≡ true
unfolding has_answered
has_answered-added answers src head =
    rw (list_any-append (λ answer. is_place answer.place src) answers (answer_of src head ∷ []))
    (rw (is_place-same src) (or-true (has_answered answers src)))

pub counts :
    (c : Caller) (src dst : Place) (telegram : MdTelegram) (globals : Globals) (fits : Bool)
    → IsAccepted c (MdIs src dst telegram)
    → has_answered (caller_taking c (MdIs src dst telegram) globals fits).object.answers src ≡ true
counts c src dst telegram globals fits is =
    rw is (has_answered-added c.answers src telegram.head)

pub remembers :
    (c : Caller) (telegram : TelegramModel) (globals : Globals) (fits : Bool) (place : Place)
    → has_answered c.answers place ≡ true
    → has_answered (caller_taking c telegram globals fits).object.answers place ≡ true
remembers c (PdIs src dst telegram) globals fits place has = has
remembers c (MdIs src dst telegram) globals fits place has =
    either (is_accepted_answer c src telegram.head) refl
  where
    either :
        (b : Bool) → is_accepted_answer c src telegram.head ≡ b
        → has_answered
        (caller_taking c (MdIs src dst telegram) globals fits).object.answers
        place
        ≡ true
    either true is =
        rw is (has_answered-more c.answers (answer_of src telegram.head ∷ []) place has)
    either false is = rw is has

-- only queries await a confirmation
pub query-is_query : (kind : MdKind) → is_query kind ≡ true → kind ≡ Query
unfolding is_query
query-is_query Notify is = absurd (false-true is)
query-is_query Request is = absurd (false-true is)
query-is_query Reply is = absurd (false-true is)
query-is_query Query is = refl
query-is_query Confirm is = absurd (false-true is)
query-is_query Error is = absurd (false-true is)

pub queries-new : (terms : CallerTerms) (payload : List ℕ) (now : ℕ)
    → AwaitsQueriesOnly (new_caller terms payload now).answers
queries-new terms payload now = All-nil OwesAsQuery

pub queries-taking :
    (c : Caller) (telegram : TelegramModel) (globals : Globals) (fits : Bool)
    → AwaitsQueriesOnly c.answers
    → AwaitsQueriesOnly (caller_taking c telegram globals fits).object.answers
queries-taking c (PdIs src dst telegram) globals fits only = only
queries-taking c (MdIs src dst telegram) globals fits only =
    either (is_accepted_answer c src telegram.head) refl
  where
    either :
        (b : Bool) → is_accepted_answer c src telegram.head ≡ b
        → AwaitsQueriesOnly (caller_taking c (MdIs src dst telegram) globals fits).object.answers
    either true is =
        rw is
        (All-push
        OwesAsQuery
        c.answers
        (answer_of src telegram.head)
        only
        (query-is_query telegram.head.kind))
    either false is = rw is only
