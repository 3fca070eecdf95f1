-- What a confirmation changes, and when a caller is done.
-- For `caller_confirms_what_awaits`, `caller_is_done_with_all` and two laws more.
-- By: a place that was confirmed awaits nothing, and a caller is complete where none awaits any.
use Rattle.std.proofs.Common.{◌≡◌, ℕ, ◌<◌, ◌≤◌, Some, None, Bool, true, false, refl, ap₂, arith}
use Rattle.std.proofs.Common.{List, [], ◌∷◌, length}
use Rattle.std.specs.Prelude.{◌&&◌, ◌==◌, not, nat_lt, nat_le, map}
use Rattle.std.specs.List.{list_any}
use Rattle.std.proofs.lemmas.Bool.Decides.{nat_tests}
use Rattle.std.proofs.lemmas.List.Folds.{Any-from_list_any}
use Rattle.std.proofs.lemmas.List.Elements.{All-map, All-weaker}
use Rattle.trdp_base.specs.declared.place.Place.{Place}
use Rattle.trdp_head.specs.declared.md.MdKind.TheVariants.{Query}
use Rattle.trdp_filter.specs.declared.globals.Globals.{Globals}
use Rattle.trdp_filter.specs.Counts.{topo_valid}
use Rattle.trdp_filter.specs.Telegrams.{TelegramModel, PdIs, MdIs}
use Rattle.trdp_pd.specs.declared.object.Reason.{Reason}
use Rattle.trdp_pd.specs.declared.object.Reason.TheVariants.{Done, NoReply, NotAllReplies}
use Rattle.trdp_pd.specs.declared.object.Reason.TheVariants.{NotConfirmed}
use Rattle.trdp_pd.specs.declared.object.Taken.TheVariants.{Nothing as NotTaken}
use Rattle.trdp_pd.specs.declared.object.Taken.TheVariants.{Replied, RepliedLast}
use Rattle.trdp_pd.specs.declared.object.Fired.TheVariants.{Closed}
use Rattle.trdp_md.specs.declared.answers.RequestAnswer.{RequestAnswer}
use Rattle.trdp_md.specs.declared.caller.Caller.{Caller}
use Rattle.trdp_md.specs.Answers.{is_place, awaits, awaits_any, confirmed, confirmed_if}
use Rattle.trdp_md.specs.Callers.{caller_taking, caller_firing, is_accepted_answer, is_complete}
use Rattle.trdp_md.specs.Callers.{answer_taken}
use Rattle.trdp_md.specs.Callers.{answering, confirming, closed_of, reason_of, is_repeating}
use Rattle.trdp_md.specs.Callers.{repeating}
use Rattle.trdp_md.specs.Sessions.{AwaitsQueriesOnly, HasAwaiting, IsDone}

false-true : false ≡ true → ⊥
false-true is = absurd (cc)

pub terms-confirming : (c : Caller) (place : Place) → (confirming c place).terms ≡ c.terms
unfolding confirming
terms-confirming c place = either (awaits c.answers place) refl
  where
    either : (b : Bool) → awaits c.answers place ≡ b → (confirming c place).terms ≡ c.terms
    either true is = rw is refl
    either false is = rw is refl

-- only a query may await a confirmation
abbrev pub OwesAsQuery : RequestAnswer → Type 0
OwesAsQuery answer = answer.confirm_owed ≡ true → answer.kind ≡ Query

-- a confirmation adds nothing that awaits one
sound-confirmed :
    (place : Place) (answer : RequestAnswer) → OwesAsQuery answer
    → OwesAsQuery (confirmed_if place answer)
sound-confirmed place answer sound = either (is_place answer.place place) refl
  where
    either : (b : Bool) → is_place answer.place place ≡ b → OwesAsQuery (confirmed_if place answer)
    either true is = rw is (λ owed. absurd (false-true owed))
    either false is = rw is sound

pub queries-confirming :
    (c : Caller) (place : Place) → AwaitsQueriesOnly c.answers
    → AwaitsQueriesOnly (confirming c place).answers
unfolding confirming confirmed
queries-confirming c place only = either (awaits c.answers place) refl
  where
    either :
        (b : Bool) → awaits c.answers place ≡ b → AwaitsQueriesOnly (confirming c place).answers
    either true is =
        rw is
        (All-map
        OwesAsQuery
        (confirmed_if place)
        c.answers
        (All-weaker
        OwesAsQuery
        (λ answer. OwesAsQuery (confirmed_if place answer))
        (sound-confirmed place)
        c.answers
        only))
    either false is = rw is only

-- places that the test finds equal are one
pub place-is_place : (a b : Place) → is_place a b ≡ true → a ≡ b
place-is_place a b is =
    let ip : a.ip.0 ≡ b.ip.0 = grind (arith, nat_tests) in
    let port : a.port ≡ b.port = grind (arith, nat_tests) in
    ap₂ (λ (i p : ℕ). record { ip = record { 0 = i }; port = p }) ip port

-- a test of two facts that passes
pub both : (a b : Bool) → (a && b) ≡ true → (a ≡ true) × (b ≡ true)
both true b is = (refl, is)
both false b is = absurd (false-true is)

-- where a place awaits a confirmation, one of its answers does
pub HasAwaiting-awaits :
    (c : Caller) (place : Place) → awaits c.answers place ≡ true → HasAwaiting c.answers place
unfolding awaits
HasAwaiting-awaits c place is =
    let found = Any-from_list_any
    (λ answer. is_place answer.place place && answer.confirm_owed) c.answers is in
    let parts = both (is_place found.1.place place) found.1.confirm_owed found.4 in
    (found.0, found.1, found.2, found.3, (place-is_place found.1.place place parts.0, parts.1))

-- a place that was confirmed awaits nothing
awaits-confirmed :
    (answers : List RequestAnswer) (place : Place)
    → list_any
    (λ answer. is_place answer.place place && answer.confirm_owed)
    (map (confirmed_if place) answers)
    ≡ false
awaits-confirmed [] place = refl
awaits-confirmed (answer ∷ rest) place =
    either (is_place answer.place place) refl (awaits-confirmed rest place)
  where
    either :
        (b : Bool) → is_place answer.place place ≡ b
        → list_any
        (λ other. is_place other.place place && other.confirm_owed)
        (map (confirmed_if place) rest)
        ≡ false
        → list_any
        (λ other. is_place other.place place && other.confirm_owed)
        (map (confirmed_if place) (answer ∷ rest))
        ≡ false
    either true is none = rw (is, is) none
    either false is none = rw (is, is) none

-- the same for the test
none-confirmed :
    (answers : List RequestAnswer) (place : Place) → awaits (confirmed answers place) place ≡ false
unfolding awaits confirmed
none-confirmed answers place = awaits-confirmed answers place

pub awaits-confirming :
    (c : Caller) (place : Place) → awaits (confirming c place).answers place ≡ false
unfolding confirming
awaits-confirming c place = either (awaits c.answers place) refl
  where
    either :
        (b : Bool) → awaits c.answers place ≡ b
        → awaits (confirming c place).answers place ≡ false
    either true is = rw is (none-confirmed c.answers place)
    either false is = rw (is, is) refl

-- a complete caller is done
pub IsDone-is_complete : (c : Caller) → is_complete c ≡ true → IsDone c
unfolding is_complete
IsDone-is_complete c is =
    let last = both
    (nat_lt 0 c.terms.expected && nat_le c.terms.expected (length c.answers))
    (not (awaits_any c.answers))
    is in
    let counts = both
    (nat_lt 0 c.terms.expected) (nat_le c.terms.expected (length c.answers)) last.0 in
    let some : 0 < c.terms.expected = let is = counts.0 in grind (arith, nat_tests) in
    let enough : c.terms.expected ≤ length c.answers =
    let is = counts.1 in grind (arith, nat_tests) in
    record {
      some = omega (arith, some, enough);
      enough = enough;
      none_owed = none (awaits_any c.answers) last.1;
    }
  where
    none : (b : Bool) → not b ≡ true → b ≡ false
    none true is = absurd (false-true is)
    none false is = refl

pub closed-done :
    (c : Caller) (reason : Reason) → closed_of c ≡ Some reason → (reason ≡ Done) × IsDone c
unfolding closed_of
closed-done c reason closed = either (is_complete c) refl
  where
    either : (b : Bool) → is_complete c ≡ b → (reason ≡ Done) × IsDone c
    either true is =
        let done : Some Done ≡ Some reason = rw is at closed in
        (cc, IsDone-is_complete c is)
    either false is = let none : None ≡ Some reason = rw is at closed in absurd (cc)

-- a caller that accepted its last answer is complete
complete-replied : (c : Caller) → answer_taken c ≡ RepliedLast → is_complete c ≡ true
unfolding answer_taken
complete-replied c last = either (is_complete c) refl
  where
    either : (b : Bool) → is_complete c ≡ b → is_complete c ≡ true
    either true is = is
    either false is = let none : Replied ≡ RepliedLast = rw is at last in absurd (cc)

pub last-done :
    (c : Caller) (telegram : TelegramModel) (globals : Globals) (fits : Bool)
    → (caller_taking c telegram globals fits).taken ≡ RepliedLast
    → IsDone (caller_taking c telegram globals fits).object
last-done c (PdIs src dst telegram) globals fits last =
    let none : NotTaken ≡ RepliedLast = last in absurd (cc)
last-done c (MdIs src dst telegram) globals fits last =
    either (is_accepted_answer c src telegram.head) refl
  where
    either :
        (b : Bool) → is_accepted_answer c src telegram.head ≡ b
        → IsDone (caller_taking c (MdIs src dst telegram) globals fits).object
    either true is =
        let after = answering c src telegram.head globals.now in
        let told : answer_taken after ≡ RepliedLast = rw is at last in
        rw is (IsDone-is_complete after (complete-replied after told))
    either false is = let none : NotTaken ≡ RepliedLast = rw is at last in absurd (cc)

-- a caller that closes as done at its deadline is done
done-reason : (c : Caller) → reason_of c ≡ Done → IsDone c
unfolding reason_of
done-reason c done = by_count (length c.answers == 0) refl
  where
    by_owed :
        (b : Bool) → awaits_any c.answers ≡ b → (length c.answers == 0) ≡ false
        → nat_lt (length c.answers) c.terms.expected ≡ false → IsDone c
    by_owed true owed some enough =
        let none : NotConfirmed ≡ Done = rw (some, enough, owed) at done in absurd (cc)
    by_owed false owed some enough = record {
      some = grind (arith, nat_tests);
      enough = grind (arith, nat_tests);
      none_owed = owed;
    }

    by_expected :
        (b : Bool) → nat_lt (length c.answers) c.terms.expected ≡ b
        → (length c.answers == 0) ≡ false → IsDone c
    by_expected true enough some =
        let none : NotAllReplies ≡ Done = rw (some, enough) at done in absurd (cc)
    by_expected false enough some = by_owed (awaits_any c.answers) refl some enough

    by_count : (b : Bool) → (length c.answers == 0) ≡ b → IsDone c
    by_count true some = let none : NoReply ≡ Done = rw some at done in absurd (cc)
    by_count false some =
        by_expected (nat_lt (length c.answers) c.terms.expected) refl some

pub fired-done :
    (c : Caller) (globals : Globals) → (caller_firing c globals).fired ≡ Closed Done → IsDone c
fired-done c globals fired = either (is_repeating c) refl
  where
    sent : (b : Bool) → topo_valid c.terms.topo globals.topo ≡ b
        → (repeating c globals).fired ≡ Closed Done → ⊥
    sent true is told = let h = rw is at told in absurd (cc)
    sent false is told = let h = rw is at told in absurd (cc)

    either : (b : Bool) → is_repeating c ≡ b → IsDone c
    either true is =
        let h = rw is at fired in
        absurd (sent (topo_valid c.terms.topo globals.topo) refl h)
    either false is =
        let h = rw is at fired in
        let done : reason_of c ≡ Done = cc in
        done-reason c done
