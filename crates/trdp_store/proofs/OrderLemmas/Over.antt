-- What becomes of the due moment of an object that is over with a telegram.
-- For the deed `Handing`, above.
-- By cases on the kind of object, and on what it did with the telegram.
use Rattle.std.proofs.Common.{◌≡◌, ℕ, List, [], ◌∷◌, ◌++◌, Bool, true, false}
use Rattle.std.proofs.Common.{not, Option, None, refl, ◌∙◌, ap, inl, inr}
use Rattle.std.specs.List.{list_any}
use Rattle.std.proofs.lemmas.Bool.{false≢true}
use Rattle.trdp_filter.specs.declared.globals.Globals.{Globals}
use Rattle.trdp_filter.specs.Telegrams.{TelegramModel, PdIs, MdIs}
use Rattle.trdp_head.specs.PdTelegrams.{PdTelegram}
use Rattle.trdp_head.specs.MdTelegrams.{MdTelegram}
use Rattle.trdp_head.specs.declared.md.MdHead.{MdHead}
use Rattle.trdp_base.specs.declared.place.Place.{Place}
use Rattle.trdp_pd.specs.Publishers.{PublisherState, is_answered, publisher_taking}
use Rattle.trdp_pd.specs.declared.terms.ValueState.{ValueState}
use Rattle.trdp_pd.specs.declared.terms.ValueState.TheVariants.{Never, Valid, Silent}
use Rattle.trdp_pd.specs.Subscriptions.{SubscriptionState, is_accepted_value}
use Rattle.trdp_pd.specs.Subscriptions.{taken_in, subscription_taking}
use Rattle.trdp_pd.specs.declared.object.Taken.{Taken}
use Rattle.trdp_pd.specs.declared.object.Taken.TheVariants.{RepliedLast, Confirmed}
use Rattle.trdp_model.specs.declared.any_object.AnyObject.{AnyObject}
use Rattle.trdp_model.specs.declared.any_object.AnyObject.TheVariants.{Publisher, Subscription}
use Rattle.trdp_model.specs.declared.any_object.AnyObject.TheVariants.{Requester, Listener}
use Rattle.trdp_model.specs.declared.any_object.AnyObject.TheVariants.{Caller, Replier}
use Rattle.trdp_model.specs.Objects.{due_of, after_taking, taken}
use Rattle.trdp_md.specs.declared.answers.RequestAnswer.{RequestAnswer}
use Rattle.trdp_md.specs.declared.listener.Listener.{Listener as AnyListener}
use Rattle.trdp_md.specs.Listeners.{listener_addressed, listener_taking}
use Rattle.trdp_md.specs.declared.caller.Caller.{Caller as AnyCaller}
use Rattle.trdp_md.specs.declared.replier.Replier.{Replier as AnyReplier}
use Rattle.trdp_md.specs.Answers.{awaits_any}
use Rattle.trdp_md.specs.Callers.{is_query, is_accepted_answer as is_taken, is_complete, answer_of}
use Rattle.trdp_md.specs.Callers.{answering, deadline_after, answer_taken as replied_as}
use Rattle.trdp_md.specs.Callers.{caller_taking}
use Rattle.trdp_md.specs.Repliers.{is_for_replier, replier_taking}
use Rattle.trdp_store.specs.Timed.{IsOver}
use Rattle.trdp_model.proofs.TestLemmas.{and_right}
use Rattle.trdp_model.proofs.TestLemmas.{or_left, or_right}

-- the due moment then, by what an object did with a telegram
abbrev pub IsOverBy : Option ℕ → Option ℕ → Taken → Type 0
IsOverBy before due RepliedLast = due ≡ before
IsOverBy before due (Confirmed status) = due ≡ None
IsOverBy before due did = Unit {0}

-- A caller with its last answer.

last_of : (p : RequestAnswer → Bool) (xs : List RequestAnswer) (x : RequestAnswer)
    → list_any p (xs ++ x ∷ []) ≡ false → p x ≡ false
last_of p [] x none = or_left (p x) false none
last_of p (y ∷ xs) x none = last_of p xs x (or_right (p y) (list_any p (xs ++ x ∷ [])) none)

not_true : (b : Bool) → not b ≡ true → b ≡ false
not_true true is = absurd (false≢true is)
not_true false is = refl

-- its last answer is no query, so that its deadline stays
complete_stays : (c : AnyCaller) (src : Place) (head : MdHead) (now : ℕ)
    → is_complete (answering c src head now) ≡ true
    → (answering c src head now).deadline ≡ c.deadline
unfolding is_complete awaits_any deadline_after
complete_stays c src head now complete =
    let none = not_true _ (and_right _ _ complete) in
    let query : is_query head.kind ≡ false =
    last_of (λ answer. answer.confirm_owed) c.answers (answer_of src head) none in
    rw query refl

replied_over : (c : AnyCaller) (src : Place) (head : MdHead) (now : ℕ) → IsOverBy c.deadline
    (answering c src head now).deadline (replied_as (answering c src head now))
unfolding replied_as
replied_over c src head now = either (is_complete (answering c src head now)) refl
  where
    either : (b : Bool) → is_complete (answering c src head now) ≡ b → IsOverBy c.deadline
        (answering c src head now).deadline (replied_as (answering c src head now))
    either true is = rw is (complete_stays c src head now is)
    either false is = rw is tt

-- Each object.

taken_in_over : (before due : Option ℕ) (state : ValueState) → IsOverBy before due (taken_in state)
taken_in_over before due Never = tt
taken_in_over before due Valid = tt
taken_in_over before due Silent = tt

publisher_over : (p : PublisherState) (src dst : Place) (telegram : PdTelegram) (globals : Globals)
    (fits b : Bool) (before due : Option ℕ) → is_answered p telegram.head globals ≡ b
    → IsOverBy before due (publisher_taking p (PdIs src dst telegram) globals fits).taken
publisher_over p src dst telegram globals fits true before due is = rw is tt
publisher_over p src dst telegram globals fits false before due is = rw is tt

subscription_over : (s : SubscriptionState) (src dst : Place)
    (telegram : PdTelegram) (globals : Globals) (fits b : Bool) (before due : Option ℕ)
    → is_accepted_value s src dst telegram.head globals fits ≡ b
    → IsOverBy before due (subscription_taking s (PdIs src dst telegram) globals fits).taken
subscription_over s src dst telegram globals fits true before due is =
    rw is (taken_in_over before due s.state)
subscription_over s src dst telegram globals fits false before due is = rw is tt

listener_over : (l : AnyListener) (telegram : TelegramModel) (globals : Globals)
    (fits b : Bool) (before due : Option ℕ) → listener_addressed l telegram globals ≡ b
    → IsOverBy before due (listener_taking l telegram globals fits).taken
listener_over l telegram globals fits true before due is = rw is tt
listener_over l telegram globals fits false before due is = rw is tt

caller_over :
    (c : AnyCaller) (src dst : Place) (telegram : MdTelegram) (globals : Globals) (fits b : Bool)
    → is_taken c src telegram.head ≡ b
    → IsOverBy c.deadline (caller_taking c (MdIs src dst telegram) globals fits).object.deadline
    (caller_taking c (MdIs src dst telegram) globals fits).taken
caller_over c src dst telegram globals fits true is =
    rw is (replied_over c src telegram.head globals.now)
caller_over c src dst telegram globals fits false is = rw is tt

replier_over :
    (r : AnyReplier) (src dst : Place) (telegram : MdTelegram) (globals : Globals) (fits b : Bool)
    → is_for_replier r src telegram.head ≡ b
    → IsOverBy r.deadline (replier_taking r (MdIs src dst telegram) globals fits).object.deadline
    (replier_taking r (MdIs src dst telegram) globals fits).taken
replier_over r src dst telegram globals fits true is = rw is refl
replier_over r src dst telegram globals fits false is = rw is tt

pub over_by : (object : AnyObject) (telegram : TelegramModel) (globals : Globals) (fits : Bool)
    → IsOverBy (due_of object) (due_of (after_taking object telegram globals fits))
    (taken object telegram globals fits)
over_by (Publisher p) (PdIs src dst telegram) globals fits =
    publisher_over p src dst telegram globals fits _ _ _ refl
over_by (Publisher p) (MdIs src dst telegram) globals fits = tt
over_by (Subscription s) (PdIs src dst telegram) globals fits =
    subscription_over s src dst telegram globals fits _ _ _ refl
over_by (Subscription s) (MdIs src dst telegram) globals fits = tt
over_by (Requester r) telegram globals fits = tt
over_by (Listener l) telegram globals fits = listener_over l telegram globals fits _ _ _ refl
over_by (Caller c) (PdIs src dst telegram) globals fits = tt
over_by (Caller c) (MdIs src dst telegram) globals fits =
    caller_over c src dst telegram globals fits _ refl
over_by (Replier r) (PdIs src dst telegram) globals fits = tt
over_by (Replier r) (MdIs src dst telegram) globals fits =
    replier_over r src dst telegram globals fits _ refl

-- as it is said of one that receives it
pub over_replied :
    (object object_then : AnyObject) (telegram : TelegramModel) (globals : Globals) (fits : Bool)
    → object_then ≡ after_taking object telegram globals fits
    → RepliedLast ≡ taken object telegram globals fits → IsOver (due_of object) (due_of object_then)
over_replied object object_then telegram globals fits is did =
    inl (ap due_of is ∙ (rw (← did) at (over_by object telegram globals fits)))

pub over_confirmed : (object object_then : AnyObject) (telegram : TelegramModel) (globals : Globals)
    (fits : Bool) (status : _) → object_then ≡ after_taking object telegram globals fits
    → Confirmed status ≡ taken object telegram globals fits
    → IsOver (due_of object) (due_of object_then)
over_confirmed object object_then telegram globals fits status is did =
    inr (ap due_of is ∙ (rw (← did) at (over_by object telegram globals fits)))
