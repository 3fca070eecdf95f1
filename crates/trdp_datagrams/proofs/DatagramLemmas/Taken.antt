-- A telegram and the objects that act at it; one that concerns no object changes nothing.
-- For `Handing`'s `on`, and for `NodeLemmas.Admitted` of `trdp_engine`.
-- By cases on what an object did with it, which determines the object's kind and so its room.
use Rattle.std.proofs.Common.{◌≡◌, List, [], ◌∷◌, Bool, true, false, Some}
use Rattle.std.proofs.Common.{None, refl, ◌∙◌, arith, inl, inr}
use Rattle.std.specs.Prelude.{◌&&◌}
use Rattle.std.specs.List.{flat_map, list_any}
use Rattle.std.proofs.lemmas.List.Concat.{flat_map-cons}
use Rattle.trdp_model.proofs.TestLemmas.{or_left, or_right}
use Rattle.trdp_model.proofs.UnconcernedSlotLemmas.{none_acts}
use Rattle.trdp_filter.specs.declared.globals.Globals.{Globals}
use Rattle.trdp_filter.specs.Telegrams.{TelegramModel, PdIs, MdIs}
use Rattle.trdp_head.specs.PdTelegrams.{PdTelegram}
use Rattle.trdp_base.specs.declared.place.Place.{Place}
use Rattle.trdp_pd.specs.Publishers.{PublisherState, is_answered, publisher_taking}
use Rattle.trdp_pd.specs.declared.terms.ValueState.{ValueState}
use Rattle.trdp_pd.specs.declared.terms.ValueState.TheVariants.{Never, Valid, Silent}
use Rattle.trdp_pd.specs.Subscriptions.{SubscriptionState, is_accepted_value}
use Rattle.trdp_pd.specs.Subscriptions.{taken_in, subscription_taking}
use Rattle.trdp_pd.specs.declared.object.Taken.{Taken}
use Rattle.trdp_pd.specs.declared.object.Taken.TheVariants.{Nothing, Stored, Alive, Pulled, Heard}
use Rattle.trdp_pd.specs.declared.object.Taken.TheVariants.{Replied, RepliedLast, Confirmed}
use Rattle.trdp_model.specs.declared.any_object.AnyObject.{AnyObject}
use Rattle.trdp_model.specs.declared.any_object.AnyObject.TheVariants.{Publisher, Subscription}
use Rattle.trdp_model.specs.declared.any_object.AnyObject.TheVariants.{Requester, Listener}
use Rattle.trdp_model.specs.declared.any_object.AnyObject.TheVariants.{Caller, Replier}
use Rattle.trdp_model.specs.declared.kind.Kind.{Kind}
use Rattle.trdp_model.specs.declared.kind.Kind.TheVariants.{Publisher as Publishing}
use Rattle.trdp_model.specs.declared.kind.Kind.TheVariants.{Subscription as Subscribing}
use Rattle.trdp_model.specs.declared.kind.Kind.TheVariants.{Listener as Listening}
use Rattle.trdp_model.specs.declared.kind.Kind.TheVariants.{Caller as Calling, Replier as Replying}
use Rattle.trdp_model.specs.Kinds.{kind_of}
use Rattle.trdp_md.specs.declared.listener.Listener.{Listener as AnyListener}
use Rattle.trdp_md.specs.Listeners.{listener_addressed, listener_taking}
use Rattle.trdp_md.specs.declared.caller.Caller.{Caller as AnyCaller}
use Rattle.trdp_md.specs.declared.replier.Replier.{Replier as AnyReplier}
use Rattle.trdp_md.specs.Callers.{is_accepted_answer as is_taken, is_complete, answering}
use Rattle.trdp_md.specs.Callers.{answer_taken as replied_as, caller_taking}
use Rattle.trdp_md.specs.Repliers.{is_for_replier, replier_taking}
use Rattle.trdp_head.specs.MdTelegrams.{MdTelegram}
use Rattle.trdp_model.specs.Objects.{taken}
use Rattle.trdp_model.specs.Slots.{Entry, SlotState}
use Rattle.trdp_model.specs.Datagrams.{is_listening, hearing, is_valid_at}
use Rattle.trdp_model.specs.Datagrams.{concerns}
use Rattle.trdp_model.specs.Datagrams.{is_for_entry, acting}
use Rattle.trdp_outbox.specs.Outboxes.{OutboxState}
use Rattle.trdp_outbox.specs.Rooms.{LacksRoom, entries_room}

-- where a telegram with matching topology counters concerns no slot, no object acts at it
unconcerned_all : (telegram : TelegramModel) (globals : Globals) (slots : List SlotState)
    → is_valid_at globals telegram ≡ true → list_any (concerns globals (Some telegram)) slots
    ≡ false → flat_map (λ slot. acting telegram globals slot.objects) slots ≡ []
unconcerned_all telegram globals [] valid none = refl
unconcerned_all telegram globals (x ∷ slots) valid none =
    let head : concerns globals (Some telegram) x ≡ false =
    or_left (concerns globals (Some telegram) x)
    (list_any (concerns globals (Some telegram)) slots) none in
    let rest : list_any (concerns globals (Some telegram)) slots ≡ false =
    or_right (concerns globals (Some telegram) x)
    (list_any (concerns globals (Some telegram)) slots) none in
    let none_of : list_any (is_for_entry telegram globals) x.objects ≡ false = rw valid at head in
    flat_map-cons (λ slot. acting telegram globals slot.objects) x slots
    ∙ rw (none_acts telegram globals x.objects x.objects none_of)
    (unconcerned_all telegram globals slots valid rest)

-- where the room for a telegram may be missing, it concerns a slot
pub lacking_concerns : (telegram : TelegramModel) (globals : Globals) (slots : List SlotState)
    (out : OutboxState) → is_valid_at globals telegram ≡ true
    → LacksRoom out (entries_room (flat_map (λ slot. acting telegram globals slot.objects) slots))
    → list_any (concerns globals (Some telegram)) slots ≡ true
lacking_concerns telegram globals slots out valid lacks =
    either (list_any (concerns globals (Some telegram)) slots) refl
  where
    either : (b : Bool) → list_any (concerns globals (Some telegram)) slots ≡ b
        → list_any (concerns globals (Some telegram)) slots ≡ true
    either true is = is
    either false is =
        let nothing = rw (unconcerned_all telegram globals slots valid is) at lacks in
        elim nothing [ inl lt ↦ absurd (omega (arith, lt)) | inr lt ↦ absurd (omega (arith, lt)) ]

-- an object of that kind may have done this with a telegram
abbrev pub IsTakenBy : Kind → Taken → Type 0
IsTakenBy kind Nothing = Unit {0}
IsTakenBy kind Stored = kind ≡ Subscribing
IsTakenBy kind Alive = kind ≡ Subscribing
IsTakenBy kind (Pulled head) = kind ≡ Publishing
IsTakenBy kind Heard = kind ≡ Listening
IsTakenBy kind Replied = kind ≡ Calling
IsTakenBy kind RepliedLast = kind ≡ Calling
IsTakenBy kind (Confirmed status) = kind ≡ Replying

taken_in_by : (state : ValueState) → IsTakenBy Subscribing (taken_in state)
taken_in_by Never = refl
taken_in_by Valid = refl
taken_in_by Silent = refl

replied_by : (c : AnyCaller) → IsTakenBy Calling (replied_as c)
unfolding replied_as
replied_by c = either (is_complete c) refl
  where
    either : (b : Bool) → is_complete c ≡ b → IsTakenBy Calling (replied_as c)
    either true is = rw is refl
    either false is = rw is refl

publisher_takes : (p : PublisherState) (src dst : Place) (telegram : PdTelegram)
    (globals : Globals) (fits b : Bool) → is_answered p telegram.head globals ≡ b
    → IsTakenBy Publishing (publisher_taking p (PdIs src dst telegram) globals fits).taken
publisher_takes p src dst telegram globals fits true is = rw is refl
publisher_takes p src dst telegram globals fits false is = rw is tt

subscription_takes : (s : SubscriptionState) (src dst : Place) (telegram : PdTelegram)
    (globals : Globals) (fits b : Bool) → is_accepted_value s src dst telegram.head globals fits ≡ b
    → IsTakenBy Subscribing (subscription_taking s (PdIs src dst telegram) globals fits).taken
subscription_takes s src dst telegram globals fits true is = rw is (taken_in_by s.state)
subscription_takes s src dst telegram globals fits false is = rw is tt

listener_takes : (l : AnyListener) (telegram : TelegramModel) (globals : Globals) (fits b : Bool)
    → listener_addressed l telegram globals ≡ b
    → IsTakenBy Listening (listener_taking l telegram globals fits).taken
listener_takes l telegram globals fits true is = rw is refl
listener_takes l telegram globals fits false is = rw is tt

caller_takes :
    (c : AnyCaller) (src dst : Place) (telegram : MdTelegram) (globals : Globals) (fits b : Bool)
    → is_taken c src telegram.head ≡ b
    → IsTakenBy Calling (caller_taking c (MdIs src dst telegram) globals fits).taken
caller_takes c src dst telegram globals fits true is =
    rw is (replied_by (answering c src telegram.head globals.now))
caller_takes c src dst telegram globals fits false is = rw is tt

replier_takes :
    (r : AnyReplier) (src dst : Place) (telegram : MdTelegram) (globals : Globals) (fits b : Bool)
    → is_for_replier r src telegram.head ≡ b
    → IsTakenBy Replying (replier_taking r (MdIs src dst telegram) globals fits).taken
replier_takes r src dst telegram globals fits true is = rw is refl
replier_takes r src dst telegram globals fits false is = rw is tt

-- what an object did with a telegram determines its kind
pub taken_by : (object : AnyObject) (telegram : TelegramModel) (globals : Globals) (fits : Bool)
    → IsTakenBy (kind_of object) (taken object telegram globals fits)
taken_by (Publisher p) (PdIs src dst telegram) globals fits =
    publisher_takes p src dst telegram globals fits _ refl
taken_by (Publisher p) (MdIs src dst telegram) globals fits = tt
taken_by (Subscription s) (PdIs src dst telegram) globals fits =
    subscription_takes s src dst telegram globals fits _ refl
taken_by (Subscription s) (MdIs src dst telegram) globals fits = tt
taken_by (Requester r) telegram globals fits = tt
taken_by (Listener l) telegram globals fits = listener_takes l telegram globals fits _ refl
taken_by (Caller c) (PdIs src dst telegram) globals fits = tt
taken_by (Caller c) (MdIs src dst telegram) globals fits =
    caller_takes c src dst telegram globals fits _ refl
taken_by (Replier r) (PdIs src dst telegram) globals fits = tt
taken_by (Replier r) (MdIs src dst telegram) globals fits =
    replier_takes r src dst telegram globals fits _ refl

-- the kind of an object that did this, so its room
pub kind_taken :
    (object : AnyObject) (telegram : TelegramModel) (globals : Globals) (fits : Bool) (did : Taken)
    → did ≡ taken object telegram globals fits → IsTakenBy (kind_of object) did
kind_taken object telegram globals fits did is = rw is (taken_by object telegram globals fits)

-- No listener hears process data.

no_listener : (src dst : Place) (telegram : PdTelegram)
    (globals : Globals) (entry : Entry) (object : AnyObject) → entry.object ≡ object
    → (is_listening entry && is_for_entry (PdIs src dst telegram) globals entry) ≡ false
no_listener src dst telegram globals entry (Publisher p) is = rw is refl
no_listener src dst telegram globals entry (Subscription s) is = rw is refl
no_listener src dst telegram globals entry (Requester r) is = rw is refl
no_listener src dst telegram globals entry (Listener l) is = rw is refl
no_listener src dst telegram globals entry (Caller c) is = rw is refl
no_listener src dst telegram globals entry (Replier r) is = rw is refl

pub process_unheard :
    (src dst : Place) (telegram : PdTelegram) (globals : Globals) (objects : List Entry)
    → hearing (PdIs src dst telegram) globals objects ≡ None
process_unheard src dst telegram globals [] = refl
process_unheard src dst telegram globals (e ∷ es) =
    rw (no_listener src dst telegram globals e e.object refl)
    (process_unheard src dst telegram globals es)
