-- What is true of every object, from its kinds: proofs for the trait of all objects. They are here
-- because what a trait's implementation names in src/ may be in specs/ alone.
use Rattle.std.proofs.Common.{◌≡◌, Bool, true, false, refl, ap}
use Rattle.trdp_filter.specs.declared.globals.Globals.{Globals}
use Rattle.trdp_filter.specs.Telegrams.{TelegramModel}
use Rattle.trdp_pd.specs.declared.object.Taken.TheVariants.{Nothing as NotTaken}
use Rattle.trdp_model.specs.declared.any_object.AnyObject.{AnyObject}
use Rattle.trdp_model.specs.declared.any_object.AnyObject.TheVariants.{Publisher, Subscription}
use Rattle.trdp_model.specs.declared.any_object.AnyObject.TheVariants.{Requester, Listener}
use Rattle.trdp_model.specs.declared.any_object.AnyObject.TheVariants.{Caller, Replier}
use Rattle.trdp_pd.specs.Effects.{Reception, taking_as}
use Rattle.trdp_pd.specs.Due.{has_come_by}
use Rattle.trdp_pd.specs.Publishers.{PublisherState}
use Rattle.trdp_pd.specs.Subscriptions.{SubscriptionState}
use Rattle.trdp_pd.specs.Requesters.{RequesterState}
use Rattle.trdp_md.specs.declared.listener.Listener.{Listener as ListenerState}
use Rattle.trdp_md.specs.declared.caller.Caller.{Caller as CallerState}
use Rattle.trdp_md.specs.declared.replier.Replier.{Replier as ReplierState}
use Rattle.trdp_model.specs.Objects.{due_of, is_sound, is_addressed, taking, firing}
use Rattle.trdp_pd.specs.PublisherLaws.{publisher_taking-unaddressed, publisher_due-firing}
use Rattle.trdp_pd.specs.PublisherLaws.{publisher_due-taking}
use Rattle.trdp_pd.specs.SubscriptionLaws.{subscription_taking-unaddressed}
use Rattle.trdp_pd.specs.SubscriptionLaws.{subscription_due-firing, subscription_due-taking}
use Rattle.trdp_pd.specs.RequesterLaws.{requester_taking-unaddressed, requester_due-firing}
use Rattle.trdp_pd.specs.RequesterLaws.{requester_due-taking}
use Rattle.trdp_md.specs.ListenerLaws.{listener_taking-unaddressed, listener_due-firing}
use Rattle.trdp_md.specs.ListenerLaws.{listener_due-taking}
use Rattle.trdp_md.specs.CallerLaws.{caller_taking-unaddressed, caller_due-firing}
use Rattle.trdp_md.specs.CallerLaws.{caller_due-taking}
use Rattle.trdp_md.specs.CallerLaws.{caller_sound-taking, caller_sound-firing}
use Rattle.trdp_md.specs.ReplierLaws.{replier_taking-unaddressed, replier_due-firing}
use Rattle.trdp_md.specs.ReplierLaws.{replier_due-taking}

-- a telegram that isn't addressed to an object changes nothing
pub taking-unaddressed :
    (object : AnyObject) (telegram : TelegramModel) (globals : Globals) (fits : Bool)
    → is_addressed object telegram globals ≡ false
    → taking object telegram globals fits ≡ record { object = object; taken = NotTaken }
taking-unaddressed (Publisher p) telegram globals fits not =
    ap
    (λ (t : Reception PublisherState). taking_as Publisher t)
    (publisher_taking-unaddressed p telegram globals fits not)
taking-unaddressed (Subscription s) telegram globals fits not =
    ap
    (λ (t : Reception SubscriptionState). taking_as Subscription t)
    (subscription_taking-unaddressed s telegram globals fits not)
taking-unaddressed (Requester r) telegram globals fits not =
    ap
    (λ (t : Reception RequesterState). taking_as Requester t)
    (requester_taking-unaddressed r telegram globals fits not)
taking-unaddressed (Listener l) telegram globals fits not =
    ap
    (λ (t : Reception ListenerState). taking_as Listener t)
    (listener_taking-unaddressed l telegram globals fits not)
taking-unaddressed (Caller c) telegram globals fits not =
    ap
    (λ (t : Reception CallerState). taking_as Caller t)
    (caller_taking-unaddressed c telegram globals fits not)
taking-unaddressed (Replier r) telegram globals fits not =
    ap
    (λ (t : Reception ReplierState). taking_as Replier t)
    (replier_taking-unaddressed r telegram globals fits not)

-- an object that fired isn't due by now
pub due-firing :
    (object : AnyObject) (globals : Globals) → is_sound object ≡ true
    → has_come_by globals.now (due_of (firing object globals).object) ≡ false
due-firing (Publisher p) globals sound = publisher_due-firing p globals
due-firing (Subscription s) globals sound = subscription_due-firing s globals
due-firing (Requester r) globals sound = requester_due-firing r globals
due-firing (Listener l) globals sound = listener_due-firing l globals
due-firing (Caller c) globals sound = caller_due-firing c globals sound
due-firing (Replier r) globals sound = replier_due-firing r globals

-- a telegram makes no object due
pub due-taking :
    (object : AnyObject) (telegram : TelegramModel) (globals : Globals) (fits : Bool)
    → is_sound object ≡ true → has_come_by globals.now (due_of object) ≡ false
    → has_come_by globals.now (due_of (taking object telegram globals fits).object) ≡ false
due-taking (Publisher p) telegram globals fits sound not =
    publisher_due-taking p telegram globals fits not
due-taking (Subscription s) telegram globals fits sound not =
    subscription_due-taking s telegram globals fits not
due-taking (Requester r) telegram globals fits sound not =
    requester_due-taking r telegram globals fits not
due-taking (Listener l) telegram globals fits sound not =
    listener_due-taking l telegram globals fits not
due-taking (Caller c) telegram globals fits sound not =
    caller_due-taking c telegram globals fits not
due-taking (Replier r) telegram globals fits sound not =
    replier_due-taking r telegram globals fits not

-- an object stays sound
pub is_sound-taking :
    (object : AnyObject) (telegram : TelegramModel) (globals : Globals) (fits : Bool)
    → is_sound object ≡ true → is_sound (taking object telegram globals fits).object ≡ true
is_sound-taking (Publisher p) telegram globals fits sound = refl
is_sound-taking (Subscription s) telegram globals fits sound = refl
is_sound-taking (Requester r) telegram globals fits sound = refl
is_sound-taking (Listener l) telegram globals fits sound = refl
is_sound-taking (Caller c) telegram globals fits sound =
    caller_sound-taking c telegram globals fits sound
is_sound-taking (Replier r) telegram globals fits sound = refl

pub is_sound-firing :
    (object : AnyObject) (globals : Globals) → is_sound object ≡ true
    → is_sound (firing object globals).object ≡ true
is_sound-firing (Publisher p) globals sound = refl
is_sound-firing (Subscription s) globals sound = refl
is_sound-firing (Requester r) globals sound = refl
is_sound-firing (Listener l) globals sound = refl
is_sound-firing (Caller c) globals sound = caller_sound-firing c globals sound
is_sound-firing (Replier r) globals sound = refl
