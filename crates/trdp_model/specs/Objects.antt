-- The objects of a slot, by kind.
use Rattle.std.specs.Prelude.{ℕ, Option, Some, None, Bool, true}
use Rattle.trdp_filter.specs.declared.globals.Globals.{Globals}
use Rattle.trdp_filter.specs.Telegrams.{TelegramModel}
use Rattle.trdp_pd.specs.declared.object.Taken.{Taken}
use Rattle.trdp_pd.specs.declared.object.Fired.{Fired}
use Rattle.trdp_model.specs.declared.any_object.AnyObject.{AnyObject}
use Rattle.trdp_model.specs.declared.any_object.AnyObject.TheVariants.{Publisher, Subscription}
use Rattle.trdp_model.specs.declared.any_object.AnyObject.TheVariants.{Requester, Listener}
use Rattle.trdp_model.specs.declared.any_object.AnyObject.TheVariants.{Caller, Replier}
use Rattle.trdp_pd.specs.Effects.{Reception, Firing, taking_as, firing_as}
use Rattle.trdp_pd.specs.Publishers.{publisher_due, publisher_addressed, publisher_taking}
use Rattle.trdp_pd.specs.Publishers.{publisher_firing}
use Rattle.trdp_pd.specs.Subscriptions.{subscription_addressed, subscription_taking}
use Rattle.trdp_pd.specs.Subscriptions.{subscription_firing}
use Rattle.trdp_pd.specs.Requesters.{requester_due, requester_addressed, requester_taking}
use Rattle.trdp_pd.specs.Requesters.{requester_firing}
use Rattle.trdp_md.specs.Listeners.{listener_due, listener_addressed, listener_taking}
use Rattle.trdp_md.specs.Listeners.{listener_firing}
use Rattle.trdp_md.specs.Callers.{caller_due, caller_addressed, caller_taking, caller_firing}
use Rattle.trdp_md.specs.Callers.{is_sound_caller}
use Rattle.trdp_md.specs.Repliers.{replier_due, replier_addressed, replier_taking}
use Rattle.trdp_md.specs.Repliers.{replier_firing}

-- when the object is to act next
abbrev pub due_of : AnyObject → Option ℕ
due_of (Publisher p) = publisher_due p
due_of (Subscription s) = s.deadline
due_of (Requester r) = requester_due r
due_of (Listener l) = listener_due l
due_of (Caller c) = caller_due c
due_of (Replier r) = replier_due r

-- the dataset that the object's value is one of; publishers and subscriptions alone have one
abbrev pub dataset_of : AnyObject → Option ℕ
dataset_of (Publisher p) = Some p.terms.dataset
dataset_of (Subscription s) = Some s.terms.dataset
dataset_of (Requester r) = None
dataset_of (Listener l) = None
dataset_of (Caller c) = None
dataset_of (Replier r) = None

-- what the laws of objects require of one: of a caller that it waits for a time, of the others
-- nothing
abbrev pub is_sound : AnyObject → Bool
is_sound (Publisher p) = true
is_sound (Subscription s) = true
is_sound (Requester r) = true
is_sound (Listener l) = true
is_sound (Caller c) = is_sound_caller c
is_sound (Replier r) = true

-- the telegram is for the object
abbrev pub is_addressed : AnyObject → TelegramModel → Globals → Bool
is_addressed (Publisher p) telegram globals = publisher_addressed p telegram globals
is_addressed (Subscription s) telegram globals = subscription_addressed s telegram globals
is_addressed (Requester r) telegram globals = requester_addressed r telegram globals
is_addressed (Listener l) telegram globals = listener_addressed l telegram globals
is_addressed (Caller c) telegram globals = caller_addressed c telegram globals
is_addressed (Replier r) telegram globals = replier_addressed r telegram globals

-- the object once it was handed a telegram, and what it did with it
abbrev pub taking : AnyObject → TelegramModel → Globals → Bool → Reception AnyObject
taking (Publisher p) telegram globals fits =
    taking_as Publisher (publisher_taking p telegram globals fits)
taking (Subscription s) telegram globals fits =
    taking_as Subscription (subscription_taking s telegram globals fits)
taking (Requester r) telegram globals fits =
    taking_as Requester (requester_taking r telegram globals fits)
taking (Listener l) telegram globals fits =
    taking_as Listener (listener_taking l telegram globals fits)
taking (Caller c) telegram globals fits =
    taking_as Caller (caller_taking c telegram globals fits)
taking (Replier r) telegram globals fits =
    taking_as Replier (replier_taking r telegram globals fits)

-- the object after it was handed a telegram
abbrev pub after_taking : AnyObject → TelegramModel → Globals → Bool → AnyObject
after_taking object telegram globals fits = (taking object telegram globals fits).object

-- what the object did with the telegram
abbrev pub taken : AnyObject → TelegramModel → Globals → Bool → Taken
taken object telegram globals fits = (taking object telegram globals fits).taken

-- the object once it fired, and what it did
abbrev pub firing : AnyObject → Globals → Firing AnyObject
firing (Publisher p) globals = firing_as Publisher (publisher_firing p globals)
firing (Subscription s) globals = firing_as Subscription (subscription_firing s globals)
firing (Requester r) globals = firing_as Requester (requester_firing r globals)
firing (Listener l) globals = firing_as Listener (listener_firing l globals)
firing (Caller c) globals = firing_as Caller (caller_firing c globals)
firing (Replier r) globals = firing_as Replier (replier_firing r globals)

-- the object after it fired
abbrev pub after_firing : AnyObject → Globals → AnyObject
after_firing object globals = (firing object globals).object

-- what the object does as it fires
abbrev pub fired : AnyObject → Globals → Fired
fired object globals = (firing object globals).fired
