-- An object keeps its kind.
-- For `kind_stays`.
-- By cases on the kind.
use Rattle.std.proofs.Common.{◌≡◌, Bool, refl}
use Rattle.trdp_filter.specs.declared.globals.Globals.{Globals}
use Rattle.trdp_filter.specs.Telegrams.{TelegramModel}
use Rattle.trdp_model.specs.declared.any_object.AnyObject.{AnyObject}
use Rattle.trdp_model.specs.declared.any_object.AnyObject.TheVariants.{Publisher, Subscription}
use Rattle.trdp_model.specs.declared.any_object.AnyObject.TheVariants.{Requester, Listener}
use Rattle.trdp_model.specs.declared.any_object.AnyObject.TheVariants.{Caller, Replier}
use Rattle.trdp_model.specs.Kinds.{kind_of}
use Rattle.trdp_model.specs.Objects.{after_taking, after_firing}

-- an object that was handed a telegram
pub kind-taking :
    (object : AnyObject) (telegram : TelegramModel) (globals : Globals) (fits : Bool)
    → kind_of (after_taking object telegram globals fits) ≡ kind_of object
kind-taking (Publisher p) telegram globals fits = refl
kind-taking (Subscription s) telegram globals fits = refl
kind-taking (Requester r) telegram globals fits = refl
kind-taking (Listener l) telegram globals fits = refl
kind-taking (Caller c) telegram globals fits = refl
kind-taking (Replier r) telegram globals fits = refl

-- an object that fired
pub kind-firing :
    (object : AnyObject) (globals : Globals)
    → kind_of (after_firing object globals) ≡ kind_of object
kind-firing (Publisher p) globals = refl
kind-firing (Subscription s) globals = refl
kind-firing (Requester r) globals = refl
kind-firing (Listener l) globals = refl
kind-firing (Caller c) globals = refl
kind-firing (Replier r) globals = refl
