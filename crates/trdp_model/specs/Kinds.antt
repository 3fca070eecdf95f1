-- The kinds of objects, in the order of a slot's quotas (profile).
use Rattle.std.specs.Prelude.{ℕ, Bool, ◌==◌}
use Rattle.trdp_model.specs.declared.any_object.AnyObject.{AnyObject}
use Rattle.trdp_model.specs.declared.any_object.AnyObject.TheVariants as object
use Rattle.trdp_model.specs.declared.kind.Kind.{Kind}
use Rattle.trdp_model.specs.declared.kind.Kind.TheVariants.{Publisher, Subscription, Requester}
use Rattle.trdp_model.specs.declared.kind.Kind.TheVariants.{Listener, Caller, Replier}

-- the index of a kind among the quotas
abbrev pub kind_index : Kind → ℕ
kind_index Publisher = 0
kind_index Subscription = 1
kind_index Requester = 2
kind_index Listener = 3
kind_index Caller = 4
kind_index Replier = 5

-- whether two kinds are one
abbrev pub is_same_kind : Kind → Kind → Bool
is_same_kind kind other = kind_index kind == kind_index other

-- the kind of an object
abbrev pub kind_of : AnyObject → Kind
kind_of (object.Publisher p) = Publisher
kind_of (object.Subscription s) = Subscription
kind_of (object.Requester r) = Requester
kind_of (object.Listener l) = Listener
kind_of (object.Caller c) = Caller
kind_of (object.Replier r) = Replier
