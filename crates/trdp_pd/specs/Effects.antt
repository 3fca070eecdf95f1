-- What becomes of an object, and what it does.
use Rattle.trdp_pd.specs.declared.object.Taken.{Taken}
use Rattle.trdp_pd.specs.declared.object.Fired.{Fired}

-- an object that was handed a telegram, and what it did with it
pub record Reception (O : Type 0) : Type 0 where
  pub object : O
  pub taken : Taken

-- an object that fired, and what it did
pub record Firing (O : Type 0) : Type 0 where
  pub object : O
  pub fired : Fired

-- the same for the object under its kind
abbrev pub taking_as : {O P : Type 0} → (O → P) → Reception O → Reception P
taking_as kind effect = record { object = kind effect.object; taken = effect.taken }

-- the same for the object under its kind
abbrev pub firing_as : {O P : Type 0} → (O → P) → Firing O → Firing P
firing_as kind effect = record { object = kind effect.object; fired = effect.fired }
