-- What an event leaves of an object, and which records result.
use Rattle.std.specs.Prelude.{ℕ, List, [], ◌∷◌, Option, Some, None, ◌==◌, if◌then◌else◌}
use Rattle.std.specs.List.{flat_map}
use Rattle.trdp_model.specs.declared.any_object.AnyObject.{AnyObject}
use Rattle.trdp_model.specs.declared.fault.Refusal.{Refusal}
use Rattle.trdp_model.specs.Records.{Content, AnswerModel, RefusedIs, Answers}
use Rattle.trdp_model.specs.Slots.{Entry}

-- what is left of an object, or nothing where it ended, and the records of its act
pub record Act : Type 0 where
  pub left : Option AnyObject
  pub records : List Content

-- an object that stays, with that one answer
abbrev pub answers : AnyObject → AnswerModel → Act
answers object answer = record { left = Some object; records = Answers answer ∷ [] }

-- an object that refuses stays as it is, and its one record says why
abbrev pub refuses : AnyObject → Refusal → Act
refuses object refusal = answers object (RefusedIs refusal)

-- what is left of an object, under its handle
abbrev pub entry_left : Entry → Option AnyObject → List Entry
entry_left entry None = []
entry_left entry (Some object) = record entry { object = object } ∷ []

-- what is left of an object of a slot's list, when this is left of the one of the handle
abbrev pub left_at : ℕ → Option AnyObject → Entry → List Entry
left_at handle left entry = if entry.handle == handle then entry_left entry left else entry ∷ []

-- a slot's list, when this is left of the object of the handle
abbrev pub acted : ℕ → Option AnyObject → List Entry → List Entry
acted handle left objects = flat_map (left_at handle left) objects
