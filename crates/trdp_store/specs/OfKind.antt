-- The kind that the table records for an object is the one that the object is of.
use Rattle.std.specs.Prelude.{◌≡◌, ℕ, List, [], ◌∷◌}
use Rattle.trdp_model.specs.Kinds.{kind_of}
use Rattle.trdp_table.specs.Tables.{Keyed, TableState, slot_in}

-- each of these objects is of the kind that the table records for it, and so counts there for the
-- quota of that kind
abbrev pub AreOfKind : List Keyed → Type 0
AreOfKind [] = Unit {0}
AreOfKind (keyed ∷ others) = (keyed.kind ≡ kind_of keyed.object) × AreOfKind others

-- the same of all slots
abbrev pub AllOfKind : TableState → Type 0
AllOfKind table = (s : ℕ) → AreOfKind (slot_in s table).objects
