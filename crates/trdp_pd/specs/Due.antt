-- Due moments.
use Rattle.std.specs.Prelude.{ℕ, ◌≤◌, Option, Some, None, Bool, false, nat_le}

-- the moment has come by now
abbrev pub IsDueBy : Option ℕ → ℕ → Type 0
IsDueBy None now = ⊥
IsDueBy (Some due) now = due ≤ now

-- the moment has come by t
abbrev pub has_come_by : ℕ → Option ℕ → Bool
has_come_by t None = false
has_come_by t (Some due) = nat_le due t
