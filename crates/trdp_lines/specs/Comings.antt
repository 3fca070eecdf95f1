-- The connections that come at a path, and those that are refused.
use Rattle.std.specs.Prelude.{◌≡◌, ℕ, ◌+◌, ◌≤◌, ◌++◌, ◌⊎◌, List, [], ◌∷◌, Option, Some, None}
use Rattle.std.specs.Prelude.{codes}
use Rattle.trdp_lines.specs.Connections.{ConnectionCall, Writing, Writes, Closes}
use Rattle.trdp_lines.specs.Paths.{last_connection_number}
use Rattle.trdp_lines.specs.Said.{connections_in}

-- these connections came between these calls
abbrev pub HaveCome : (calls calls_then : Option (List ConnectionCall)) → List ℕ → Type 0
HaveCome calls None numbers = Unit {0}
HaveCome None (Some calls_then) numbers = ⊥
HaveCome (Some calls) (Some calls_then) numbers =
    connections_in calls_then ≡ connections_in calls ++ numbers

-- no connection came, or one, which has the next number
abbrev pub AcceptsAtMostOne : (calls calls_then : Option (List ConnectionCall))
    → (came came_then : ℕ) → Type 0
AcceptsAtMostOne calls calls_then came came_then =
    (HaveCome calls calls_then [] × (came_then ≡ came))
    ⊎ (HaveCome calls calls_then ((came + 1) ∷ []) × (came_then ≡ came + 1)
    × (came_then ≤ last_connection_number))

-- the line `busy` was written to the connection of this number once, and it was closed
pub record WasRefused (n : ℕ) (calls : List ConnectionCall) : Type 0 where
  pub before : List ConnectionCall
  pub behind : List ConnectionCall
  pub writing : Writing
  pub busy : writing.bytes ≡ codes "busy\n"
  pub told : calls ≡ before ++ Writes n writing ∷ Closes n ∷ behind
