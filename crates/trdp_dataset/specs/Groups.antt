-- What holds of the groups of every configuration.
use Rattle.std.specs.Prelude.{◌≢◌, ◌≤◌, ℕ, List, length, All, AllPairs}

-- the address of a group: 224.0.0.0 to 239.255.255.255
abbrev pub IsGroup : ℕ → Type 0
IsGroup n = (3758096384 ≤ n) × (n ≤ 4026531839)

-- no two of these are alike
abbrev pub NoTwoAlike : List ℕ → Type 0
NoTwoAlike groups = AllPairs (λ a b. a ≢ b) groups

-- there are at most 32, each is the address of a group, and none is there twice
pub record AreGroups (groups : List ℕ) : Type 0 where
  pub few : length groups ≤ 32
  pub within : All IsGroup groups
  pub apart : NoTwoAlike groups
