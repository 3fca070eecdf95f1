-- The same bytes but for one.
use Rattle.std.specs.Prelude.{◌≡◌, ◌≢◌, ◌<◌, ℕ, List, ◌∷◌, ◌++◌}

-- the two lists are the same but at one place, where they have two bytes that differ
pub record DifferInOneByte (first second : List ℕ) : Type 0 where
  pub front : List ℕ
  pub back : List ℕ
  pub one : ℕ
  pub other : ℕ
  pub first_is : first ≡ front ++ one ∷ back
  pub second_is : second ≡ front ++ other ∷ back
  pub one_byte : one < 256
  pub other_byte : other < 256
  pub differ : one ≢ other
