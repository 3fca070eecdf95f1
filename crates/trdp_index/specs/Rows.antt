-- Sets of rows, as lists in the order of their ranks.
use Rattle.std.specs.Prelude.{◌≡◌, ℕ, ◌==◌, List, [], ◌∷◌, Option, Bool, true, false, not}
use Rattle.std.specs.Prelude.{if◌then◌else◌, find, filter, is_some}
use Rattle.trdp_index.specs.declared.rank.Rank.{Rank}
use Rattle.trdp_index.specs.Ranks.{is_before, is_same}

-- each row comes after a rank
abbrev pub AllAfter : {Row : Type 0} → (Row → Rank) → Rank → List Row → Type 0
AllAfter rank_of rank [] = Unit {0}
AllAfter rank_of rank (row ∷ rows) =
    (is_before rank (rank_of row) ≡ true) × AllAfter rank_of rank rows

-- each row comes before a rank
abbrev pub AllBefore : {Row : Type 0} → (Row → Rank) → Rank → List Row → Type 0
AllBefore rank_of rank [] = Unit {0}
AllBefore rank_of rank (row ∷ rows) =
    (is_before (rank_of row) rank ≡ true) × AllBefore rank_of rank rows

-- no row comes before a rank
abbrev pub NoneBefore : {Row : Type 0} → (Row → Rank) → Rank → List Row → Type 0
NoneBefore rank_of rank [] = Unit {0}
NoneBefore rank_of rank (row ∷ rows) =
    (is_before (rank_of row) rank ≡ false) × NoneBefore rank_of rank rows

-- the ranks rise, so no row has the rank of another
abbrev pub IsRising : {Row : Type 0} → (Row → Rank) → List Row → Type 0
IsRising rank_of [] = Unit {0}
IsRising rank_of (row ∷ rows) = AllAfter rank_of (rank_of row) rows × IsRising rank_of rows

-- the row of a rank
abbrev pub row_of : {Row : Type 0} → (Row → Rank) → Rank → List Row → Option Row
row_of rank_of rank rows = find (λ row. is_same (rank_of row) rank) rows

-- there is a row of a rank
abbrev pub has_row : {Row : Type 0} → (Row → Rank) → Rank → List Row → Bool
has_row rank_of rank rows = is_some (row_of rank_of rank rows)

-- the rows with one more, put before the first that doesn't come before it
abbrev pub with_row : {Row : Type 0} → (Row → Rank) → Row → List Row → List Row
with_row rank_of row [] = row ∷ []
with_row rank_of row (other ∷ others) =
    if is_before (rank_of other) (rank_of row)
    then other ∷ with_row rank_of row others
    else row ∷ other ∷ others

-- the rows but that of a rank
abbrev pub without_rank : {Row : Type 0} → (Row → Rank) → Rank → List Row → List Row
without_rank rank_of rank rows = filter (λ row. not (is_same (rank_of row) rank)) rows

-- the rows but those of a slot
abbrev pub without_slot : {Row : Type 0} → (Row → Rank) → ℕ → List Row → List Row
without_slot rank_of slot rows = filter (λ row. not ((rank_of row).slot == slot)) rows
