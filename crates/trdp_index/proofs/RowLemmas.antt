-- Rows that rise, with one more and without one.
-- For `insert`, `remove` and `run` of both indexes, and for `SearchLemmas`.
-- By induction on the rows: those before the place of a row come before it, the others after.
use Rattle.std.proofs.Common.{◌≡◌, ℕ, zero, suc, ◌+◌, ◌<◌, ◌≤◌, List, [], ◌∷◌, length, drop, Option}
use Rattle.std.proofs.Common.{Some, None, Bool, true, false, cond, not, refl, sym, ap, arith}
use Rattle.std.specs.Prelude.{filter, if◌then◌else◌, is_some, option_map}
use Rattle.std.proofs.lemmas.Bool.{true≢false}
use Rattle.std.proofs.lemmas.Option.{none-some}
use Rattle.trdp_index.specs.declared.rank.Rank.{Rank}
use Rattle.trdp_index.specs.Ranks.{is_before, is_same}
use Rattle.trdp_index.specs.Rows.{AllAfter, IsRising, row_of, with_row, without_rank}
use Rattle.trdp_index.specs.Kept.{AreKept}
use Rattle.trdp_index.proofs.RankLemmas.{before-trans, not_sooner, other_way}
use Rattle.trdp_index.proofs.RankLemmas.{not_both, not_other, not_same}

pub length-filter_le : {X : Type 0} (p : X → Bool) (xs : List X) → length (filter p xs) ≤ length xs
length-filter_le p [] = omega arith
length-filter_le {X} p (x ∷ xs) = either (p x) (length-filter_le p xs)
  where
    either : (b : Bool) → length (filter p xs) ≤ length xs
        → length (cond b (x ∷ filter p xs) (filter p xs)) ≤ length (x ∷ xs)
    either true rest = omega (arith, rest)
    either false rest = omega (arith, rest)

-- two tests pick the same in either order
pub filter-swap : {X : Type 0} (p q : X → Bool) (xs : List X)
    → filter p (filter q xs) ≡ filter q (filter p xs)
filter-swap p q [] = refl
filter-swap {X} p q (x ∷ xs) = either (p x) (q x) refl refl (filter-swap p q xs)
  where
    either : (a b : Bool) → p x ≡ a → q x ≡ b → filter p (filter q xs) ≡ filter q (filter p xs)
        → filter p (cond b (x ∷ filter q xs) (filter q xs))
        ≡ filter q (cond a (x ∷ filter p xs) (filter p xs))
    either true true is its rest = rw (is, its) (ap (λ (l : List X). x ∷ l) rest)
    either true false is its rest = rw its rest
    either false true is its rest = rw is rest
    either false false is its rest = rest

module _ {Row : Type 0} (rank_of : Row → Rank) where
  pub AllAfter-trans : (a b : Rank) (rows : List Row)
      → is_before a b ≡ true → AllAfter rank_of b rows → AllAfter rank_of a rows
  AllAfter-trans a b [] before after = tt
  AllAfter-trans a b (row ∷ rows) before after =
      (before-trans a b (rank_of row) before after.0, AllAfter-trans a b rows before after.1)

  AllAfter-filter : (p : Row → Bool) (a : Rank) (rows : List Row)
      → AllAfter rank_of a rows → AllAfter rank_of a (filter p rows)
  AllAfter-filter p a [] after = tt
  AllAfter-filter p a (row ∷ rows) after = either (p row) (AllAfter-filter p a rows after.1)
    where
      either : (b : Bool) → AllAfter rank_of a (filter p rows)
          → AllAfter rank_of a (cond b (row ∷ filter p rows) (filter p rows))
      either true rest = (after.0, rest)
      either false rest = rest

  pub IsRising-filter : (p : Row → Bool) (rows : List Row)
      → IsRising rank_of rows → IsRising rank_of (filter p rows)
  IsRising-filter p [] rising = tt
  IsRising-filter p (row ∷ rows) rising = either (p row) (IsRising-filter p rows rising.1)
    where
      either : (b : Bool) → IsRising rank_of (filter p rows)
          → IsRising rank_of (cond b (row ∷ filter p rows) (filter p rows))
      either true rest = (AllAfter-filter p (rank_of row) rows rising.0, rest)
      either false rest = rest

  pub length-with_row : (row : Row) (rows : List Row)
      → length (with_row rank_of row rows) ≡ length rows + 1
  length-with_row row [] = omega arith
  length-with_row row (other ∷ others) =
      either (is_before (rank_of other) (rank_of row)) (length-with_row row others)
    where
      either : (b : Bool) → length (with_row rank_of row others) ≡ length others + 1
          → length (if b then other ∷ with_row rank_of row others else row ∷ other ∷ others)
          ≡ length (other ∷ others) + 1
      either true rest = omega (arith, rest)
      either false rest = omega arith

  -- the first of the rows hasn't the rank, and neither has one of the others
  pub absent_parts : (rank : Rank) (row : Row) (rows : List Row) → row_of rank_of rank (row ∷ rows)
      ≡ None → (is_same (rank_of row) rank ≡ false) × (row_of rank_of rank rows ≡ None)
  absent_parts rank row rows none = either (is_same (rank_of row) rank) none
    where
      either : (b : Bool) → cond b (Some row) (row_of rank_of rank rows) ≡ None
          → (b ≡ false) × (row_of rank_of rank rows ≡ None)
      either true found = absurd (none-some row (sym found))
      either false found = (refl, found)

  AllAfter-with_row : (a : Rank) (row : Row) (rows : List Row) → is_before a (rank_of row) ≡ true
      → AllAfter rank_of a rows → AllAfter rank_of a (with_row rank_of row rows)
  AllAfter-with_row a row [] before after = (before, tt)
  AllAfter-with_row a row (other ∷ others) before after = either
      (is_before (rank_of other) (rank_of row)) (AllAfter-with_row a row others before after.1)
    where
      either : (b : Bool) → AllAfter rank_of a (with_row rank_of row others) → AllAfter rank_of
          a (if b then other ∷ with_row rank_of row others else row ∷ other ∷ others)
      either true rest = (after.0, rest)
      either false rest = (before, after)

  -- the ranks rise with one more row, if none had its rank
  pub IsRising-with_row : (row : Row) (rows : List Row) → IsRising rank_of rows
      → row_of rank_of (rank_of row) rows ≡ None → IsRising rank_of (with_row rank_of row rows)
  IsRising-with_row row [] rising fresh = (tt, tt)
  IsRising-with_row row (other ∷ others) rising fresh =
      either (is_before (rank_of other) (rank_of row)) refl
      (IsRising-with_row row others rising.1 (absent_parts (rank_of row) other others fresh).1)
    where
      either : (b : Bool) → is_before (rank_of other) (rank_of row) ≡ b
          → IsRising rank_of (with_row rank_of row others) → IsRising rank_of
          (if b then other ∷ with_row rank_of row others else row ∷ other ∷ others)
      either true is rest = (AllAfter-with_row (rank_of other) row others is rising.0, rest)
      either false is rest =
          let after : is_before (rank_of row) (rank_of other) ≡ true = other_way (rank_of other)
          (rank_of row) is (absent_parts (rank_of row) other others fresh).0 in
          ((after, AllAfter-trans (rank_of row) (rank_of other) others after rising.0), rising)

  pub IsRising-drop : (n : ℕ) (rows : List Row)
      → IsRising rank_of rows → IsRising rank_of (drop n rows)
  IsRising-drop zero rows rising = rising
  IsRising-drop (suc n) [] rising = tt
  IsRising-drop (suc n) (row ∷ rows) rising = IsRising-drop n rows rising.1

  -- What is picked out of the rows.

  -- a row that the first doesn't come before becomes the first
  first_of : (a : Rank) (row : Row) (rows : List Row) → is_before a (rank_of row) ≡ false
      → AllAfter rank_of a rows → with_row rank_of row rows ≡ row ∷ rows
  first_of a row [] later after = refl
  first_of a row (other ∷ others) later after =
      rw (not_sooner a (rank_of other) (rank_of row) after.0 later) refl

  picked_with : (p : Row → Bool) (row : Row) (rows : List Row) → IsRising rank_of rows
      → p row ≡ true → filter p (with_row rank_of row rows) ≡ with_row rank_of row (filter p rows)
  picked_with p row [] rising passes = rw passes refl
  picked_with p row (other ∷ others) rising passes =
      either (is_before (rank_of other) (rank_of row))
      (p other) refl refl (picked_with p row others rising.1 passes)
    where
      either : (b q : Bool) → is_before (rank_of other) (rank_of row) ≡ b → p other ≡ q
          → filter p (with_row rank_of row others) ≡ with_row rank_of row (filter p others)
          → filter p (if b then other ∷ with_row rank_of row others else row ∷ other ∷ others)
          ≡ with_row rank_of row (cond q (other ∷ filter p others) (filter p others))
      either true true is its rest = rw (is, its) (ap (λ (l : List Row). other ∷ l) rest)
      either true false is its rest = rw its rest
      either false true is its rest = rw (is, its, passes) refl
      either false false is its rest = rw (its, passes) (sym (first_of (rank_of other)
          row (filter p others) is (AllAfter-filter p (rank_of other) others rising.0)))

  left_with : (p : Row → Bool) (row : Row) (rows : List Row)
      → p row ≡ false → filter p (with_row rank_of row rows) ≡ filter p rows
  left_with p row [] fails = rw fails refl
  left_with p row (other ∷ others) fails =
      either (is_before (rank_of other) (rank_of row)) (left_with p row others fails)
    where
      either : (b : Bool) → filter p (with_row rank_of row others) ≡ filter p others
          → filter p (if b then other ∷ with_row rank_of row others else row ∷ other ∷ others)
          ≡ filter p (other ∷ others)
      either true rest = ap (λ (l : List Row). cond (p other) (other ∷ l) l) rest
      either false rest = rw fails refl

  -- what a test picks of the rows with one more: the row is among it if it passes
  pub filter-with_row : (p : Row → Bool) (row : Row) (rows : List Row)
      → IsRising rank_of rows → filter p (with_row rank_of row rows)
      ≡ (if p row then with_row rank_of row (filter p rows) else filter p rows)
  filter-with_row p row rows rising = either (p row) refl
    where
      either : (b : Bool) → p row ≡ b → filter p (with_row rank_of row rows)
          ≡ (if b then with_row rank_of row (filter p rows) else filter p rows)
      either true passes = picked_with p row rows rising passes
      either false fails = left_with p row rows fails

  -- the row of a rank among the rows with one more
  pub row_of-with_row : (rank : Rank) (row : Row) (rows : List Row)
      → row_of rank_of (rank_of row) rows ≡ None → row_of rank_of rank (with_row rank_of row rows)
      ≡ (if is_same (rank_of row) rank then Some row else row_of rank_of rank rows)
  row_of-with_row rank row [] fresh = refl
  row_of-with_row rank row (other ∷ others) fresh =
      either (is_before (rank_of other) (rank_of row))
      (is_same (rank_of other) rank) refl (row_of-with_row rank row others parts.1)
    where
      parts : (is_same (rank_of other) (rank_of row) ≡ false)
          × (row_of rank_of (rank_of row) others ≡ None)
      parts = absent_parts (rank_of row) other others fresh

      either : (b same : Bool) → is_same (rank_of other) rank ≡ same
          → row_of rank_of rank (with_row rank_of row others)
          ≡ (if is_same (rank_of row) rank then Some row else row_of rank_of rank others)
          → row_of rank_of rank (if b then other ∷ with_row rank_of row others
          else row ∷ other ∷ others) ≡ (if is_same (rank_of row) rank
          then Some row else cond same (Some other) (row_of rank_of rank others))
      either true true its rest =
          rw (its, not_both (rank_of other) (rank_of row) rank parts.0 its) refl
      either true false its rest = rw its rest
      either false same its rest = rw its refl

  -- the row of a rank among the rows but that of another
  pub row_of-without : (rank gone : Rank) (rows : List Row)
      → row_of rank_of rank (without_rank rank_of gone rows)
      ≡ (if is_same gone rank then None else row_of rank_of rank rows)
  row_of-without rank gone [] = either (is_same gone rank)
    where
      nothing : Option Row
      nothing = None

      either : (b : Bool) → nothing ≡ (if b then nothing else nothing)
      either true = refl
      either false = refl
  row_of-without rank gone (row ∷ rows) = either (is_same (rank_of row) gone)
      (is_same gone rank) refl refl (row_of-without rank gone rows)
    where
      either : (b q : Bool) → is_same (rank_of row) gone ≡ b
          → is_same gone rank ≡ q → row_of rank_of rank (without_rank rank_of gone rows)
          ≡ (if q then None else row_of rank_of rank rows) → row_of rank_of
          rank
          (cond (not b) (row ∷ without_rank rank_of gone rows) (without_rank rank_of gone rows))
          ≡ (if q then None else row_of rank_of rank (row ∷ rows))
      either true true is its rest = rest
      either true false is its rest = rw (not_other (rank_of row) gone rank is its) rest
      either false true is its rest = rw (not_same (rank_of row) gone rank is its) rest
      either false false is its rest =
          ap (λ (o : Option Row). cond (is_same (rank_of row) rank) (Some row) o) rest

  -- What an index keeps stays true.

  pub IsKept-with_row : (row : Row) (rows : List Row) (room capacity more : ℕ)
      → AreKept rank_of rows room capacity → capacity ≤ more
      → length rows < room → row_of rank_of (rank_of row) rows ≡ None
      → AreKept rank_of (with_row rank_of row rows) room more
  IsKept-with_row row rows room capacity more kept le spare fresh = record {
    rising = IsRising-with_row row rows kept.rising fresh;
    within = omega (arith, spare, length-with_row row rows);
    reserved = omega (arith, kept.reserved, le);
  }

  pub IsKept-without : (rank : Rank) (rows : List Row) (room capacity : ℕ)
      → AreKept rank_of rows room capacity
      → AreKept rank_of (without_rank rank_of rank rows) room capacity
  IsKept-without rank rows room capacity kept = record {
    rising = IsRising-filter (λ row. not (is_same (rank_of row) rank)) rows kept.rising;
    within = let fewer = length-filter_le (λ row. not (is_same (rank_of row) rank)) rows in
        omega (arith, fewer, kept.within);
    reserved = kept.reserved;
  }

pub none_from_is_some : {X : Type 0} (o : Option X) → is_some o ≡ false → o ≡ None
none_from_is_some None none = refl
none_from_is_some (Some x) none = absurd (true≢false none)

pub none_from_option_map : {X Y : Type 0} (f : X → Y) (o : Option X)
    → option_map f o ≡ None → o ≡ None
none_from_option_map f None none = refl
none_from_option_map f (Some x) none = absurd (none-some (f x) (sym none))

pub is_some-option_map : {X Y : Type 0} (f : X → Y) (o : Option X)
    → is_some (option_map f o) ≡ is_some o
is_some-option_map f None = refl
is_some-option_map f (Some x) = refl

pub option_map-if : {X Y : Type 0} (f : X → Y) (b : Bool) (o other : Option X)
    → option_map f (if b then o else other) ≡ (if b then option_map f o else option_map f other)
option_map-if f true o other = refl
option_map-if f false o other = refl
