-- What the row at an index in the list says about all rows.
-- For `index_of`, `is_below`, `place_for`, `remove` of both indexes, and the store above.
-- By: rows rise, so one that isn't below a rank has none after it that is.
use Rattle.std.proofs.Common.{◌≡◌, ℕ, zero, suc, ◌+◌, ◌<◌, List, [], ◌∷◌, length, take, drop}
use Rattle.std.proofs.Common.{Some, Bool, true, false, refl, ◌∙◌, sym, ap, subst, arith}
use Rattle.std.specs.Prelude.{slice_get, option_map, insert, remove, is_some}
use Rattle.std.proofs.lemmas.Bool.{false≢true}
use Rattle.std.proofs.lemmas.Option.{none-some, same_Some}
use Rattle.trdp_index.specs.declared.rank.Rank.{Rank}
use Rattle.trdp_index.specs.Ranks.{is_before, is_same}
use Rattle.trdp_index.specs.Rows.{AllAfter, AllBefore, NoneBefore, IsRising}
use Rattle.trdp_index.specs.Rows.{row_of, has_row, with_row, without_rank}
use Rattle.trdp_index.specs.Searches.{IsIndexOf, IsAbsent}
use Rattle.trdp_index.proofs.RankLemmas.{before-trans, not_sooner, other_way}
use Rattle.trdp_index.proofs.RankLemmas.{before_other, after_other, after_same}
use Rattle.trdp_index.proofs.RowLemmas.{AllAfter-trans}

module _ {Row : Type 0} (rank_of : Row → Rank) where
  -- the rank of the row of an index
  abbrev pub IsRankAt : Rank → ℕ → List Row → Type 0
  IsRankAt q n rows = option_map rank_of (slice_get rows n) ≡ Some q

  after_at : (a q : Rank) (n : ℕ) (rows : List Row)
      → AllAfter rank_of a rows → IsRankAt q n rows → is_before a q ≡ true
  after_at a q n [] after at = absurd (none-some q at)
  after_at a q zero (row ∷ rows) after at =
      subst (λ (r : Rank). is_before a r ≡ true) (same_Some (rank_of row) q at) after.0
  after_at a q (suc n) (row ∷ rows) after at = after_at a q n rows after.1 at

  -- a row that comes before the rank, and each row before it
  pub all_before : (rank q : Rank) (n : ℕ) (rows : List Row) → IsRising rank_of rows
      → IsRankAt q n rows → is_before q rank ≡ true → AllBefore rank_of rank (take (suc n) rows)
  all_before rank q n [] rising at sooner = absurd (none-some q at)
  all_before rank q zero (row ∷ rows) rising at sooner = (
    subst (λ (r : Rank). is_before r rank ≡ true) (sym (same_Some (rank_of row) q at)) sooner,
    tt,
  )
  all_before rank q (suc n) (row ∷ rows) rising at sooner = (
    before-trans (rank_of row) q rank (after_at (rank_of row) q n rows rising.0 at) sooner,
    all_before rank q n rows rising.1 at sooner,
  )

  none_after : (a rank : Rank) (rows : List Row)
      → is_before a rank ≡ false → AllAfter rank_of a rows → NoneBefore rank_of rank rows
  none_after a rank [] later after = tt
  none_after a rank (row ∷ rows) later after =
      (not_sooner a (rank_of row) rank after.0 later, none_after a rank rows later after.1)

  -- a row that doesn't come before the rank, and each row after it
  pub none_before : (rank q : Rank) (n : ℕ) (rows : List Row) → IsRising rank_of rows
      → IsRankAt q n rows → is_before q rank ≡ false → NoneBefore rank_of rank (drop n rows)
  none_before rank q n [] rising at later = absurd (none-some q at)
  none_before rank q zero (row ∷ rows) rising at later =
      let here : is_before (rank_of row) rank ≡ false = subst (λ (r : Rank).
      is_before r rank ≡ false) (sym (same_Some (rank_of row) q at)) later in
      (here, none_after (rank_of row) rank rows here rising.0)
  none_before rank q (suc n) (row ∷ rows) rising at later =
      none_before rank q n rows rising.1 at later

  -- between what comes before a row and what doesn't is its place
  pub insert_between : (row : Row) (n : ℕ) (rows : List Row)
      → AllBefore rank_of (rank_of row) (take n rows)
      → NoneBefore rank_of (rank_of row) (drop n rows)
      → insert rows n row ≡ with_row rank_of row rows
  insert_between row zero [] before none = refl
  insert_between row zero (other ∷ others) before none = rw none.0 refl
  insert_between row (suc n) [] before none = refl
  insert_between row (suc n) (other ∷ others) before none =
      rw before.0 (ap (λ (l : List Row). other ∷ l) (insert_between row n others before.1 none))

  absent_cons : (rank : Rank) (row : Row) (rows : List Row) → is_same (rank_of row) rank ≡ false
      → IsAbsent rank_of rank rows → IsAbsent rank_of rank (row ∷ rows)
  absent_cons rank row rows other rest = record {
    none = rw other rest.none;
    others = rw other (ap (λ (l : List Row). row ∷ l) rest.others);
  }

  absent_after : (rank : Rank) (rows : List Row)
      → AllAfter rank_of rank rows → IsAbsent rank_of rank rows
  absent_after rank [] after = record { none = refl; others = refl }
  absent_after rank (row ∷ rows) after = absent_cons rank
      row rows (after_other (rank_of row) rank after.0) (absent_after rank rows after.1)

  -- no row has the rank if all come before it
  pub absent_past : (rank : Rank) (n : ℕ) (rows : List Row)
      → AllBefore rank_of rank (take n rows) → drop n rows ≡ [] → IsAbsent rank_of rank rows
  absent_past rank n [] before end = record { none = refl; others = refl }
  absent_past rank zero (row ∷ rows) before end = absurd (cc)
  absent_past rank (suc n) (row ∷ rows) before end = absent_cons rank
      row rows (before_other (rank_of row) rank before.0) (absent_past rank n rows before.1 end)

  -- no row has the rank if the first that doesn't come before it hasn't
  pub absent_at : (rank q : Rank) (n : ℕ) (rows : List Row) → IsRising rank_of rows
      → AllBefore rank_of rank (take n rows) → NoneBefore rank_of rank (drop n rows)
      → IsRankAt q n rows → is_same q rank ≡ false → IsAbsent rank_of rank rows
  absent_at rank q n [] rising before none at other = absurd (none-some q at)
  absent_at rank q zero (row ∷ rows) rising before none at other =
      let here : is_same (rank_of row) rank ≡ false =
      subst (λ (r : Rank). is_same r rank ≡ false) (sym (same_Some (rank_of row) q at)) other in
      let after : is_before rank (rank_of row) ≡ true = other_way (rank_of row) rank none.0 here in
      absent_cons rank row rows here
      (absent_after rank rows (AllAfter-trans rank_of rank (rank_of row) rows after rising.0))
  absent_at rank q (suc n) (row ∷ rows) rising before none at other =
      absent_cons rank row rows (before_other (rank_of row) rank before.0)
      (absent_at rank q n rows rising.1 before.1 none at other)

  AllAfter-same : (a b : Rank) (rows : List Row)
      → is_same a b ≡ true → AllAfter rank_of a rows → AllAfter rank_of b rows
  AllAfter-same a b [] same after = tt
  AllAfter-same a b (row ∷ rows) same after =
      (after_same a (rank_of row) b same after.0, AllAfter-same a b rows same after.1)

  -- the first row that doesn't come before the rank is that of the rank if it has it
  pub found_at : (rank q : Rank) (n : ℕ) (rows : List Row) → IsRising rank_of rows
      → AllBefore rank_of rank (take n rows) → IsRankAt q n rows → is_same q rank ≡ true
      → (slice_get rows n ≡ row_of rank_of rank rows)
      × (remove rows n ≡ without_rank rank_of rank rows)
  found_at rank q n [] rising before at same = absurd (none-some q at)
  found_at rank q zero (row ∷ rows) rising before at same =
      let here : is_same (rank_of row) rank ≡ true =
      subst (λ (r : Rank). is_same r rank ≡ true) (sym (same_Some (rank_of row) q at)) same in
      let rest = absent_after rank rows (AllAfter-same (rank_of row) rank rows here rising.0) in
      (rw here refl, rw here (sym rest.others))
  found_at rank q (suc n) (row ∷ rows) rising before at same =
      let other : is_same (rank_of row) rank ≡ false = before_other (rank_of row) rank before.0 in
      let rest = found_at rank q n rows rising.1 before.1 at same in
      (rw other rest.0, rw other (ap (λ (l : List Row). row ∷ l) rest.1))

  is_some_get : (n : ℕ) (rows : List Row) → n < length rows → is_some (slice_get rows n) ≡ true
  is_some_get n [] lt = absurd (omega arith)
  is_some_get zero (row ∷ rows) lt = refl
  is_some_get (suc n) (row ∷ rows) lt = is_some_get n rows (omega arith)

  -- a row at an index is in the list
  pub has_found : (rank : Rank) (rows : List Row) (n : ℕ)
      → IsIndexOf rank_of rank rows n → has_row rank_of rank rows ≡ true
  has_found rank rows n index = ap is_some (sym index.found) ∙ is_some_get n rows index.within

  -- there is one row fewer without that of a rank which is there
  pub length-without_rank : (rank : Rank) (rows : List Row) → IsRising rank_of rows
      → has_row rank_of rank rows ≡ true
      → length rows ≡ length (without_rank rank_of rank rows) + 1
  length-without_rank rank [] rising has = absurd (false≢true has)
  length-without_rank rank (row ∷ rows) rising has =
      either (is_same (rank_of row) rank) refl has (length-without_rank rank rows rising.1)
    where
      either : (b : Bool) → is_same (rank_of row) rank ≡ b
          → has_row rank_of rank (row ∷ rows) ≡ true
          → (has_row rank_of rank rows ≡ true
          → length rows ≡ length (without_rank rank_of rank rows) + 1)
          → length (row ∷ rows) ≡ length (without_rank rank_of rank (row ∷ rows)) + 1
      either true is has rest =
          let after = AllAfter-same (rank_of row) rank rows is rising.0 in
          rw is (omega (arith, ap length (absent_after rank rows after).others))
      either false is has rest =
          let fewer = rest (rw is at has) in
          rw is (omega (arith, fewer))
