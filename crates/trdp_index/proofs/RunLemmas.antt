-- The rows of a comId are next to one another.
-- For `ComIndex::run`.
-- By: what a run leaves out at either end isn't of the comId, and all that it has is.
use Rattle.std.proofs.Common.{◌≡◌, ℕ, zero, suc, List, [], ◌∷◌, ◌++◌, take, drop, Option}
use Rattle.std.proofs.Common.{Some, None, true, false, refl, ◌∙◌, sym, ap, arith}
use Rattle.std.proofs.lemmas.Bool.Decides.{nat_tests}
use Rattle.std.proofs.lemmas.List.{take-append-drop, append-nil}
use Rattle.std.proofs.lemmas.List.Elements.{filter-append}
use Rattle.trdp_index.specs.declared.com_row.ComRow.{ComRow}
use Rattle.trdp_index.specs.declared.rank.Rank.{Rank}
use Rattle.trdp_index.specs.Ranks.{is_before}
use Rattle.trdp_index.specs.Rows.{AllBefore, NoneBefore}
use Rattle.trdp_index.specs.ComRows.{com_rank, com_row_rank, com_start}
use Rattle.trdp_index.specs.ComRows.{com_end, is_same_com, run_of}

before_start : (a b : Option ℕ) (slot handle : ℕ)
    → is_before (com_rank a slot handle) (com_start b) ≡ true → is_same_com a b ≡ false
unfolding is_before
before_start None None slot handle before = grind (arith, nat_tests)
before_start None (Some b) slot handle before = refl
before_start (Some a) None slot handle before = refl
before_start (Some a) (Some b) slot handle before = grind (arith, nat_tests)

within : (a b : Option ℕ) (slot handle : ℕ) → is_before (com_rank a slot handle) (com_start b)
    ≡ false → is_before (com_rank a slot handle) (com_end b) ≡ true → is_same_com a b ≡ true
unfolding is_before
within None None slot handle from to = refl
within None (Some b) slot handle from to = grind (arith, nat_tests)
within (Some a) None slot handle from to = grind (arith, nat_tests)
within (Some a) (Some b) slot handle from to = grind (arith, nat_tests)

past_end : (a b : Option ℕ) (slot handle : ℕ)
    → is_before (com_rank a slot handle) (com_end b) ≡ false → is_same_com a b ≡ false
unfolding is_before
past_end None None slot handle past = grind (arith, nat_tests)
past_end None (Some b) slot handle past = refl
past_end (Some a) None slot handle past = refl
past_end (Some a) (Some b) slot handle past = grind (arith, nat_tests)

none_of : (com_id : Option ℕ) (rows : List ComRow)
    → AllBefore com_row_rank (com_start com_id) rows → run_of com_id rows ≡ []
none_of com_id [] before = refl
none_of com_id (row ∷ rows) before =
    rw (before_start row.com_id com_id row.slot row.handle before.0) (none_of com_id rows before.1)

all_of : (com_id : Option ℕ) (rows : List ComRow) → NoneBefore com_row_rank (com_start com_id) rows
    → AllBefore com_row_rank (com_end com_id) rows → run_of com_id rows ≡ rows
all_of com_id [] from to = refl
all_of com_id (row ∷ rows) from to = rw (within row.com_id com_id row.slot row.handle from.0 to.0)
    (ap (λ (l : List ComRow). row ∷ l) (all_of com_id rows from.1 to.1))

none_past : (com_id : Option ℕ) (rows : List ComRow)
    → NoneBefore com_row_rank (com_end com_id) rows → run_of com_id rows ≡ []
none_past com_id [] past = refl
none_past com_id (row ∷ rows) past =
    rw (past_end row.com_id com_id row.slot row.handle past.0) (none_past com_id rows past.1)

NoneBefore-take : (rank : Rank) (n : ℕ) (rows : List ComRow)
    → NoneBefore com_row_rank rank rows → NoneBefore com_row_rank rank (take n rows)
NoneBefore-take rank zero rows none = tt
NoneBefore-take rank (suc n) [] none = tt
NoneBefore-take rank (suc n) (row ∷ rows) none = (none.0, NoneBefore-take rank n rows none.1)

-- what a run leaves out at either end isn't of the comId
pub run_is :
    (com_id : Option ℕ) (start count : ℕ) (rows : List ComRow)
    → AllBefore com_row_rank (com_start com_id) (take start rows)
    → NoneBefore com_row_rank (com_start com_id) (drop start rows)
    → AllBefore com_row_rank (com_end com_id) (take count (drop start rows))
    → NoneBefore com_row_rank (com_end com_id) (drop count (drop start rows))
    → take count (drop start rows) ≡ run_of com_id rows
run_is com_id start count rows before from to past =
    let rest : List ComRow = drop start rows in
    let front : run_of com_id rows ≡ run_of com_id (take start rows) ++ run_of com_id rest =
    ap (run_of com_id) (sym (take-append-drop start rows))
    ∙ filter-append (λ (row : ComRow). is_same_com row.com_id com_id) (take start rows) rest in
    let back : run_of com_id rest ≡ run_of com_id (take count rest)
    ++ run_of com_id (drop count rest) =
    ap (run_of com_id) (sym (take-append-drop count rest)) ∙ filter-append
    (λ (row : ComRow). is_same_com row.com_id com_id) (take count rest) (drop count rest) in
    let all : run_of com_id (take count rest) ≡ take count rest =
    all_of com_id (take count rest) (NoneBefore-take (com_start com_id) count rest from) to in
    sym
    (front ∙ ap (λ (l : List ComRow). l ++ run_of com_id rest)
    (none_of com_id (take start rows) before) ∙ back
    ∙ ap (λ (l : List ComRow). l ++ run_of com_id (drop count rest)) all
    ∙ ap (λ (l : List ComRow). take count rest ++ l) (none_past com_id (drop count rest) past)
    ∙ append-nil (take count rest))
