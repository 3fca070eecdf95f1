-- The index by comId stays the image of the slots' objects, as a slot loses all of them.
-- For `Store::reset`.
-- By induction on the slots: the rows of that slot go. What has the runs of all objects' rows has
-- as many rows as they, by induction on the runs.
use Rattle.std.proofs.Common.{◌≡◌, ◌≢◌, ℕ, zero, suc, ◌+◌, ◌<◌, ◌≤◌, List, [], ◌∷◌, ◌++◌}
use Rattle.std.proofs.Common.{length, set, filter, not, Option, Some, None, Bool, true, false}
use Rattle.std.proofs.Common.{refl, ◌∙◌, sym, ap, arith}
use Rattle.std.specs.Prelude.{◌==◌}
use Rattle.std.proofs.lemmas.Bool.Decides.{nat_tests}
use Rattle.std.proofs.lemmas.List.{length-append}
use Rattle.std.proofs.lemmas.List.Elements.{filter-append}
use Rattle.std.proofs.lemmas.List.Sums.{sum_by-cons}
use Rattle.trdp_table.specs.Tables.{Keyed, SlotTable, TableState, slot_in}
use Rattle.trdp_table.specs.Tables.{without_objects, changed_at}
use Rattle.trdp_index.specs.declared.com_row.ComRow.{ComRow}
use Rattle.trdp_index.specs.Rows.{without_slot}
use Rattle.trdp_index.specs.ComRows.{com_row_rank, is_same_com, run_of}
use Rattle.trdp_index.specs.ComIndexes.{ComIndexState}
use Rattle.trdp_index.proofs.RowLemmas.{filter-swap}
use Rattle.trdp_store.specs.Indexed.{com_of, is_com, is_listed, listed_as}
use Rattle.trdp_store.specs.Indexed.{rows_in, rows_from, IsIndexed}
use Rattle.trdp_store.proofs.StoreLemmas.Counts.{counted, counted_all, counted-cons, room-set}
use Rattle.trdp_store.proofs.ComLemmas.Added.{same_com, same_com-self}

-- The rows of the slot go.

gone_in : (t s : ℕ) (com_id : Option ℕ) (es : List Keyed)
    → t ≡ s → without_slot com_row_rank s (rows_in t com_id es) ≡ []
gone_in t s com_id [] same = refl
gone_in t s com_id (e ∷ es) same =
    either (is_listed com_id e.object) refl (gone_in t s com_id es same)
  where
    either : (l : Bool) → is_listed com_id e.object ≡ l
        → without_slot com_row_rank s (rows_in t com_id es) ≡ []
        → without_slot com_row_rank s (rows_in t com_id (e ∷ es)) ≡ []
    either true listed rest =
        let of : (t == s) ≡ true = grind (arith, nat_tests) in
        rw (listed, of) rest
    either false listed rest = rw listed rest

stay_in : (t s : ℕ) (com_id : Option ℕ) (es : List Keyed)
    → t ≢ s → without_slot com_row_rank s (rows_in t com_id es) ≡ rows_in t com_id es
stay_in t s com_id [] apart = refl
stay_in t s com_id (e ∷ es) apart =
    either (is_listed com_id e.object) refl (stay_in t s com_id es apart)
  where
    either : (l : Bool) → is_listed com_id e.object ≡ l
        → without_slot com_row_rank s (rows_in t com_id es) ≡ rows_in t com_id es
        → without_slot com_row_rank s (rows_in t com_id (e ∷ es)) ≡ rows_in t com_id (e ∷ es)
    either true listed rest =
        let other : (t == s) ≡ false = grind (arith, nat_tests) in
        rw (listed, other) (ap (λ (r : List ComRow). listed_as t com_id e ∷ r) rest)
    either false listed rest = rw listed rest

without_slot-append : (s : ℕ) (xs ys : List ComRow) → without_slot com_row_rank s (xs ++ ys)
    ≡ without_slot com_row_rank s xs ++ without_slot com_row_rank s ys
without_slot-append s xs ys = filter-append (λ row. not ((com_row_rank row).slot == s)) xs ys

stay_later : (b s : ℕ) (com_id : Option ℕ) (slots : TableState) → s < b
    → without_slot com_row_rank s (rows_from b com_id slots) ≡ rows_from b com_id slots
stay_later b s com_id [] lt = refl
stay_later b s com_id (x ∷ xs) lt =
    without_slot-append s (rows_in b com_id x.objects) (rows_from (b + 1) com_id xs)
    ∙ rw (
      stay_in b s com_id x.objects (λ e. absurd (omega (arith, e, lt))),
      stay_later (b + 1) s com_id xs (omega (arith, lt)),
    ) refl

emptied_rows : (b i s : ℕ) (com_id : Option ℕ) (slots : TableState) → s ≡ b + i
    → without_slot com_row_rank s (rows_from b com_id slots)
    ≡ rows_from b com_id (set slots i (without_objects (slot_in i slots)))
emptied_rows b i s com_id [] is = refl
emptied_rows b zero s com_id (x ∷ xs) is =
    without_slot-append s (rows_in b com_id x.objects) (rows_from (b + 1) com_id xs)
    ∙ rw (
      gone_in b s com_id x.objects (omega (arith, is)),
      stay_later (b + 1) s com_id xs (omega (arith, is)),
    ) refl
emptied_rows b (suc i) s com_id (x ∷ xs) is =
    without_slot-append s (rows_in b com_id x.objects) (rows_from (b + 1) com_id xs)
    ∙ rw (stay_in b s com_id x.objects (λ e. absurd (omega (arith, e, is))))
    (ap (λ (zs : List ComRow). rows_in b com_id x.objects ++ zs)
    (emptied_rows (b + 1) i s com_id xs (omega (arith, is))))

-- How many rows there are.

parted : (p : ComRow → Bool) (rows : List ComRow)
    → length rows ≡ length (filter p rows) + length (filter (λ row. not (p row)) rows)
parted p [] = refl
parted p (r ∷ rows) = either (p r) refl (parted p rows)
  where
    either : (b : Bool) → p r ≡ b → length rows ≡ length (filter p rows)
        + length (filter (λ row. not (p row)) rows) → length (r ∷ rows)
        ≡ length (filter p (r ∷ rows)) + length (filter (λ row. not (p row)) (r ∷ rows))
    either true is rest = rw is (omega (arith, rest))
    either false is rest = rw is (omega (arith, rest))

-- the rows of all other comIds
abbrev others_of : Option ℕ → List ComRow → List ComRow
others_of com_id rows = filter (λ row. not (is_same_com row.com_id com_id)) rows

-- lists with the same runs are as long as each other
same_length : (n : ℕ) (xs ys : List ComRow) → length xs ≤ n
    → ((com_id : Option ℕ) → run_of com_id xs ≡ run_of com_id ys) → length xs ≡ length ys
same_length n [] [] le same = refl
same_length n [] (y ∷ ys) le same = absurd (none (rw (same_com-self y.com_id) at (same y.com_id)))
  where
    none : {rows : List ComRow} → [] ≢ y ∷ rows
    none e = absurd (cc)
same_length zero (x ∷ xs) ys le same = absurd (omega (arith, le))
same_length (suc n) (x ∷ xs) ys le same =
    let com_id : Option ℕ = x.com_id in
    let p : ComRow → Bool = λ row. is_same_com row.com_id com_id in
    let left : length (others_of com_id (x ∷ xs)) ≤ n = fewer in
    let rest = same_length n (others_of com_id (x ∷ xs)) (others_of com_id ys) left
    (λ other. filter-swap (λ row. is_same_com row.com_id other) (λ row. not (p row)) (x ∷ xs)
    ∙ (ap (others_of com_id) (same other)
    ∙ sym (filter-swap (λ row. is_same_com row.com_id other) (λ row. not (p row)) ys))) in
    omega (arith, parted p (x ∷ xs), parted p ys, ap length (same com_id), rest)
  where
    fewer : length (others_of x.com_id (x ∷ xs)) ≤ n
    fewer =
        let all = parted (λ row. is_same_com row.com_id x.com_id) xs in
        rw (same_com-self x.com_id) (omega (arith, all, le))

abbrev row_for : ℕ → Keyed → Option (Option ℕ) → List ComRow → List ComRow
row_for s keyed None rows = rows
row_for s keyed (Some com_id) rows = listed_as s com_id keyed ∷ rows

-- the rows of these objects of slot s, under all comIds
abbrev all_in : ℕ → List Keyed → List ComRow
all_in s [] = []
all_in s (e ∷ es) = row_for s e (com_of e.object) (all_in s es)

-- the rows of all objects of the slots from number s on
abbrev all_from : ℕ → TableState → List ComRow
all_from s [] = []
all_from s (x ∷ xs) = all_in s x.objects ++ all_from (s + 1) xs

run_in : (s : ℕ) (com_id : Option ℕ) (es : List Keyed)
    → run_of com_id (all_in s es) ≡ rows_in s com_id es
run_in s com_id [] = refl
run_in s com_id (e ∷ es) = either (com_of e.object) refl (run_in s com_id es)
  where
    -- its row is of that comId, or of another
    under : (own : Option ℕ) (b : Bool) → is_same_com own com_id ≡ b
        → is_listed com_id e.object ≡ is_same_com own com_id
        → run_of com_id (all_in s es) ≡ rows_in s com_id es
        → run_of com_id (listed_as s own e ∷ all_in s es) ≡ rows_in s com_id (e ∷ es)
    under own true is listed rest =
        let one : own ≡ com_id = same_com own com_id is in
        rw (listed, is) (ap (λ (c : Option ℕ). listed_as s c e ∷ run_of com_id (all_in s es)) one
        ∙ ap (λ (r : List ComRow). listed_as s com_id e ∷ r) rest)
    under own false is listed rest = rw (listed, is) rest

    either : (o : Option (Option ℕ)) → com_of e.object ≡ o
        → run_of com_id (all_in s es) ≡ rows_in s com_id es
        → run_of com_id (row_for s e (com_of e.object) (all_in s es)) ≡ rows_in s com_id (e ∷ es)
    either None of rest =
        let listed : is_listed com_id e.object ≡ false = ap (is_com com_id) of in
        ap (λ (o : Option (Option ℕ)). run_of com_id (row_for s e o (all_in s es))) of
        ∙ rw listed rest
    either (Some own) of rest =
        ap (λ (o : Option (Option ℕ)). run_of com_id (row_for s e o (all_in s es))) of
        ∙ under own (is_same_com own com_id) refl (ap (is_com com_id) of) rest

run_from : (b : ℕ) (com_id : Option ℕ) (slots : TableState)
    → run_of com_id (all_from b slots) ≡ rows_from b com_id slots
run_from b com_id [] = refl
run_from b com_id (x ∷ xs) =
    filter-append (λ (row : ComRow). is_same_com row.com_id com_id)
    (all_in b x.objects) (all_from (b + 1) xs)
    ∙ (ap (λ (zs : List ComRow). zs ++ run_of com_id (all_from (b + 1) xs))
    (run_in b com_id x.objects) ∙ ap (λ (zs : List ComRow). rows_in b com_id x.objects ++ zs)
    (run_from (b + 1) com_id xs))

length_in : (s : ℕ) (es : List Keyed) → length (all_in s es) ≡ counted com_of es
length_in s [] = refl
length_in s (e ∷ es) = either (com_of e.object) refl (length_in s es)
  where
    either : (o : Option (Option ℕ)) → com_of e.object ≡ o
        → length (all_in s es) ≡ counted com_of es
        → length (row_for s e (com_of e.object) (all_in s es)) ≡ counted com_of (e ∷ es)
    either None of rest =
        let cons = counted-cons com_of e es in
        rw of (omega (arith, rw of at cons, rest))
    either (Some own) of rest =
        let cons = counted-cons com_of e es in
        rw of (omega (arith, rw of at cons, rest))

length_from : (b : ℕ) (slots : TableState) → length (all_from b slots) ≡ counted_all com_of slots
length_from b [] = refl
length_from b (x ∷ xs) =
    omega (
      arith,
      length-append (all_in b x.objects) (all_from (b + 1) xs),
      length_in b x.objects,
      length_from (b + 1) xs,
      sum_by-cons (λ (slot : SlotTable). counted com_of slot.objects) x xs,
    )

-- what has the runs of the slots' objects has as many rows as there are such objects
as_many : (table : TableState) (rows : List ComRow)
    → ((com_id : Option ℕ) → run_of com_id rows ≡ rows_from 0 com_id table)
    → length rows ≡ counted_all com_of table
as_many table rows runs =
    same_length (length rows) rows (all_from 0 table) (omega arith)
    (λ com_id. runs com_id ∙ sym (run_from 0 com_id table)) ∙ length_from 0 table

pub indexed_emptied : (table : TableState) (index index_then : ComIndexState) (s : ℕ)
    → IsIndexed table index → s < length table
    → ((com_id : Option ℕ) → run_of com_id index_then.rows
    ≡ without_slot com_row_rank s (run_of com_id index.rows))
    → index_then.room ≡ index.room → IsIndexed (changed_at s without_objects table) index_then
indexed_emptied table index index_then s is lt runs room =
    let then : (com_id : Option ℕ) → run_of com_id index_then.rows
    ≡ rows_from 0 com_id (changed_at s without_objects table) =
    λ com_id. runs com_id ∙ (ap (without_slot com_row_rank s) (is.runs com_id)
    ∙ emptied_rows 0 s s com_id table (omega arith)) in
    record {
      runs = then;
      count = as_many (changed_at s without_objects table) index_then.rows then;
      room = omega (
        arith,
        is.room,
        room,
        room-set table s (without_objects (slot_in s table)) lt refl,
      );
    }
