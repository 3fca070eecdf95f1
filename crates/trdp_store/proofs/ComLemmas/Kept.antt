-- A store's index stays that of its table.
-- For `Store::new`, `add`, `act` and `remove`.
-- By `ComLemmas.Added` and `Removed`, for each comId and for any.
use Rattle.std.proofs.Common.{◌≡◌, ◌≢◌, ℕ, zero, suc, ◌+◌, ◌<◌, ◌≤◌, List, [], ◌∷◌, ◌++◌}
use Rattle.std.proofs.Common.{length, map, set, Option, Some, None, Bool, true, false}
use Rattle.std.proofs.Common.{is_some, IfSome, OnSome, refl, ◌∙◌, sym, ap, subst, arith}
use Rattle.std.specs.Prelude.{◌==◌, option_map}
use Rattle.std.proofs.lemmas.Bool.{false≢true}
use Rattle.std.proofs.lemmas.Bool.Decides.{nat_tests}
use Rattle.std.proofs.lemmas.List.{get_or-set_same}
use Rattle.std.proofs.lemmas.Option.{same_Some, none-some}
use Rattle.trdp_model.specs.declared.any_object.AnyObject.{AnyObject}
use Rattle.trdp_table.specs.Tables.{Keyed, SlotTable, TableState, opened_slot}
use Rattle.trdp_table.specs.Tables.{slot_in, all_objects, room_of, by_handle}
use Rattle.trdp_table.specs.Tables.{new_object, with_object, without_handle as without_keyed}
use Rattle.trdp_table.specs.Tables.{changed_at, exchanged, with_other_by_handle, Adds}
use Rattle.trdp_table.specs.TableLaws.{AllBelow, IsTable}
use Rattle.trdp_index.specs.declared.rank.Rank.{Rank}
use Rattle.trdp_index.specs.declared.com_row.ComRow.{ComRow}
use Rattle.trdp_index.specs.Ranks.{is_same}
use Rattle.trdp_index.specs.Rows.{row_of, has_row}
use Rattle.trdp_index.specs.ComRows.{com_number, com_rank, com_row_rank}
use Rattle.trdp_index.specs.ComRows.{is_same_com, run_of, has_com_row}
use Rattle.trdp_index.specs.ComIndexes.{ComIndexState, empty_com_index}
use Rattle.trdp_store.specs.Indexed.{com_of, com_found, is_com, is_listed}
use Rattle.trdp_store.specs.Indexed.{rows_in, rows_from, listed_in, IsIndexed}
use Rattle.trdp_store.specs.Indexed.{run_with, run_without, one_if_some}
use Rattle.trdp_store.proofs.StoreLemmas.Slots.{ExchangesAlone, IsReached}
use Rattle.trdp_store.proofs.StoreLemmas.Counts.{counted_all, room-set, without_none}
use Rattle.trdp_store.proofs.StoreLemmas.Counts.{counted-push, counted-without, counted-other}
use Rattle.trdp_store.proofs.StoreLemmas.Counts.{counted-set, counted_few, counted_none}
use Rattle.trdp_store.proofs.StoreLemmas.Found.{found_last}
use Rattle.trdp_store.proofs.ComLemmas.Added.{runs_added}
use Rattle.trdp_store.proofs.ComLemmas.Removed.{AreOf, are_of, com_in, runs_removed}
use Rattle.trdp_store.proofs.ComLemmas.Added.{same_com-self, same_number}
use Rattle.trdp_store.proofs.ComLemmas.Removed.{runs_exchanged}
use Rattle.trdp_store.proofs.ComLemmas.Added.{same_first, same_self, other_slot, other_handle}

-- The row of one object.

row_of-run : (com_id : Option ℕ) (s h : ℕ) (rows : List ComRow)
    → row_of com_row_rank (com_rank com_id s h) rows
    ≡ row_of com_row_rank (com_rank com_id s h) (run_of com_id rows)
row_of-run com_id s h [] = refl
row_of-run com_id s h (r ∷ rows) = either (is_same (com_row_rank r) (com_rank com_id s h))
    refl (is_same_com r.com_id com_id) refl (row_of-run com_id s h rows)
  where
    either : (b : Bool) → is_same (com_row_rank r) (com_rank com_id s h) ≡ b → (l : Bool)
        → is_same_com r.com_id com_id ≡ l → row_of com_row_rank (com_rank com_id s h) rows
        ≡ row_of com_row_rank (com_rank com_id s h) (run_of com_id rows)
        → row_of com_row_rank (com_rank com_id s h) (r ∷ rows)
        ≡ row_of com_row_rank (com_rank com_id s h) (run_of com_id (r ∷ rows))
    either true is true same rest = rw (is, same) (rw is refl)
    either true is false same rest =
        let number = same_first (com_row_rank r) (com_rank com_id s h) is in
        let of : is_same_com r.com_id com_id ≡ true =
        ap (λ (c : Option ℕ). is_same_com c com_id) (same_number r.com_id com_id number)
        ∙ same_com-self com_id in
        absurd (false≢true (sym same ∙ of))
    either false is true same rest = rw (is, same) (rw is rest)
    either false is false same rest = rw (is, same) rest

has-run : (com_id : Option ℕ) (s h : ℕ) (table : TableState) (index : ComIndexState)
    → IsIndexed table index
    → has_com_row com_id s h index.rows ≡ has_com_row com_id s h (rows_from 0 com_id table)
has-run com_id s h table index is =
    ap is_some (row_of-run com_id s h index.rows
    ∙ ap (row_of com_row_rank (com_rank com_id s h)) (is.runs com_id))

none-append : (k : Rank) (xs ys : List ComRow) → row_of com_row_rank k xs ≡ None
    → row_of com_row_rank k ys ≡ None → row_of com_row_rank k (xs ++ ys) ≡ None
none-append k [] ys none others = others
none-append k (x ∷ xs) ys none others =
    either (is_same (com_row_rank x) k) refl none (none-append k xs ys)
  where
    either : (b : Bool) → is_same (com_row_rank x) k ≡ b → row_of com_row_rank k (x ∷ xs) ≡ None
        → (row_of com_row_rank k xs ≡ None → row_of com_row_rank k ys ≡ None
        → row_of com_row_rank k (xs ++ ys) ≡ None) → row_of com_row_rank k (x ∷ xs ++ ys) ≡ None
    either true is none rest = absurd (none-some x (sym (rw is at none)))
    either false is none rest = rw is (rest (rw is at none) others)

none_of-slot : (t s h : ℕ) (com_id : Option ℕ) (es : List Keyed)
    → t ≢ s → row_of com_row_rank (com_rank com_id s h) (rows_in t com_id es) ≡ None
none_of-slot t s h com_id [] apart = refl
none_of-slot t s h com_id (e ∷ es) apart =
    either (is_listed com_id e.object) refl (none_of-slot t s h com_id es apart)
  where
    either : (l : Bool) → is_listed com_id e.object ≡ l
        → row_of com_row_rank (com_rank com_id s h) (rows_in t com_id es) ≡ None
        → row_of com_row_rank (com_rank com_id s h) (rows_in t com_id (e ∷ es)) ≡ None
    either true listed rest =
        rw (listed, other_slot (com_number com_id) (com_number com_id) t s e.handle h apart) rest
    either false listed rest = rw listed rest

none_of-next : (t s n : ℕ) (com_id : Option ℕ) (es : List Keyed)
    → AllBelow n es → row_of com_row_rank (com_rank com_id s n) (rows_in t com_id es) ≡ None
none_of-next t s n com_id [] below = refl
none_of-next t s n com_id (e ∷ es) below =
    either (is_listed com_id e.object) refl (none_of-next t s n com_id es below.1)
  where
    either : (l : Bool) → is_listed com_id e.object ≡ l
        → row_of com_row_rank (com_rank com_id s n) (rows_in t com_id es) ≡ None
        → row_of com_row_rank (com_rank com_id s n) (rows_in t com_id (e ∷ es)) ≡ None
    either true listed rest =
        let lt : e.handle < n = below.0 in
        rw (
          listed,
          other_handle (com_number com_id)
              (com_number com_id) t s e.handle n (λ same. absurd (omega (arith, same, lt))),
        ) rest
    either false listed rest = rw listed rest

none_fresh : (b i s n : ℕ) (com_id : Option ℕ) (slots : TableState)
    → s ≡ b + i → AllBelow n (slot_in i slots).objects
    → row_of com_row_rank (com_rank com_id s n) (rows_from b com_id slots) ≡ None
none_fresh b i s n com_id [] of below = refl
none_fresh b zero s n com_id (x ∷ xs) of below =
    none-append (com_rank com_id s n) (rows_in b com_id x.objects) (rows_from (b + 1) com_id xs)
    (none_of-next b s n com_id x.objects below) (later (b + 1) xs (omega (arith, of)))
  where
    later : (c : ℕ) (ys : TableState) → s < c
        → row_of com_row_rank (com_rank com_id s n) (rows_from c com_id ys) ≡ None
    later c [] lt = refl
    later c (y ∷ ys) lt =
        none-append (com_rank com_id s n) (rows_in c com_id y.objects) (rows_from (c + 1) com_id ys)
        (none_of-slot c s n com_id y.objects (λ e. absurd (omega (arith, e, lt))))
        (later (c + 1) ys (omega (arith, lt)))
none_fresh b (suc i) s n com_id (x ∷ xs) of below =
    none-append (com_rank com_id s n) (rows_in b com_id x.objects) (rows_from (b + 1) com_id xs)
    (none_of-slot b s n com_id x.objects (λ e. absurd (omega (arith, e, of))))
    (none_fresh (b + 1) i s n com_id xs (omega (arith, of)) below)

some-left : (k : Rank) (xs ys : List ComRow) → has_row com_row_rank k xs ≡ true
    → has_row com_row_rank k (xs ++ ys) ≡ true
some-left k [] ys some = absurd (false≢true some)
some-left k (x ∷ xs) ys some = either (is_same (com_row_rank x) k) refl some (some-left k xs ys)
  where
    either : (b : Bool) → is_same (com_row_rank x) k ≡ b → has_row com_row_rank k (x ∷ xs) ≡ true
        → (has_row com_row_rank k xs ≡ true → has_row com_row_rank k (xs ++ ys) ≡ true)
        → has_row com_row_rank k (x ∷ xs ++ ys) ≡ true
    either true is some rest = rw is refl
    either false is some rest = rw is (rest (rw is at some))

some-right : (k : Rank) (xs ys : List ComRow)
    → has_row com_row_rank k ys ≡ true → has_row com_row_rank k (xs ++ ys) ≡ true
some-right k [] ys some = some
some-right k (x ∷ xs) ys some = either (is_same (com_row_rank x) k) refl (some-right k xs ys some)
  where
    either : (b : Bool) → is_same (com_row_rank x) k ≡ b
        → has_row com_row_rank k (xs ++ ys) ≡ true → has_row com_row_rank k (x ∷ xs ++ ys) ≡ true
    either true is rest = rw is refl
    either false is rest = rw is rest

some_in : (t s h : ℕ) (com_id : Option ℕ) (es : List Keyed) (keyed : Keyed)
    → t ≡ s → by_handle h es ≡ Some keyed → is_listed com_id keyed.object ≡ true
    → has_com_row com_id s h (rows_in t com_id es) ≡ true
some_in t s h com_id [] keyed same found listed = absurd (none-some keyed found)
some_in t s h com_id (e ∷ es) keyed same found listed = either (e.handle == h) refl
    (is_listed com_id e.object) refl found (λ at. some_in t s h com_id es keyed same at listed)
  where
    either : (b : Bool) → (e.handle == h) ≡ b
        → (l : Bool) → is_listed com_id e.object ≡ l → by_handle h (e ∷ es) ≡ Some keyed
        → (by_handle h es ≡ Some keyed → has_com_row com_id s h (rows_in t com_id es) ≡ true)
        → has_com_row com_id s h (rows_in t com_id (e ∷ es)) ≡ true
    either true is true there found rest =
        let of : e.handle ≡ h = grind (arith, nat_tests) in
        let here : is_same (com_rank com_id t e.handle) (com_rank com_id s h) ≡ true =
        subst (λ (m : ℕ). is_same (com_rank com_id t e.handle) (com_rank com_id m h) ≡ true) same
        (subst (λ (g : ℕ). is_same (com_rank com_id t e.handle) (com_rank com_id t g) ≡ true) of
        (same_self (com_number com_id) t e.handle)) in
        rw (there, here) refl
    either true is false there found rest =
        let it : e ≡ keyed = same_Some e keyed (rw is at found) in
        absurd
        (false≢true (sym there ∙ (ap (λ (k : Keyed). is_listed com_id k.object) it ∙ listed)))
    either false is true there found rest =
        let apart : e.handle ≢ h = grind (arith, nat_tests) in
        rw (there, other_handle (com_number com_id) (com_number com_id) t s e.handle h apart)
        (rest (rw is at found))
    either false is false there found rest = rw there (rest (rw is at found))

some_from : (b i s h : ℕ) (com_id : Option ℕ) (slots : TableState) (keyed : Keyed) → s ≡ b + i
    → by_handle h (slot_in i slots).objects ≡ Some keyed → is_listed com_id keyed.object ≡ true
    → has_com_row com_id s h (rows_from b com_id slots) ≡ true
some_from b i s h com_id [] keyed of found listed = absurd (none-some keyed found)
some_from b zero s h com_id (x ∷ xs) keyed of found listed =
    some-left (com_rank com_id s h) (rows_in b com_id x.objects) (rows_from (b + 1) com_id xs)
    (some_in b s h com_id x.objects keyed (omega (arith, of)) found listed)
some_from b (suc i) s h com_id (x ∷ xs) keyed of found listed =
    some-right (com_rank com_id s h) (rows_in b com_id x.objects) (rows_from (b + 1) com_id xs)
    (some_from (b + 1) i s h com_id xs keyed (omega (arith, of)) found listed)

-- What a call of the index asks for.

pub has_spare : (table : TableState) (index : ComIndexState) (com_id : Option (Option ℕ))
    → IsIndexed table index → length (all_objects table) < room_of table
    → OnSome com_id (length index.rows < index.room)
has_spare table index None is lt = tt
has_spare table index (Some own) is lt =
    omega (arith, lt, counted_few com_of table, is.count, is.room)

pub is_fresh : (table : TableState) (index : ComIndexState) (com_id : Option (Option ℕ)) (s : ℕ)
    → IsIndexed table index → IsTable table
    → IfSome com_id (λ own. has_com_row own s (slot_in s table).next index.rows ≡ false)
is_fresh table index None s is sound = tt
is_fresh table index (Some own) s is sound =
    has-run own s (slot_in s table).next table index is
    ∙ ap is_some
    (none_fresh 0 s s (slot_in s table).next own table (omega arith) (sound.slots s).below)

pub is_there : (table : TableState) (index : ComIndexState) (s h : ℕ) → IsIndexed table index
    → IfSome (com_in s h table) (λ own. has_com_row own s h index.rows ≡ true)
is_there table index s h is = found (by_handle h (slot_in s table).objects) refl
  where
    found : (o : Option Keyed) → by_handle h (slot_in s table).objects ≡ o
        → IfSome (com_found o) (λ own. has_com_row own s h index.rows ≡ true)
    found None at = tt
    found (Some keyed) at = of (com_of keyed.object) refl
      where
        of : (c : Option (Option ℕ)) → com_of keyed.object ≡ c
            → IfSome c (λ own. has_com_row own s h index.rows ≡ true)
        of None com_id = tt
        of (Some own) com_id =
            has-run own s h table index is
            ∙ some_from 0 s s h own table keyed
            (omega arith) at (ap (is_com own) com_id ∙ same_com-self own)

-- The index stays that of the table.

pub indexed_new : (quotas : List (List ℕ)) (room : ℕ) → room_of (map opened_slot quotas) ≤ room
    → IsIndexed (map opened_slot quotas) (empty_com_index room)
indexed_new quotas room le = record {
  runs = λ com_id. sym (no_rows 0 com_id quotas);
  count = sym (counted_none com_of quotas);
  room = le;
}
  where
    no_rows : (b : ℕ) (com_id : Option ℕ) (qs : List (List ℕ))
        → rows_from b com_id (map opened_slot qs) ≡ []
    no_rows b com_id [] = refl
    no_rows b com_id (q ∷ qs) = no_rows (b + 1) com_id qs

pub indexed_added :
    (table : TableState) (index index_then : ComIndexState) (s key : ℕ) (object : AnyObject)
    → IsIndexed table index → IsTable table → s < length table
    → ((com_id : Option ℕ) → run_of com_id index_then.rows
    ≡ run_with (com_of object) s (slot_in s table).next key com_id (run_of com_id index.rows))
    → length index_then.rows ≡ length index.rows + one_if_some (com_of object) → index_then.room
    ≡ index.room → IsIndexed (changed_at s (with_object key object) table) index_then
indexed_added table index index_then s key object is sound lt runs count room =
    let x = with_object key object (slot_in s table) in
    record {
      runs = λ com_id. runs com_id
          ∙ (ap (run_with (com_of object) s (slot_in s table).next key com_id) (is.runs com_id)
          ∙ runs_added s key object table com_id lt (sound.slots s).below);
      count = omega (
        arith,
        count,
        is.count,
        counted-set com_of table s x lt,
        counted-push
            com_of (slot_in s table).objects (new_object (slot_in s table).next key object),
      );
      room = omega (arith, room, is.room, room-set table s x lt refl);
    }

pub indexed_removed : (table : TableState) (index index_then : ComIndexState) (s h : ℕ)
    → IsIndexed table index → IsTable table → s < length table → ((com_id : Option ℕ)
    → run_of com_id index_then.rows ≡ run_without (com_in s h table) s h (run_of com_id index.rows))
    → length index.rows ≡ length index_then.rows + one_if_some (com_in s h table)
    → index_then.room ≡ index.room → IsIndexed (changed_at s (without_keyed h) table) index_then
indexed_removed table index index_then s h is sound lt runs count room =
    let x = without_keyed h (slot_in s table) in
    record {
      runs = λ com_id. runs com_id ∙ (ap (run_without (com_in s h table) s h) (is.runs com_id)
          ∙ gone com_id (by_handle h (slot_in s table).objects) refl);
      count = counted (by_handle h (slot_in s table).objects)
          refl count (counted-set com_of table s x lt);
      room = omega (arith, room, is.room, room-set table s x lt refl);
    }
  where
    none_of : (es : List Keyed) → by_handle h es ≡ None → AreOf h None es
    none_of [] none = tt
    none_of (e ∷ es) none = either (e.handle == h) refl none (none_of es)
      where
        either : (b : Bool) → (e.handle == h) ≡ b → by_handle h (e ∷ es) ≡ None
            → (by_handle h es ≡ None → AreOf h None es) → AreOf h None (e ∷ es)
        either true at none rest = absurd (none-some e (sym (rw at at none)))
        either false at none rest =
            let apart : e.handle ≢ h = grind (arith, nat_tests) in
            (λ same. absurd (apart same), rest (rw at at none))

    gone : (com_id : Option ℕ) (o : Option Keyed) → by_handle h (slot_in s table).objects ≡ o
        → run_without (com_found o) s h (rows_from 0 com_id table)
        ≡ rows_from 0 com_id (changed_at s (without_keyed h) table)
    gone com_id None at = runs_removed s h None table com_id (none_of (slot_in s table).objects at)
    gone com_id (Some keyed) at = runs_removed s h (com_of keyed.object)
        table com_id (are_of h (slot_in s table).objects keyed (sound.slots s).rising at)

    counted : (o : Option Keyed) → by_handle h (slot_in s table).objects ≡ o
        → length index.rows ≡ length index_then.rows + one_if_some (com_found o)
        → counted_all com_of (set table s (without_keyed h (slot_in s table)))
        + listed_in (slot_in s table).objects
        ≡ counted_all com_of table + listed_in (without_keyed h (slot_in s table)).objects
        → length index_then.rows ≡ counted_all com_of (changed_at s (without_keyed h) table)
    counted None at count sums =
        let same : listed_in (without_keyed h (slot_in s table)).objects
        ≡ listed_in (slot_in s table).objects =
        ap listed_in (without_none h (slot_in s table).objects at) in
        omega (arith, count, sums, same, is.count)
    counted (Some keyed) at count sums =
        omega (
          arith,
          count,
          sums,
          is.count,
          counted-without com_of h (slot_in s table).objects keyed (sound.slots s).rising at,
        )

pub indexed_exchanged :
    (table : TableState) (index : ComIndexState) (s h : ℕ) (keyed : Keyed) (w : AnyObject)
    → IsIndexed table index → IsTable table → s < length table
    → by_handle h (slot_in s table).objects ≡ Some keyed → com_of w ≡ com_of keyed.object
    → IsIndexed (changed_at s (with_other_by_handle h w) table) index
indexed_exchanged table index s h keyed w is sound lt found same =
    let x = with_other_by_handle h w (slot_in s table) in
    let are : AreOf h (com_of w) (slot_in s table).objects =
    subst (λ (c : Option (Option ℕ)). AreOf h c (slot_in s table).objects)
    (sym same) (are_of h (slot_in s table).objects keyed (sound.slots s).rising found) in
    record {
      runs = λ com_id. is.runs com_id ∙ sym (runs_exchanged s h w table com_id are);
      count = omega (
        arith,
        is.count,
        counted-set com_of table s x lt,
        counted-other com_of h w (slot_in s table).objects are,
      );
      room = omega (arith, is.room, room-set table s x lt refl);
    }

-- An object that was added is found under its handle.

pub added_found : (table table_then : TableState) (s : ℕ) (object : AnyObject)
    → IsTable table → s < length table → (a : Adds s object table table_then)
    → by_handle (slot_in s table).next (slot_in s table_then).objects
    ≡ Some (new_object (slot_in s table).next a.key object)
added_found table table_then s object sound lt a =
    ap (λ (t : TableState). by_handle (slot_in s table).next (slot_in s t).objects) a.table
    ∙ (ap (λ (x : SlotTable). by_handle (slot_in s table).next x.objects)
    (get_or-set_same table s (with_object a.key object (slot_in s table)) (opened_slot []) lt)
    ∙ found_last (slot_in s table).next (slot_in s table).objects
    (new_object (slot_in s table).next a.key object) (sound.slots s).below refl)

pub added_index : (table table_then : TableState) (index index_then : ComIndexState)
    (s handle key : ℕ) (object : AnyObject) → IsIndexed table index → IsTable table
    → s < length table → Adds s object table table_then → handle ≡ (slot_in s table).next
    → Some key ≡ option_map (λ keyed. keyed.key) (by_handle handle (slot_in s table_then).objects)
    → ((com_id : Option ℕ) → run_of com_id index_then.rows
    ≡ run_with (com_of object) s handle key com_id (run_of com_id index.rows))
    → length index_then.rows ≡ length index.rows + one_if_some (com_of object)
    → index_then.room ≡ index.room → IsIndexed table_then index_then
added_index table table_then index index_then
    s handle key object is sound lt a at found runs count room =
    let there = added_found table table_then s object sound lt a in
    let found_next = rw at at found in
    let key_is : key ≡ a.key =
    same_Some key a.key (found_next ∙ ap (option_map (λ (k : Keyed). k.key)) there) in
    let P : TableState → Type 0 = λ t. IsIndexed t index_then in
    subst P (sym a.table)
    (indexed_added table index index_then s a.key object is sound lt
    (λ com_id. runs com_id ∙ (ap (λ (n : ℕ). run_with
    (com_of object) s n key com_id (run_of com_id index.rows)) at ∙ ap (λ (k : ℕ). run_with
    (com_of object) s (slot_in s table).next k com_id (run_of com_id index.rows)) key_is))
    count room)

pub added_there : (table table_then : TableState) (s handle : ℕ) (object : AnyObject)
    → IsTable table
    → s < length table → Adds s object table table_then → handle ≡ (slot_in s table).next
    → option_map (λ keyed. keyed.key) (by_handle handle (slot_in s table_then).objects) ≢ None
added_there table table_then s handle object sound lt a at none =
    let there = added_found table table_then s object sound lt a in
    let none_next = rw at at none in
    none-some a.key (sym none_next ∙ ap (option_map (λ (k : Keyed). k.key)) there)

-- an object that was reached by its handle becomes another one, under the same comId
pub indexed_reached :
    (table : TableState) (index : ComIndexState) (s h key : ℕ) (object object_then : AnyObject)
    → IsIndexed table index → IsTable table → s < length table
    → ExchangesAlone table → IsReached table s h key object
    → com_of object_then ≡ com_of object → IsIndexed (exchanged key table object_then) index
indexed_reached table index s h key object object_then is sound lt exchanges r same =
    let then : exchanged key table object_then
    ≡ changed_at s (with_other_by_handle h object_then) table =
    ap (λ (k : ℕ). exchanged k table object_then) r.key_is
    ∙ exchanges s h r.keyed object_then r.found in
    let P : TableState → Type 0 = λ t. IsIndexed t index in
    subst P (sym then) (indexed_exchanged table
    index s h r.keyed object_then is sound lt r.found (same ∙ ap com_of r.object_is))
