-- How many rows the index by comId has.
-- For `Store::run`.
-- By: each object has one row at most.
use Rattle.std.proofs.Common.{◌≡◌, ℕ, suc, ◌+◌, ◌*◌, ◌≤◌, List, [], ◌∷◌, length}
use Rattle.std.proofs.Common.{Option, Bool, true, false, refl, arith}
use Rattle.std.proofs.lemmas.List.{length-append}
use Rattle.trdp_table.specs.Tables.{Keyed, TableState, slot_in, all_objects, room_of}
use Rattle.trdp_table.specs.TableLaws.{IsTable}
use Rattle.trdp_index.specs.ComIndexes.{ComIndexState}
use Rattle.trdp_store.specs.Indexed.{com_of, is_listed, rows_in, rows_from, IsIndexed}
use Rattle.trdp_store.proofs.StoreLemmas.Counts.{counted_few}

pub rows_few : (table : TableState) (index : ComIndexState) → IsIndexed table index
    → length (all_objects table) ≤ room_of table → length index.rows ≤ room_of table
rows_few table index is le = omega (arith, le, counted_few com_of table, is.count)

rows_in-few : (s : ℕ) (com_id : Option ℕ) (es : List Keyed)
    → length (rows_in s com_id es) ≤ length es
rows_in-few s com_id [] = omega arith
rows_in-few s com_id (e ∷ es) = either (is_listed com_id e.object) refl (rows_in-few s com_id es)
  where
    either : (l : Bool) → is_listed com_id e.object ≡ l → length (rows_in s com_id es) ≤ length es
        → length (rows_in s com_id (e ∷ es)) ≤ length (e ∷ es)
    either true listed rest = rw listed (omega (arith, rest))
    either false listed rest = rw listed (omega (arith, rest))

rows_from-few : (b : ℕ) (com_id : Option ℕ) (slots : TableState)
    → ((s : ℕ) → length (slot_in s slots).objects ≤ 1536)
    → length (rows_from b com_id slots) ≤ length slots * 1536
rows_from-few b com_id [] each = omega arith
rows_from-few b com_id (x ∷ xs) each =
    omega (
      arith,
      each 0,
      rows_in-few b com_id x.objects,
      rows_from-few (b + 1) com_id xs (λ s. each (suc s)),
      length-append (rows_in b com_id x.objects) (rows_from (b + 1) com_id xs),
    )

pub run_few : (table : TableState) (com_id : Option ℕ)
    → IsTable table → length (rows_from 0 com_id table) ≤ 24576
run_few table com_id sound = omega (arith, rows_from-few 0 com_id table sound.objects, sound.few)
