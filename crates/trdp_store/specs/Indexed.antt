-- The index by comId is the image of the slots' objects.
use Rattle.std.specs.Prelude.{◌≡◌, ℕ, ◌+◌, ◌≤◌, List, [], ◌∷◌, ◌++◌, length, count_by, sum_by}
use Rattle.std.specs.Prelude.{Option, Some, None, Bool, false, is_some, if◌then◌else◌}
use Rattle.trdp_model.specs.declared.any_object.AnyObject.{AnyObject}
use Rattle.trdp_model.specs.declared.any_object.AnyObject.TheVariants.{Publisher, Subscription}
use Rattle.trdp_model.specs.declared.any_object.AnyObject.TheVariants.{Listener}
use Rattle.trdp_table.specs.Tables.{Keyed, TableState, room_of}
use Rattle.trdp_index.specs.declared.com_row.ComRow.{ComRow}
use Rattle.trdp_index.specs.Rows.{with_row, without_rank}
use Rattle.trdp_index.specs.ComRows.{com_rank, com_row_rank, is_same_com, run_of}
use Rattle.trdp_index.specs.ComIndexes.{ComIndexState}

-- the comId, or any, under which telegrams look for an object, if they look for it by comId
abbrev pub com_of : AnyObject → Option (Option ℕ)
com_of (Publisher p) = Some (Some p.terms.com_id)
com_of (Subscription s) = Some (Some s.terms.filter.com_id)
com_of (Listener l) = Some l.filter.com_id
com_of object = None

-- the same of an object that there may be
abbrev pub com_found : Option Keyed → Option (Option ℕ)
com_found None = None
com_found (Some keyed) = com_of keyed.object

-- it is that comId
abbrev pub is_com : Option ℕ → Option (Option ℕ) → Bool
is_com com_id None = false
is_com com_id (Some own) = is_same_com own com_id

-- telegrams look for the object under that comId
abbrev pub is_listed : Option ℕ → AnyObject → Bool
is_listed com_id object = is_com com_id (com_of object)

-- the row of an object of slot s
abbrev pub listed_as : ℕ → Option ℕ → Keyed → ComRow
listed_as s com_id keyed =
    record { com_id = com_id; slot = s; handle = keyed.handle; key = keyed.key }

-- the rows of these objects of slot s under a comId
abbrev pub rows_in : ℕ → Option ℕ → List Keyed → List ComRow
rows_in s com_id [] = []
rows_in s com_id (keyed ∷ others) =
    if is_listed com_id keyed.object
    then listed_as s com_id keyed ∷ rows_in s com_id others
    else rows_in s com_id others

-- the rows of all objects of the slots from number s on, under a comId
abbrev pub rows_from : ℕ → Option ℕ → TableState → List ComRow
rows_from s com_id [] = []
rows_from s com_id (slot ∷ slots) = rows_in s com_id slot.objects ++ rows_from (s + 1) com_id slots

-- how many of these objects telegrams look for by comId
abbrev pub listed_in : List Keyed → ℕ
listed_in objects = count_by (λ keyed. is_some (com_of keyed.object)) objects

-- the rows of each comId are those of the slots' objects, by slot and handle; there are no others,
-- and there is room for one of each object
pub record IsIndexed (table : TableState) (index : ComIndexState) : Type 0 where
  pub runs : (com_id : Option ℕ) → run_of com_id index.rows ≡ rows_from 0 com_id table
  pub count : length index.rows ≡ sum_by (λ slot. listed_in slot.objects) table
  pub room : room_of table ≤ index.room

-- a row for an object more, if telegrams look for it by comId
abbrev pub run_with :
    Option (Option ℕ) → ℕ → ℕ → ℕ → Option ℕ → List ComRow → List ComRow
run_with None slot handle key com_id rows = rows
run_with (Some own) slot handle key com_id rows =
    if is_same_com own com_id
    then with_row com_row_rank
    (record { com_id = own; slot = slot; handle = handle; key = key })
    rows
    else rows

-- without the row of an object, if telegrams look for it by comId
abbrev pub run_without : Option (Option ℕ) → ℕ → ℕ → List ComRow → List ComRow
run_without None slot handle rows = rows
run_without (Some own) slot handle rows = without_rank com_row_rank (com_rank own slot handle) rows

-- one, where there is one
abbrev pub one_if_some : {X : Type 0} → Option X → ℕ
one_if_some None = 0
one_if_some (Some x) = 1
