-- The timer heap is the image of the slots' objects, and knows the room that each may need.
use Rattle.std.specs.Prelude.{◌≡◌, ℕ, ◌*◌, ◌≤◌, ◌⊎◌, List, [], ◌∷◌, length, replicate}
use Rattle.std.specs.Prelude.{false}
use Rattle.std.specs.Prelude.{slice_index, slice_index_or, Option, Some, None}
use Rattle.trdp_timers.specs.declared.order.Order.{Order}
use Rattle.trdp_timers.specs.Orders.{is_due_by}
use Rattle.trdp_timers.specs.Contents.{IsFirst}
use Rattle.trdp_index.specs.ComIndexes.{ComIndexState}
use Rattle.trdp_index.specs.SessionIndexes.{SessionIndexState}
use Rattle.trdp_model.specs.Kinds.{kind_of}
use Rattle.trdp_model.specs.Objects.{due_of}
use Rattle.trdp_table.specs.Tables.{Keyed, TableState, slot_in, by_handle, room_of}
use Rattle.trdp_table.specs.TableLaws.{object_limit}
use Rattle.trdp_outbox.specs.Rooms.{kind_room, room_rows_limit, room_bytes_limit}
use Rattle.trdp_store.specs.Indexed.{IsIndexed}
use Rattle.trdp_store.specs.InSession.{IsInSession}
use Rattle.trdp_store.specs.OfKind.{AllOfKind}

-- the orders of the objects by their keys, and the room in an outbox that each needs at most as it
-- fires: a number of records, and a number of bytes
pub record ScheduleState : Type 0 where
  pub orders : List (Option Order)
  pub rows : List ℕ
  pub bytes : List ℕ

-- a schedule with room for that many objects, and without one
abbrev pub empty_schedule : ℕ → ScheduleState
empty_schedule room = record {
  orders = replicate room None;
  rows = replicate room 0;
  bytes = replicate room 0;
}

-- each of these numbers is at most this
abbrev pub AllAtMost : ℕ → List ℕ → Type 0
AllAtMost most [] = Unit {0}
AllAtMost most (n ∷ ns) = (n ≤ most) × AllAtMost most ns

-- a schedule knows the room of each key, which is at most that of one object
pub record IsSchedule (orders : List (Option Order)) (rows bytes : List ℕ) : Type 0 where
  pub rows_count : length orders ≤ length rows
  pub bytes_count : length orders ≤ length bytes
  pub few_rows : AllAtMost room_rows_limit rows
  pub few_bytes : AllAtMost room_bytes_limit bytes
  pub rows_limit : length rows ≤ 16 * object_limit
  pub bytes_limit : length bytes ≤ 16 * object_limit

-- each key has the order and the room that it had, and there is room for as many keys at least
pub record IsKeptSchedule (before after : ScheduleState) : Type 0 where
  pub orders : (key : ℕ)
      → slice_index_or after.orders key None ≡ slice_index_or before.orders key None
  pub rows : (key : ℕ) → slice_index after.rows key ≡ slice_index before.rows key
  pub bytes : (key : ℕ) → slice_index after.bytes key ≡ slice_index before.bytes key
  pub room : length before.orders ≤ length after.orders
  pub rows_room : length before.rows ≤ length after.rows
  pub bytes_room : length before.bytes ≤ length after.bytes

-- when an object of a slot acts that has this due moment, if it has one
-- rule: time.order
abbrev pub due_order : ℕ → ℕ → Option ℕ → Option Order
due_order s handle None = None
due_order s handle (Some due) = Some (record { due = due; slot = s; handle = handle })

-- when an object of slot s acts
abbrev pub order_of : ℕ → Keyed → Option Order
order_of s keyed = due_order s keyed.handle (due_of keyed.object)

-- the due moment of an object that is over is as it was, or it has none
abbrev pub IsOver : Option ℕ → Option ℕ → Type 0
IsOver before due = (due ≡ before) ⊎ (due ≡ None)

-- an object of slot s has its order, and its room, under its key
pub record IsTimed (s : ℕ) (schedule : ScheduleState) (keyed : Keyed) : Type 0 where
  pub order : slice_index_or schedule.orders keyed.key None ≡ order_of s keyed
  pub rows : slice_index schedule.rows keyed.key ≡ (kind_room (kind_of keyed.object)).rows
  pub bytes : slice_index schedule.bytes keyed.key ≡ (kind_room (kind_of keyed.object)).bytes

-- the object of an order's slot and handle has the key
pub record IsOwned (table : TableState) (key : ℕ) (order : Order) : Type 0 where
  pub keyed : Keyed
  pub found : by_handle order.handle (slot_in order.slot table).objects ≡ Some keyed
  pub key_is : keyed.key ≡ key

-- each object is in the schedule, at its due moment; there are no other orders, and there is room
-- for one of each object
pub record IsScheduled (table : TableState) (schedule : ScheduleState) : Type 0 where
  pub timed : (s handle : ℕ) (keyed : Keyed)
      → by_handle handle (slot_in s table).objects ≡ Some keyed → IsTimed s schedule keyed
  pub owned : (key : ℕ) (order : Order)
      → slice_index_or schedule.orders key None ≡ Some order → IsOwned table key order
  pub room : room_of table ≤ length schedule.orders
  pub rows_room : room_of table ≤ length schedule.rows
  pub bytes_room : room_of table ≤ length schedule.bytes

-- both indexes and the schedule are those of the table, whose notes of kinds are true
pub record IsStore (table : TableState) (coms : ComIndexState) (sessions : SessionIndexState)
    (schedule : ScheduleState) : Type 0 where
  pub by_com : IsIndexed table coms
  pub by_session : IsInSession table sessions
  pub by_moment : IsScheduled table schedule
  pub kinds : AllOfKind table

-- no order is due by t
abbrev pub IsNoneDue : ℕ → List (Option Order) → Type 0
IsNoneDue t orders = (key : ℕ) → is_due_by t (slice_index_or orders key None) ≡ false

-- a key has this order, and none is sooner
pub record IsSoonest (orders : List (Option Order)) (order : Order) : Type 0 where
  pub key : ℕ
  pub first : IsFirst orders key order

-- the key has this order, which is due by t, and none is sooner
pub record IsFirstDue (t : ℕ) (orders : List (Option Order)) (key : ℕ) (order : Order)
    : Type 0 where
  pub first : IsFirst orders key order
  pub due : order.due ≤ t
