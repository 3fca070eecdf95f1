-- The rooms that a schedule knows are within bounds.
-- For `Schedule::with_room`, `admit`, `change`, `due_room`, and the calls of `Store` on them.
-- By: an object's room is within the limits of one, and the number of objects has a limit.
use Rattle.std.proofs.Common.{◌≡◌, ℕ, zero, suc, ◌*◌, ◌<◌, ◌≤◌, ◌^◌, List, []}
use Rattle.std.proofs.Common.{◌∷◌, length, set, sum, Option, ap}
use Rattle.std.proofs.Common.{arith, None, inl, inr, ◌+◌}
use Rattle.std.specs.Prelude.{replicate}
use Rattle.std.proofs.lemmas.List.{length-set, length-replicate}
use Rattle.std.proofs.lemmas.List.Sums.{sum_by-cons}
use Rattle.trdp_model.specs.declared.kind.Kind.{Kind}
use Rattle.trdp_model.specs.declared.kind.Kind.TheVariants.{Publisher, Subscription, Requester}
use Rattle.trdp_model.specs.declared.kind.Kind.TheVariants.{Listener, Caller, Replier}
use Rattle.trdp_table.specs.Tables.{TableState, all_quotas, room_of, slot_in}
use Rattle.trdp_table.specs.TableLaws.{AreLimited, IsSlotTable, IsTable}
use Rattle.trdp_timers.specs.declared.order.Order.{Order}
use Rattle.trdp_outbox.specs.Rooms.{kind_room, room_rows_limit, room_bytes_limit}
use Rattle.trdp_store.specs.Timed.{AllAtMost, IsSchedule, IsOver}

zeros_few : (most n : ℕ) → AllAtMost most (replicate n 0)
zeros_few most zero = tt
zeros_few most (suc n) = (omega arith, zeros_few most n)

set_few : (most : ℕ) (ns : List ℕ) (k n : ℕ) → AllAtMost most ns
    → n ≤ most → AllAtMost most (set ns k n)
set_few most [] k n all le = tt
set_few most (x ∷ ns) zero n all le = (le, all.1)
set_few most (x ∷ ns) (suc k) n all le = (all.0, set_few most ns k n all.1 le)

few_rows : (ns : List ℕ) → AllAtMost room_rows_limit ns → sum ns ≤ length ns * room_rows_limit
few_rows [] all = omega arith
few_rows (n ∷ ns) all = omega (arith, all.0, few_rows ns all.1, sum_by-cons (λ (x : ℕ). x) n ns)

few_bytes : (ns : List ℕ) → AllAtMost room_bytes_limit ns → sum ns ≤ length ns * room_bytes_limit
few_bytes [] all = omega arith
few_bytes (n ∷ ns) all = omega (arith, all.0, few_bytes ns all.1, sum_by-cons (λ (x : ℕ). x) n ns)

pub schedule_new : (orders : List (Option Order)) (rows bytes : List ℕ) (room : ℕ)
    → room ≤ 24576 → length orders ≡ room → rows ≡ replicate room 0
    → bytes ≡ replicate room 0 → IsSchedule orders rows bytes
schedule_new orders rows bytes room le count rows_are bytes_are = record {
  rows_count = omega (arith, count, ap length rows_are, length-replicate {A = ℕ} room 0);
  bytes_count = omega (arith, count, ap length bytes_are, length-replicate {A = ℕ} room 0);
  few_rows = rw rows_are (zeros_few room_rows_limit room);
  few_bytes = rw bytes_are (zeros_few room_bytes_limit room);
  rows_limit = omega (arith, le, ap length rows_are, length-replicate {A = ℕ} room 0);
  bytes_limit = omega (arith, le, ap length bytes_are, length-replicate {A = ℕ} room 0);
}

pub schedule_admits : (orders : List (Option Order)) (rows bytes : List ℕ) (key r b : ℕ)
    → IsSchedule orders rows bytes → r ≤ room_rows_limit → b ≤ room_bytes_limit
    → IsSchedule orders (set rows key r) (set bytes key b)
schedule_admits orders rows bytes key r b is few_r few_b = record {
  rows_count = omega (arith, is.rows_count, length-set rows key r);
  bytes_count = omega (arith, is.bytes_count, length-set bytes key b);
  few_rows = set_few room_rows_limit rows key r is.few_rows few_r;
  few_bytes = set_few room_bytes_limit bytes key b is.few_bytes few_b;
  rows_limit = omega (arith, is.rows_limit, length-set rows key r);
  bytes_limit = omega (arith, is.bytes_limit, length-set bytes key b);
}

pub rows_fit : (orders : List (Option Order)) (rows bytes : List ℕ)
    → IsSchedule orders rows bytes → sum rows < 2 ^ 64
rows_fit orders rows bytes is = omega (arith, few_rows rows is.few_rows, is.rows_limit)

pub bytes_fit : (orders : List (Option Order)) (rows bytes : List ℕ)
    → IsSchedule orders rows bytes → sum bytes < 2 ^ 64
bytes_fit orders rows bytes is =
    omega (arith, few_bytes bytes is.few_bytes, is.bytes_limit)

-- the room of an object is within the limits of one object
pub kind_rows : (kind : Kind) → (kind_room kind).rows ≤ room_rows_limit
kind_rows Publisher = omega arith
kind_rows Subscription = omega arith
kind_rows Requester = omega arith
kind_rows Listener = omega arith
kind_rows Caller = omega arith
kind_rows Replier = omega arith

pub kind_bytes : (kind : Kind) → (kind_room kind).bytes ≤ room_bytes_limit
kind_bytes Publisher = omega arith
kind_bytes Subscription = omega arith
kind_bytes Requester = omega arith
kind_bytes Listener = omega arith
kind_bytes Caller = omega arith
kind_bytes Replier = omega arith

-- a slot has room for 256 objects of each kind
slot_room : (quotas : List ℕ) → AreLimited quotas → all_quotas quotas ≤ 1536
slot_room quotas limited =
    omega (
      arith,
      limited Publisher,
      limited Subscription,
      limited Requester,
      limited Listener,
      limited Caller,
      limited Replier,
    )

pub slots_room : (table : TableState) → ((s : ℕ) → IsSlotTable (slot_in s table))
    → room_of table ≤ length table * 1536
slots_room [] slots = omega arith
slots_room (x ∷ xs) slots =
    omega (
      arith,
      slot_room x.quotas (slots 0).limited,
      slots_room xs (λ s. slots (suc s)),
      sum_by-cons (λ slot. all_quotas slot.quotas) x xs,
    )

pub room_limited : (table : TableState) → IsTable table → room_of table ≤ 24576
room_limited table sound = omega (arith, slots_room table sound.slots, sound.few)

-- For an object that is over, its change or its removal costs nothing.

pub over_costs : (change going b : ℕ) (before due : Option ℕ)
    → IsOver before due → (due ≡ before → change ≡ 0)
    → (due ≡ None → going ≡ 0) → change ≤ 2 * b + 2 → going ≤ 2 * b + 2 → change + going ≤ 2 * b + 2
over_costs change going b before due (inl same) still idle set gone =
    let none = still same in omega (arith, none, gone)
over_costs change going b before due (inr none) still idle set gone = let no_more = idle none in
    omega (arith, no_more, set)
