-- A schedule gets room for more keys, and stays that of the table.
-- For `Schedule::grow` and `Store::open_slot`.
-- By: the new keys have no order and no room, and what was there before them stays.
use Rattle.std.proofs.Common.{◌≡◌, ℕ, zero, suc, ◌+◌, ◌-◌, ◌*◌, ◌≤◌, List, [], ◌∷◌, ◌++◌}
use Rattle.std.proofs.Common.{length, get_or, replicate, Option, None, Bool, true, false, cond}
use Rattle.std.proofs.Common.{refl, ◌∙◌, sym, ap, arith}
use Rattle.std.proofs.lemmas.List.{length-append, length-replicate, append-nil}
use Rattle.trdp_table.specs.Tables.{TableState}
use Rattle.trdp_table.specs.TableLaws.{object_limit}
use Rattle.trdp_timers.specs.declared.order.Order.{Order}
use Rattle.trdp_store.specs.Timed.{ScheduleState, AllAtMost, IsSchedule, IsKeptSchedule}
use Rattle.trdp_store.specs.Timed.{IsScheduled}
use Rattle.trdp_outbox.specs.Rooms.{room_rows_limit, room_bytes_limit}

-- Lists with more appended.

-- a list, and copies of one thing appended to it
pub record IsPadded {X : Type 0} (x : X) (xs : List X) (ys : List X) : Type 0 where
  pub more : ℕ
  pub padded_is : ys ≡ xs ++ replicate more x

pub padded_if : {X : Type 0} (ok : Bool) (x : X) (xs ys : List X) (n : ℕ)
    → ys ≡ cond ok (xs ++ replicate n x) xs → IsPadded x xs ys
padded_if true x xs ys n is = record { more = n; padded_is = is }
padded_if false x xs ys n is = record { more = 0; padded_is = is ∙ sym (append-nil xs) }

-- past the end of either list the result is that thing
at_padded : {X : Type 0} (x : X) (xs : List X) (n k : ℕ)
    → get_or (xs ++ replicate n x) k x ≡ get_or xs k x
at_padded x [] zero k = refl
at_padded x [] (suc n) zero = refl
at_padded x [] (suc n) (suc k) = at_padded x [] n k
at_padded x (y ∷ xs) n zero = refl
at_padded x (y ∷ xs) n (suc k) = at_padded x xs n k

at_key : {X : Type 0} (x : X) (xs ys : List X) (k : ℕ)
    → IsPadded x xs ys → get_or ys k x ≡ get_or xs k x
at_key {X} x xs ys k p =
    ap (λ (zs : List X). get_or zs k x) p.padded_is ∙ at_padded x xs p.more k

longer : {X : Type 0} (x : X) (xs ys : List X) (n : ℕ)
    → ys ≡ xs ++ replicate n x → length ys ≡ length xs + n
longer {X} x xs ys n is =
    ap length is ∙ (length-append xs (replicate n x)
    ∙ ap (λ (m : ℕ). length xs + m) (length-replicate n x))

no_shorter : {X : Type 0} (x : X) (xs ys : List X) → IsPadded x xs ys → length xs ≤ length ys
no_shorter x xs ys p = omega (arith, longer x xs ys p.more p.padded_is)

more_few : (most : ℕ) (ns : List ℕ) (n : ℕ)
    → AllAtMost most ns → AllAtMost most (ns ++ replicate n 0)
more_few most [] zero all = tt
more_few most [] (suc n) all = (omega arith, more_few most [] n tt)
more_few most (m ∷ ns) n all = (all.0, more_few most ns n all.1)

-- The schedule.

pub kept_schedule : (before after : ScheduleState)
    → IsPadded {X = Option Order} None before.orders after.orders
    → IsPadded 0 before.rows after.rows → IsPadded 0 before.bytes after.bytes
    → IsKeptSchedule before after
kept_schedule before after orders rows bytes = record {
  orders = λ k. at_key {X = Option Order} None before.orders after.orders k orders;
  rows = λ k. at_key 0 before.rows after.rows k rows;
  bytes = λ k. at_key 0 before.bytes after.bytes k bytes;
  room = no_shorter {X = Option Order} None before.orders after.orders orders;
  rows_room = no_shorter 0 before.rows after.rows rows;
  bytes_room = no_shorter 0 before.bytes after.bytes bytes;
}

-- the rows have grown
pub schedule_rows : (orders : List (Option Order)) (rows rows_then bytes : List ℕ) (room : ℕ)
    → IsSchedule orders rows bytes → room ≤ 16 * object_limit
    → rows_then ≡ rows ++ replicate (room - length rows) 0 → IsSchedule orders rows_then bytes
schedule_rows orders rows rows_then bytes room is limit rows_are =
    let count = longer 0 rows rows_then (room - length rows) rows_are in
    record {
      rows_count = omega (arith, count, is.rows_count);
      bytes_count = is.bytes_count;
      few_rows = rw rows_are (more_few room_rows_limit rows (room - length rows) is.few_rows);
      few_bytes = is.few_bytes;
      rows_limit = omega (arith, count, is.rows_limit, limit);
      bytes_limit = is.bytes_limit;
    }

-- the rows and the bytes have
schedule_sizes : (orders : List (Option Order)) (rows rows_then bytes bytes_then : List ℕ)
    (room : ℕ) → IsSchedule orders rows bytes → room ≤ 16 * object_limit
    → rows_then ≡ rows ++ replicate (room - length rows) 0
    → bytes_then ≡ bytes ++ replicate (room - length bytes) 0
    → IsSchedule orders rows_then bytes_then
schedule_sizes orders rows rows_then bytes bytes_then room is limit rows_are bytes_are =
    let so_far = schedule_rows orders rows rows_then bytes room is limit rows_are in
    let count = longer 0 bytes bytes_then (room - length bytes) bytes_are in
    record {
      rows_count = so_far.rows_count;
      bytes_count = omega (arith, count, is.bytes_count);
      few_rows = so_far.few_rows;
      few_bytes = rw bytes_are (more_few room_bytes_limit bytes (room - length bytes) is.few_bytes);
      rows_limit = so_far.rows_limit;
      bytes_limit = omega (arith, count, is.bytes_limit, limit);
    }

-- and the orders, if there was memory for them
pub schedule_grown : (orders orders_then : List (Option Order))
    (rows rows_then bytes bytes_then : List ℕ) (room : ℕ) (ok : Bool)
    → IsSchedule orders rows bytes → room ≤ 16 * object_limit
    → rows_then ≡ rows ++ replicate (room - length rows) 0
    → bytes_then ≡ bytes ++ replicate (room - length bytes) 0
    → orders_then ≡ cond ok (orders ++ replicate (room - length orders) None) orders
    → IsSchedule orders_then rows_then bytes_then
schedule_grown orders orders_then
    rows rows_then bytes bytes_then room false is limit rows_are bytes_are orders_are =
    rw orders_are
    (schedule_sizes orders rows rows_then bytes bytes_then room is limit rows_are bytes_are)
schedule_grown orders orders_then
    rows rows_then bytes bytes_then room true is limit rows_are bytes_are orders_are =
    let so_far =
    schedule_sizes orders rows rows_then bytes bytes_then room is limit rows_are bytes_are in
    let count =
    longer {X = Option Order} None orders orders_then (room - length orders) orders_are in
    record {
      rows_count =
          omega (
            arith,
            count,
            so_far.rows_count,
            longer 0 rows rows_then (room - length rows) rows_are,
          );
      bytes_count =
          omega (
            arith,
            count,
            so_far.bytes_count,
            longer 0 bytes bytes_then (room - length bytes) bytes_are,
          );
      few_rows = so_far.few_rows;
      few_bytes = so_far.few_bytes;
      rows_limit = so_far.rows_limit;
      bytes_limit = so_far.bytes_limit;
    }

-- it is still that of the table
pub scheduled_kept : (table : TableState) (before after : ScheduleState)
    → IsScheduled table before → IsKeptSchedule before after → IsScheduled table after
scheduled_kept table before after is kept = record {
  timed = λ s h keyed at.
      let timed = is.timed s h keyed at in
      record {
        order = kept.orders keyed.key ∙ timed.order;
        rows = kept.rows keyed.key ∙ timed.rows;
        bytes = kept.bytes keyed.key ∙ timed.bytes;
      };
  owned = λ key order at. is.owned key order (sym (kept.orders key) ∙ at);
  room = omega (arith, is.room, kept.room);
  rows_room = omega (arith, is.rows_room, kept.rows_room);
  bytes_room = omega (arith, is.bytes_room, kept.bytes_room);
}
