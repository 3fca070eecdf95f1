-- A store in which one more slot is opened, empty: what its parts know of the others stays true.
-- For `Store::open_slot`.
-- By: the new slot has no object, so that rows, sessions and orders are those of the others.
use Rattle.std.proofs.Common.{zero, suc, ◌≡◌, ℕ, ◌+◌, ◌≤◌, List, [], ◌∷◌, ◌++◌, length, refl, ◌∙◌}
use Rattle.std.proofs.Common.{ap, sym, arith, Option}
use Rattle.std.specs.List.{sum_by}
use Rattle.std.specs.Prelude.{max}
use Rattle.std.proofs.Math.Nat.{le-max_left, le-max_right}
use Rattle.std.proofs.lemmas.List.Sums.{sum_by-cons}
use Rattle.trdp_timers.specs.declared.order.Order.{Order}
use Rattle.trdp_index.specs.ComIndexes.{ComIndexState}
use Rattle.trdp_index.specs.SessionIndexes.{SessionIndexState}
use Rattle.trdp_table.specs.Tables.{Keyed, SlotTable, TableState, all_quotas, by_handle}
use Rattle.trdp_table.specs.Tables.{opened_slot, room_of, slot_in}
use Rattle.trdp_store.specs.Indexed.{IsIndexed, rows_from, rows_in, listed_in}
use Rattle.trdp_store.specs.InSession.{IsInSession, sessions_in}
use Rattle.trdp_store.specs.OfKind.{AllOfKind}
use Rattle.trdp_store.specs.Timed.{IsKeptSchedule, IsOwned, IsScheduled, IsStore}
use Rattle.trdp_store.specs.Timed.{ScheduleState}
use Rattle.trdp_store.proofs.OrderLemmas.Grown.{scheduled_kept}

-- each slot's objects stay, and the new slot has none
objects_stay : (s : ℕ) (table : TableState) (quotas : List ℕ)
    → (slot_in s (table ++ opened_slot quotas ∷ [])).objects ≡ (slot_in s table).objects
objects_stay zero [] quotas = refl
objects_stay (suc s) [] quotas = refl
objects_stay zero (slot ∷ slots) quotas = refl
objects_stay (suc s) (slot ∷ slots) quotas = objects_stay s slots quotas

-- the room grows by its quotas
pub room_grows : (table : TableState) (quotas : List ℕ)
    → room_of (table ++ opened_slot quotas ∷ []) ≡ room_of table + all_quotas quotas
room_grows [] quotas = refl
room_grows (slot ∷ slots) quotas =
    let count : SlotTable → ℕ = λ x. all_quotas x.quotas in
    omega (
      arith,
      sum_by-cons count slot slots,
      sum_by-cons count slot (slots ++ opened_slot quotas ∷ []),
      room_grows slots quotas,
    )

-- what is counted of the objects stays
counts_stay : (count : List Keyed → ℕ) → count [] ≡ 0 → (table : TableState) (quotas : List ℕ)
    → sum_by (λ slot. count slot.objects) (table ++ opened_slot quotas ∷ [])
    ≡ sum_by (λ slot. count slot.objects) table
counts_stay count none [] quotas = omega (arith, none)
counts_stay count none (slot ∷ slots) quotas =
    let each : SlotTable → ℕ = λ x. count x.objects in
    omega (
      arith,
      sum_by-cons each slot slots,
      sum_by-cons each slot (slots ++ opened_slot quotas ∷ []),
      counts_stay count none slots quotas,
    )

-- so do the rows of a comId
rows_stay : (s : ℕ) (com_id : Option ℕ) (table : TableState) (quotas : List ℕ)
    → rows_from s com_id (table ++ opened_slot quotas ∷ []) ≡ rows_from s com_id table
rows_stay s com_id [] quotas = refl
rows_stay s com_id (slot ∷ slots) quotas =
    ap (λ rows. rows_in s com_id slot.objects ++ rows) (rows_stay (s + 1) com_id slots quotas)

pub still_indexed : (table : TableState) (quotas : List ℕ) (coms coms_then : ComIndexState)
    → IsIndexed table coms → coms_then.rows ≡ coms.rows
    → room_of table + all_quotas quotas ≤ coms_then.room
    → IsIndexed (table ++ opened_slot quotas ∷ []) coms_then
still_indexed table quotas coms coms_then is same room = record {
  runs = λ com_id. rw same (is.runs com_id ∙ sym (rows_stay 0 com_id table quotas));
  count = rw same (is.count ∙ sym (counts_stay listed_in refl table quotas));
  room = omega (arith, room_grows table quotas, room);
}

pub still_in_session :
    (table : TableState) (quotas : List ℕ) (sessions sessions_then : SessionIndexState)
    → IsInSession table sessions → sessions_then.rows ≡ sessions.rows
    → room_of table + all_quotas quotas ≤ sessions_then.room
    → IsInSession (table ++ opened_slot quotas ∷ []) sessions_then
still_in_session table quotas sessions sessions_then is same room = record {
  slots = λ s. rw (same, objects_stay s table quotas) (is.slots s);
  count = rw same (is.count ∙ sym (counts_stay sessions_in refl table quotas));
  room = omega (arith, room_grows table quotas, room);
}

-- an order's object stays
still_owned : (table : TableState) (quotas : List ℕ) (key : ℕ) (order : Order)
    → IsOwned table key order → IsOwned (table ++ opened_slot quotas ∷ []) key order
still_owned table quotas key order is = record {
  keyed = is.keyed;
  found = ap (by_handle order.handle) (objects_stay order.slot table quotas) ∙ is.found;
  key_is = is.key_is;
}

pub still_scheduled : (table : TableState) (quotas : List ℕ) (schedule : ScheduleState)
    → IsScheduled table schedule
    → room_of table + all_quotas quotas ≤ length schedule.orders
    → room_of table + all_quotas quotas ≤ length schedule.rows
    → room_of table + all_quotas quotas ≤ length schedule.bytes
    → IsScheduled (table ++ opened_slot quotas ∷ []) schedule
still_scheduled table quotas schedule is orders rows bytes = record {
  timed = λ s handle keyed found. is.timed s handle keyed
      (sym (ap (by_handle handle) (objects_stay s table quotas)) ∙ found);
  owned = λ key order there. still_owned table quotas key order (is.owned key order there);
  room = omega (arith, room_grows table quotas, orders);
  rows_room = omega (arith, room_grows table quotas, rows);
  bytes_room = omega (arith, room_grows table quotas, bytes);
}

pub still_of_kind : (table : TableState) (quotas : List ℕ)
    → AllOfKind table → AllOfKind (table ++ opened_slot quotas ∷ [])
still_of_kind table quotas all = λ s. rw (objects_stay s table quotas) (all s)

-- An index that has more room is still that of the table.

pub roomier_indexed : (table : TableState) (coms coms_then : ComIndexState) (room : ℕ)
    → IsIndexed table coms → coms_then ≡ record coms { room = max coms.room room }
    → IsIndexed table coms_then
roomier_indexed table coms coms_then room is grown = rw grown (record {
  runs = is.runs;
  count = is.count;
  room = omega (arith, is.room, le-max_left coms.room room);
})

pub roomier_in_session : (table : TableState) (sessions sessions_then : SessionIndexState)
    (room : ℕ) → IsInSession table sessions
    → sessions_then ≡ record sessions { room = max sessions.room room }
    → IsInSession table sessions_then
roomier_in_session table sessions sessions_then room is grown = rw grown (record {
  slots = is.slots;
  count = is.count;
  room = omega (arith, is.room, le-max_left sessions.room room);
})

-- All parts of the store, once the slot is opened.
pub store_opened : (table : TableState) (quotas : List ℕ) (coms coms_then : ComIndexState)
    (sessions sessions_then : SessionIndexState) (schedule schedule_then : ScheduleState)
    (room : ℕ) → IsStore table coms sessions schedule → room ≡ room_of table + all_quotas quotas
    → IsKeptSchedule schedule schedule_then → room ≤ length schedule_then.orders
    → room ≤ length schedule_then.rows → room ≤ length schedule_then.bytes
    → coms_then ≡ record coms { room = max coms.room room }
    → sessions_then ≡ record sessions { room = max sessions.room room }
    → IsStore (table ++ opened_slot quotas ∷ []) coms_then sessions_then schedule_then
store_opened table quotas coms coms_then sessions sessions_then schedule schedule_then room is
    whole kept orders rows bytes coms_grown sessions_grown = record {
      by_com = still_indexed table quotas coms coms_then is.by_com
          (ap (λ (c : ComIndexState). c.rows) coms_grown)
          (omega (
            arith,
            whole,
            le-max_right coms.room room,
            ap (λ (c : ComIndexState). c.room) coms_grown,
          ));
      by_session = still_in_session table quotas sessions sessions_then is.by_session
          (ap (λ (s : SessionIndexState). s.rows) sessions_grown)
          (omega (
            arith,
            whole,
            le-max_right sessions.room room,
            ap (λ (s : SessionIndexState). s.room) sessions_grown,
          ));
      by_moment = still_scheduled table quotas schedule_then
          (scheduled_kept table schedule schedule_then is.by_moment kept)
          (omega (arith, whole, orders)) (omega (arith, whole, rows)) (omega (arith, whole, bytes));
      kinds = still_of_kind table quotas is.kinds;
    }
