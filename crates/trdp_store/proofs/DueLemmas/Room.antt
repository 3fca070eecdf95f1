-- What the keys that are due weigh together is what the objects that are due weigh.
-- For `Store::due_room`, and for `DueLemmas.Next` and `Soonest`.
-- By induction on the objects: each takes the weight of its own key away from all keys.
use Rattle.std.proofs.Common.{◌≡◌, ◌≢◌, ℕ, zero, suc, ◌+◌, List, [], ◌∷◌, ◌++◌, map}
use Rattle.std.proofs.Common.{set, filter, cond, Option, Some, None, Bool, true, false}
use Rattle.std.proofs.Common.{sum, sum_by, refl, ◌∙◌, sym, ap, arith, count_by, length}
use Rattle.std.specs.Prelude.{◌==◌, slice_get, slice_index, slice_index_or}
use Rattle.std.specs.List.{flat_map}
use Rattle.std.proofs.lemmas.Bool.Decides.{nat_tests}
use Rattle.std.proofs.lemmas.List.{get_or-set_other}
use Rattle.std.proofs.lemmas.List.Sums.{sum_by-cons, sum_by-append, sum-map}
use Rattle.std.proofs.lemmas.Option.{none-some}
use Rattle.trdp_pd.specs.Due.{has_come_by}
use Rattle.trdp_model.specs.Objects.{due_of}
use Rattle.trdp_table.specs.Tables.{Keyed, TableState, slot_in, all_objects, by_handle, by_key}
use Rattle.trdp_table.specs.TableLaws.{IsTable}
use Rattle.trdp_timers.specs.declared.order.Order.{Order}
use Rattle.trdp_timers.specs.Orders.{is_due_by as is_order_due}
use Rattle.trdp_timers.specs.Contents.{due_sizes}
use Rattle.trdp_outbox.specs.declared.room.Room.{Room}
use Rattle.trdp_model.specs.Slots.{Entry, SlotState}
use Rattle.trdp_store.specs.TableSlots.{entry_of_keyed, slot_of, slots_of}
use Rattle.trdp_model.specs.Moments.{is_due}
use Rattle.trdp_model.specs.NodeModels.{due_in}
use Rattle.trdp_outbox.specs.Rooms.{moment_room}
use Rattle.trdp_store.specs.Timed.{ScheduleState, due_order, IsScheduled}
use Rattle.trdp_outbox.proofs.RoomLemmas.{entry_rows, entry_bytes}
use Rattle.trdp_store.proofs.StoreLemmas.Keys.{KeysTell}
use Rattle.trdp_store.proofs.StoreLemmas.OwnKeys.{HaveOwnKeys, own_keys}

-- Weights by key.

-- each of these objects weighs what its key does
abbrev pub AllWeigh : List ℕ → (Keyed → ℕ) → List Keyed → Type 0
AllWeigh weights weight [] = Unit {0}
AllWeigh weights weight (e ∷ es) = (slice_index weights e.key ≡ weight e)
    × AllWeigh weights weight es

-- a key without weight, and its weight before
without_weight : (weights : List ℕ) (k : ℕ)
    → sum (set weights k 0) + slice_index weights k ≡ sum weights
without_weight [] k = refl
without_weight (w ∷ ws) zero =
    omega (arith, sum_by-cons (λ (n : ℕ). n) 0 ws, sum_by-cons (λ (n : ℕ). n) w ws)
without_weight (w ∷ ws) (suc k) =
    omega (
      arith,
      without_weight ws k,
      sum_by-cons (λ (n : ℕ). n) w (set ws k 0),
      sum_by-cons (λ (n : ℕ). n) w ws,
    )

none_weighs : (weights : List ℕ) → ((k : ℕ) → slice_index weights k ≡ 0) → sum weights ≡ 0
none_weighs [] none = refl
none_weighs (w ∷ ws) none =
    omega (arith, none 0, none_weighs ws (λ k. none (suc k)), sum_by-cons (λ (n : ℕ). n) w ws)

emptied : (weights : List ℕ) (k : ℕ) → slice_index (set weights k 0) k ≡ 0
emptied [] k = refl
emptied (w ∷ ws) zero = refl
emptied (w ∷ ws) (suc k) = emptied ws k

-- others weigh the same without it
weigh_yet : (k : ℕ) (weights : List ℕ) (weight : Keyed → ℕ) (es : List Keyed)
    → by_key k es ≡ None → AllWeigh weights weight es → AllWeigh (set weights k 0) weight es
weigh_yet k weights weight [] none all = tt
weigh_yet k weights weight (e ∷ es) none all =
    either (e.key == k) refl none (λ rest. weigh_yet k weights weight es rest all.1)
  where
    either : (b : Bool) → (e.key == k) ≡ b → by_key k (e ∷ es) ≡ None
        → (by_key k es ≡ None → AllWeigh (set weights k 0) weight es)
        → AllWeigh (set weights k 0) weight (e ∷ es)
    either true is none rest = absurd (none-some e (sym (rw is at none)))
    either false is none rest =
        let apart : e.key ≢ k = grind (arith, nat_tests) in
        (get_or-set_other weights k e.key 0 0 apart ∙ all.0, rest (rw is at none))

-- all keys together weigh what the objects do, each of which has its own, if no other key weighs
weighed : (weights : List ℕ) (weight : Keyed → ℕ) (es : List Keyed)
    → HaveOwnKeys es → AllWeigh weights weight es
    → ((k : ℕ) → by_key k es ≡ None → slice_index weights k ≡ 0) → sum weights ≡ sum_by weight es
weighed weights weight [] own all none = none_weighs weights (λ k. none k refl)
weighed weights weight (e ∷ es) own all none =
    let rest = weighed (set weights e.key 0) weight
    es own.1 (weigh_yet e.key weights weight es own.0 all.1) others in
    omega (arith, rest, without_weight weights e.key, all.0, sum_by-cons weight e es)
  where
    others : (k : ℕ) → by_key k es ≡ None → slice_index (set weights e.key 0) k ≡ 0
    others k nobody = either (e.key == k) refl
      where
        either : (b : Bool) → (e.key == k) ≡ b → slice_index (set weights e.key 0) k ≡ 0
        either true is =
            let same : e.key ≡ k = grind (arith, nat_tests) in
            ap (λ (n : ℕ). slice_index (set weights e.key 0) n) (sym same) ∙ emptied weights e.key
        either false is =
            let apart : k ≢ e.key = grind (arith, nat_tests) in
            get_or-set_other weights e.key k 0 0 apart ∙ none k (rw is nobody)

-- What is due.

-- what an object weighs, if it is due
abbrev pub due_weight : (Entry → ℕ) → ℕ → Keyed → ℕ
due_weight f t keyed =
    cond {A = ℕ} (has_come_by t (due_of keyed.object)) (f (entry_of_keyed keyed)) 0

size_at : (t : ℕ) (orders : List (Option Order)) (sizes : List ℕ) (k : ℕ)
    → slice_index (due_sizes t orders sizes) k
    ≡ cond {A = ℕ} (is_order_due t (slice_index_or orders k None)) (slice_index sizes k) 0
unfolding due_sizes
size_at t [] sizes k = refl
size_at t (o ∷ orders) [] k = no_size (is_order_due t (slice_index_or (o ∷ orders) k None))
  where
    no_size : (b : Bool) → 0 ≡ cond {A = ℕ} b 0 0
    no_size true = refl
    no_size false = refl
size_at t (o ∷ orders) (s ∷ sizes) zero = refl
size_at t (o ∷ orders) (s ∷ sizes) (suc k) = size_at t orders sizes k

pub due_as : (t s h : ℕ) (due : Option ℕ) → is_order_due t (due_order s h due) ≡ has_come_by t due
due_as t s h None = refl
due_as t s h (Some d) = refl

all_slots_weigh : (weights : List ℕ) (weight : Keyed → ℕ) (slots : TableState)
    → ((s : ℕ) → AllWeigh weights weight (slot_in s slots).objects)
    → AllWeigh weights weight (all_objects slots)
all_slots_weigh weights weight [] each = tt
all_slots_weigh weights weight (x ∷ xs) each =
    both x.objects (each 0) (all_slots_weigh weights weight xs (λ s. each (suc s)))
  where
    both : (es : List Keyed) → AllWeigh weights weight es
        → AllWeigh weights weight (all_objects xs) → AllWeigh weights weight (es ++ all_objects xs)
    both [] all behind = behind
    both (e ∷ es) all behind = (all.0, both es all.1 behind)

weigh_cons : (f : Entry → ℕ) (p : Entry → Bool) (x : Entry) (xs : List Entry)
    → sum_by f (filter p (x ∷ xs)) ≡ cond {A = ℕ} (p x) (f x) 0 + sum_by f (filter p xs)
weigh_cons f p x xs = either (p x) refl
  where
    either : (b : Bool) → p x ≡ b
        → sum_by f (filter p (x ∷ xs)) ≡ cond {A = ℕ} (p x) (f x) 0 + sum_by f (filter p xs)
    either true is = rw is (sum_by-cons f x (filter p xs))
    either false is = rw is (omega arith)

-- the objects of one slot
slot_weighs : (f : Entry → ℕ) (t : ℕ) (es : List Keyed)
    → sum_by (due_weight f t) es ≡ sum_by f (filter (is_due t) (map entry_of_keyed es))
slot_weighs f t [] = refl
slot_weighs f t (e ∷ es) =
    sum_by-cons (due_weight f t) e es
    ∙ (ap (λ (n : ℕ). due_weight f t e + n) (slot_weighs f t es)
    ∙ sym (weigh_cons f (is_due t) (entry_of_keyed e) (map entry_of_keyed es)))

-- those of all slots
slots_weigh : (f : Entry → ℕ) (t : ℕ) (table : TableState)
    → sum_by (due_weight f t) (all_objects table)
    ≡ sum_by f (flat_map (λ (slot : SlotState). filter (is_due t) slot.objects) (slots_of table))
slots_weigh f t [] = refl
slots_weigh f t (x ∷ xs) =
    sum_by-append (due_weight f t) x.objects (all_objects xs)
    ∙ (ap (λ (n : ℕ). n + sum_by (due_weight f t) (all_objects xs)) (slot_weighs f t x.objects)
    ∙ (ap (λ (n : ℕ). sum_by f (filter (is_due t) (slot_of x).objects) + n) (slots_weigh f t xs)
    ∙ sym (sum_by-append f (filter (is_due t) (slot_of x).objects)
    (flat_map (λ (slot : SlotState). filter (is_due t) slot.objects) (slots_of xs)))))

-- the same by number

unfoldable pub ones : Entry → ℕ
ones entry = 1

ones_of : (es : List Entry) → sum_by ones es ≡ length es
unfolding ones
ones_of [] = refl
ones_of (e ∷ es) = omega (arith, sum_by-cons ones e es, ones_of es)

slots_count : (t : ℕ) (slots : List SlotState) → sum_by ones
    (flat_map (λ (slot : SlotState). filter (is_due t) slot.objects) slots) ≡ due_in t slots
slots_count t [] = refl
slots_count t (x ∷ xs) =
    omega (
      arith,
      sum_by-append ones (filter (is_due t) x.objects)
          (flat_map (λ (slot : SlotState). filter (is_due t) slot.objects) xs),
      ones_of (filter (is_due t) x.objects),
      slots_count t xs,
      sum_by-cons (λ (slot : SlotState). length (filter (is_due t) slot.objects)) x xs,
    )

one_at : (t : ℕ) (orders : List (Option Order)) (k : ℕ)
    → slice_index (map (λ order. cond {A = ℕ} (is_order_due t order) 1 0) orders) k
    ≡ cond {A = ℕ} (is_order_due t (slice_index_or orders k None)) 1 0
one_at t [] k = refl
one_at t (o ∷ orders) zero = refl
one_at t (o ∷ orders) (suc k) = one_at t orders k

module _ (table : TableState) (schedule : ScheduleState) (t : ℕ) (is : IsScheduled table schedule)
    (sound : IsTable table) (tell : KeysTell table) where
  -- where the key of each object weighs what it does, and no other key weighs
  weighed_as : (weights : List ℕ) (f : Entry → ℕ)
      → ((s : ℕ) (keyed : Keyed) → by_handle keyed.handle (slot_in s table).objects ≡ Some keyed
      → slice_index weights keyed.key ≡ due_weight f t keyed)
      → ((k : ℕ) → slice_index_or schedule.orders k None ≡ None → slice_index weights k ≡ 0)
      → sum weights
      ≡ sum_by f (flat_map (λ (slot : SlotState). filter (is_due t) slot.objects) (slots_of table))
  weighed_as weights f one unset =
      weighed weights (due_weight f t) (all_objects table) (own_keys table sound)
      (all_slots_weigh weights (due_weight f t)
      table (λ s. all s (slot_in s table).objects (λ i keyed at. tell.listed s i keyed at)))
      nobody
      ∙ slots_weigh f t table
    where
      all : (s : ℕ) (es : List Keyed) → ((i : ℕ) (keyed : Keyed) → slice_get es i ≡ Some keyed
          → by_handle keyed.handle (slot_in s table).objects ≡ Some keyed)
          → AllWeigh weights (due_weight f t) es
      all s [] listed = tt
      all s (e ∷ es) listed =
          (one s e (listed 0 e refl), all s es (λ i keyed at. listed (suc i) keyed at))

      nobody : (k : ℕ) → by_key k (all_objects table) ≡ None → slice_index weights k ≡ 0
      nobody k none = unset k (either (slice_index_or schedule.orders k None) refl)
        where
          either : (o : Option Order) → slice_index_or schedule.orders k None ≡ o
              → slice_index_or schedule.orders k None ≡ None
          either None at = at
          either (Some order) at =
              let o = is.owned k order at in
              absurd (none-some o.keyed (sym none ∙ (ap (λ (n : ℕ). by_key n (all_objects table))
              (sym o.key_is) ∙ tell.found order.slot order.handle o.keyed o.found)))

  -- where each object has its size under its key
  weighed_by : (f : Entry → ℕ) (sizes : List ℕ)
      → ((s h : ℕ) (keyed : Keyed) → by_handle h (slot_in s table).objects ≡ Some keyed
      → slice_index sizes keyed.key ≡ f (entry_of_keyed keyed))
      → sum (due_sizes t schedule.orders sizes)
      ≡ sum_by f (flat_map (λ (slot : SlotState). filter (is_due t) slot.objects) (slots_of table))
  weighed_by f sizes each =
      weighed_as (due_sizes t schedule.orders sizes) f
      (λ s keyed at.
      size_at t schedule.orders sizes keyed.key
      ∙ (ap (λ (b : Bool). cond {A = ℕ} b (slice_index sizes keyed.key) 0) (ap (is_order_due t)
      (is.timed s keyed.handle keyed at).order ∙ due_as t s keyed.handle (due_of keyed.object))
      ∙ ap (λ (n : ℕ). cond {A = ℕ} (has_come_by t (due_of keyed.object)) n 0)
      (each s keyed.handle keyed at)))
      (λ k none. size_at t schedule.orders sizes k
      ∙ ap (λ (o : Option Order). cond {A = ℕ} (is_order_due t o) (slice_index sizes k) 0) none)

  pub due_counted : count_by (is_order_due t) schedule.orders ≡ due_in t (slots_of table)
  unfolding ones
  due_counted =
      sym (sum-map (λ (order : Option Order). cond {A = ℕ} (is_order_due t order) 1 0)
      schedule.orders)
      ∙ (weighed_as (map (λ order. cond {A = ℕ} (is_order_due t order) 1 0) schedule.orders) ones
      (λ s keyed at.
      one_at t schedule.orders keyed.key
      ∙ ap (λ (b : Bool). cond {A = ℕ} b 1 0) (ap (is_order_due t)
      (is.timed s keyed.handle keyed at).order ∙ due_as t s keyed.handle (due_of keyed.object)))
      (λ k none. one_at t schedule.orders k
      ∙ ap (λ (o : Option Order). cond {A = ℕ} (is_order_due t o) 1 0) none)
      ∙ slots_count t (slots_of table))

  pub due_rooms : (room : Room) → room.rows ≡ sum (due_sizes t schedule.orders schedule.rows)
      → room.bytes ≡ sum (due_sizes t schedule.orders schedule.bytes)
      → room ≡ moment_room t (slots_of table)
  due_rooms room rows bytes =
      let rows_is = rows
      ∙ weighed_by entry_rows schedule.rows (λ s h keyed at. (is.timed s h keyed at).rows) in
      let bytes_is = bytes
      ∙ weighed_by entry_bytes schedule.bytes (λ s h keyed at. (is.timed s h keyed at).bytes) in
      ap (λ (n : ℕ). let r : Room = record { rows = n; bytes = room.bytes } in r) rows_is
      ∙ ap (λ (n : ℕ). let r : Room =
      record { rows = (moment_room t (slots_of table)).rows; bytes = n } in r) bytes_is
