-- The objects of all slots fire, one after the other.
-- For `fire_all`, and for `CostLemmas.Moments`.
-- By a loop's invariant: what was recorded and what is left of each slot is its whole moment.
use Rattle.std.proofs.Common.{◌≡◌, ◌≢◌, ℕ, zero, suc, ◌+◌, ◌<◌, ◌≤◌, List, [], ◌∷◌}
use Rattle.std.proofs.Common.{◌++◌, length, filter, Option, Some, None, true, false}
use Rattle.std.proofs.Common.{refl, ◌∙◌, ap, sym, subst, arith, append_assoc}
use Rattle.std.specs.Prelude.{◌==◌, slice_get, slice_set, IfSome}
use Rattle.std.specs.List.{flat_map, sum_by}
use Rattle.std.proofs.lemmas.Bool.Decides.{nat_tests}
use Rattle.std.proofs.lemmas.List.{append-nil, length-set}
use Rattle.std.proofs.lemmas.List.Sums.{sum_by-append}
use Rattle.std.proofs.lemmas.Option.{same_Some, none-some}
use Rattle.trdp_filter.specs.declared.globals.Globals.{Globals}
use Rattle.trdp_table.specs.Tables.{TableState}
use Rattle.trdp_table.specs.TableLaws.{IsTable}
use Rattle.trdp_store.specs.declared.sought.Sought.{Sought}
use Rattle.trdp_model.specs.Records.{Content, RecordModel, labelled, records_of}
use Rattle.trdp_model.specs.Slots.{Entry, SlotState, Outcome, unchanged, entry_under}
use Rattle.trdp_store.specs.TableSlots.{slots_of}
use Rattle.trdp_store.specs.Acting.{slot_at, MayAct, ActsAt, act_of}
use Rattle.trdp_model.specs.NodeModels.{HasOutcome, Appends}
use Rattle.trdp_model.specs.Moments.{is_due, in_order, firing_act, moved_to}
use Rattle.trdp_store.specs.Firing.{ComesNext}
use Rattle.trdp_model.specs.Fitting.{AllSound, EachSound}
use Rattle.trdp_outbox.specs.Outboxes.{OutboxState}
use Rattle.trdp_outbox.specs.Rooms.{HasRoom, entries_room, moment_room}
use Rattle.trdp_model.proofs.HandleLemmas.{IsRising}
use Rattle.trdp_outbox.proofs.RoomLemmas.{entry_rows, entry_bytes}
use Rattle.trdp_store.proofs.StoreLemmas.Slots.{slots_length, slot_there, slot_within, slot_is}
use Rattle.trdp_store.proofs.StoreLemmas.Slots.{rising}
use Rattle.trdp_store.proofs.StoreLemmas.Found.{at_each}
use Rattle.trdp_model.proofs.SweepLemmas.{get-set_other, appends_next, records_of-append}
use Rattle.trdp_model.proofs.SweepLemmas.{records_of-labelled, records_of-other}
use Rattle.trdp_datagrams.proofs.CostLemmas.Acts.{count_set}
use Rattle.trdp_engine.proofs.ActLemmas.AnyOrder.{IsRising-acted, is_acted}
use Rattle.trdp_engine.proofs.MomentLemmas.OneFires.{HasNext, next_is, none_fires, rest_left}
use Rattle.trdp_engine.proofs.MomentLemmas.OneFires.{sound_then}
use Rattle.trdp_engine.proofs.MomentLemmas.OneFires.{fires_then, sum_then}

-- what is due in slot s
abbrev pub due_at : Globals → ℕ → TableState → List Entry
due_at globals s table = filter (is_due globals.now) (slot_at s table).objects

-- the object of a handle that comes next
pub next_found : (t : ℕ) (objects : List Entry) (handle : ℕ)
    → (n : HasNext t objects handle) → entry_under handle objects ≡ Some n.entry
next_found t objects handle n =
    subst (λ (h : ℕ). entry_under h objects ≡ Some n.entry) n.handle_is n.next.found

-- it is due
pub next_is_due : (t : ℕ) (objects : List Entry) (handle : ℕ)
    → HasNext t objects handle
    → IfSome (entry_under handle objects) (λ entry. is_due t entry ≡ true)
next_is_due t objects handle n = rw (next_found t objects handle n) n.next.due

-- it may act
pub next_may : (globals : Globals) (slot : SlotState) (handle : ℕ) (out : OutboxState)
    → HasNext globals.now slot.objects handle
    → HasRoom out (entries_room (filter (is_due globals.now) slot.objects)) → MayAct slot handle out
next_may globals slot handle out n room = record {
  entry = n.entry;
  found = next_found globals.now slot.objects handle n;
  room = record {
    rows = let more = sum_then entry_rows globals slot.objects n.rest n.entry n.next in
        omega (arith, more, room.rows);
    bytes = let more = sum_then entry_bytes globals slot.objects n.rest n.entry n.next in
        omega (arith, more, room.bytes);
  };
}

-- one object of slot s fired, and the rest of the moment is left
record Fires (globals : Globals) (s : ℕ) (table table_then : TableState)
    (out out_then : OutboxState) : Type 0 where
  rising : IsRising (slot_at s table_then).objects
  sound : AllSound (slot_at s table_then).objects
  slots : slots_of table_then ≡ slice_set (slots_of table) s (slot_at s table_then)
  left : (moved_to (slot_at s table_then) globals).slot ≡ (moved_to (slot_at s table) globals).slot
  told : List Content
  records : out_then.records ≡ out.records ++ labelled s told
  all_told : told ++ (moved_to (slot_at s table_then) globals).records
      ≡ (moved_to (slot_at s table) globals).records
  fewer :
      length (in_order (due_at globals s table_then)) < length (in_order (due_at globals s table))
  row_room : out.row_room + (entries_room (due_at globals s table_then)).rows
      ≤ out_then.row_room + (entries_room (due_at globals s table)).rows
  byte_room : out.byte_room + (entries_room (due_at globals s table_then)).bytes
      ≤ out_then.byte_room + (entries_room (due_at globals s table)).bytes

fires_one :
    (globals : Globals) (s handle : ℕ) (table table_then : TableState) (out out_then : OutboxState)
    → s < length table → IsRising (slot_at s table).objects → AllSound (slot_at s table).objects
    → HasNext globals.now (slot_at s table).objects handle
    → ActsAt s handle (firing_act globals) table table_then out out_then
    → Fires globals s table table_then out out_then
fires_one globals s handle table table_then out out_then lt rising sound n acts =
    let slot = slot_at s table in
    let act = firing_act globals in
    let a = is_acted s handle act table table_then
    out out_then n.entry lt (next_found globals.now slot.objects handle n) acts in
    let left : SlotState = (act_of n.entry act slot).slot in
    let all = fires_then globals slot n.rest n.entry rising n.next in
    let due_then : due_at globals s table_then ≡ filter (is_due globals.now) left.objects =
    ap (λ (x : SlotState). filter (is_due globals.now) x.objects) a.slot in
    let order_then = ap in_order due_then ∙ rest_left globals slot.objects n.rest n.entry n.next in
    let rows = sum_then entry_rows globals slot.objects n.rest n.entry n.next in
    let bytes = sum_then entry_bytes globals slot.objects n.rest n.entry n.next in
    record {
      rising = subst (λ (x : SlotState). IsRising x.objects)
          (sym a.slot) (IsRising-acted n.entry.handle (act n.entry).left slot.objects rising);
      sound = subst (λ (x : SlotState). AllSound x.objects)
          (sym a.slot) (sound_then globals slot.objects n.rest n.entry sound n.next);
      slots = a.slots;
      left = ap (λ (x : SlotState). (moved_to x globals).slot) a.slot
          ∙ ap (λ (o : Outcome). o.slot) all;
      told = (act n.entry).records;
      records = a.records;
      all_told =
          ap (λ (x : SlotState). (act n.entry).records ++ (moved_to x globals).records) a.slot
          ∙ ap (λ (o : Outcome). o.records) all;
      fewer = rw (order_then, n.next.order) (omega arith);
      row_room = rw due_then (omega (arith, rows, a.within.rows));
      byte_room = rw due_then (omega (arith, bytes, a.within.bytes));
    }

-- nothing is due any more
none_moves : (globals : Globals) (slot : SlotState)
    → filter (is_due globals.now) slot.objects ≡ [] → moved_to slot globals ≡ unchanged slot
none_moves globals slot none = rw (none_fires globals slot.objects none, none) refl

-- What all slots weigh.

-- what is due in a slot
abbrev due_of_slot : Globals → SlotState → List Entry
due_of_slot globals slot = filter (is_due globals.now) slot.objects

weigh_set :
    (f : Entry → ℕ) (g : SlotState → List Entry) (slots : List SlotState) (s : ℕ) (x y : SlotState)
    → slice_get slots s ≡ Some x → sum_by f (flat_map g (slice_set slots s y)) + sum_by f (g x)
    ≡ sum_by f (flat_map g slots) + sum_by f (g y)
weigh_set f g [] s x y at = absurd (none-some x at)
weigh_set f g (z ∷ slots) zero x y at =
    let same : z ≡ x = same_Some z x at in
    let own = ap (λ (w : SlotState). sum_by f (g w)) same in
    omega (
      arith,
      own,
      sum_by-append f (g y) (flat_map g slots),
      sum_by-append f (g z) (flat_map g slots),
    )
weigh_set f g (z ∷ slots) (suc s) x y at =
    omega (
      arith,
      weigh_set f g slots s x y at,
      sum_by-append
          f (g z) (flat_map g (slice_set slots s y)),
      sum_by-append f (g z) (flat_map g slots),
    )

-- how many are due in all slots, each slot's in their order
abbrev pub due_left : Globals → TableState → ℕ
due_left globals table =
    sum_by (λ (slot : SlotState). length (in_order (due_of_slot globals slot))) (slots_of table)

-- The moment of all slots.

-- the table has the number of slots that it had at the start; what was recorded, and then what is
-- left of each slot's moment, is the slot's whole moment; and there is room for it
pub record IsMoving (globals : Globals) (start : TableState) (records : List RecordModel)
    (table : TableState) (out : OutboxState) : Type 0 where
  pub count : length table ≡ length start
  pub rising : (s : ℕ) → s < length start → IsRising (slot_at s table).objects
  pub sound : (s : ℕ) → s < length start → AllSound (slot_at s table).objects
  pub left : (s : ℕ) → s < length start
      → (moved_to (slot_at s table) globals).slot ≡ (moved_to (slot_at s start) globals).slot
  pub told : (s : ℕ)
      → s < length start → records_of s out.records ++ (moved_to (slot_at s table) globals).records
      ≡ records_of s records ++ (moved_to (slot_at s start) globals).records
  pub appends : Appends (slots_of start) records out.records
  pub room : HasRoom out (moment_room globals.now (slots_of table))

pub moving_first : (globals : Globals) (table : TableState) (out : OutboxState)
    → IsTable table → EachSound (slots_of table)
    → HasRoom out (moment_room globals.now (slots_of table))
    → IsMoving globals table out.records table out
moving_first globals table out is sound room = record {
  count = refl;
  rising = λ s lt. rising table s is;
  sound = λ s lt. sound s (slot_at s table) (slot_there table s lt);
  left = λ s lt. refl;
  told = λ s lt. refl;
  appends = record { more = []; front = sym (append-nil out.records); none_else = λ s none. refl };
  room = room;
}

-- what comes next
abbrev pub Nexts : Globals → TableState → Sought → Type 0
Nexts globals table sought = (sought.slot < length table)
    × HasNext globals.now (slot_at sought.slot table).objects sought.handle

pub nexts : (globals : Globals) (start table : TableState) (records : List RecordModel)
    (out : OutboxState) (sought : Sought) → IsMoving globals start records table out
    → ComesNext globals.now table (Some sought) → Nexts globals table sought
nexts globals start table records out sought moving next =
    let lt : sought.slot < length start = omega (arith, next.0, moving.count) in (
      next.0,
      next_is globals.now (slot_at sought.slot table).objects
          sought.handle (moving.rising sought.slot lt) (moving.sound sought.slot lt) next.1,
    )

-- there is room for what one slot records
one_of_all :
    (f : Entry → ℕ) (g : SlotState → List Entry) (slots : List SlotState) (s : ℕ) (x : SlotState)
    → slice_get slots s ≡ Some x → sum_by f (g x) ≤ sum_by f (flat_map g slots)
one_of_all f g [] s x at = absurd (none-some x at)
one_of_all f g (z ∷ slots) zero x at =
    let own = ap (λ (w : SlotState). sum_by f (g w)) (same_Some z x at) in
    omega (arith, own, sum_by-append f (g z) (flat_map g slots))
one_of_all f g (z ∷ slots) (suc s) x at =
    omega (arith, one_of_all f g slots s x at, sum_by-append f (g z) (flat_map g slots))

pub moving_may : (globals : Globals) (start table : TableState) (records : List RecordModel)
    (out : OutboxState) (sought : Sought) → IsMoving globals start records table out
    → Nexts globals table sought → MayAct (slot_at sought.slot table) sought.handle out
moving_may globals start table records out sought moving next =
    let there = slot_there table sought.slot next.0 in
    let rows = one_of_all entry_rows (due_of_slot globals)
    (slots_of table) sought.slot (slot_at sought.slot table) there in
    let bytes = one_of_all entry_bytes (due_of_slot globals)
    (slots_of table) sought.slot (slot_at sought.slot table) there in
    next_may globals (slot_at sought.slot table) sought.handle out next.1
    (record {
      rows = omega (arith, rows, moving.room.rows);
      bytes = omega (arith, bytes, moving.room.bytes);
    })

-- one more has fired
pub record MovesOn (globals : Globals) (start : TableState) (records : List RecordModel)
    (table table_then : TableState) (out_then : OutboxState) : Type 0 where
  pub moving : IsMoving globals start records table_then out_then
  pub fewer : due_left globals table_then < due_left globals table

pub moves_on : (globals : Globals) (start table table_then : TableState)
    (records : List RecordModel) (out out_then : OutboxState) (sought : Sought)
    → IsMoving globals start records table out → Nexts globals table sought
    → ActsAt sought.slot sought.handle (firing_act globals) table table_then out out_then
    → MovesOn globals start records table table_then out_then
moves_on globals start table table_then records out out_then sought moving next acts =
    record {
      moving = record {
        count = count;
        rising = objects_then IsRising f.rising moving.rising;
        sound = objects_then AllSound f.sound moving.sound;
        left =
            λ r lt. at_each (λ n. n < length start → (moved_to (slot_at n table_then) globals).slot
            ≡ (moved_to (slot_at n start) globals).slot) s (λ within. f.left ∙ moving.left s within)
            (λ n apart within. ap (λ (x : SlotState). (moved_to x globals).slot)
            (same n apart within) ∙ moving.left n within) r lt;
        told = λ r lt. at_each (λ n. n < length start → records_of n out_then.records
            ++ (moved_to (slot_at n table_then) globals).records ≡ records_of n records
            ++ (moved_to (slot_at n start) globals).records) s told_here told_else r lt;
        appends = rw f.records (appends_next (slots_of start) records
            out.records s (slot_at s start) f.told (slot_there start s here) moving.appends);
        room = record {
          rows =
              let weigh = weigh_set entry_rows (due_of_slot globals)
              (slots_of table) s (slot_at s table) (slot_at s table_then) there in
              rw f.slots (omega (arith, weigh, f.row_room, moving.room.rows));
          bytes =
              let weigh = weigh_set entry_bytes (due_of_slot globals)
              (slots_of table) s (slot_at s table) (slot_at s table_then) there in
              rw f.slots (omega (arith, weigh, f.byte_room, moving.room.bytes));
        };
      };
      fewer =
          let counts =
          count_set (λ (slot : SlotState). length (in_order (due_of_slot globals slot)))
          (slots_of table) s (slot_at s table) (slot_at s table_then) there in
          rw f.slots (omega (arith, counts, f.fewer));
    }
  where
    s : ℕ
    s = sought.slot

    here : s < length start
    here = omega (arith, next.0, moving.count)

    there : slice_get (slots_of table) s ≡ Some (slot_at s table)
    there = slot_there table s next.0

    f : Fires globals s table table_then out out_then
    f = fires_one globals s sought.handle table
        table_then out out_then next.0 (moving.rising s here) (moving.sound s here) next.1 acts

    count : length table_then ≡ length start
    count =
        sym (slots_length table_then)
        ∙ (ap length f.slots ∙ (length-set (slots_of table) s (slot_at s table_then)
        ∙ (slots_length table ∙ moving.count)))

    -- another slot is as it was
    same : (n : ℕ) → n ≢ s → n < length start → slot_at n table_then ≡ slot_at n table
    same n apart lt =
        let within : n < length table = omega (arith, lt, moving.count) in
        let within_then : n < length table_then = omega (arith, lt, count) in
        let differ : (s == n) ≡ false = grind (arith, nat_tests) in
        same_Some (slot_at n table_then) (slot_at n table)
        (sym (slot_there table_then n within_then)
        ∙ (ap (λ (xs : List SlotState). slice_get xs n) f.slots
        ∙ (get-set_other (slots_of table) s n (slot_at s table_then) differ
        ∙ slot_there table n within)))

    -- what was true of the objects of each slot is still true
    objects_then : (P : List Entry → Type 0) → P (slot_at s table_then).objects
        → ((n : ℕ) → n < length start → P (slot_at n table).objects)
        → (n : ℕ) → n < length start → P (slot_at n table_then).objects
    objects_then P this before = at_each
        (λ n. n < length start → P (slot_at n table_then).objects) s (λ within. this)
        (λ n apart within. subst (λ (x : SlotState). P x.objects)
        (sym (same n apart within)) (before n within))

    told_here : s < length start
        → records_of s out_then.records ++ (moved_to (slot_at s table_then) globals).records
        ≡ records_of s records ++ (moved_to (slot_at s start) globals).records
    told_here within =
        ap (λ (rs : List RecordModel). records_of s rs
        ++ (moved_to (slot_at s table_then) globals).records) f.records
        ∙ (ap (λ (cs : List Content). cs ++ (moved_to (slot_at s table_then) globals).records)
        (records_of-append s out.records (labelled s f.told) ∙ ap (λ (cs : List Content).
        records_of s out.records ++ cs) (records_of-labelled s f.told))
        ∙ (append_assoc (records_of s out.records)
        f.told (moved_to (slot_at s table_then) globals).records
        ∙ (ap (λ (cs : List Content). records_of s out.records ++ cs) f.all_told
        ∙ moving.told s within)))

    told_else : (n : ℕ) → n ≢ s → n < length start
        → records_of n out_then.records ++ (moved_to (slot_at n table_then) globals).records
        ≡ records_of n records ++ (moved_to (slot_at n start) globals).records
    told_else n apart within =
        let differ : (s == n) ≡ false = grind (arith, nat_tests) in
        let none : records_of n out_then.records ≡ records_of n out.records =
        ap (records_of n) f.records
        ∙ (records_of-append n out.records (labelled s f.told)
        ∙ (ap (λ (cs : List Content). records_of n out.records ++ cs)
        (records_of-other n s f.told differ) ∙ append-nil (records_of n out.records))) in
        ap (λ (cs : List Content). cs ++ (moved_to (slot_at n table_then) globals).records) none
        ∙ (ap (λ (x : SlotState). records_of n out.records ++ (moved_to x globals).records)
        (same n apart within) ∙ moving.told n within)

-- all have fired
pub moment_ends :
    (globals : Globals) (start table : TableState) (records : List RecordModel) (out : OutboxState)
    → IsMoving globals start records table out → ComesNext globals.now table None
    → (s : ℕ) (slot : SlotState) → slice_get (slots_of start) s ≡ Some slot
    → HasOutcome (slots_of table) records out.records s (moved_to slot globals)
moment_ends globals start table records out moving none s slot at =
    let lt : s < length start = slot_within start s slot at in
    let own : slot ≡ slot_at s start = slot_is start s slot at in
    let still = none_moves globals (slot_at s table) (none s) in
    subst (λ (x : SlotState).
    HasOutcome (slots_of table) records out.records s (moved_to x globals)) (sym own)
    (record {
      slot_is =
          slot_there table s (omega (arith, lt, moving.count))
          ∙ ap (λ (x : SlotState). let some : Option SlotState = Some x in
          some) (sym (ap (λ (o : Outcome). o.slot) still) ∙ moving.left s lt);
      records_are =
          sym (append-nil (records_of s out.records))
          ∙ (ap (λ (o : Outcome). records_of s out.records ++ o.records) (sym still)
          ∙ moving.told s lt);
    })
