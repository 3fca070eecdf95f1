-- One more slot is opened, and its keys are added to the pool.
-- For `Table::add_slot`.
-- By: the new slot is empty and the new keys are free, so that what is seen of the others stays.
use Rattle.std.proofs.Common.{◌≡◌, ℕ, zero, suc, ◌+◌, ◌<◌, List, [], ◌∷◌, ◌++◌, length, is_some}
use Rattle.std.proofs.Common.{Option, None, cond, refl, ◌∙◌, sym, ap, arith}
use Rattle.std.specs.Prelude.{replicate}
use Rattle.std.proofs.lemmas.List.{length-append, length-replicate}
use Rattle.std.proofs.lemmas.List.Sums.{sum_by-append}
use Rattle.trdp_table.specs.declared.entry.Entry.{Entry}
use Rattle.trdp_table.specs.declared.held.Held.{Held}
use Rattle.trdp_table.specs.Tables.{Keyed, SlotTable, TableState, opened_slot}
use Rattle.trdp_model.specs.Slots.{slot_limit}
use Rattle.trdp_table.specs.Tables.{all_quotas, room_of}
use Rattle.trdp_table.specs.TableLaws.{AreLimited}
use Rattle.trdp_table.specs.Entries.{SlotEntries, opened_entries, entries_in, key_of}
use Rattle.trdp_table.specs.Entries.{AreSlotEntries}
use Rattle.trdp_table.specs.Pools.{PoolState, held_in, owner_of, owner_in, held_count}
use Rattle.trdp_table.specs.TableKept.{keyed_of, slot_seen, table_seen, IsKeptTable}
use Rattle.trdp_table.proofs.SlotLemmas.Kept.{AreSlotEntries-opened}
use Rattle.trdp_table.proofs.PoolLemmas.Places.{no_held}
use Rattle.trdp_table.proofs.TableLemmas.Seen.{objects_seen}

-- a pool with n more free keys
abbrev with_keys : PoolState → ℕ → PoolState
with_keys pool n = pool ++ replicate n None

-- the slots, and an empty one
abbrev with_slot : List SlotEntries → List ℕ → List SlotEntries
with_slot slots quotas = slots ++ opened_entries quotas ∷ []

-- Under each key of the pool that is there is held what was, and nothing under a new one.

held_still : (pool : PoolState) (n key : ℕ) → held_in (with_keys pool n) key ≡ held_in pool key
held_still [] n key = no_held n key
held_still (x ∷ xs) n zero = refl
held_still (x ∷ xs) n (suc key) = held_still xs n key

owner_still : (pool : PoolState) (n key : ℕ) → owner_in (with_keys pool n) key ≡ owner_in pool key
owner_still pool n key = ap owner_of (held_still pool n key)

count_still : (pool : PoolState) (n : ℕ) → held_count (with_keys pool n) ≡ held_count pool
count_still pool n = omega (
  arith,
  sum_by-append (λ (o : Option Held). cond {A = ℕ} (is_some o) 1 0) pool (replicate n None),
  none_held n,
)
  where
    none_held : (m : ℕ) → held_count (replicate m None) ≡ 0
    none_held zero = refl
    none_held (suc m) = omega (
      arith,
      sum_by-append (λ (o : Option Held). cond {A = ℕ} (is_some o) 1 0) (None ∷ [])
          (replicate m None),
      none_held m,
    )

-- What is seen of the slots.

objects_still : (pool : PoolState) (n : ℕ) (es : List Entry)
    → objects_seen (with_keys pool n) es ≡ objects_seen pool es
objects_still pool n [] = refl
objects_still pool n (e ∷ es) =
    rw (held_still pool n e.key)
    (ap (λ (r : List Keyed). keyed_of pool e ∷ r) (objects_still pool n es))

slot_still : (pool : PoolState) (n : ℕ) (slot : SlotEntries)
    → slot_seen (with_keys pool n) slot ≡ slot_seen pool slot
slot_still pool n slot =
    ap (λ (es : List Keyed). let x : SlotTable =
    record { quotas = slot.quotas; next = slot.next; objects = es } in x)
    (objects_still pool n slot.entries)

pub slot_opened : (slots : List SlotEntries) (pool : PoolState) (quotas : List ℕ)
    → table_seen (with_keys pool (all_quotas quotas)) (with_slot slots quotas)
    ≡ table_seen pool slots ++ opened_slot quotas ∷ []
slot_opened [] pool quotas = refl
slot_opened (x ∷ xs) pool quotas =
    rw (slot_still pool (all_quotas quotas) x)
    (ap (λ (r : TableState). slot_seen pool x ∷ r) (slot_opened xs pool quotas))

pub room_opened : (table : TableState) (quotas : List ℕ)
    → room_of (table ++ opened_slot quotas ∷ []) ≡ room_of table + all_quotas quotas
room_opened table quotas = omega (
  arith,
  sum_by-append (λ (slot : SlotTable). all_quotas slot.quotas) table (opened_slot quotas ∷ []),
)

-- The slots' lists and the pool fit together as before.

entries_still : (slots : List SlotEntries) (quotas : List ℕ) (s : ℕ)
    → (entries_in s (with_slot slots quotas)).entries ≡ (entries_in s slots).entries
entries_still [] quotas zero = refl
entries_still [] quotas (suc s) = refl
entries_still (x ∷ xs) quotas zero = refl
entries_still (x ∷ xs) quotas (suc s) = entries_still xs quotas s

sound_opened : (slots : List SlotEntries) (quotas : List ℕ)
    → ((s : ℕ) → AreSlotEntries (entries_in s slots)) → AreLimited quotas
    → (s : ℕ) → AreSlotEntries (entries_in s (with_slot slots quotas))
sound_opened [] quotas sound limited zero = AreSlotEntries-opened quotas limited
sound_opened [] quotas sound limited (suc s) = sound 0
sound_opened (x ∷ xs) quotas sound limited zero = sound 0
sound_opened (x ∷ xs) quotas sound limited (suc s) =
    sound_opened xs quotas (λ t. sound (suc t)) limited s

pub IsKeptTable-opened : (slots : List SlotEntries) (pool : PoolState) (quotas : List ℕ)
    → IsKeptTable slots pool → length slots < slot_limit → AreLimited quotas
    → IsKeptTable (with_slot slots quotas) (with_keys pool (all_quotas quotas))
IsKeptTable-opened slots pool quotas is few limited =
    let n = all_quotas quotas in
    record {
      few = omega (arith, few, length-append slots (opened_entries quotas ∷ []));
      sound = sound_opened slots quotas is.sound limited;
      listed = λ s h key at.
          owner_still pool n key
          ∙ is.listed s h key (ap (key_of h) (sym (entries_still slots quotas s)) ∙ at);
      owned = λ s h key of.
          ap (key_of h) (entries_still slots quotas s)
          ∙ is.owned s h key (sym (owner_still pool n key) ∙ of);
      count = omega (
        arith,
        is.count,
        count_still pool n,
        sum_by-append (λ (slot : SlotEntries). length slot.entries) slots
            (opened_entries quotas ∷ []),
      );
      room = omega (
        arith,
        is.room,
        length-append pool (replicate n None),
        length-replicate n no_held_at,
        sum_by-append (λ (slot : SlotEntries). all_quotas slot.quotas) slots
            (opened_entries quotas ∷ []),
      );
    }
  where
    no_held_at : Option Held
    no_held_at = None
