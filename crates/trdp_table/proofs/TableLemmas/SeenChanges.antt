-- What is seen of the tables as an object is added, removed or exchanged.
-- For `Table::install`, `remove` and `raise`.
-- By: one slot changes, and no other has the key whose object does.
use Rattle.std.proofs.Common.{◌≡◌, ◌≢◌, ℕ, ◌<◌, List, [], length, map, set}
use Rattle.std.proofs.Common.{Option, Some, None, refl, ◌∙◌, sym, ap}
use Rattle.std.specs.Prelude.{option_map}
use Rattle.std.proofs.lemmas.List.{map-set, set-get_or}
use Rattle.std.proofs.lemmas.Option.{none-some}
use Rattle.trdp_model.specs.declared.any_object.AnyObject.{AnyObject}
use Rattle.trdp_table.specs.declared.entry.Entry.{Entry}
use Rattle.trdp_table.specs.declared.held.Held.{Held}
use Rattle.trdp_model.specs.Kinds.{kind_of}
use Rattle.trdp_table.specs.Tables.{Keyed, SlotTable, slot_in, by_handle, with_object}
use Rattle.trdp_table.specs.Tables.{without_handle, with_next, changed_at, Adds}
use Rattle.trdp_table.specs.Entries.{SlotEntries, opened_entries, entries_in, entry_of, key_of}
use Rattle.trdp_table.specs.Entries.{with_entry, without_entry, with_next_handle, entries_changed}
use Rattle.trdp_table.specs.Pools.{PoolState, held_in}
use Rattle.trdp_table.specs.TableKept.{keyed_of, slot_seen, table_seen, IsKeptTable}
use Rattle.trdp_table.proofs.SlotLemmas.Kept.{same_without}
use Rattle.trdp_table.proofs.SlotLemmas.Keys.{entry_there}
use Rattle.trdp_table.proofs.TableLemmas.Seen.{AllApart, unowned, same_owner, apart_unowned}
use Rattle.trdp_table.proofs.TableLemmas.Seen.{slot_in_seen, found_seen, added_seen}
use Rattle.trdp_table.proofs.TableLemmas.Seen.{removed_seen, without_seen, other_seen, sets_seen}
use Rattle.trdp_table.proofs.TableLemmas.Found.{all_owned, unheld_none}

abbrev apart_slots : PoolState → ℕ → ℕ → List SlotEntries → Type 0
apart_slots pool s key slots = (t : ℕ) → t ≢ s → AllApart key (entries_in t slots).entries

changed_seen : (slots : List SlotEntries) (pool : PoolState) (s key : ℕ) (v : Option Held)
    (x : SlotEntries) (y : SlotTable) → apart_slots pool s key slots → slot_seen (set pool key v) x
    ≡ y → table_seen (set pool key v) (set slots s x) ≡ set (table_seen pool slots) s y
changed_seen slots pool s key v x y apart is =
    map-set (slot_seen (set pool key v)) slots s x
    ∙ (ap (λ (z : SlotTable). set (map (slot_seen (set pool key v)) slots) s z) is
    ∙ sets_seen (slot_seen (set pool key v)) (slot_seen pool) slots s y (opened_entries [])
    (λ t other lt. other_seen pool key v (entries_in t slots) (apart t other)))

pub add_seen : (slots : List SlotEntries) (pool : PoolState) (s key : ℕ) (object : AnyObject)
    → IsKeptTable slots pool → key < length pool → held_in pool key ≡ None → table_seen
    (set pool key (Some (record { slot = s; handle = (entries_in s slots).next; object = object })))
    (entries_changed s (with_entry (kind_of object) key) slots)
    ≡ changed_at s (with_object key object) (table_seen pool slots)
add_seen slots pool s key object is within vacant =
    changed_seen slots
    pool s key (Some (record { slot = s; handle = (entries_in s slots).next; object = object }))
    (with_entry (kind_of object) key (entries_in s slots))
    (with_object key object (slot_in s (table_seen pool slots)))
    (λ t other. apart_unowned pool t key (entries_in t slots).entries
    (all_owned slots pool is t) (λ h. unowned pool key t h vacant))
    (added_seen pool s key object (entries_in s slots) (all_owned slots pool is s) within vacant
    ∙ ap (with_object key object) (sym (slot_in_seen pool slots s)))

pub remove_seen : (slots : List SlotEntries) (pool : PoolState) (s h key : ℕ)
    → IsKeptTable slots pool → key_of h (entries_in s slots).entries ≡ Some key
    → table_seen (set pool key None) (entries_changed s (without_entry h) slots)
    ≡ changed_at s (without_handle h) (table_seen pool slots)
remove_seen slots pool s h key is found =
    let of = is.listed s h key found in
    changed_seen slots pool s key None (without_entry h (entries_in s slots))
    (without_handle h (slot_in s (table_seen pool slots)))
    (λ t other. apart_unowned pool t key (entries_in t slots).entries
    (all_owned slots pool is t) (λ g at. other (same_owner t s g h (sym at ∙ of)).0))
    (removed_seen pool s h key (entries_in s slots) (all_owned slots pool is s) of
    ∙ ap (without_handle h) (sym (slot_in_seen pool slots s)))

pub next_seen : (slots : List SlotEntries) (pool : PoolState) (s next : ℕ)
    → table_seen pool (entries_changed s (with_next_handle next) slots)
    ≡ changed_at s (with_next next) (table_seen pool slots)
next_seen slots pool s next =
    map-set (slot_seen pool) slots s (with_next_handle next (entries_in s slots))
    ∙ ap (λ (y : SlotTable). set (table_seen pool slots) s (with_next next y))
    (sym (slot_in_seen pool slots s))

pub adds : (slots : List SlotEntries) (pool : PoolState) (s key : ℕ) (object : AnyObject)
    → IsKeptTable slots pool → key < length pool
    → held_in pool key ≡ None → Adds s object (table_seen pool slots) (table_seen
    (set pool key (Some (record { slot = s; handle = (entries_in s slots).next; object = object })))
    (entries_changed s (with_entry (kind_of object) key) slots))
adds slots pool s key object is within vacant = record {
  key = key;
  fresh = unheld_none slots pool key is vacant;
  table = add_seen slots pool s key object is within vacant;
}

-- Nothing is removed where there is nothing.

no_entry : (h : ℕ) (es : List Entry) → key_of h es ≡ None → entry_of h es ≡ None
no_entry h es none = either (entry_of h es) refl none
  where
    either : (o : Option Entry) → entry_of h es ≡ o
        → option_map (λ (entry : Entry). entry.key) o ≡ None → entry_of h es ≡ None
    either None is none = is
    either (Some e) is none = absurd (none-some e.key (sym none))

pub same_slots : (slots : List SlotEntries) (s h : ℕ)
    → s < length slots → key_of h (entries_in s slots).entries ≡ None
    → entries_changed s (without_entry h) slots ≡ slots
same_slots slots s h lt none =
    ap (λ (x : SlotEntries). set slots s x)
    (sym (same_without h (entries_in s slots) (no_entry h (entries_in s slots).entries none)))
    ∙ set-get_or slots s (opened_entries [])

pub nothing_found : (slots : List SlotEntries) (pool : PoolState) (s h : ℕ)
    → key_of h (entries_in s slots).entries ≡ None
    → by_handle h (slot_in s (table_seen pool slots)).objects ≡ None
nothing_found slots pool s h none =
    ap (λ (slot : SlotTable). by_handle h slot.objects) (slot_in_seen pool slots s)
    ∙ (found_seen pool h (entries_in s slots).entries
    ∙ ap (option_map (keyed_of pool)) (no_entry h (entries_in s slots).entries none))

pub gone_seen : (slots : List SlotEntries) (pool : PoolState) (s h : ℕ)
    → table_seen pool (entries_changed s (without_entry h) slots)
    ≡ changed_at s (without_handle h) (table_seen pool slots)
gone_seen slots pool s h =
    map-set (slot_seen pool) slots s (without_entry h (entries_in s slots))
    ∙ ap (λ (y : SlotTable). set (table_seen pool slots) s y)
    (ap (λ (es : List Keyed). let x : SlotTable = record {
      quotas = (entries_in s slots).quotas;
      next = (entries_in s slots).next;
      objects = es;
    } in
    x) (without_seen pool h (entries_in s slots).entries)
    ∙ ap (without_handle h) (sym (slot_in_seen pool slots s)))

-- the object of a handle is what is held under its key
pub found_object : (slots : List SlotEntries) (pool : PoolState) (s h key : ℕ) (held : Held)
    → key_of h (entries_in s slots).entries ≡ Some key → held_in pool key ≡ Some held
    → option_map (λ keyed. keyed.object) (by_handle h (slot_in s (table_seen pool slots)).objects)
    ≡ Some held.object
found_object slots pool s h key held found at =
    let there = entry_there h key (entries_in s slots).entries found in
    let here : held_in pool there.entry.key ≡ Some held = ap (held_in pool) there.key ∙ at in
    ap (λ (slot : SlotTable). option_map (λ (keyed : Keyed). keyed.object)
    (by_handle h slot.objects)) (slot_in_seen pool slots s)
    ∙ (ap (option_map (λ (keyed : Keyed). keyed.object)) (found_seen pool
    h (entries_in s slots).entries ∙ ap (option_map (keyed_of pool)) there.found)
    ∙ rw here refl)
