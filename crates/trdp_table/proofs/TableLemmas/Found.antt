-- What is true of each table: whose its keys are, and what holds of every table.
-- For `Table::find`, `get`, `get_mut`, `owner` and `sound`, and those that change it.
-- By: what is found by key and what is found by handle is one object, the owner's.
use Rattle.std.proofs.Common.{◌≡◌, ℕ, zero, suc, ◌<◌, true, false, is_some}
use Rattle.std.proofs.Common.{IsSome, IfSome, List, [], ◌∷◌, length, get_or, Option}
use Rattle.std.proofs.Common.{Some, None, refl, ◌∙◌, sym, ap, subst, arith}
use Rattle.std.specs.Prelude.{slice_get, option_map, ◌==◌}
use Rattle.std.proofs.lemmas.List.{get_or_default, length-map}
use Rattle.std.proofs.lemmas.Bool.{false≢true}
use Rattle.std.proofs.lemmas.Bool.Decides.{nat_tests}
use Rattle.std.proofs.lemmas.Option.{same_Some, none-some, slice_get-map}
use Rattle.trdp_model.specs.declared.any_object.AnyObject.{AnyObject}
use Rattle.trdp_table.specs.declared.entry.Entry.{Entry}
use Rattle.trdp_table.specs.declared.held.Held.{Held}
use Rattle.trdp_table.specs.Tables.{Keyed, SlotTable, slot_in, room_of, all_objects, by_handle}
use Rattle.trdp_table.specs.Tables.{by_key, changed_at, exchanged, with_other_by_handle}
use Rattle.trdp_table.specs.TableLaws.{IsSlotTable, IsTable}
use Rattle.trdp_table.specs.Entries.{SlotEntries, opened_entries, entries_in, key_of, AreRising}
use Rattle.trdp_table.specs.Pools.{PoolState, held_in, owner_of, owner_in}
use Rattle.trdp_table.specs.TableKept.{keyed_of, slot_seen, table_seen, IsKeptTable}
use Rattle.trdp_table.proofs.SlotLemmas.Search.{entry_of_get}
use Rattle.trdp_table.proofs.SlotLemmas.Kept.{few_objects}
use Rattle.trdp_table.proofs.SlotLemmas.Keys.{entry_there, key_above}
use Rattle.trdp_table.proofs.TableLemmas.Seen.{AllOwned, owned_by, no_owner, unowned, slot_sound}
use Rattle.trdp_table.proofs.TableLemmas.Seen.{slot_in_seen, room_seen, found_seen, key_seen}
use Rattle.trdp_table.proofs.TableLemmas.Owners.{AreAlone, AllOwnedFrom, owned_from, none_from}
use Rattle.trdp_table.proofs.TableLemmas.Owners.{by_key_from, distinct_from, exchanged_from}

abbrev pub nothing : Option Held
nothing = None

-- the slot of a number, as it is read
pub slot_read : (slots : List SlotEntries) (s : ℕ) (x : SlotEntries)
    → s < length slots → x ≡ get_or slots s x → entries_in s slots ≡ x
slot_read slots s x lt is = get_or_default slots s (opened_entries []) x lt ∙ sym is

-- Whose the keys are.

pub alone : (slots : List SlotEntries) (pool : PoolState) → IsKeptTable slots pool → AreAlone pool
alone slots pool is a b s h of there =
    same_Some a b (sym (is.owned s h a of) ∙ is.owned s h b there)

pub all_owned : (slots : List SlotEntries) (pool : PoolState)
    → IsKeptTable slots pool → (s : ℕ) → AllOwned pool s (entries_in s slots).entries
all_owned slots pool is s = each (entries_in s slots).entries (is.sound s).rising (is.listed s)
  where
    each : (es : List Entry) → AreRising es → ((h key : ℕ)
        → key_of h es ≡ Some key → owner_in pool key ≡ Some (s, h)) → AllOwned pool s es
    each [] rising listed = tt
    each (e ∷ es) rising listed =
        let same : (e.handle == e.handle) ≡ true = grind (arith, nat_tests) in (
          listed e.handle e.key (rw same refl),
          each es rising.1 (λ h key at.
              let lt : e.handle < h = key_above e.handle h key es rising.0 at in
              let other : (e.handle == h) ≡ false = grind (arith, nat_tests) in
              listed h key (rw other at)),
        )

owned_all : (slots : List SlotEntries) (pool : PoolState)
    → IsKeptTable slots pool → AllOwnedFrom pool 0 slots
owned_all slots pool is = owned_from pool 0 slots (λ s. subst (λ (t : ℕ).
    AllOwned pool t (entries_in s slots).entries) {x = s} (omega arith) (all_owned slots pool is s))

pub unheld_none : (slots : List SlotEntries) (pool : PoolState) (key : ℕ) → IsKeptTable slots pool
    → held_in pool key ≡ None → by_key key (all_objects (table_seen pool slots)) ≡ None
unheld_none slots pool key is none =
    none_from pool 0 key slots (owned_all slots pool is) (λ s h le. unowned pool key s h none)

-- the object under a key is that of its slot and handle
pub by_key_of : (slots : List SlotEntries) (pool : PoolState) (s h key : ℕ) → IsKeptTable slots pool
    → owner_in pool key ≡ Some (s, h) → by_key key (all_objects (table_seen pool slots))
    ≡ by_handle h (slot_in s (table_seen pool slots)).objects
by_key_of slots pool s h key is of =
    by_key_from pool 0 s h key slots (alone slots pool is)
    (owned_all slots pool is) (of ∙ ap (λ (n : ℕ). owned_by n h) (omega arith))

-- what is held under a key is the object that is found by it
pub record IsFound (slots : List SlotEntries) (pool : PoolState) (key : ℕ) (held : Held)
    : Type 0 where
  pub same : by_handle held.handle (slot_in held.slot (table_seen pool slots)).objects
      ≡ by_key key (all_objects (table_seen pool slots))
  pub object : option_map (λ keyed. keyed.object) (by_key key (all_objects (table_seen pool slots)))
      ≡ Some held.object

pub found_held : (slots : List SlotEntries) (pool : PoolState) (key : ℕ) (held : Held)
    → IsKeptTable slots pool → held_in pool key ≡ Some held → IsFound slots pool key held
found_held slots pool key held is at =
    let of : owner_in pool key ≡ Some (held.slot, held.handle) = ap owner_of at in
    let there = entry_there held.handle key (entries_in held.slot slots).entries
    (is.owned held.slot held.handle key of) in
    let seen : by_handle held.handle (slot_in held.slot (table_seen pool slots)).objects
    ≡ Some (keyed_of pool there.entry) =
    ap (λ (slot : SlotTable). by_handle held.handle slot.objects)
    (slot_in_seen pool slots held.slot)
    ∙ (found_seen pool held.handle (entries_in held.slot slots).entries
    ∙ ap (option_map (keyed_of pool)) there.found) in
    let here : held_in pool there.entry.key ≡ Some held = ap (held_in pool) there.key ∙ at in
    let key_is = by_key_of slots pool held.slot held.handle key is of in
    record {
      same = sym key_is;
      object = ap (option_map (λ (keyed : Keyed). keyed.object)) (key_is ∙ seen) ∙ rw here refl;
    }

pub object_held : (slots : List SlotEntries) (pool : PoolState) (key : ℕ)
    → IsKeptTable slots pool → option_map (λ held. held.object) (held_in pool key)
    ≡ option_map (λ keyed. keyed.object) (by_key key (all_objects (table_seen pool slots)))
object_held slots pool key is = either (held_in pool key) refl
  where
    either : (o : Option Held) → held_in pool key ≡ o
        → option_map (λ (held : Held). held.object) (held_in pool key) ≡ option_map
        (λ (keyed : Keyed). keyed.object) (by_key key (all_objects (table_seen pool slots)))
    either None at = rw (at, unheld_none slots pool key is at) refl
    either (Some held) at = ap (option_map (λ (x : Held). x.object)) at
        ∙ sym (found_held slots pool key held is at).object

pub some_held : (slots : List SlotEntries) (pool : PoolState) (key : ℕ) → IsKeptTable slots pool
    → is_some (held_in pool key) ≡ is_some (by_key key (all_objects (table_seen pool slots)))
some_held slots pool key is =
    sym (mapped (held_in pool key)) ∙ (ap is_some (object_held slots pool key is)
    ∙ unmapped (by_key key (all_objects (table_seen pool slots))))
  where
    mapped : (o : Option Held) → is_some (option_map (λ (held : Held). held.object) o) ≡ is_some o
    mapped None = refl
    mapped (Some held) = refl

    unmapped : (o : Option Keyed)
        → is_some (option_map (λ (keyed : Keyed). keyed.object) o) ≡ is_some o
    unmapped None = refl
    unmapped (Some keyed) = refl

-- the owner of a key
pub owner_is : (slots : List SlotEntries) (pool : PoolState) (key : ℕ)
    → IsKeptTable slots pool → IfSome (owner_in pool key)
    (λ owner. by_handle owner.1 (slot_in owner.0 (table_seen pool slots)).objects
    ≡ by_key key (all_objects (table_seen pool slots)))
owner_is slots pool key is = either (held_in pool key) refl
  where
    either : (o : Option Held) → held_in pool key ≡ o → IfSome (owner_of o)
        (λ owner. by_handle owner.1 (slot_in owner.0 (table_seen pool slots)).objects
        ≡ by_key key (all_objects (table_seen pool slots)))
    either None at = tt
    either (Some held) at = (found_held slots pool key held is at).same

pub owner_there : (pool : PoolState) (key : ℕ)
    → is_some (owner_in pool key) ≡ is_some (held_in pool key)
owner_there pool key = mapped (held_in pool key)
  where
    mapped : (o : Option Held) → is_some (owner_of o) ≡ is_some o
    mapped None = refl
    mapped (Some held) = refl

-- the objects of a slot's entries
pub object_there : (slots : List SlotEntries) (pool : PoolState) (s i : ℕ) (e : Entry)
    → IsKeptTable slots pool → slice_get (entries_in s slots).entries i ≡ Some e
    → slice_get (slot_in s (table_seen pool slots)).objects i ≡ Some (keyed_of pool e)
object_there slots pool s i e is at =
    ap (λ (slot : SlotTable). slice_get slot.objects i) (slot_in_seen pool slots s)
    ∙ (slice_get-map (keyed_of pool) (entries_in s slots).entries i
    ∙ ap (option_map (keyed_of pool)) at)

pub nothing_there : (slots : List SlotEntries) (pool : PoolState) (s i : ℕ)
    → slice_get (entries_in s slots).entries i ≡ None
    → slice_get (slot_in s (table_seen pool slots)).objects i ≡ None
nothing_there slots pool s i at =
    ap (λ (slot : SlotTable). slice_get slot.objects i) (slot_in_seen pool slots s)
    ∙ (slice_get-map (keyed_of pool) (entries_in s slots).entries i
    ∙ ap (option_map (keyed_of pool)) at)

-- the pool holds the object of each entry
pub entry_held : (slots : List SlotEntries) (pool : PoolState) (s i : ℕ) (e : Entry)
    → IsKeptTable slots pool → slice_get (entries_in s slots).entries i ≡ Some e
    → option_map (λ held. held.object) (held_in pool e.key) ≡ Some (keyed_of pool e).object
entry_held slots pool s i e is at =
    let found = entry_of_get (entries_in s slots).entries i e (is.sound s).rising at in
    let of : owner_in pool e.key ≡ Some (s, e.handle) =
    is.listed s e.handle e.key (ap (option_map (λ (x : Entry). x.key)) found) in
    either (held_in pool e.key) refl of
  where
    either : (o : Option Held) → held_in pool e.key ≡ o → owner_of o ≡ Some (s, e.handle)
        → option_map (λ (held : Held). held.object) (held_in pool e.key)
        ≡ Some (keyed_of pool e).object
    either None at of = absurd (no_owner s e.handle of)
    either (Some held) at of = rw at refl

-- What holds of every table.

key_below : (slots : List SlotEntries) (pool : PoolState)
    → IsKeptTable slots pool → (key : ℕ) → IsSome (by_key key (all_objects (table_seen pool slots)))
    → key < room_of (table_seen pool slots)
key_below slots pool is key some =
    let within : key < length pool = place pool key (some_held slots pool key is ∙ some) in
    omega (arith, within, is.room, room_seen pool slots)
  where
    place : (xs : PoolState) (k : ℕ) → IsSome (held_in xs k) → k < length xs
    place [] k some = absurd (false≢true some)
    place (x ∷ xs) zero some = omega arith
    place (x ∷ xs) (suc k) some = omega (arith, place xs k some)

pub IsTable-kept : (slots : List SlotEntries) (pool : PoolState)
    → IsKeptTable slots pool → IsTable (table_seen pool slots)
IsTable-kept slots pool is = record {
  few = omega (arith, is.few, length-map slots (slot_seen pool));
  slots = λ s. subst (λ (slot : SlotTable). IsSlotTable slot)
      (sym (slot_in_seen pool slots s)) (slot_sound pool (entries_in s slots) (is.sound s));
  objects = λ s. omega (
    arith,
    ap (λ (slot : SlotTable). length slot.objects)
        (slot_in_seen pool slots s),
    length-map (entries_in s slots).entries (keyed_of pool),
    few_objects (entries_in s slots) (is.sound s),
  );
  keys = distinct_from pool 0 slots (owned_all slots pool is) (λ s. (is.sound s).rising);
  below = key_below slots pool is;
}

-- the key of a handle
pub found_key : (slots : List SlotEntries) (pool : PoolState) (s h : ℕ)
    → option_map (λ keyed. keyed.key) (by_handle h (slot_in s (table_seen pool slots)).objects)
    ≡ key_of h (entries_in s slots).entries
found_key slots pool s h =
    ap (λ (slot : SlotTable). option_map (λ (keyed : Keyed). keyed.key) (by_handle h slot.objects))
    (slot_in_seen pool slots s)
    ∙ key_seen pool h (entries_in s slots).entries

owner_found : (slots : List SlotEntries) (pool : PoolState) (s h : ℕ) (keyed : Keyed)
    → IsKeptTable slots pool → by_handle h (slot_in s (table_seen pool slots)).objects ≡ Some keyed
    → owner_in pool keyed.key ≡ Some (s, h)
owner_found slots pool s h keyed is found =
    is.listed s
    h keyed.key (sym (found_key slots pool s h) ∙ ap (option_map (λ (k : Keyed). k.key)) found)

pub found_by_key : (slots : List SlotEntries) (pool : PoolState) → IsKeptTable slots pool
    → (s handle : ℕ) (keyed : Keyed) → by_handle handle (slot_in s (table_seen pool slots)).objects
    ≡ Some keyed → by_key keyed.key (all_objects (table_seen pool slots)) ≡ Some keyed
found_by_key slots pool is s handle keyed found =
    by_key_of slots pool s handle keyed.key is (owner_found slots pool s handle keyed is found)
    ∙ found

pub listed : (slots : List SlotEntries) (pool : PoolState) → IsKeptTable slots pool
    → (s index : ℕ) (keyed : Keyed) → slice_get (slot_in s (table_seen pool slots)).objects index
    ≡ Some keyed → by_handle keyed.handle (slot_in s (table_seen pool slots)).objects ≡ Some keyed
listed slots pool is s index keyed at = either (slice_get (entries_in s slots).entries index) refl
  where
    either : (o : Option Entry) → slice_get (entries_in s slots).entries index ≡ o
        → by_handle keyed.handle (slot_in s (table_seen pool slots)).objects ≡ Some keyed
    either None none = absurd (none-some keyed (sym (nothing_there slots pool s index none) ∙ at))
    either (Some e) there =
        let same : keyed_of pool e ≡ keyed = same_Some (keyed_of pool e)
        keyed (sym (object_there slots pool s index e is there) ∙ at) in
        let found = entry_of_get (entries_in s slots).entries index e (is.sound s).rising there in
        subst (λ (k : Keyed).
        by_handle k.handle (slot_in s (table_seen pool slots)).objects ≡ Some k) same
        (ap (λ (slot : SlotTable). by_handle e.handle slot.objects) (slot_in_seen pool slots s)
        ∙ (found_seen pool e.handle (entries_in s slots).entries
        ∙ ap (option_map (keyed_of pool)) found))

pub exchanged_alone : (slots : List SlotEntries) (pool : PoolState)
    → IsKeptTable slots pool → (s handle : ℕ) (keyed : Keyed) (object : AnyObject)
    → by_handle handle (slot_in s (table_seen pool slots)).objects ≡ Some keyed
    → exchanged keyed.key (table_seen pool slots) object
    ≡ changed_at s (with_other_by_handle handle object) (table_seen pool slots)
exchanged_alone slots pool is s handle keyed object found =
    exchanged_from pool 0 s handle keyed.key object slots (alone slots pool is)
    (owned_all slots pool is) (owner_found slots pool s handle keyed is found
    ∙ ap (λ (n : ℕ). owned_by n handle) (omega arith))
