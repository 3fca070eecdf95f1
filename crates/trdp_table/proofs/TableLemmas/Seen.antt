-- What is true of a slot's entries is true of its objects, as they are seen with the pool.
-- For all other `TableLemmas`.
-- By induction on the entries: the pool holds each one's object, with its slot and handle.
use Rattle.std.proofs.Common.{◌≡◌, ◌≢◌, ℕ, zero, suc, ◌+◌, ◌<◌, List, [], ◌∷◌, ◌++◌}
use Rattle.std.proofs.Common.{length, map, get_or, set, Option, Some, None, Bool, true}
use Rattle.std.proofs.Common.{false, cond, not, sum_by, refl, ◌∙◌, sym, ap, arith}
use Rattle.std.specs.Prelude.{option_map, filter, ◌==◌}
use Rattle.std.proofs.lemmas.List.{map-append, length-map, get_or-set_same, get_or-set_other}
use Rattle.std.proofs.lemmas.List.Concat.{length-flat_map}
use Rattle.std.proofs.lemmas.List.Sums.{sum_by-cons}
use Rattle.std.proofs.lemmas.Bool.Decides.{nat_tests}
use Rattle.std.proofs.lemmas.Option.{same_Some, none-some}
use Rattle.std.proofs.Math.ListN.{get_or-map}
use Rattle.trdp_model.specs.declared.any_object.AnyObject.{AnyObject}
use Rattle.trdp_table.specs.declared.entry.Entry.{Entry}
use Rattle.trdp_table.specs.declared.held.Held.{Held}
use Rattle.trdp_model.specs.declared.kind.Kind.{Kind}
use Rattle.trdp_model.specs.Kinds.{kind_of, is_same_kind}
use Rattle.trdp_table.specs.Tables.{Keyed, SlotTable, slot_in, all_objects, by_handle}
use Rattle.trdp_table.specs.Tables.{count_of, refusal, all_quotas, room_of}
use Rattle.trdp_table.specs.Tables.{with_object, without_handle, exchanged, other_by_key}
use Rattle.trdp_table.specs.TableLaws.{AllAbove, AllBelow, HandlesRise, IsSlotTable}
use Rattle.trdp_table.specs.Entries.{SlotEntries, opened_entries, entries_in, entry_of, key_of}
use Rattle.trdp_table.specs.Entries.{entries_of, refusal_of, new_entry, with_entry, without_entry}
use Rattle.trdp_table.specs.Entries.{AreAbove, AreBelow, AreRising, AreSlotEntries}
use Rattle.trdp_table.specs.Pools.{PoolState, held_in, owner_of}
use Rattle.trdp_table.specs.Pools.{owner_in, pool_with, with_other_held}
use Rattle.trdp_table.specs.TableKept.{keyed_of, slot_seen, table_seen}
use Rattle.trdp_table.proofs.SlotLemmas.Kept.{entries_of-cons}

-- the objects of these entries
abbrev pub objects_seen : PoolState → List Entry → List Keyed
objects_seen pool es = map (keyed_of pool) es

pub above_seen : (pool : PoolState) (h : ℕ) (es : List Entry)
    → AreAbove h es → AllAbove h (objects_seen pool es)
above_seen pool h [] above = tt
above_seen pool h (e ∷ es) above = (above.0, above_seen pool h es above.1)

below_seen : (pool : PoolState) (h : ℕ) (es : List Entry)
    → AreBelow h es → AllBelow h (objects_seen pool es)
below_seen pool h [] below = tt
below_seen pool h (e ∷ es) below = (below.0, below_seen pool h es below.1)

pub rising_seen : (pool : PoolState) (es : List Entry)
    → AreRising es → HandlesRise (objects_seen pool es)
rising_seen pool [] rising = tt
rising_seen pool (e ∷ es) rising =
    (above_seen pool e.handle es rising.0, rising_seen pool es rising.1)

count_seen : (pool : PoolState) (kind : Kind) (es : List Entry)
    → count_of kind (objects_seen pool es) ≡ entries_of kind es
count_seen pool kind [] = refl
count_seen pool kind (e ∷ es) =
    let here = sum_by-cons (λ (x : Keyed). cond {A = ℕ} (is_same_kind x.kind kind) 1 0)
    (keyed_of pool e) (objects_seen pool es) in
    omega (arith, here, entries_of-cons kind e es, count_seen pool kind es)

pub slot_sound : (pool : PoolState) (slot : SlotEntries)
    → AreSlotEntries slot → IsSlotTable (slot_seen pool slot)
slot_sound pool slot is = record {
  handles = is.handles;
  rising = rising_seen pool slot.entries is.rising;
  below = below_seen pool slot.next slot.entries is.below;
  limited = is.limited;
  full = λ kind. omega (arith, is.full kind, count_seen pool kind slot.entries);
}

pub refusal_seen : (pool : PoolState) (slot : SlotEntries) (kind : Kind)
    → refusal (slot_seen pool slot) kind ≡ refusal_of slot kind
refusal_seen pool slot kind = rw (count_seen pool kind slot.entries) refl

-- the slot of a number
pub slot_in_seen : (pool : PoolState) (slots : List SlotEntries) (s : ℕ)
    → slot_in s (table_seen pool slots) ≡ slot_seen pool (entries_in s slots)
slot_in_seen pool slots s = get_or-map (slot_seen pool) slots s (opened_entries [])

pub room_seen : (pool : PoolState) (slots : List SlotEntries)
    → room_of (table_seen pool slots) ≡ sum_by (λ slot. all_quotas slot.quotas) slots
room_seen pool [] = refl
room_seen pool (x ∷ xs) =
    sum_by-cons (λ (slot : SlotTable). all_quotas slot.quotas)
    (slot_seen pool x) (table_seen pool xs)
    ∙ (ap (λ n. all_quotas x.quotas + n) (room_seen pool xs)
    ∙ sym (sum_by-cons (λ (slot : SlotEntries). all_quotas slot.quotas) x xs))

pub length_seen : (pool : PoolState) (slots : List SlotEntries)
    → length (all_objects (table_seen pool slots)) ≡ sum_by (λ slot. length slot.entries) slots
length_seen pool slots =
    length-flat_map (λ (slot : SlotTable). slot.objects) (table_seen pool slots) ∙ summed slots
  where
    summed : (xs : List SlotEntries) → sum_by (λ (slot : SlotTable). length slot.objects)
        (table_seen pool xs) ≡ sum_by (λ (slot : SlotEntries). length slot.entries) xs
    summed [] = refl
    summed (x ∷ xs) =
        let here = sum_by-cons (λ (slot : SlotTable). length slot.objects)
        (slot_seen pool x) (table_seen pool xs) in
        let seen = sum_by-cons (λ (slot : SlotEntries). length slot.entries) x xs in
        omega (arith, here, seen, length-map x.entries (keyed_of pool), summed xs)

-- The object of a handle.

pub found_seen : (pool : PoolState) (h : ℕ) (es : List Entry)
    → by_handle h (objects_seen pool es) ≡ option_map (keyed_of pool) (entry_of h es)
found_seen pool h [] = refl
found_seen pool h (e ∷ es) = either (e.handle == h) refl (found_seen pool h es)
  where
    either : (b : Bool) → (e.handle == h) ≡ b → by_handle h (objects_seen pool es)
        ≡ option_map (keyed_of pool) (entry_of h es) → by_handle h (objects_seen pool (e ∷ es))
        ≡ option_map (keyed_of pool) (entry_of h (e ∷ es))
    either true is rest = rw is refl
    either false is rest = rw is rest

pub key_seen : (pool : PoolState) (h : ℕ) (es : List Entry)
    → option_map (λ keyed. keyed.key) (by_handle h (objects_seen pool es)) ≡ key_of h es
key_seen pool h es =
    ap (option_map (λ (keyed : Keyed). keyed.key)) (found_seen pool h es) ∙ mapped (entry_of h es)
  where
    mapped : (o : Option Entry) → option_map (λ (keyed : Keyed). keyed.key)
        (option_map (keyed_of pool) o) ≡ option_map (λ (entry : Entry). entry.key) o
    mapped None = refl
    mapped (Some e) = refl

pub without_seen : (pool : PoolState) (h : ℕ) (es : List Entry)
    → objects_seen pool (filter (λ entry. not (entry.handle == h)) es)
    ≡ filter (λ keyed. not (keyed.handle == h)) (objects_seen pool es)
without_seen pool h [] = refl
without_seen pool h (e ∷ es) = either (e.handle == h) refl (without_seen pool h es)
  where
    either : (b : Bool) → (e.handle == h) ≡ b
        → objects_seen pool (filter (λ entry. not (entry.handle == h)) es)
        ≡ filter (λ keyed. not (keyed.handle == h)) (objects_seen pool es)
        → objects_seen pool (filter (λ entry. not (entry.handle == h)) (e ∷ es))
        ≡ filter (λ keyed. not (keyed.handle == h)) (objects_seen pool (e ∷ es))
    either true is rest = rw is rest
    either false is rest = rw is (ap (λ (r : List Keyed). keyed_of pool e ∷ r) rest)

-- Whose the keys of entries are.

-- the pool holds under each entry's key that slot and handle
abbrev pub AllOwned : PoolState → ℕ → List Entry → Type 0
AllOwned pool s [] = Unit {0}
AllOwned pool s (e ∷ es) = (owner_in pool e.key ≡ Some (s, e.handle)) × AllOwned pool s es

-- no entry has the key
abbrev pub AllApart : ℕ → List Entry → Type 0
AllApart key [] = Unit {0}
AllApart key (e ∷ es) = (e.key ≢ key) × AllApart key es

abbrev pub owned_by : ℕ → ℕ → Option (ℕ × ℕ)
owned_by s h = Some (s, h)

pub no_owner : (s h : ℕ) → owner_of None ≡ Some (s, h) → ⊥
no_owner s h at = none-some {A = ℕ × ℕ} (s, h) at

pub unowned : (pool : PoolState) (key s h : ℕ)
    → held_in pool key ≡ None → owner_in pool key ≢ Some (s, h)
unowned pool key s h vacant at = no_owner s h (sym (ap owner_of vacant) ∙ at)

pub same_owner : (s t g h : ℕ) → owned_by s g ≡ owned_by t h → (s ≡ t) × (g ≡ h)
same_owner s t g h same =
    let pair = same_Some {A = ℕ × ℕ} (s, g) (t, h) same in
    (ap (λ (p : ℕ × ℕ). p.0) pair, ap (λ (p : ℕ × ℕ). p.1) pair)

-- a key that belongs to no object
pub apart_unowned : (pool : PoolState) (s key : ℕ) (es : List Entry)
    → AllOwned pool s es → ((h : ℕ) → owner_in pool key ≢ Some (s, h)) → AllApart key es
apart_unowned pool s key [] owned none = tt
apart_unowned pool s key (e ∷ es) owned none = (
  λ same. none e.handle (ap (owner_in pool) (sym same) ∙ owned.0),
  apart_unowned pool s key es owned.1 none,
)

-- the key of an entry that is left out
pub apart_without : (pool : PoolState) (s h key : ℕ) (es : List Entry) → AllOwned pool s es
    → owner_in pool key ≡ Some (s, h) → AllApart key (filter (λ entry. not (entry.handle == h)) es)
apart_without pool s h key [] owned of = tt
apart_without pool s h key (e ∷ es) owned of =
    either (e.handle == h) refl (apart_without pool s h key es owned.1 of)
  where
    either : (b : Bool) → (e.handle == h) ≡ b
        → AllApart key (filter (λ entry. not (entry.handle == h)) es)
        → AllApart key (filter (λ entry. not (entry.handle == h)) (e ∷ es))
    either true is rest = rw is rest
    either false is rest =
        let differ : e.handle ≢ h = grind (arith, nat_tests) in
        rw is (
          λ same.
              differ (same_owner s s e.handle h (sym owned.0 ∙ ap (owner_in pool) same ∙ of)).1,
          rest,
        )

-- what is held under another key becomes another thing
pub same_seen : (pool : PoolState) (key : ℕ) (v : Option Held) (es : List Entry)
    → AllApart key es → objects_seen (set pool key v) es ≡ objects_seen pool es
same_seen pool key v [] apart = refl
same_seen pool key v (e ∷ es) apart =
    rw (get_or-set_other pool key e.key v None apart.0)
    (ap (λ (r : List Keyed). keyed_of pool e ∷ r) (same_seen pool key v es apart.1))

-- A slot that changes.

pub added_seen : (pool : PoolState) (s key : ℕ) (object : AnyObject) (slot : SlotEntries)
    → AllOwned pool s slot.entries → key < length pool → held_in pool key ≡ None
    → slot_seen (set pool key (Some (record { slot = s; handle = slot.next; object = object })))
    (with_entry (kind_of object) key slot) ≡ with_object key object (slot_seen pool slot)
added_seen pool s key object slot owned within vacant =
    let held : Held = record { slot = s; handle = slot.next; object = object } in
    let apart = apart_unowned pool s key slot.entries owned (λ h. unowned pool key s h vacant) in
    let here : held_in (set pool key (Some held)) key ≡ Some held =
    get_or-set_same pool key (Some held) None within in
    let new : keyed_of (set pool key (Some held)) (new_entry slot.next (kind_of object) key)
    ≡ record { handle = slot.next; kind = kind_of object; key = key; object = object } =
    rw here refl in
    ap (λ (es : List Keyed). let x : SlotTable =
    record { quotas = slot.quotas; next = slot.next + 1; objects = es } in x)
    (map-append (keyed_of (set pool key (Some held)))
    slot.entries (new_entry slot.next (kind_of object) key ∷ [])
    ∙ (ap (λ (es : List Keyed). es ++ keyed_of (set pool key (Some held)) (new_entry slot.next
    (kind_of object) key) ∷ []) (same_seen pool key (Some held) slot.entries apart)
    ∙ ap (λ (k : Keyed). objects_seen pool slot.entries ++ k ∷ []) new))

pub removed_seen : (pool : PoolState) (s h key : ℕ) (slot : SlotEntries)
    → AllOwned pool s slot.entries → owner_in pool key ≡ Some (s, h)
    → slot_seen (set pool key None) (without_entry h slot) ≡ without_handle h (slot_seen pool slot)
removed_seen pool s h key slot owned of =
    ap (λ (es : List Keyed). let x : SlotTable =
    record { quotas = slot.quotas; next = slot.next; objects = es } in x)
    (same_seen pool key None (filter (λ entry. not (entry.handle == h)) slot.entries)
    (apart_without pool s h key slot.entries owned of)
    ∙ without_seen pool h slot.entries)

-- a slot that has no part in a change of the pool
pub other_seen : (pool : PoolState) (key : ℕ) (v : Option Held) (slot : SlotEntries)
    → AllApart key slot.entries → slot_seen (set pool key v) slot ≡ slot_seen pool slot
other_seen pool key v slot apart =
    ap (λ (es : List Keyed). let x : SlotTable =
    record { quotas = slot.quotas; next = slot.next; objects = es } in x)
    (same_seen pool key v slot.entries apart)

-- the slots, one of which changes
pub sets_seen : {X Y : Type 0} (f g : X → Y) (xs : List X) (s : ℕ) (y : Y) (d : X)
    → ((t : ℕ) → t ≢ s → t < length xs → f (get_or xs t d) ≡ g (get_or xs t d))
    → set (map f xs) s y ≡ set (map g xs) s y
sets_seen {X = X} {Y = Y} f g [] s y d same = refl
sets_seen {X = X} {Y = Y} f g (x ∷ xs) zero y d same = ap (λ r. y ∷ r)
    (all_same xs (λ t lt. same (suc t) (λ e. absurd (omega arith)) (omega (arith, lt))))
  where
    all_same : (zs : List X)
        → ((t : ℕ) → t < length zs → f (get_or zs t d) ≡ g (get_or zs t d)) → map f zs ≡ map g zs
    all_same [] each = refl
    all_same (z ∷ zs) each = rw (each 0 (omega arith))
        (ap (λ r. g z ∷ r) (all_same zs (λ t lt. each (suc t) (omega (arith, lt)))))
sets_seen {X = X} {Y = Y} f g (x ∷ xs) (suc s) y d same =
    rw (same 0 (λ e. absurd (omega arith)) (omega arith)) (ap (λ r. g x ∷ r) (sets_seen f
    g xs s y d (λ t apart lt. same (suc t) (λ e. apart (omega arith)) (omega (arith, lt)))))

-- The object of a key becomes another one.

pub lent_seen :
    (pool : PoolState) (key : ℕ) (held : Held) (w : AnyObject) (slots : List SlotEntries)
    → held_in pool key ≡ Some held → key < length pool
    → table_seen (pool_with key pool w) slots ≡ exchanged key (table_seen pool slots) w
lent_seen pool key held w [] at within = refl
lent_seen pool key held w (x ∷ xs) at within =
    let slot = ap (λ (es : List Keyed). let y : SlotTable =
    record { quotas = x.quotas; next = x.next; objects = es } in y) (objects_lent x.entries) in
    rw (slot, lent_seen pool key held w xs at within) refl
  where
    changed : set pool key (option_map (λ held. with_other_held held w) (held_in pool key))
        ≡ set pool key (Some (with_other_held held w))
    changed =
        ap (λ (o : Option Held). set pool key (option_map (λ (h : Held). with_other_held h w) o)) at

    here : held_in (pool_with key pool w) key ≡ Some (with_other_held held w)
    here = ap (λ (p : PoolState). held_in p key) changed
        ∙ get_or-set_same pool key (Some (with_other_held held w)) None within

    keyed_lent : (e : Entry) (b : Bool) → (e.key == key) ≡ b
        → keyed_of (pool_with key pool w) e ≡ other_by_key key w (keyed_of pool e)
    keyed_lent e true is =
        let same : e.key ≡ key = grind (arith, nat_tests) in
        let there : held_in (pool_with key pool w) e.key ≡ Some (with_other_held held w) =
        ap (held_in (pool_with key pool w)) same ∙ here in
        rw (there, is) refl
    keyed_lent e false is =
        let apart : e.key ≢ key = grind (arith, nat_tests) in
        let there : held_in (pool_with key pool w) e.key
        ≡ held_in pool e.key = get_or-set_other pool
        key e.key (option_map (λ held. with_other_held held w) (held_in pool key)) None apart in
        rw (there, is) refl

    objects_lent : (es : List Entry)
        → objects_seen (pool_with key pool w) es ≡ map (other_by_key key w) (objects_seen pool es)
    objects_lent [] = refl
    objects_lent (e ∷ es) = rw (keyed_lent e (e.key == key) refl, objects_lent es) refl
