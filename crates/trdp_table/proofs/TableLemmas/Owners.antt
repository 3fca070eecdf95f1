-- A key is that of one object: the pool holds under it the slot and the handle that name it.
-- For `TableLemmas.Found`.
-- By induction on the slots: an owner's slot and handle are those of one entry of one slot.
use Rattle.std.proofs.Common.{◌≡◌, ◌≢◌, ℕ, zero, suc, ◌+◌, ◌<◌, ◌≤◌, List, []}
use Rattle.std.proofs.Common.{◌∷◌, ◌++◌, map, set, Option, Some, None, Bool}
use Rattle.std.proofs.Common.{true, false, refl, ◌∙◌, sym, ap, subst, arith}
use Rattle.std.specs.Prelude.{◌==◌}
use Rattle.std.specs.Option.{option_or}
use Rattle.std.specs.List.{IsDistinct, AllByRecursion}
use Rattle.std.proofs.lemmas.Option.{none-some}
use Rattle.std.proofs.lemmas.Bool.Decides.{nat_tests}
use Rattle.std.proofs.lemmas.List.Folds.{find-append}
use Rattle.trdp_model.specs.declared.any_object.AnyObject.{AnyObject}
use Rattle.trdp_table.specs.declared.entry.Entry.{Entry}
use Rattle.trdp_table.specs.Tables.{Keyed, slot_in, all_objects, by_handle, by_key, other_by_key}
use Rattle.trdp_table.specs.Tables.{with_other_by_key, other_by_handle, with_other_by_handle}
use Rattle.trdp_table.specs.Entries.{SlotEntries, entries_in, AreAbove, AreRising}
use Rattle.trdp_table.specs.Pools.{PoolState, owner_in}
use Rattle.trdp_table.specs.TableKept.{keyed_of, table_seen}
use Rattle.trdp_table.proofs.TableLemmas.Seen.{objects_seen, AllOwned, AllApart}
use Rattle.trdp_table.proofs.TableLemmas.Seen.{owned_by, same_owner, apart_unowned}

-- no two keys have one owner
abbrev pub AreAlone : PoolState → Type 0
AreAlone pool = (a b s h : ℕ) → owner_in pool a ≡ Some (s, h)
    → owner_in pool b ≡ Some (s, h) → a ≡ b

-- the slots from number b on own their keys
abbrev pub AllOwnedFrom : PoolState → ℕ → List SlotEntries → Type 0
AllOwnedFrom pool b [] = Unit {0}
AllOwnedFrom pool b (slot ∷ slots) = AllOwned pool b slot.entries × AllOwnedFrom pool (suc b) slots

pub owned_from : (pool : PoolState) (b : ℕ) (slots : List SlotEntries)
    → ((s : ℕ) → AllOwned pool (b + s) (entries_in s slots).entries) → AllOwnedFrom pool b slots
owned_from pool b [] owned = tt
owned_from pool b (x ∷ xs) owned =
    let P : ℕ → Type 0 = λ t. AllOwned pool t x.entries in
    let here : AllOwned pool b x.entries = subst P {x = b + 0} (omega arith) (owned 0) in (
      here,
      owned_from pool (suc b) xs (λ s. subst (λ (t : ℕ).
          AllOwned pool t (entries_in s xs).entries) {x = b + suc s} (omega arith) (owned (suc s))),
    )

-- The objects of one slot.

same_tests : (pool : PoolState) (s h key : ℕ) (e : Entry) → AreAlone pool → owner_in pool e.key
    ≡ Some (s, e.handle) → owner_in pool key ≡ Some (s, h) → (e.key == key) ≡ (e.handle == h)
same_tests pool s h key e alone of is = either (e.handle == h) refl
  where
    either : (b : Bool) → (e.handle == h) ≡ b → (e.key == key) ≡ (e.handle == h)
    either true test =
        let handles : e.handle ≡ h = grind (arith, nat_tests) in
        let same : e.key ≡ key =
        alone e.key key s h (of ∙ ap (λ (n : ℕ). owned_by s n) handles) is in
        grind (arith, nat_tests)
    either false test =
        let differ : e.handle ≢ h = grind (arith, nat_tests) in
        let apart : e.key ≢ key =
        λ same. differ (same_owner s s e.handle h (sym of ∙ ap (owner_in pool) same ∙ is)).1 in
        grind (arith, nat_tests)

same_slot : (pool : PoolState) (s h key : ℕ) (es : List Entry)
    → AreAlone pool → AllOwned pool s es → owner_in pool key ≡ Some (s, h)
    → by_key key (objects_seen pool es) ≡ by_handle h (objects_seen pool es)
same_slot pool s h key [] alone owned is = refl
same_slot pool s h key (e ∷ es) alone owned is =
    rw (same_tests pool s h key e alone owned.0 is, same_slot pool s h key es alone owned.1 is) refl

none_apart : (pool : PoolState) (key : ℕ) (es : List Entry)
    → AllApart key es → by_key key (objects_seen pool es) ≡ None
none_apart pool key [] apart = refl
none_apart pool key (e ∷ es) apart =
    let differ : e.key ≢ key = apart.0 in
    let test : (e.key == key) ≡ false = grind (arith, nat_tests) in
    rw test (none_apart pool key es apart.1)

-- The objects of all slots.

by_key-append : (key : ℕ) (xs ys : List Keyed)
    → by_key key (xs ++ ys) ≡ option_or (by_key key xs) (by_key key ys)
by_key-append key xs ys = find-append (λ keyed. keyed.key == key) xs ys

option_or-none : {X : Type 0} (o : Option X) → option_or o None ≡ o
option_or-none None = refl
option_or-none (Some x) = refl

-- a key that none of these slots owns
pub none_from : (pool : PoolState) (b key : ℕ) (slots : List SlotEntries)
    → AllOwnedFrom pool b slots → ((s h : ℕ) → b ≤ s → owner_in pool key ≢ Some (s, h))
    → by_key key (all_objects (table_seen pool slots)) ≡ None
none_from pool b key [] owned none = refl
none_from pool b key (x ∷ xs) owned none =
    by_key-append key (objects_seen pool x.entries) (all_objects (table_seen pool xs))
    ∙ rw (
      none_apart pool
          key x.entries (apart_unowned pool b key x.entries owned.0 (λ h. none b h (omega arith))),
      none_from pool (suc b) key xs owned.1 (λ s h le. none s h (omega (arith, le))),
    ) refl

-- a key of slot s isn't that of a later one
later : (pool : PoolState) (b key s h : ℕ) → owner_in pool key ≡ Some (s, h)
    → s < b → (t g : ℕ) → b ≤ t → owner_in pool key ≢ Some (t, g)
later pool b key s h of before t g le at =
    absurd (omega (arith, (same_owner s t h g (sym of ∙ at)).0, before, le))

pub by_key_from : (pool : PoolState) (b t h key : ℕ) (slots : List SlotEntries)
    → AreAlone pool → AllOwnedFrom pool b slots
    → owner_in pool key ≡ Some (b + t, h) → by_key key (all_objects (table_seen pool slots))
    ≡ by_handle h (slot_in t (table_seen pool slots)).objects
by_key_from pool b t h key [] alone owned is = refl
by_key_from pool b zero h key (x ∷ xs) alone owned is =
    let here : owner_in pool key ≡ Some (b, h) = is ∙ ap (λ (n : ℕ). owned_by n h) (omega arith) in
    by_key-append key (objects_seen pool x.entries) (all_objects (table_seen pool xs))
    ∙ (rw (none_from pool (suc b) key xs owned.1 (later pool (suc b) key b h here (omega arith)))
    (option_or-none (by_key key (objects_seen pool x.entries)))
    ∙ same_slot pool b h key x.entries alone owned.0 here)
by_key_from pool b (suc t) h key (x ∷ xs) alone owned is =
    let there : owner_in pool key ≡ Some (suc b + t, h) = is
    ∙ ap (λ (n : ℕ). owned_by n h) (omega arith) in
    by_key-append key (objects_seen pool x.entries) (all_objects (table_seen pool xs))
    ∙ (rw (none_apart pool key x.entries (apart_unowned pool b key x.entries owned.0
    (λ g at. absurd (omega (arith, (same_owner (b + suc t) b h g (sym is ∙ at)).0))))) refl
    ∙ by_key_from pool (suc b) t h key xs alone owned.1 there)

-- No key is that of two objects.

abbrev keys_of : List Keyed → List ℕ
keys_of es = map (λ keyed. keyed.key) es

abbrev AllDiffer : ℕ → List Keyed → Type 0
AllDiffer key es = AllByRecursion (λ y. (key == y) ≡ false) (keys_of es)

all_differ : (key : ℕ) (es : List Keyed) → by_key key es ≡ None → AllDiffer key es
all_differ key [] none = tt
all_differ key (e ∷ es) none = either (e.key == key) refl none (all_differ key es)
  where
    either : (b : Bool) → (e.key == key) ≡ b → by_key key (e ∷ es) ≡ None
        → (by_key key es ≡ None → AllDiffer key es) → AllDiffer key (e ∷ es)
    either true is none rest = absurd (none-some e (sym (rw is at none)))
    either false is none rest = (grind (arith, nat_tests), rest (rw is at none))

abbrev AreDistinct : List Keyed → Type 0
AreDistinct es = IsDistinct (λ a b. a == b) (keys_of es)

distinct-cons : (e : Keyed) (es : List Keyed)
    → AllDiffer e.key es → AreDistinct es → AreDistinct (e ∷ es)
unfolding IsDistinct
distinct-cons e es differ rest = (differ, rest)

distinct-nil : AreDistinct []
unfolding IsDistinct
distinct-nil = tt

-- the keys of later entries
apart_later : (pool : PoolState) (s : ℕ) (e : Entry) (es : List Entry) → owner_in pool e.key
    ≡ Some (s, e.handle) → AllOwned pool s es → AreAbove e.handle es → AllApart e.key es
apart_later pool s e [] of owned above = tt
apart_later pool s e (x ∷ es) of owned above = (
  λ same. absurd (omega (
    arith,
    above.0,
    (same_owner s s x.handle e.handle (sym owned.0 ∙ ap (owner_in pool) same ∙ of)).1,
  )),
  apart_later pool s e es of owned.1 above.1,
)

distinct_slot : (pool : PoolState) (s : ℕ) (es : List Entry) (others : List Keyed)
    → AllOwned pool s es
    → AreRising es → ((h key : ℕ) → owner_in pool key ≡ Some (s, h) → by_key key others ≡ None)
    → AreDistinct others → AreDistinct (objects_seen pool es ++ others)
distinct_slot pool s [] others owned rising none rest = rest
distinct_slot pool s (e ∷ es) others owned rising none rest =
    let here : by_key e.key (objects_seen pool es) ≡ None =
    none_apart pool e.key es (apart_later pool s e es owned.0 owned.1 rising.0) in
    let there : by_key e.key others ≡ None = none e.handle e.key owned.0 in
    let apart : by_key e.key (objects_seen pool es ++ others) ≡ None =
    by_key-append e.key (objects_seen pool es) others ∙ rw (here, there) refl in
    distinct-cons (keyed_of pool e)
    (objects_seen pool es ++ others) (all_differ e.key (objects_seen pool es ++ others) apart)
    (distinct_slot pool s es others owned.1 rising.1 none rest)

pub distinct_from : (pool : PoolState) (b : ℕ) (slots : List SlotEntries)
    → AllOwnedFrom pool b slots → ((s : ℕ) → AreRising (entries_in s slots).entries)
    → AreDistinct (all_objects (table_seen pool slots))
distinct_from pool b [] owned rising = distinct-nil
distinct_from pool b (x ∷ xs) owned rising =
    distinct_slot pool
    b x.entries (all_objects (table_seen pool xs)) owned.0 (rising 0) (λ h key is.
    none_from pool (suc b) key xs owned.1 (later pool (suc b) key b h is (omega arith)))
    (distinct_from pool (suc b) xs owned.1 (λ s. rising (suc s)))

-- The object of a key becomes another one: it is that of the slot and the handle.

unchanged_slot : (pool : PoolState) (key : ℕ) (w : AnyObject) (es : List Entry)
    → AllApart key es → map (other_by_key key w) (objects_seen pool es) ≡ objects_seen pool es
unchanged_slot pool key w [] apart = refl
unchanged_slot pool key w (e ∷ es) apart =
    let differ : e.key ≢ key = apart.0 in
    let test : (e.key == key) ≡ false = grind (arith, nat_tests) in
    rw test (ap (λ (r : List Keyed). keyed_of pool e ∷ r) (unchanged_slot pool key w es apart.1))

unchanged_all : (pool : PoolState) (b key : ℕ) (w : AnyObject) (slots : List SlotEntries)
    → AllOwnedFrom pool b slots → ((s h : ℕ) → b ≤ s → owner_in pool key ≢ Some (s, h))
    → map (with_other_by_key key w) (table_seen pool slots) ≡ table_seen pool slots
unchanged_all pool b key w [] owned none = refl
unchanged_all pool b key w (x ∷ xs) owned none =
    rw (
      unchanged_slot pool key w x.entries
          (apart_unowned pool b key x.entries owned.0 (λ h. none b h (omega arith))),
      unchanged_all pool (suc b) key w xs owned.1 (λ s h le. none s h (omega (arith, le))),
    ) refl

same_exchange : (pool : PoolState) (s h key : ℕ) (w : AnyObject) (es : List Entry)
    → AreAlone pool → AllOwned pool s es → owner_in pool key ≡ Some (s, h)
    → map (other_by_key key w) (objects_seen pool es)
    ≡ map (other_by_handle h w) (objects_seen pool es)
same_exchange pool s h key w [] alone owned is = refl
same_exchange pool s h key w (e ∷ es) alone owned is =
    rw (
      same_tests pool s h key e alone owned.0 is,
      same_exchange pool s h key w es alone owned.1 is,
    ) refl

pub exchanged_from : (pool : PoolState) (b t h key : ℕ) (w : AnyObject) (slots : List SlotEntries)
    → AreAlone pool → AllOwnedFrom pool b slots
    → owner_in pool key ≡ Some (b + t, h) → map (with_other_by_key key w) (table_seen pool slots)
    ≡ set (table_seen pool slots) t (with_other_by_handle h w (slot_in t (table_seen pool slots)))
exchanged_from pool b t h key w [] alone owned is = refl
exchanged_from pool b zero h key w (x ∷ xs) alone owned is =
    let here : owner_in pool key ≡ Some (b, h) = is ∙ ap (λ (n : ℕ). owned_by n h) (omega arith) in
    rw (
      same_exchange pool b h key w x.entries alone owned.0 here,
      unchanged_all
          pool (suc b) key w xs owned.1 (later pool (suc b) key b h here (omega arith)),
    ) refl
exchanged_from pool b (suc t) h key w (x ∷ xs) alone owned is =
    let there : owner_in pool key ≡ Some (suc b + t, h) = is
    ∙ ap (λ (n : ℕ). owned_by n h) (omega arith) in
    let apart = apart_unowned pool b key x.entries
    owned.0 (λ g at. absurd (omega (arith, (same_owner (b + suc t) b h g (sym is ∙ at)).0))) in
    rw (
      unchanged_slot pool key w x.entries apart,
      exchanged_from pool (suc b) t h key w xs alone owned.1 there,
    ) refl
