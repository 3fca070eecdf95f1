-- What is true of each table stays true as an object is added, removed or exchanged.
-- For `Table::install`, `remove` and `raise`.
-- By: one slot and one key of the pool change, and what both keep is put together again.
use Rattle.std.proofs.Common.{◌≡◌, ◌≢◌, inl, inr, ℕ, zero, suc, ◌+◌, ◌<◌, ◌≤◌, is_some}
use Rattle.std.proofs.Common.{IsSome, List, [], ◌∷◌, ◌++◌, length, get_or, set, sum_by}
use Rattle.std.proofs.Common.{Option, Some, None, refl, ◌∙◌, sym, ap, subst, arith}
use Rattle.std.specs.Prelude.{option_map}
use Rattle.std.proofs.lemmas.List.{get_or-set_same, get_or-set_other, length-set}
use Rattle.std.proofs.lemmas.List.Sums.{sum_by-cons, sum_by-set}
use Rattle.std.proofs.lemmas.Bool.{cases_eq}
use Rattle.std.proofs.lemmas.Option.{same_Some, none-some}
use Rattle.trdp_model.specs.declared.any_object.AnyObject.{AnyObject}
use Rattle.trdp_table.specs.declared.entry.Entry.{Entry}
use Rattle.trdp_table.specs.declared.held.Held.{Held}
use Rattle.trdp_model.specs.declared.kind.Kind.{Kind}
use Rattle.trdp_model.specs.Kinds.{kind_of}
use Rattle.trdp_table.specs.Tables.{last_handle, all_quotas}
use Rattle.trdp_table.specs.Entries.{SlotEntries, opened_entries, entries_in, key_of}
use Rattle.trdp_table.specs.Entries.{refusal_of, new_entry, with_entry, without_entry}
use Rattle.trdp_table.specs.Entries.{with_next_handle, entries_changed, AreSlotEntries}
use Rattle.trdp_table.specs.Pools.{PoolState, held_in, owner_of, owner_in}
use Rattle.trdp_table.specs.Pools.{held_count, pool_with, with_other_held}
use Rattle.trdp_table.specs.TableKept.{IsKeptTable}
use Rattle.trdp_table.proofs.SlotLemmas.Kept.{AreSlotEntries-add, AreSlotEntries-without_entry}
use Rattle.trdp_table.proofs.SlotLemmas.Kept.{AreSlotEntries-next, within_quotas, under_quotas}
use Rattle.trdp_table.proofs.PoolLemmas.Places.{count_set, count_unset, count_kept}
use Rattle.trdp_table.proofs.SlotLemmas.Keys.{key_of-more, key_of-last, key_of-push}
use Rattle.trdp_table.proofs.SlotLemmas.Keys.{key_of-without, key_of-gone, length_without}
use Rattle.trdp_table.proofs.TableLemmas.Seen.{owned_by, no_owner, unowned, same_owner}
use Rattle.trdp_table.proofs.TableLemmas.Found.{nothing, owner_there}

-- One slot changes.

here_in : (slots : List SlotEntries) (s t : ℕ) (x : SlotEntries)
    → s < length slots → t ≡ s → entries_in t (set slots s x) ≡ x
here_in slots s t x lt same = ap (λ (n : ℕ). entries_in n (set slots s x)) same
    ∙ get_or-set_same slots s x (opened_entries []) lt

there_in : (slots : List SlotEntries) (s t : ℕ) (x : SlotEntries)
    → t ≢ s → entries_in t (set slots s x) ≡ entries_in t slots
there_in slots s t x apart = get_or-set_other slots s t x (opened_entries []) apart

slots_sound : (slots : List SlotEntries) (s : ℕ) (x : SlotEntries)
    → s < length slots → AreSlotEntries x → ((t : ℕ) → AreSlotEntries (entries_in t slots))
    → (t : ℕ) → AreSlotEntries (entries_in t (set slots s x))
slots_sound slots s x lt sound all t = elim (cases_eq t s) [
  | inl same ↦
      subst (λ (slot : SlotEntries). AreSlotEntries slot) (sym (here_in slots s t x lt same)) sound
  | inr apart ↦
      subst (λ (slot : SlotEntries). AreSlotEntries slot) (sym (there_in slots s t x apart)) (all t)
]

-- the numbers of entries and of keys, once a slot changed
totals : (slots : List SlotEntries) (s : ℕ) (x : SlotEntries)
    → s < length slots → x.quotas ≡ (entries_in s slots).quotas
    → (sum_by (λ (slot : SlotEntries). length slot.entries) (set slots s x) + length (entries_in s
    slots).entries ≡ sum_by (λ (slot : SlotEntries). length slot.entries) slots + length x.entries)
    × (sum_by (λ (slot : SlotEntries). all_quotas slot.quotas) (set slots s x)
    ≡ sum_by (λ (slot : SlotEntries). all_quotas slot.quotas) slots)
totals slots s x lt same =
    let quotas = sum_by-set (λ (slot : SlotEntries). all_quotas slot.quotas)
    slots s x (opened_entries []) lt in
    let equal : all_quotas x.quotas ≡ all_quotas (entries_in s slots).quotas =
    ap all_quotas same in (
      sum_by-set (λ (slot : SlotEntries). length slot.entries) slots s x (opened_entries []) lt,
      omega (arith, quotas, equal),
    )

-- an object comes
pub IsKeptTable-add : (slots : List SlotEntries) (pool : PoolState) (s key : ℕ) (object : AnyObject)
    → IsKeptTable slots pool → s < length slots
    → refusal_of (entries_in s slots) (kind_of object) ≡ None → key < length pool → held_in pool key
    ≡ None → IsKeptTable (entries_changed s (with_entry (kind_of object) key) slots)
    (set pool key (Some (record { slot = s; handle = (entries_in s slots).next; object = object })))
IsKeptTable-add slots pool s key object is lt none within vacant =
    let slot = entries_in s slots in
    let x = with_entry (kind_of object) key slot in
    let held : Held = record { slot = s; handle = slot.next; object = object } in
    let pool_then = set pool key (Some held) in
    let here : owner_in pool_then key ≡ Some (s, slot.next) =
    ap owner_of (get_or-set_same pool key (Some held) None within) in
    let there : (k : ℕ) → k ≢ key → owner_in pool_then k ≡ owner_in pool k =
    λ k apart. ap owner_of (get_or-set_other pool key k (Some held) None apart) in
    let taken : (k t h : ℕ) → owner_in pool k ≡ Some (t, h) → k ≢ key =
    λ k t h of same. unowned pool key t h vacant (ap (owner_in pool) (sym same) ∙ of) in
    let sums = totals slots s x lt refl in
    record {
      few = omega (arith, length-set slots s x, is.few);
      sound = slots_sound slots
          s x lt (AreSlotEntries-add slot key (kind_of object) (is.sound s) none) is.sound;
      listed = λ t h k at. elim (cases_eq t s) [
        | inl same ↦ elim (key_of-push h k slot.entries (new_entry slot.next (kind_of object) key)
            (sym (ap (λ (y : SlotEntries). key_of h y.entries) (here_in slots s t x lt same))
            ∙ at)) [
              | inl old ↦
                  let of = is.listed s h k old in
                  there k (taken k s h of) ∙ (of ∙ ap (λ (n : ℕ). owned_by n h) (sym same))
              | inr new ↦ ap (owner_in pool_then) new.1
                  ∙ (here ∙ (ap (λ (n : ℕ). owned_by s n) (sym new.0)
                  ∙ ap (λ (n : ℕ). owned_by n h) (sym same)))
            ]
        | inr apart ↦
            let of = is.listed t h k (sym
            (ap (λ (y : SlotEntries). key_of h y.entries) (there_in slots s t x apart)) ∙ at) in
            there k (taken k t h of) ∙ of
      ];
      owned = λ t h k at. elim (cases_eq k key) [
        | inl same ↦
            let who =
            same_owner s t slot.next h (sym here ∙ (ap (owner_in pool_then) (sym same) ∙ at)) in
            ap (λ (y : SlotEntries). key_of h y.entries) (here_in slots s t x lt (sym who.0))
            ∙ (ap (λ (n : ℕ). key_of n x.entries) (sym who.1)
            ∙ (key_of-last slot.entries (new_entry slot.next (kind_of object) key)
            (is.sound s).below ∙ ap Some (sym same)))
        | inr apart ↦
            let old = is.owned t h k (sym (there k apart) ∙ at) in
            elim (cases_eq t s) [
              | inl same ↦
                  ap (λ (y : SlotEntries). key_of h y.entries) (here_in slots s t x lt same)
                  ∙ key_of-more h k slot.entries (new_entry slot.next (kind_of object) key)
                  (ap (λ (n : ℕ). key_of h (entries_in n slots).entries) (sym same) ∙ old)
              | inr other ↦
                  ap (λ (y : SlotEntries). key_of h y.entries) (there_in slots s t x other) ∙ old
            ]
      ];
      count = omega (
        arith,
        count_set pool key held within vacant,
        is.count,
        sums.0,
        length_push slot.entries (new_entry slot.next (kind_of object) key),
      );
      room = omega (arith, length-set pool key (Some held), is.room, sums.1);
    }
  where
    length_push : (es : List Entry) (e : Entry) → length (es ++ e ∷ []) ≡ length es + 1
    length_push [] e = refl
    length_push (y ∷ es) e = omega (arith, length_push es e)

-- slots within their quotas are together within the total of all quotas
pub all_within : (xs : List SlotEntries)
    → ((t : ℕ) → length (entries_in t xs).entries ≤ all_quotas (entries_in t xs).quotas)
    → sum_by (λ (slot : SlotEntries). length slot.entries) xs
    ≤ sum_by (λ (slot : SlotEntries). all_quotas slot.quotas) xs
all_within [] each = omega arith
all_within (x ∷ xs) each = omega (
  arith,
  each 0,
  all_within xs (λ t. each (suc t)),
  sum_by-cons (λ (slot : SlotEntries). length slot.entries) x xs,
  sum_by-cons (λ (slot : SlotEntries). all_quotas slot.quotas) x xs,
)

-- while a slot takes an object, the pool has a free key
pub pool_room : (slots : List SlotEntries) (pool : PoolState) (s : ℕ) (kind : Kind)
    → IsKeptTable slots pool → s < length slots
    → refusal_of (entries_in s slots) kind ≡ None → held_count pool < length pool
pool_room slots pool s kind is lt none =
    let less = less_from slots s lt (λ t. within_quotas (entries_in t slots) (is.sound t))
    (under_quotas (entries_in s slots) kind (is.sound s) none) in
    omega (arith, less, is.count, is.room)
  where
    less_from : (xs : List SlotEntries) (i : ℕ) → i < length xs
        → ((t : ℕ) → length (entries_in t xs).entries ≤ all_quotas (entries_in t xs).quotas)
        → length (entries_in i xs).entries < all_quotas (entries_in i xs).quotas
        → sum_by (λ (slot : SlotEntries). length slot.entries) xs
        < sum_by (λ (slot : SlotEntries). all_quotas slot.quotas) xs
    less_from [] i lt each here = absurd (omega arith)
    less_from (x ∷ xs) zero lt each here = omega (
      arith,
      here,
      all_within xs (λ t. each (suc t)),
      sum_by-cons (λ (slot : SlotEntries). length slot.entries) x xs,
      sum_by-cons (λ (slot : SlotEntries). all_quotas slot.quotas) x xs,
    )
    less_from (x ∷ xs) (suc i) lt each here =
        omega (
          arith,
          each 0,
          less_from xs i (omega (arith, lt)) (λ t. each (suc t)) here,
          sum_by-cons (λ (slot : SlotEntries). length slot.entries) x xs,
          sum_by-cons (λ (slot : SlotEntries). all_quotas slot.quotas) x xs,
        )

-- an object goes
pub IsKeptTable-remove : (slots : List SlotEntries) (pool : PoolState) (s h key : ℕ)
    → IsKeptTable slots pool → s < length slots → key_of h (entries_in s slots).entries ≡ Some key
    → IsKeptTable (entries_changed s (without_entry h) slots) (set pool key None)
IsKeptTable-remove slots pool s h key is lt found =
    let slot = entries_in s slots in
    let x = without_entry h slot in
    let pool_then = set pool key None in
    let of = is.listed s h key found in
    let held = some_there (held_in pool key) refl of in
    let none : owner_in pool_then key ≡ None = ap owner_of (unset pool key) in
    let there : (k : ℕ) → k ≢ key → owner_in pool_then k ≡ owner_in pool k =
    λ k apart. ap owner_of (get_or-set_other pool key k None None apart) in
    let sums = totals slots s x lt refl in
    record {
      few = omega (arith, length-set slots s x, is.few);
      sound = slots_sound slots s x lt (AreSlotEntries-without_entry h slot (is.sound s)) is.sound;
      listed = λ t g k at. elim (cases_eq t s) [
        | inl same ↦
            let was : key_of g x.entries ≡ Some k =
            sym (ap (λ (y : SlotEntries). key_of g y.entries) (here_in slots s t x lt same))
            ∙ at in
            elim (cases_eq g h) [
              | inl gone ↦ absurd (none-some k (sym (key_of-gone h slot.entries)
                  ∙ (ap (λ (n : ℕ). key_of n x.entries) (sym gone) ∙ was)))
              | inr stays ↦
                  let old = is.listed s g k (sym (key_of-without h g slot.entries stays) ∙ was) in
                  let apart : k ≢ key =
                  λ e. stays (same_owner s s g h (sym old ∙ (ap (owner_in pool) e ∙ of))).1 in
                  there k apart ∙ (old ∙ ap (λ (n : ℕ). owned_by n g) (sym same))
            ]
        | inr other ↦
            let old = is.listed t g k (sym
            (ap (λ (y : SlotEntries). key_of g y.entries) (there_in slots s t x other)) ∙ at) in
            let apart : k ≢ key =
            λ e. other (same_owner t s g h (sym old ∙ (ap (owner_in pool) e ∙ of))).0 in
            there k apart ∙ old
      ];
      owned = λ t g k at. elim (cases_eq k key) [
        | inl same ↦ absurd (no_owner t g (sym none ∙ (ap (owner_in pool_then) (sym same) ∙ at)))
        | inr apart ↦
            let old = is.owned t g k (sym (there k apart) ∙ at) in
            elim (cases_eq t s) [
              | inl same ↦
                  let here : key_of g slot.entries ≡ Some k =
                  ap (λ (n : ℕ). key_of g (entries_in n slots).entries) (sym same) ∙ old in
                  let stays : g ≢ h = λ e. apart (same_Some k
                  key (sym here ∙ (ap (λ (n : ℕ). key_of n slot.entries) e ∙ found))) in
                  ap (λ (y : SlotEntries). key_of g y.entries) (here_in slots s t x lt same)
                  ∙ (key_of-without h g slot.entries stays ∙ here)
              | inr other ↦
                  ap (λ (y : SlotEntries). key_of g y.entries) (there_in slots s t x other) ∙ old
            ]
      ];
      count = omega (
        arith,
        count_unset pool key held.0 held.1,
        is.count,
        sums.0,
        length_without h key slot.entries (is.sound s).rising found,
      );
      room = omega (arith, length-set pool key nothing, is.room, sums.1);
    }
  where
    unset : (xs : PoolState) (k : ℕ) → get_or (set xs k None) k None ≡ None
    unset [] k = refl
    unset (y ∷ xs) zero = refl
    unset (y ∷ xs) (suc k) = unset xs k

    some_there : (o : Option Held) → held_in pool key ≡ o
        → owner_of o ≡ Some (s, h) → (held : Held) × (held_in pool key ≡ Some held)
    some_there None at of = absurd (no_owner s h of)
    some_there (Some held) at of = (held, at)

-- the pool holds the object of a key that is found
pub found_is_held : (slots : List SlotEntries) (pool : PoolState) (s h key : ℕ)
    → IsKeptTable slots pool → key_of h (entries_in s slots).entries ≡ Some key
    → IsSome (held_in pool key)
found_is_held slots pool s h key is found = sym (owner_there pool key)
    ∙ ap is_some (is.listed s h key found)

-- the next handle rises
pub IsKeptTable-next : (slots : List SlotEntries) (pool : PoolState) (s next : ℕ)
    → IsKeptTable slots pool → s < length slots
    → next ≤ last_handle → IsKeptTable (entries_changed s (with_next_handle next) slots) pool
IsKeptTable-next slots pool s next is lt le =
    let x = with_next_handle next (entries_in s slots) in
    let same : (t : ℕ) → (entries_in t (set slots s x)).entries ≡ (entries_in t slots).entries =
    λ t. elim (cases_eq t s) [
      | inl e ↦ ap (λ (y : SlotEntries). y.entries) (here_in slots s t x lt e)
          ∙ ap (λ (n : ℕ). (entries_in n slots).entries) (sym e)
      | inr apart ↦ ap (λ (y : SlotEntries). y.entries) (there_in slots s t x apart)
    ] in
    let sums = totals slots s x lt refl in
    record {
      few = omega (arith, length-set slots s x, is.few);
      sound = slots_sound slots
          s x lt (AreSlotEntries-next next (entries_in s slots) le (is.sound s)) is.sound;
      listed = λ t h k at. is.listed t h k (ap (key_of h) (sym (same t)) ∙ at);
      owned = λ t h k at. ap (key_of h) (same t) ∙ is.owned t h k at;
      count = omega (arith, is.count, sums.0);
      room = omega (arith, is.room, sums.1);
    }

-- the object of a key becomes another one
pub IsKeptTable-lent : (slots : List SlotEntries)
    (pool : PoolState) (key : ℕ) (held : Held) (w : AnyObject) → IsKeptTable slots pool
    → held_in pool key ≡ Some held → IsKeptTable slots (pool_with key pool w)
IsKeptTable-lent slots pool key held w is at = record {
  few = is.few;
  sound = is.sound;
  listed = λ s h k found. owners k ∙ is.listed s h k found;
  owned = λ s h k of. is.owned s h k (sym (owners k) ∙ of);
  count = ap (λ (o : Option Held).
      held_count (set pool key (option_map (λ (x : Held). with_other_held x w) o))) at
      ∙ (count_kept pool key held (with_other_held held w) at ∙ is.count);
  room = length-set pool key (option_map (λ (x : Held). with_other_held x w) (held_in pool key))
      ∙ is.room;
}
  where
    within : (xs : PoolState) (k : ℕ) → held_in xs k ≡ Some held → k < length xs
    within [] k at = absurd (none-some held at)
    within (x ∷ xs) zero at = omega arith
    within (x ∷ xs) (suc k) at = omega (arith, within xs k at)

    owners : (k : ℕ) → owner_in (pool_with key pool w) k ≡ owner_in pool k
    owners k = elim (cases_eq k key) [
      | inl same ↦
          ap (λ (n : ℕ). owner_in (pool_with key pool w) n) same
          ∙ (ap owner_of (get_or-set_same pool
          key (option_map (λ (x : Held). with_other_held x w) (held_in pool key))
          None (within pool key at) ∙ ap (option_map (λ (x : Held). with_other_held x w)) at)
          ∙ (sym (ap owner_of at) ∙ ap (owner_in pool) (sym same)))
      | inr apart ↦ ap owner_of (get_or-set_other pool
          key k (option_map (λ (x : Held). with_other_held x w) (held_in pool key)) None apart)
    ]
