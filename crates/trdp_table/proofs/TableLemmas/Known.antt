-- What a caller knows of a table, and what an empty one is.
-- For `Table::new`, `opened` and `sound`, and for those that find and lend.
-- By: a slot that the caller sees is one of the table's own, read through `TableLemmas.Seen`.
use Rattle.std.proofs.Common.{◌≡◌, inl, inr, ℕ, zero, suc, ◌+◌, ◌<◌, ◌≤◌}
use Rattle.std.proofs.Common.{is_some, IsSome, All, take, List, [], ◌∷◌, ◌++◌, length, map, get_or}
use Rattle.std.proofs.Common.{sum_by, cond, Option, Some, None, refl, ◌∙◌, sym, ap, subst, arith}
use Rattle.std.specs.Prelude.{replicate}
use Rattle.std.proofs.lemmas.List.{take_more, map-append, get_or_past, length-map}
use Rattle.std.proofs.lemmas.List.Elements.{All-get_or}
use Rattle.std.proofs.lemmas.List.Sums.{sum_by-cons}
use Rattle.std.proofs.lemmas.Bool.{cases_lt, false≢true}
use Rattle.std.proofs.lemmas.Option.{none-some}
use Rattle.std.proofs.Math.ListN.{get_or-map}
use Rattle.trdp_model.specs.declared.any_object.AnyObject.{AnyObject}
use Rattle.trdp_table.specs.declared.held.Held.{Held}
use Rattle.trdp_model.specs.declared.kind.Kind.{Kind}
use Rattle.trdp_table.specs.Tables.{SlotTable, TableState, opened_slot, slot_in}
use Rattle.trdp_model.specs.Slots.{slot_limit}
use Rattle.trdp_table.specs.Tables.{all_quotas, room_of, all_objects, refusal, exchanged}
use Rattle.trdp_table.specs.TableLaws.{AreLimited}
use Rattle.trdp_table.specs.Entries.{SlotEntries, opened_entries, entries_in}
use Rattle.trdp_table.specs.Entries.{key_of, refusal_of, AreSlotEntries}
use Rattle.trdp_table.specs.Pools.{PoolState, held_in, held_count, pool_with}
use Rattle.trdp_table.specs.TableKept.{slot_seen, table_seen, IsKeptTable}
use Rattle.trdp_table.proofs.SlotLemmas.Kept.{AreSlotEntries-opened, within_quotas}
use Rattle.trdp_table.proofs.PoolLemmas.Places.{no_held}
use Rattle.trdp_table.proofs.TableLemmas.Seen.{unowned, slot_in_seen, room_seen}
use Rattle.trdp_table.proofs.TableLemmas.Seen.{length_seen, refusal_seen, lent_seen}
use Rattle.trdp_table.proofs.TableLemmas.Found.{nothing}
use Rattle.trdp_table.proofs.TableLemmas.Kept.{all_within, pool_room, IsKeptTable-lent}

-- What a caller knows of the table, said of what it is made of.

pub within_slots : (slots : List SlotEntries) (pool : PoolState) (now : TableState) (s : ℕ)
    → table_seen pool slots ≡ now → s < length now → s < length slots
within_slots slots pool now s is lt =
    omega (arith, lt, ap length is, length-map slots (slot_seen pool))

pub granted : (slots : List SlotEntries) (pool : PoolState) (now : TableState) (s : ℕ) (kind : Kind)
    → table_seen pool slots ≡ now → refusal (slot_in s now) kind ≡ None
    → refusal_of (entries_in s slots) kind ≡ None
granted slots pool now s kind is none =
    sym (refusal_seen pool (entries_in s slots) kind)
    ∙ (ap (λ (slot : SlotTable). refusal slot kind) (sym (slot_in_seen pool slots s))
    ∙ (ap (λ (table : TableState). refusal (slot_in s table) kind) is ∙ none))

-- the room is for all objects
pub table_room : (slots : List SlotEntries) (pool : PoolState) → IsKeptTable slots pool
    → length (all_objects (table_seen pool slots)) ≤ room_of (table_seen pool slots)
table_room slots pool is =
    let all = all_within slots (λ t. within_quotas (entries_in t slots) (is.sound t)) in
    omega (arith, all, length_seen pool slots, room_seen pool slots)

-- while a slot takes an object, the room is for one more
pub table_spare : (slots : List SlotEntries) (pool : PoolState)
    → IsKeptTable slots pool → (s : ℕ) (kind : Kind)
    → s < length (table_seen pool slots) → refusal (slot_in s (table_seen pool slots)) kind ≡ None
    → length (all_objects (table_seen pool slots)) < room_of (table_seen pool slots)
table_spare slots pool is s kind lt none =
    let within = within_slots slots pool (table_seen pool slots) s refl lt in
    let takes = granted slots pool (table_seen pool slots) s kind refl none in
    let less = pool_room slots pool s kind is within takes in
    omega (arith, less, is.count, is.room, length_seen pool slots, room_seen pool slots)

pub some_lent : (slots : List SlotEntries) (pool : PoolState) (key : ℕ) → IsKeptTable slots pool
    → IsSome (held_in pool key) → (w : AnyObject) → IsKeptTable slots (pool_with key pool w)
    × (table_seen (pool_with key pool w) slots ≡ exchanged key (table_seen pool slots) w)
some_lent slots pool key is some w = either (held_in pool key) refl some
  where
    within : (xs : PoolState) (k : ℕ) → IsSome (held_in xs k) → k < length xs
    within [] k there = absurd (false≢true there)
    within (x ∷ xs) zero there = omega arith
    within (x ∷ xs) (suc k) there = omega (arith, within xs k there)

    either : (o : Option Held) → held_in pool key ≡ o
        → IsSome o → IsKeptTable slots (pool_with key pool w)
        × (table_seen (pool_with key pool w) slots ≡ exchanged key (table_seen pool slots) w)
    either None at there = absurd (false≢true there)
    either (Some held) at there = (
      IsKeptTable-lent slots pool key held w is at,
      lent_seen pool key held w slots at (within pool key some),
    )

-- An empty table.

pub opened_seen : (pool : PoolState) (quotas : List (List ℕ))
    → table_seen pool (map opened_entries quotas) ≡ map opened_slot quotas
opened_seen pool [] = refl
opened_seen pool (q ∷ qs) = ap (λ (r : TableState). opened_slot q ∷ r) (opened_seen pool qs)

pub opened_kept : (quotas : List (List ℕ)) → length quotas ≤ slot_limit → All AreLimited quotas
    → IsKeptTable (map opened_entries quotas) (replicate (sum_by all_quotas quotas) None)
opened_kept quotas le limited = record {
  few = omega (arith, length-map quotas opened_entries, le);
  sound = λ s. subst (λ (slot : SlotEntries). AreSlotEntries slot)
      (sym (opened_at s)) (AreSlotEntries-opened (get_or quotas s []) (limits s));
  listed = λ s h k at.
      absurd (none-some k (sym (ap (λ (y : SlotEntries). key_of h y.entries) (opened_at s)) ∙ at));
  owned = λ s h k of. absurd (unowned (replicate (sum_by all_quotas quotas) None)
      k s h (no_held (sum_by all_quotas quotas) k) of);
  count = none_count (sum_by all_quotas quotas) ∙ sym (no_entries quotas);
  room = all_room (sum_by all_quotas quotas) ∙ sym (same_room quotas);
}
  where
    opened_at : (s : ℕ)
        → entries_in s (map opened_entries quotas) ≡ opened_entries (get_or quotas s [])
    opened_at s = get_or-map opened_entries quotas s []

    none_limited : AreLimited []
    none_limited kind = omega arith

    limits : (s : ℕ) → AreLimited (get_or quotas s [])
    limits s = elim (cases_lt s (length quotas)) [
      | inl lt ↦ All-get_or AreLimited quotas s [] lt limited
      | inr past ↦
          subst (λ (q : List ℕ). AreLimited q) (sym (get_or_past quotas s [] past)) none_limited
    ]

    none_count : (n : ℕ) → held_count (replicate n None) ≡ 0
    none_count zero = refl
    none_count (suc n) = omega (
      arith,
      sum_by-cons
          (λ (o : Option Held). cond {A = ℕ} (is_some o) 1 0) None (replicate n None),
      none_count n,
    )

    no_entries : (qs : List (List ℕ))
        → sum_by (λ (slot : SlotEntries). length slot.entries) (map opened_entries qs) ≡ 0
    no_entries [] = refl
    no_entries (q ∷ qs) = omega (
      arith,
      sum_by-cons (λ (slot : SlotEntries). length slot.entries)
          (opened_entries q) (map opened_entries qs),
      no_entries qs,
    )

    all_room : (n : ℕ) → length (replicate n nothing) ≡ n
    all_room zero = refl
    all_room (suc n) = omega (arith, all_room n)

    same_room : (qs : List (List ℕ)) → sum_by (λ (slot : SlotEntries). all_quotas slot.quotas)
        (map opened_entries qs) ≡ sum_by all_quotas qs
    same_room [] = refl
    same_room (q ∷ qs) = sum_by-cons (λ (slot : SlotEntries). all_quotas slot.quotas)
        (opened_entries q) (map opened_entries qs)
        ∙ (ap (λ n. all_quotas q + n) (same_room qs) ∙ sym (sum_by-cons all_quotas q qs))

-- one slot more is opened
pub opened_more : (quotas : List (List ℕ)) (i : ℕ) (q : List ℕ) → i < length quotas
    → q ≡ get_or quotas i q → map opened_entries (take i quotas) ++ opened_entries q ∷ []
    ≡ map opened_entries (take (i + 1) quotas)
opened_more quotas i q lt is =
    sym (ap (λ (qs : List (List ℕ)). map opened_entries qs)
    (take_more quotas i q lt ∙ ap (λ (x : List ℕ). take i quotas ++ x ∷ []) (sym is))
    ∙ map-append opened_entries (take i quotas) (q ∷ []))
