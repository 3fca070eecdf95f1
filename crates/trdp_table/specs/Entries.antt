-- A slot's list: handles, kinds and keys, without the objects, which are in the pool.
use Rattle.std.specs.Prelude.{ℕ, ◌+◌, ◌<◌, ◌≤◌, max, List, [], ◌∷◌, ◌++◌, find, filter, count_by}
use Rattle.std.specs.Prelude.{slice_index, slice_index_or, slice_set}
use Rattle.std.specs.Prelude.{Option, Some, None, option_map}
use Rattle.std.specs.Prelude.{◌==◌, nat_le, nat_lt, not, if◌then◌else◌}
use Rattle.trdp_table.specs.declared.entry.Entry.{Entry}
use Rattle.trdp_model.specs.declared.kind.Kind.{Kind}
use Rattle.trdp_table.specs.declared.fault.TableFault.{TableFault}
use Rattle.trdp_table.specs.declared.fault.TableFault.TheVariants.{Quota, Exhausted}
use Rattle.trdp_model.specs.Kinds.{kind_index, is_same_kind}
use Rattle.trdp_table.specs.Tables.{last_handle}
use Rattle.trdp_table.specs.TableLaws.{AreLimited}

-- a slot: a quota for each kind of object, the next handle, and its entries by rising handle
pub record SlotEntries : Type 0 where
  pub quotas : List ℕ
  pub next : ℕ
  pub entries : List Entry

-- an empty slot, whose first handle will be 1
-- rule: slot.share
abbrev pub opened_entries : List ℕ → SlotEntries
opened_entries quotas = record { quotas = quotas; next = 1; entries = [] }

-- the slot of a number; where there is none, an empty one without quotas
abbrev pub entries_in : ℕ → List SlotEntries → SlotEntries
entries_in s slots = slice_index_or slots s (opened_entries [])

-- the entry of a handle
abbrev pub entry_of : ℕ → List Entry → Option Entry
entry_of handle entries = find (λ entry. entry.handle == handle) entries

-- the key of a handle
abbrev pub key_of : ℕ → List Entry → Option ℕ
key_of handle entries = option_map (λ entry. entry.key) (entry_of handle entries)

-- how many entries count for the quota of a kind
abbrev pub entries_of : Kind → List Entry → ℕ
entries_of kind entries = count_by (λ entry. is_same_kind entry.kind kind) entries

-- why a slot takes no further object of a kind
abbrev pub refusal_of : SlotEntries → Kind → Option TableFault
refusal_of slot kind =
    if nat_le (slice_index slot.quotas (kind_index kind)) (entries_of kind slot.entries)
    then Some Quota
    else if nat_lt last_handle slot.next then Some Exhausted else None

-- the entry of a new object
abbrev pub new_entry : ℕ → Kind → ℕ → Entry
new_entry handle kind key = record { handle = handle; kind = kind; key = key }

-- a slot with one more entry, the last, under the next handle
abbrev pub with_entry : Kind → ℕ → SlotEntries → SlotEntries
with_entry kind key slot =
    record slot {
      next = slot.next + 1;
      entries = slot.entries ++ new_entry slot.next kind key ∷ [];
    }

-- a slot without the entry of a handle
abbrev pub without_entry : ℕ → SlotEntries → SlotEntries
without_entry handle slot =
    record slot { entries = filter (λ entry. not (entry.handle == handle)) slot.entries }

-- a slot whose next handle is at least this
abbrev pub with_next_handle : ℕ → SlotEntries → SlotEntries
with_next_handle next slot = record slot { next = max slot.next next }

-- the slots with one of them changed
abbrev pub entries_changed : ℕ → (SlotEntries → SlotEntries) → List SlotEntries → List SlotEntries
entries_changed s change slots = slice_set slots s (change (entries_in s slots))

-- each handle is above h
abbrev pub AreAbove : ℕ → List Entry → Type 0
AreAbove h [] = Unit {0}
AreAbove h (entry ∷ others) = (h < entry.handle) × AreAbove h others

-- each handle is below h
abbrev pub AreBelow : ℕ → List Entry → Type 0
AreBelow h [] = Unit {0}
AreBelow h (entry ∷ others) = (entry.handle < h) × AreBelow h others

-- the handles rise
abbrev pub AreRising : List Entry → Type 0
AreRising [] = Unit {0}
AreRising (entry ∷ others) = AreAbove entry.handle others × AreRising others

-- a slot's handles rise and are below the next one, and its entries are within its quotas
pub record AreSlotEntries (slot : SlotEntries) : Type 0 where
  pub handles : slot.next ≤ 4294967296
  pub rising : AreRising slot.entries
  pub below : AreBelow slot.next slot.entries
  pub limited : AreLimited slot.quotas
  pub full : (kind : Kind)
      → entries_of kind slot.entries ≤ slice_index slot.quotas (kind_index kind)
