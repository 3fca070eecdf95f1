-- What a slot keeps beside its entries: their numbers by kind, and room for all that its quotas
-- allow.
use Rattle.std.specs.Prelude.{◌≡◌, ℕ, ◌<◌, ◌≤◌, List, length, slice_index, slice_get}
use Rattle.trdp_table.specs.declared.entry.Entry.{Entry}
use Rattle.trdp_model.specs.declared.kind.Kind.{Kind}
use Rattle.trdp_model.specs.Kinds.{kind_index}
use Rattle.trdp_table.specs.Tables.{all_quotas}
use Rattle.trdp_table.specs.Entries.{SlotEntries, AreSlotEntries, entries_of, entry_of}

-- the numbers by kind are those of the slot's entries, and the list has room for all
pub record IsKeptSlot (slot : SlotEntries) (numbers : List ℕ) (capacity : ℕ) : Type 0 where
  pub sound : AreSlotEntries slot
  pub counted : (kind : Kind) → slice_index numbers (kind_index kind) ≡ entries_of kind slot.entries
  pub room : all_quotas slot.quotas ≤ capacity

-- the index in the list of the entry of a handle
pub record IsIndexOfHandle (handle : ℕ) (entries : List Entry) (i : ℕ) : Type 0 where
  pub within : i < length entries
  pub found : slice_get entries i ≡ entry_of handle entries
