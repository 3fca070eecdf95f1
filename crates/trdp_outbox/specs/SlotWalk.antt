-- A walk over records slot by slot: which record comes next, and which are left.
use Rattle.std.specs.Prelude.{◌≡◌, ◌≢◌, ◌<◌, ◌++◌, ◌∷◌, ◌-◌, ℕ, suc, List, [], drop, slice_get}
use Rattle.std.specs.Prelude.{Bool, true, false, Option, Some, None}
use Rattle.trdp_model.specs.Records.{RecordModel}
use Rattle.trdp_outbox.specs.SlotOrder.{slots_end, slots_from, slots_own}

-- the records of all slots above, slots rising, each slot's in their order
abbrev pub slots_above : ℕ → List RecordModel → List RecordModel
slots_above s records = slots_from (suc s) (slots_end records - suc s) records

-- t is the least slot above s that has a record
pub record IsNextSlot (s t : ℕ) (records : List RecordModel) : Type 0 where
  pub above : s < t
  pub least : (u : ℕ) → s < u → u < t → slots_own u records ≡ []
  pub some : slots_own t records ≢ []

-- the least slot above that has a record, if one has
-- rule: out.order
abbrev pub NextSlotIs : ℕ → List RecordModel → Option ℕ → Type 0
NextSlotIs s records None = (t : ℕ) → s < t → slots_own t records ≡ []
NextSlotIs s records (Some t) = IsNextSlot s t records

-- the records from an index on that are still to come: all of them, or those of a slot, and then
-- the records of all slots above
unfoldable pub left_of : Bool → ℕ → ℕ → List RecordModel → List RecordModel
left_of true s at records = drop at records
left_of false s at records = slots_own s (drop at records) ++ slots_above s records

-- the record at that index comes next, and those then are left
pub record IsNext (i : ℕ) (left left_then records : List RecordModel) : Type 0 where
  pub r : RecordModel
  pub here : slice_get records i ≡ Some r
  pub first : left ≡ r ∷ left_then
