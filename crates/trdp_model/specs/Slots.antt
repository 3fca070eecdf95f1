-- An application slot.
use Rattle.std.specs.Prelude.{ℕ, ◌+◌, List, [], ◌∷◌, ◌++◌, find, count_by, Option, ◌==◌}
use Rattle.trdp_model.specs.declared.any_object.AnyObject.{AnyObject}
use Rattle.trdp_model.specs.declared.kind.Kind.{Kind}
use Rattle.trdp_model.specs.Kinds.{kind_of, is_same_kind}
use Rattle.trdp_model.specs.Records.{Content}

-- the most slots of a node
-- rule: slot.limit
abbrev pub slot_limit : ℕ
slot_limit = 16

-- an object under its handle
pub record Entry : Type 0 where
  pub handle : ℕ
  pub object : AnyObject

-- the object under that handle
abbrev pub entry_at : ℕ → AnyObject → Entry
entry_at handle object = record { handle = handle; object = object }

-- an application slot: a quota for each kind of object, the next handle, and its objects by
-- rising handle
pub record SlotState : Type 0 where
  pub quotas : List ℕ
  pub next : ℕ
  pub objects : List Entry

-- a slot after an event, and the records that it gets
pub record Outcome : Type 0 where
  pub slot : SlotState
  pub records : List Content

-- a slot that an event leaves as it is, without a record
abbrev pub unchanged : SlotState → Outcome
unchanged slot = record { slot = slot; records = [] }

-- an empty slot, whose first handle will be 1
abbrev pub empty_slot : List ℕ → SlotState
empty_slot quotas = record { quotas = quotas; next = 1; objects = [] }

-- a slot that is reset: it has no objects, and its next handle stays
-- rule: slot.reset
abbrev pub emptied : SlotState → SlotState
emptied slot = record slot { objects = [] }

-- how many objects are of a kind, and so count for its quota
abbrev pub kind_count : Kind → List Entry → ℕ
kind_count kind objects = count_by (λ entry. is_same_kind (kind_of entry.object) kind) objects

-- the object of a handle
abbrev pub entry_under : ℕ → List Entry → Option Entry
entry_under handle objects = find (λ entry. entry.handle == handle) objects

-- a new object gets the next handle and comes last
-- rule: slot.handle
abbrev pub with_new_object : SlotState → AnyObject → SlotState
with_new_object slot object =
    record slot {
      next = slot.next + 1;
      objects = slot.objects ++ record { handle = slot.next; object = object } ∷ [];
    }
