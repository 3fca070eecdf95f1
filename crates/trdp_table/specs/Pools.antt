-- The pool: the objects of all slots, each under a key of its own, which is below the pool's room.
--
-- The slab that holds them picks places as it likes. So the pool has a list from its keys to those
-- places, and a list of the keys that are free.
use Rattle.std.specs.Prelude.{◌≡◌, ◌+◌, ◌<◌, ◌≤◌, ℕ, List, length}
use Rattle.std.specs.Prelude.{Option, Some, None, is_some, IsSome}
use Rattle.std.specs.Prelude.{count_by, slice_get, slice_index_or, slice_set, option_map}
use Rattle.slab.specs.Slab.{Slab, get, slab_len}
use Rattle.trdp_model.specs.declared.any_object.AnyObject.{AnyObject}
use Rattle.trdp_table.specs.declared.held.Held.{Held}

-- what is held under each key from 0 on
abbrev pub PoolState : Type 0
PoolState = List (Option Held)

-- what is held under a key
abbrev pub held_in : PoolState → ℕ → Option Held
held_in pool key = slice_index_or pool key None

-- the slot and the handle of what is held
abbrev pub owner_of : Option Held → Option (ℕ × ℕ)
owner_of held = option_map (λ held. (held.slot, held.handle)) held

-- the slot and the handle of the object of a key
abbrev pub owner_in : PoolState → ℕ → Option (ℕ × ℕ)
owner_in pool key = owner_of (held_in pool key)

-- the object is another one, under the same slot and handle
abbrev pub with_other_held : Held → AnyObject → Held
with_other_held held object = record held { object = object }

-- the object of a key, if it has one, is another one
abbrev pub pool_with : ℕ → PoolState → AnyObject → PoolState
pool_with key pool object =
    slice_set pool key (option_map (λ held. with_other_held held object) (held_in pool key))

-- how many objects are held
abbrev pub held_count : PoolState → ℕ
held_count pool = count_by is_some pool

-- what the slab has at the place of a key
abbrev pub placed : Slab Held → Option ℕ → Option Held
placed slab None = None
placed slab (Some place) = get slab place

-- each key has a place of its own in the slab, or is free and is once in the list of free keys;
-- there is room for an object under each key, and for each key in the list
pub record IsKeptPool (slab : Slab Held) (places : List (Option ℕ)) (free : List ℕ) (capacity : ℕ)
    : Type 0 where
  pub filled : (key place : ℕ) → slice_index_or places key None ≡ Some place
      → IsSome (get slab place)
  pub apart : (a b place : ℕ) → slice_index_or places a None ≡ Some place
      → slice_index_or places b None ≡ Some place → a ≡ b
  pub vacant : (i key : ℕ) → slice_get free i ≡ Some key
      → (key < length places) × (slice_index_or places key None ≡ None)
  pub once : (i j key : ℕ) → slice_get free i ≡ Some key → slice_get free j ≡ Some key → i ≡ j
  pub count : slab_len slab ≡ count_by is_some places
  pub all : count_by is_some places + length free ≡ length places
  pub room : length places ≤ slab.capacity
  pub reserved : length places ≤ capacity
