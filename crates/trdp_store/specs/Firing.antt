-- Words of the loop that fires what is due: the object that comes next.
use Rattle.std.specs.Prelude.{◌≡◌, ℕ, ◌<◌, ◌++◌, List, [], ◌∷◌, length, Option, Some, None, true}
use Rattle.std.specs.Prelude.{filter, option_map, slice_get}
use Rattle.trdp_table.specs.Tables.{TableState}
use Rattle.trdp_model.specs.Slots.{Entry}
use Rattle.trdp_model.specs.Moments.{is_due, fires_before, in_order}
use Rattle.trdp_store.specs.declared.sought.Sought.{Sought}
use Rattle.trdp_store.specs.Acting.{slot_at}

-- it fires before all of these
abbrev pub FiresBeforeAll : Entry → List Entry → Type 0
FiresBeforeAll entry [] = Unit {0}
FiresBeforeAll entry (other ∷ others) = (fires_before entry other ≡ true)
    × FiresBeforeAll entry others

-- the object fires first of all that are due
pub record FiresFirst (t : ℕ) (objects : List Entry) (entry : Entry) : Type 0 where
  pub before : List Entry
  pub after : List Entry
  pub split : objects ≡ before ++ entry ∷ after
  pub due : is_due t entry ≡ true
  pub first_before : FiresBeforeAll entry (filter (is_due t) before)
  pub first_after : FiresBeforeAll entry (filter (is_due t) after)

-- the object of the handle fires next of those that are due
abbrev pub FiresNext : ℕ → List Entry → ℕ → Type 0
FiresNext t objects handle =
    Some handle
    ≡ option_map (λ entry. entry.handle) (slice_get (in_order (filter (is_due t) objects)) 0)

-- nothing is due by t, or the object that is sought fires next of those of its slot
abbrev pub ComesNext : ℕ → TableState → Option Sought → Type 0
ComesNext t table None = (s : ℕ) → filter (is_due t) (slot_at s table).objects ≡ []
ComesNext t table (Some sought) =
    (sought.slot < length table)
    × FiresNext t (slot_at sought.slot table).objects sought.handle
