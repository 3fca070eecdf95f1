-- The objects that act at a telegram, noted by slot and handle.
use Rattle.std.specs.Prelude.{ℕ, ◌+◌, List, [], ◌∷◌, ◌++◌, map}
use Rattle.trdp_filter.specs.declared.globals.Globals.{Globals}
use Rattle.trdp_filter.specs.Telegrams.{TelegramModel}
use Rattle.trdp_model.specs.Slots.{Entry, SlotState}
use Rattle.trdp_model.specs.Datagrams.{acting}

-- an object that will act, by its slot and its handle there
pub record Addressed : Type 0 where
  pub slot : ℕ
  pub handle : ℕ

-- these objects of slot s
abbrev pub noted_as : ℕ → List Entry → List Addressed
noted_as s entries =
    map
    (λ entry. let a : Addressed = record { slot = s; handle = entry.handle } in a)
    entries

-- the objects that act at a telegram, of all slots from number s on
abbrev pub noted_from : ℕ → TelegramModel → Globals → List SlotState → List Addressed
noted_from s telegram globals [] = []
noted_from s telegram globals (slot ∷ slots) =
    noted_as s (acting telegram globals slot.objects)
    ++ noted_from (s + 1) telegram globals slots
