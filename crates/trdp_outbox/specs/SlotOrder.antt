-- Records slot by slot.
use Rattle.std.specs.Prelude.{◌++◌, ◌∷◌, ◌==◌, ℕ, zero, suc, List, [], filter, max}
use Rattle.trdp_model.specs.Records.{RecordModel}

-- the records of slot s, in their order
abbrev pub slots_own : ℕ → List RecordModel → List RecordModel
slots_own s records = filter (λ r. r.slot == s) records

-- the records of n slots from slot s on, slots rising, each slot's in their order
unfoldable pub slots_from : ℕ → ℕ → List RecordModel → List RecordModel
slots_from s zero records = []
slots_from s (suc n) records = slots_own s records ++ slots_from (suc s) n records

-- a number above that of each slot which has a record
abbrev pub slots_end : List RecordModel → ℕ
slots_end [] = 0
slots_end (r ∷ records) = max (suc r.slot) (slots_end records)

-- all records slot by slot, slots rising, each slot's in their order
unfoldable pub by_slot : List RecordModel → List RecordModel
by_slot records = slots_from 0 (slots_end records) records
