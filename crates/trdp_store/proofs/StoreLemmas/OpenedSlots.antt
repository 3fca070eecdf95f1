-- A slot that the table opens, without keys.
-- For `Node::step_add_slot` above.
-- By definition: an empty slot after the others.
use Rattle.std.proofs.Common.{◌≡◌, ℕ, List, [], ◌∷◌, ◌++◌}
use Rattle.std.proofs.lemmas.List.{map-append}
use Rattle.trdp_table.specs.Tables.{TableState, opened_slot as opened_entry}
use Rattle.trdp_model.specs.Slots.{empty_slot}
use Rattle.trdp_store.specs.TableSlots.{slot_of, slots_of}

-- the slots of a table with one more
pub slots_opened : (table : TableState) (quotas : List ℕ)
    → slots_of (table ++ opened_entry quotas ∷ []) ≡ slots_of table ++ empty_slot quotas ∷ []
slots_opened table quotas = map-append slot_of table (opened_entry quotas ∷ [])
