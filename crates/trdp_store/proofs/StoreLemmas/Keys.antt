-- What a store's law says of its keys.
-- For `DueLemmas`, and for what the node above finds by rows and by sessions.
-- By definition alone.
use Rattle.std.proofs.Common.{◌≡◌, ℕ}
use Rattle.std.proofs.Common.{Some}
use Rattle.std.specs.Prelude.{slice_get}
use Rattle.trdp_table.specs.Tables.{Keyed, TableState, slot_in, all_objects, by_handle, by_key}

-- what a store's law says of its keys
pub record KeysTell (table : TableState) : Type 0 where
  pub found : (s handle : ℕ) (keyed : Keyed) → by_handle handle (slot_in s table).objects
      ≡ Some keyed → by_key keyed.key (all_objects table) ≡ Some keyed
  pub listed : (s index : ℕ) (keyed : Keyed) → slice_get (slot_in s table).objects index
      ≡ Some keyed → by_handle keyed.handle (slot_in s table).objects ≡ Some keyed
