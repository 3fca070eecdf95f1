-- Room for several objects.
-- For lemmas of crates above, on rooms of objects that are due or noted.
-- By definition: a room's records and bytes are sums over the objects.
use Rattle.std.specs.Prelude.{ℕ}
use Rattle.trdp_model.specs.Kinds.{kind_of}
use Rattle.trdp_model.specs.Slots.{Entry}
use Rattle.trdp_outbox.specs.Rooms.{kind_room}

abbrev pub entry_rows : Entry → ℕ
entry_rows entry = (kind_room (kind_of entry.object)).rows

abbrev pub entry_bytes : Entry → ℕ
entry_bytes entry = (kind_room (kind_of entry.object)).bytes
