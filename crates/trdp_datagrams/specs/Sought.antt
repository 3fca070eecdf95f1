-- The objects that telegrams are for: of process data, and listeners, by the comId, callers and
-- repliers by their session.
use Rattle.std.specs.Prelude.{ℕ, min, List, [], ◌∷◌, Option, Some, None, Bool, false, ◌==◌}
use Rattle.std.specs.Prelude.{◌+◌, length, if◌then◌else◌}
use Rattle.std.specs.List.{flat_map}
use Rattle.trdp_base.specs.declared.session.SessionId.{SessionId}
use Rattle.trdp_base.specs.Limits.{md_payload_limit}
use Rattle.trdp_head.specs.declared.md.MdKind.{MdKind}
use Rattle.trdp_head.specs.declared.md.MdKind.TheVariants as message
use Rattle.trdp_head.specs.declared.pd.PdHead.{PdHead}
use Rattle.trdp_head.specs.declared.pd.PdKind.{PdKind}
use Rattle.trdp_head.specs.declared.pd.PdKind.TheVariants.{PullRequest}
use Rattle.trdp_filter.specs.declared.globals.Globals.{Globals}
use Rattle.trdp_filter.specs.Telegrams.{TelegramModel, PdIs, MdIs}
use Rattle.trdp_pd.specs.Publishers.{asked_com_id}
use Rattle.trdp_md.specs.Listeners.{is_unasked}
use Rattle.trdp_model.specs.Objects.{is_addressed}
use Rattle.trdp_table.specs.Tables.{Keyed, TableState, all_objects, by_key}
use Rattle.trdp_index.specs.declared.com_row.ComRow.{ComRow}
use Rattle.trdp_index.specs.declared.session_row.Role.{Role}
use Rattle.trdp_index.specs.declared.session_row.Role.TheVariants.{Caller, Replier}
use Rattle.trdp_outbox.specs.declared.room.Room.{Room}
use Rattle.trdp_model.specs.Slots.{Entry}
use Rattle.trdp_store.specs.Indexed.{rows_from}
use Rattle.trdp_datagrams.specs.Noted.{Addressed, noted_as}

-- the comId of the objects that a header of this type may be for
abbrev pub sought_as : PdKind → PdHead → ℕ
sought_as PullRequest head = asked_com_id head
sought_as kind head = head.com_id

-- the comId of the objects that process data may be for: a pull request is for the publishers of
-- the comId that it asks for, all else for the subscriptions of its own
abbrev pub sought_by : PdHead → ℕ
sought_by head = sought_as head.kind head

-- the object of a row, if a telegram is for it
abbrev pub hit_by : TelegramModel → Globals → ComRow → Option Keyed → List Entry
hit_by telegram globals row None = []
hit_by telegram globals row (Some keyed) =
    if is_addressed keyed.object telegram globals
    then record { handle = row.handle; object = keyed.object } ∷ []
    else []

-- the object that the table has under a row's key, if a telegram is for it
abbrev pub hit : TelegramModel → Globals → TableState → ComRow → List Entry
hit telegram globals table row =
    hit_by telegram globals row (by_key row.key (all_objects table))

-- those of these rows that a telegram is for
abbrev pub hits : TelegramModel → Globals → TableState → List ComRow → List Entry
hits telegram globals table rows = flat_map (hit telegram globals table) rows

-- the same, each with its slot
abbrev pub noted_rows : TelegramModel → Globals → TableState → List ComRow → List Addressed
noted_rows telegram globals table rows =
    flat_map (λ row. noted_as row.slot (hit telegram globals table row)) rows

-- the lesser of two handles, each of which may be None
abbrev pub earlier : Option ℕ → Option ℕ → Option ℕ
earlier None b = b
earlier (Some a) None = Some a
earlier (Some a) (Some b) = Some (min a b)

-- the handle of the first of these
abbrev pub first_handle : List Entry → Option ℕ
first_handle [] = None
first_handle (entry ∷ entries) = Some entry.handle

-- the handle of a row's object, if it is of slot s and a telegram is for it
abbrev pub hit_in : TelegramModel → Globals → TableState → ℕ → ComRow → Option ℕ
hit_in telegram globals table s row =
    if row.slot == s then first_handle (hit telegram globals table row) else None

-- the least handle of those rows of slot s that a telegram is for
abbrev pub first_in : TelegramModel → Globals → TableState → ℕ → List ComRow → Option ℕ
first_in telegram globals table s [] = None
first_in telegram globals table s (row ∷ rows) =
    earlier (hit_in telegram globals table s row) (first_in telegram globals table s rows)

-- how many rows are looked at for those that hear a message
abbrev pub rows_heard : TelegramModel → TableState → ℕ
rows_heard (PdIs src dst telegram) table = 0
rows_heard (MdIs src dst telegram) table =
    length (rows_from 0 (Some telegram.head.com_id) table) + length (rows_from 0 None table)

-- the listener of slot s that hears, if one does
abbrev pub noted_listener : ℕ → Option ℕ → List Addressed
noted_listener s None = []
noted_listener s (Some handle) = record { slot = s; handle = handle } ∷ []

-- room for what it may record
abbrev pub listener_room : Option ℕ → Room
listener_room None = record { rows = 0; bytes = 0 }
listener_room (Some handle) = record { rows = 1; bytes = md_payload_limit }

-- the session of a message of this type, and the role there of an object that it is for; messages
-- that come unasked are for listeners
abbrev pub part_as : MdKind → SessionId → Option (SessionId × Role)
part_as message.Notify session = None
part_as message.Request session = None
part_as message.Reply session = Some (session, Caller)
part_as message.Query session = Some (session, Caller)
part_as message.Confirm session = Some (session, Replier)
part_as message.Error session = Some (session, Caller)

-- the same of a telegram; no object is in a session of process data
abbrev pub part_of : TelegramModel → Option (SessionId × Role)
part_of (PdIs src dst telegram) = None
part_of (MdIs src dst telegram) = part_as telegram.head.kind telegram.head.session

-- the telegram is a notification or a request: these are for listeners alone
abbrev pub comes_unasked : TelegramModel → Bool
comes_unasked (PdIs src dst telegram) = false
comes_unasked (MdIs src dst telegram) = is_unasked telegram.head.kind
