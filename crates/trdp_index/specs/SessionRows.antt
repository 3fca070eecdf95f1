-- Rows of objects by session.
use Rattle.std.specs.Prelude.{ℕ, List, Option, option_map}
use Rattle.trdp_base.specs.declared.session.SessionId.{SessionId}
use Rattle.trdp_index.specs.declared.rank.Rank.{Rank}
use Rattle.trdp_index.specs.declared.session_row.Role.{Role}
use Rattle.trdp_index.specs.declared.session_row.Role.TheVariants.{Caller, Replier}
use Rattle.trdp_index.specs.declared.session_row.SessionRow.{SessionRow}
use Rattle.trdp_index.specs.Rows.{row_of}

-- the number of a role in the order of rows
abbrev pub role_number : Role → ℕ
role_number Caller = 0
role_number Replier = 1

-- the rank of the row of a session, a slot and a role
abbrev pub session_rank : SessionId → ℕ → Role → Rank
session_rank session slot role =
    record { first = session.0; slot = slot; last = role_number role }

-- the rank of a row
abbrev pub session_row_rank : SessionRow → Rank
session_row_rank row = session_rank row.session row.slot row.role

-- a row of a session, a slot, a role and a key
abbrev pub session_row : SessionId → ℕ → Role → ℕ → SessionRow
session_row session slot role key =
    record { session = session; slot = slot; role = role; key = key }

-- the key of a slot's object that is open for a session in a role
abbrev pub session_key : SessionId → ℕ → Role → List SessionRow → Option ℕ
session_key session slot role rows =
    option_map (λ row. row.key) (row_of session_row_rank (session_rank session slot role) rows)
