-- What a wire in memory remembers of its takes and gives.
use Rattle.std.specs.Prelude.{ℕ, ◌+◌, ◌<◌, List, [], ◌∷◌, take, drop, slice_get}
use Rattle.trdp_memory.specs.declared.rows.TakeRow.{TakeRow}
use Rattle.trdp_memory.specs.declared.rows.TakeAnswer.{TakeAnswer}
use Rattle.trdp_memory.specs.declared.rows.TakeAnswer.TheVariants.{Failed as RowFailed}
use Rattle.trdp_memory.specs.declared.rows.TakeAnswer.TheVariants.{Nothing as RowNothing}
use Rattle.trdp_memory.specs.declared.rows.TakeAnswer.TheVariants.{Came as RowCame}
use Rattle.trdp_memory.specs.declared.rows.GiveRow.{GiveRow}
use Rattle.trdp_memory.specs.MemoryWires.{ArrivalModel, cut_to}
use Rattle.trdp_wire.specs.Told.{Arrived, Failed, Nothing, Taking, Give, offer_to}
use Rattle.trdp_wire.specs.Told.{taking_at}

-- what a take answered, where these were laid down
abbrev pub arrived_of : List ArrivalModel → TakeAnswer → Arrived
arrived_of arrivals RowFailed = Failed
arrived_of arrivals RowNothing = Nothing
arrived_of arrivals (RowCame index len) = cut_to len (slice_get arrivals index)

-- the taking of a row
abbrev pub row_taking : List ArrivalModel → TakeRow → Taking
row_taking arrivals row =
    taking_at row.port row.room (λ place. row.ended) (arrived_of arrivals row.answer)

-- what a take answered is one of n things that were laid down, if it is one
abbrev pub IsLaidDown : ℕ → TakeAnswer → Type 0
IsLaidDown n RowFailed = Unit {0}
IsLaidDown n RowNothing = Unit {0}
IsLaidDown n (RowCame index len) = index < n

-- the same of each row
abbrev pub AreLaidDown : ℕ → List TakeRow → Type 0
AreLaidDown n [] = Unit {0}
AreLaidDown n (row ∷ rows) = IsLaidDown n row.answer × AreLaidDown n rows

-- the give of a row with these bytes
abbrev pub row_give : GiveRow → List ℕ → Give
row_give row bytes = record { offer = offer_to row.port row.to bytes; failed = row.failed }

-- the gives of rows whose bytes are joined in order
abbrev pub gives_of : List ℕ → List GiveRow → List Give
gives_of bytes [] = []
gives_of bytes (row ∷ rows) =
    row_give row (take row.len bytes) ∷ gives_of (drop row.len bytes) rows

-- how many bytes rows have
abbrev pub bytes_in : List GiveRow → ℕ
bytes_in [] = 0
bytes_in (row ∷ rows) = row.len + bytes_in rows
