-- What a take at sockets in memory finds.
-- For `MemorySockets::next_at`.
-- By: the first datagram at that socket is where the search ends.
use Rattle.std.proofs.Common.{◌≡◌, ℕ, List, Some, None, sym, ◌∙◌, ap, take}
use Rattle.std.specs.Prelude.{slice_get}
use Rattle.std.specs.List.{position}
use Rattle.trdp_memory.specs.Waiting.{WaitingDatagram, cut_datagram, is_at, next_at}
use Rattle.trdp_wire.specs.Told.{Nothing, Came}
use Rattle.trdp_memory.proofs.FirstLemmas.{found_none, found_some}

pub next_none : (waiting : List WaitingDatagram) (socket room : ℕ)
    → position (is_at socket) waiting ≡ None → Nothing ≡ next_at waiting socket room
next_none waiting socket room none =
    ap (cut_datagram room) (sym (found_none (is_at socket) waiting none))

pub next_some : (waiting : List WaitingDatagram) (socket room i : ℕ)
    (datagram : WaitingDatagram) (bytes : List ℕ) → position (is_at socket) waiting ≡ Some i
    → slice_get waiting i ≡ Some datagram → bytes ≡ take room datagram.bytes
    → Came datagram.from bytes ≡ next_at waiting socket room
next_some waiting socket room i datagram bytes at is cut =
    ap (Came datagram.from) cut ∙ ap (cut_datagram room) (sym is)
    ∙ ap (cut_datagram room) (sym (found_some (is_at socket) waiting i at))
