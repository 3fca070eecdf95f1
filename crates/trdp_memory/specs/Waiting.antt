-- The datagrams that wait at sockets in memory.
use Rattle.std.specs.Prelude.{◌==◌, ℕ, Bool, List, Option, Some, None, map, remove, take}
use Rattle.std.specs.List.{find, position}
use Rattle.trdp_base.specs.declared.place.Place.{Place}
use Rattle.trdp_wire.specs.Told.{Arrived, Nothing, Came}

-- a datagram that waits at a socket: the number of the socket, where it comes from, and its bytes
pub record WaitingDatagram : Type 0 where
  pub socket : ℕ
  pub from : Place
  pub bytes : List ℕ

-- it waits at this socket
abbrev pub is_at : ℕ → WaitingDatagram → Bool
is_at socket datagram = datagram.socket == socket

-- a datagram, cut to a room of that many bytes
abbrev pub cut_datagram : ℕ → Option WaitingDatagram → Arrived
cut_datagram room None = Nothing
cut_datagram room (Some datagram) = Came datagram.from (take room datagram.bytes)

-- what a take at a socket finds of these datagrams, with room for that many bytes: the first that
-- waits there
abbrev pub next_at : List WaitingDatagram → ℕ → ℕ → Arrived
next_at waiting socket room = cut_datagram room (find (is_at socket) waiting)

-- these without the one of that index, if there is one
abbrev pub without_index : List WaitingDatagram → Option ℕ → List WaitingDatagram
without_index waiting None = waiting
without_index waiting (Some index) = remove waiting index

-- what waits after a take at a socket: all but what it finds
abbrev pub without_next : List WaitingDatagram → ℕ → List WaitingDatagram
without_next waiting socket = without_index waiting (position (is_at socket) waiting)

-- the sockets at which these wait, in order
abbrev pub sockets_in : List WaitingDatagram → List ℕ
sockets_in waiting = map (λ datagram. datagram.socket) waiting
