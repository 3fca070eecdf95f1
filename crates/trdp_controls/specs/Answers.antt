-- What a system's answers mean.
use Rattle.std.specs.Prelude.{ℕ, zero, suc, Result, Ok, Err}
use Rattle.std.specs.IoError.{error_kind}
use Rattle.std.specs.declared.io.Error.{Error}
use Rattle.std.specs.declared.io.ErrorKind.{ErrorKind}
use Rattle.std.specs.declared.io.ErrorKind.TheVariants as kind
use Rattle.trdp_lines.specs.declared.connections.Accepted.{Accepted}
use Rattle.trdp_lines.specs.declared.connections.Accepted.TheVariants.{Failed}
use Rattle.trdp_lines.specs.declared.connections.Accepted.TheVariants.{Nothing as NobodyCame}
use Rattle.trdp_lines.specs.declared.connections.Came.{Came}
use Rattle.trdp_lines.specs.declared.connections.Came.TheVariants.{Bytes, Nothing, Ended}
use Rattle.trdp_lines.specs.declared.connections.Went.{Went}
use Rattle.trdp_lines.specs.declared.connections.Went.TheVariants.{Bytes as Took}
use Rattle.trdp_lines.specs.declared.connections.Went.TheVariants.{Nothing as TookNone}
use Rattle.trdp_lines.specs.declared.connections.Went.TheVariants.{Ended as TookNoMore}
use Rattle.trdp_controls.specs.declared.listen_fault.ListenFault.{ListenFault}
use Rattle.trdp_controls.specs.declared.listen_fault.ListenFault.TheVariants.{Refused}
use Rattle.trdp_controls.specs.declared.listen_fault.ListenFault.TheVariants.{OutOfMemory}

-- what it means that a system refuses a path with an error of this kind
abbrev pub listen_fault_of : ErrorKind → ListenFault
listen_fault_of kind.OutOfMemory = OutOfMemory
listen_fault_of _ = Refused

-- what it means that a system accepts no connection, with an error of this kind: if it would have
-- to wait, none is there
abbrev pub unaccepted_of : ErrorKind → Accepted
unaccepted_of kind.WouldBlock = NobodyCame
unaccepted_of _ = Failed

-- what a read of that many bytes finds: the stream has ended if it read none
abbrev pub count_came : ℕ → Came
count_came zero = Ended
count_came (suc n) = Bytes (suc n)

-- what a read finds that fails with an error of this kind: nothing if it would have to wait or was
-- interrupted, and else the stream has ended
abbrev pub unread_of : ErrorKind → Came
unread_of kind.WouldBlock = Nothing
unread_of kind.Interrupted = Nothing
unread_of _ = Ended

-- what a read finds by what a system says
abbrev pub came_of : Result ℕ Error → Came
came_of (Ok count) = count_came count
came_of (Err error) = unread_of (error_kind error)

-- what a write of that many bytes does
abbrev pub count_went : ℕ → Went
count_went zero = TookNone
count_went (suc n) = Took (suc n)

-- what a write does that fails with an error of this kind: nothing if it would have to wait or was
-- interrupted, and else the stream has ended
abbrev pub unwritten_of : ErrorKind → Went
unwritten_of kind.WouldBlock = TookNone
unwritten_of kind.Interrupted = TookNone
unwritten_of _ = TookNoMore

-- what a write does by what a system says
abbrev pub went_of : Result ℕ Error → Went
went_of (Ok count) = count_went count
went_of (Err error) = unwritten_of (error_kind error)
