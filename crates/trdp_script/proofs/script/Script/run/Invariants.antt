use Rattle.std.proofs.Common.{◌<◌, ◌≤◌, ◌+◌, ◌*◌, length}
use Rattle.trdp_script.proofs.ScriptLemmas.Readings.{Reading}
use Rattle.trdp_script.proofs.script.Script.run.Given as goal

-- what was read was played
abbrev pub invariant-loop-read : goal.invariant-loop-read
invariant-loop-read g l = record {
  reading : Reading l.fn.self l.self (g.W.Write.contents l.fn.writer)
      (g.W.Write.contents l.writer) (g.R.Read.remaining l.fn.reader) (g.R.Read.remaining l.reader);
  number : l.self.number ≤ 1 + 65536 * l._read;
  room : length l.piece ≤ 65536;
  some : 0 < length l.piece;
}
