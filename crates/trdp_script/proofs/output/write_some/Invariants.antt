use Rattle.std.specs.Io.KnownBytes.{Keeps}
use Rattle.trdp_script.proofs.output.write_some.Given as goal

-- nothing was written so far
abbrev pub invariant-loop-try : goal.invariant-loop-try
invariant-loop-try g l = Keeps (g.W.Write.contents l.fn.writer) (g.W.Write.contents l.writer)
