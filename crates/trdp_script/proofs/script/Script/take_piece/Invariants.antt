use Rattle.std.proofs.Common.{length}
use Rattle.trdp_script.proofs.ScriptLemmas.Pieces.{Midst}
use Rattle.trdp_script.proofs.script.Script.take_piece.Given as goal

-- the bytes before the rest were played
abbrev pub invariant-loop-before : goal.invariant-loop-before
invariant-loop-before g l = Midst l.fn.self l.self
    (g.W.Write.contents l.fn.writer) (g.W.Write.contents l.writer) l.piece l.rest

abbrev pub decreases-loop-before : goal.decreases-loop-before
decreases-loop-before g l = length l.rest
