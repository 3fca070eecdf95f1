use Rattle.std.specs.Io.KnownBytes.{Appends}
use Rattle.trdp_script.specs.Writes.{PartlyWrites}
use Rattle.trdp_program.specs.Streams.{cut_line_end}
use Rattle.trdp_program.proofs.ReportLemmas.{behind_end}
use Rattle.trdp_program.proofs.reports.Reports.tell.Goals as goal

pub returns-clause-told : goal.returns-clause-told
returns-clause-told g c =
    behind_end (cut_line_end c.args.self.now.is_cut) (g.D.Display.output c.args.text)
    (PartlyWrites (g.E.Write.contents c.args.errors.now)
    (g.E.Write.contents c.tell_line-is_whole.new.writer))
    (rw c.line_end-end.ensures at c.tell_line-is_whole.ensures.told)

pub returns-clause-whole : goal.returns-clause-whole
returns-clause-whole g c = λ whole.
    behind_end (cut_line_end c.args.self.now.is_cut) (g.D.Display.output c.args.text)
    (Appends (g.E.Write.contents c.args.errors.now)
    (g.E.Write.contents c.tell_line-is_whole.new.writer))
    (rw c.line_end-end.ensures at c.tell_line-is_whole.ensures.whole whole)
