use Rattle.std.proofs.Common.{sym, ◌∙◌}
use Rattle.trdp_program.proofs.FaultLineLemmas.{told, told_whole}
use Rattle.trdp_program.proofs.told.tell_line.Goals as goal

pub returns-then-is_ok-clause-told : goal.returns-then-is_ok-clause-told
returns-then-is_ok-clause-told g c =
    told (g.D.Display.output c.args.text) c.new-line.result c.writeln.new.self
    c.writeln.result c.write_whole.result _ _ c.as_bytes.result.now
    c.new-line.ensures.text c.new-line.ensures.intact
    (sym c.is_ok.ensures.value ∙ c.if-is_ok.true) c.writeln.ensures.writes
    (c.as_bytes.ensures.value ∙ c.as_str.ensures.value)
    c.write_whole.ensures.ok c.write_whole.ensures.err

pub returns-then-is_ok-clause-whole : goal.returns-then-is_ok-clause-whole
returns-then-is_ok-clause-whole g c = λ whole.
    told_whole (g.D.Display.output c.args.text) c.new-line.result c.writeln.new.self
    c.writeln.result c.write_whole.result _ _ c.as_bytes.result.now
    c.new-line.ensures.text c.new-line.ensures.intact
    (sym c.is_ok.ensures.value ∙ c.if-is_ok.true) c.writeln.ensures.writes
    (c.as_bytes.ensures.value ∙ c.as_str.ensures.value)
    c.write_whole.ensures.ok (sym c.is_ok-then-is_ok.ensures.value ∙ whole)
