use Rattle.std.proofs.Common.{◌∙◌, ap, refl}
use Rattle.std.specs.Str.Lines.{strip_carriage_return}
use Rattle.trdp_script.proofs.ScriptLemmas.OneLine.{line_came, line_bad}
use Rattle.trdp_script.proofs.script.Script.end_line.Goals as goal

pub returns-in-Ok-clause-ok : goal.returns-in-Ok-clause-ok
returns-in-Ok-clause-ok g c =
    let text = c.without_return-line.ensures ∙ ap strip_carriage_return c.deref.ensures.value in
    line_came c.args.self.now _ _ _ c.without_return-line.result.now
    text c.requires.sound.bare c.in-Ok.ensures.line c.clear.ensures.items refl

pub returns-in-Err-clause-err : goal.returns-in-Err-clause-err
returns-in-Err-clause-err g c =
    let text = c.without_return-line.ensures ∙ ap strip_carriage_return c.deref.ensures.value in
    line_bad c.args.self.now _ _ _ c.without_return-line.result.now
    c.in-Err.fault text c.requires.sound.bare c.in-Err.ensures.line
