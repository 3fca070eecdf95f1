use Rattle.std.proofs.Common.{◌<◌, length, arith}
use Rattle.trdp_script.proofs.ScriptLemmas.OneLine.{last_came, last_bad}
use Rattle.trdp_script.proofs.script.Script.end_last.Goals as goal

pub returns-clause-ok : goal.returns-clause-ok
returns-clause-ok g c =
    let some : 0 < length c.args.self.now.line.items =
    omega (arith, c.requires.some, c.args.self.now.line.ok) in
    last_came c.args.self.now _ _ _ c.deref.result.now
    c.take_line.result c.deref.ensures.value c.requires.sound.bare some c.take_line.ensures.line

pub returns-clause-err : goal.returns-clause-err
returns-clause-err g c =
    let some : 0 < length c.args.self.now.line.items =
    omega (arith, c.requires.some, c.args.self.now.line.ok) in
    last_bad c.args.self.now _ _ _ c.deref.result.now
    c.take_line.result c.deref.ensures.value c.requires.sound.bare some c.take_line.ensures.line
