use Rattle.std.proofs.Common.{◌≡◌, length, arith, refl}
use Rattle.trdp_script.proofs.ScriptLemmas.OneLine.{whole_came, whole_bad}
use Rattle.trdp_script.proofs.script.Script.take_whole.Goals as goal

pub returns-in-Ok-clause-ok : goal.returns-in-Ok-clause-ok
returns-in-Ok-clause-ok g c =
    let none : length c.args.self.now.line.items ≡ 0 =
    omega (arith, c.requires.begun, c.args.self.now.line.ok) in
    whole_came c.args.self.now _ _ _ c.without_return-line.result.now c.args.bytes.now
    c.without_return-line.ensures none c.requires.bare c.in-Ok.ensures.line refl refl

pub returns-in-Err-clause-err : goal.returns-in-Err-clause-err
returns-in-Err-clause-err g c =
    let none : length c.args.self.now.line.items ≡ 0 =
    omega (arith, c.requires.begun, c.args.self.now.line.ok) in
    whole_bad c.args.self.now _ _ _ c.without_return-line.result.now c.args.bytes.now
    c.in-Err.fault c.without_return-line.ensures none c.requires.bare c.in-Err.ensures.line
