use Rattle.std.proofs.Common.{◌<◌, ◌≤◌, ◌+◌, length, arith, refl, vec_capacity, vec_len}
use Rattle.trdp_script.proofs.PlayLemmas.Results.{when_ok}
use Rattle.trdp_script.proofs.ScriptLemmas.Steps.{gathered, too_long_stops}
use Rattle.trdp_script.proofs.script.Script.gather.Goals as goal

pub returns-then-len-bytes-gt-LINE_ROOM-clause-err :
    goal.returns-then-len-bytes-gt-LINE_ROOM-clause-err
returns-then-len-bytes-gt-LINE_ROOM-clause-err c = λ w later.
    let long : 140001 < length c.args.self.now.line.items + length c.args.bytes.now =
    omega (arith, c.if-len-bytes-gt-LINE_ROOM.true, c.len.ensures, c.args.self.now.line.ok) in
    too_long_stops c.args.self.now w c.args.bytes.now
    later c.requires.sound.bare c.requires.bare long

pub returns-clause-ok : goal.returns-clause-ok
returns-clause-ok c = λ w.
    let fits : vec_len c.args.self.now.line + length c.args.bytes.now
    ≤ vec_capacity c.args.self.now.line =
    omega (arith, c.if-len-bytes-gt-LINE_ROOM.false, c.len.ensures, c.requires.sound.room) in
    gathered c.args.self.now _ w c.args.bytes.now c.requires.bare
    (when_ok c.extend_from_slice.result _ _ _ (c.extend_from_slice.ensures.succeeds fits)
    c.extend_from_slice.ensures.items) refl refl
