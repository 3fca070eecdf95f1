use Rattle.std.proofs.Common.{refl}
use Rattle.trdp_script.proofs.ScriptLemmas.OneLine.{event_came, memory_came}
use Rattle.trdp_script.proofs.player.Player.take_line.Goals as goal

pub returns-in-Err-OutOfMemory : goal.returns-in-Err-OutOfMemory
returns-in-Err-OutOfMemory g c = record {
  line = memory_came c.args.self.now _ _ c.args.number c.args.line.now
      c.in-Err-OutOfMemory.field-0 c.in-Err-OutOfMemory.field-0-is
      c.in-Err-OutOfMemory.ensures.meaning refl;
}

pub returns-in-Ok : goal.returns-in-Ok
returns-in-Ok g c = record {
  line = event_came c.args.self.now _ _ _ c.args.number _ c.in-Ok-Some.field-0 c.in-Ok-Some.event
      c.play.new.text.items c.flush_full.result c.in-Ok-Some.field-0-is c.in-Ok-Some.ensures.meaning
      c.in-Ok.ensures.node c.in-Ok.ensures.text
      c.flush_full.ensures.ok c.flush_full.ensures.err c.flush_full.ensures.fault;
}
