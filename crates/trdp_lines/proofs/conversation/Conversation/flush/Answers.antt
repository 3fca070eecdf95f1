use Rattle.std.proofs.Common.{refl}
use Rattle.trdp_lines.specs.OutgoingRuns.{Told}
use Rattle.trdp_lines.proofs.ConversationLemmas.{more_written}
use Rattle.trdp_lines.proofs.WritingLemmas.{told_none}
use Rattle.trdp_lines.proofs.conversation.Conversation.flush.Goals as goal

pub returns-clause-written : goal.returns-clause-written
returns-clause-written g c =
    rw (← c.self.view_is) (more_written c.args.number Told _ c.tell_lost.new.self
    c.write.new.self (g.C.Connections.calls c.args.to.now) (g.C.Connections.calls c.write.new.to)
    c.tell_lost.ensures.changed refl (told_none _) c.write.ensures.written)
