use Rattle.std.proofs.Common.{refl}
use Rattle.trdp_lines.specs.OutgoingRuns.{Pushed}
use Rattle.trdp_lines.proofs.ConversationLemmas.{more_written}
use Rattle.trdp_lines.proofs.WritingLemmas.{pushed_none}
use Rattle.trdp_lines.proofs.conversation.Conversation.say.Goals as goal

pub returns-clause-said : goal.returns-clause-said
returns-clause-said g c = rw (← c.self.view_is) (more_written c.args.number
    (Pushed c.args.text.now) _ c.push-stands.new.self c.write.new.self
    (g.C.Connections.calls c.args.to.now) (g.C.Connections.calls c.write.new.to)
    c.push-stands.ensures.changed refl
    (pushed_none _ c.args.text.now) c.write.ensures.written)
