use Rattle.std.proofs.Common.{refl, sym, ◌∙◌}
use Rattle.trdp_lines.specs.OutgoingRuns.{Told}
use Rattle.trdp_lines.proofs.ConversationLemmas.{more_written}
use Rattle.trdp_lines.proofs.WritingLemmas.{told_none, told_not, written_both}
use Rattle.trdp_lines.proofs.conversation.Conversation.write.Goals as goal

pub returns-then-tell_lost-clause-written : goal.returns-then-tell_lost-clause-written
returns-then-tell_lost-clause-written g c =
    let calls = g.C.Connections.calls in
    written_both c.args.number c.args.self.now c.write_once.new.self
    c.write_once-then-tell_lost.new.self (calls c.args.to.now) (calls c.write_once.new.to)
    (calls c.write_once-then-tell_lost.new.to) c.write_once.ensures.written
    (rw (← c.self.view_is) (more_written c.args.number Told _ c.tell_lost.new.self
    c.write_once-then-tell_lost.new.self (calls c.write_once.new.to)
    (calls c.write_once-then-tell_lost.new.to) c.tell_lost.ensures.changed refl
    (told_none _) c.write_once-then-tell_lost.ensures.written))

pub returns-else-tell_lost-clause-written : goal.returns-else-tell_lost-clause-written
returns-else-tell_lost-clause-written g c =
    let calls = g.C.Connections.calls in
    told_not c.args.number c.args.self.now _ c.tell_lost.new.self (calls c.args.to.now)
    (calls c.write_once.new.to) c.tell_lost.ensures.changed
    (sym c.tell_lost.ensures.answer ∙ c.if-tell_lost.false)
    (rw (← c.self.view_is) at c.write_once.ensures.written)
