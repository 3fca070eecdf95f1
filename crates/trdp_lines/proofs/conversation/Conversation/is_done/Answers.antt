use Rattle.std.proofs.Common.{◌∙◌, ap, length, nat_le, sym}
use Rattle.trdp_lines.specs.Conversations.{ConversationState}
use Rattle.trdp_lines.specs.Intakes.{intake_room}
use Rattle.trdp_lines.proofs.ConversationLemmas.{done_if_full}
use Rattle.trdp_lines.proofs.conversation.Conversation.is_done.Goals as goal

pub returns-else-self-clause-done : goal.returns-else-self-clause-done
returns-else-self-clause-done c = done_if_full c.args.self.now c.is_full.result
    (ap (λ (s : ConversationState). s.ended) (sym c.self.view_is) ∙ c.if-self.false) c.requires
    (c.is_full.ensures
    ∙ ap (λ (s : ConversationState). nat_le intake_room (length s.bytes)) c.self.view_is)
