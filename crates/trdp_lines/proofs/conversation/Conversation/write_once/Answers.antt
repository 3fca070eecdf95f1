use Rattle.std.proofs.Common.{[], ◌∷◌, ap, refl, sym, ◌∙◌}
use Rattle.trdp_lines.specs.Connections.{went_count, writing_of}
use Rattle.trdp_lines.specs.Outgoings.{OutgoingState}
use Rattle.trdp_lines.specs.OutgoingRuns.{Took}
use Rattle.trdp_lines.proofs.BetweenLemmas.{tells_nothing}
use Rattle.trdp_lines.proofs.WritingLemmas.{none_waits}
use Rattle.trdp_lines.proofs.conversation.Conversation.write_once.Goals as goal

pub returns-then-not-is_empty-clause-written : goal.returns-then-not-is_empty-clause-written
returns-then-not-is_empty-clause-written g c =
    let inside = c.self.inside in
    let went = c.flush.result in
    rw (← c.self.view_is) (record {
      steps = Took (went_count went) ∷ [];
      writings = writing_of inside.outgoing.waiting went ∷ [];
      texts_are = refl;
      told = c.flush.ensures.told;
      took = refl;
      written = ap (λ (o : OutgoingState). record {
        number = inside.number;
        bytes = inside.intake;
        spoke = inside.spoke;
        ended = inside.ended;
        outgoing = o;
      }) c.flush.ensures.rest;
      tried = λ none. cc;
    })

pub returns-else-not-is_empty-clause-written : goal.returns-else-not-is_empty-clause-written
returns-else-not-is_empty-clause-written g c =
    let none = none_waits c.self.inside.outgoing.waiting
    (sym c.is_empty.ensures ∙ c.if-not-is_empty.false) in
    rw (← c.self.view_is) (record {
      steps = [];
      writings = [];
      texts_are = refl;
      told = tells_nothing (g.C.Connections.calls c.args.to.now);
      took = refl;
      written = refl;
      tried = λ unwritten. (none, none);
    })
