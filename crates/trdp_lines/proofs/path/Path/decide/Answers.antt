use Rattle.std.proofs.Common.{◌∙◌, List, [], Some, inr, ap, refl, sym, subst}
use Rattle.std.specs.Prelude.{is_some}
use Rattle.trdp_lines.specs.Conversations.{ConversationState}
use Rattle.trdp_lines.specs.Said.{Said}
use Rattle.trdp_lines.specs.Seats.{seat_at}
use Rattle.trdp_lines.specs.Steps.{Goes}
use Rattle.trdp_lines.proofs.AskingLemmas.{takes_next, takes_same}
use Rattle.trdp_lines.proofs.BetweenLemmas.{tells_nothing}
use Rattle.trdp_lines.proofs.ConversationLemmas.{ready_goes_on}
use Rattle.trdp_lines.proofs.KeptLemmas.{at_place, path_refused}
use Rattle.trdp_lines.proofs.OrderLemmas.{ready_of}
use Rattle.trdp_lines.proofs.ReadLemmas.{seat_read}
use Rattle.trdp_lines.proofs.StepLemmas.{going_no_end, goes_none, goes_refused}
use Rattle.trdp_lines.proofs.path.Path.decide.Goals as goal

pub invariant_of-self : goal.invariant_of-self
invariant_of-self g c =
    let inside = c.self.inside in
    let holds = c.self.invariant.path in
    let at = at_place g.P.Policy.rule inside.seats.items c.args.place (Some c.args.silent) holds.size
    c.requires.within (rw (← c.self.view_is) at c.requires.number) in
    record {
      path = path_refused g.P.Policy.rule _ _ inside.seats.items c.args.place _ c.args.silent
          c.in-Some.next inside.came at c.refuse.ensures.refused (rw c.in-Some.is at holds);
      first = c.self.invariant.first;
    }

pub succeed-requires-clause-unended : goal.succeed-requires-clause-unended
succeed-requires-clause-unended g c =
    (ready_of _ c.args.silent _ c.requires.number c.requires.ready).unended

pub succeed-requires-clause-why : goal.succeed-requires-clause-why
succeed-requires-clause-why g c =
    let inside = c.self.inside in
    let at = at_place g.P.Policy.rule inside.seats.items c.args.place (Some c.args.silent)
    c.self.invariant.path.size c.requires.within (rw (← c.self.view_is) at c.requires.number) in
    let read = seat_read inside.seats.items c.args.place c.index.result.now at.within
    c.index.ensures in
    inr (
      rw (← c.self.view_is) (ap is_some c.in-Some.is),
      rw (← c.self.view_is) (ap (λ (s : ConversationState). s.spoke) read
          ∙ sym c.spoke-lives.ensures ∙ c.if-lives.false),
      c.requires.asked,
    )

pub returns-then-lives-clause-goes : goal.returns-then-lives-clause-goes
returns-then-lives-clause-goes g c =
    let inside = c.self.inside in
    let holds = c.self.invariant.path in
    let number = rw (← c.self.view_is) at c.requires.number in
    let at = at_place g.P.Policy.rule inside.seats.items c.args.place (Some c.args.silent) holds.size
    c.requires.within number in
    let ready = ready_of _ c.args.silent _ number (rw (← c.self.view_is) at c.requires.ready) in
    let read = seat_read inside.seats.items c.args.place c.index.result.now at.within
    c.index.ensures in
    rw (← c.self.view_is) (goes_refused g.P.Policy.rule g.C.Connections.calls _ _ c.args.place _
    c.args.silent c.in-Some.next at c.in-Some.is
    (ap (λ (s : ConversationState). s.spoke) read ∙ sym c.spoke-lives.ensures ∙ c.if-lives.true)
    (ready_goes_on _ ready) (rw (← c.self.view_is) at c.requires.asked) c.refuse.ensures.refused
    holds)

pub returns-then-lives-clause-follows : goal.returns-then-lives-clause-follows
returns-then-lives-clause-follows g c = rw (← c.self.view_is)
    (takes_same _ _ _ _ _ _ c.refuse.ensures.refused.told refl refl)

pub returns-else-lives-clause-goes : goal.returns-else-lives-clause-goes
returns-else-lives-clause-goes g c =
    let ready = ready_of _ c.args.silent _ c.requires.number c.requires.ready in
    subst (λ (texts : List Said). Goes g.P.Policy.rule g.C.Connections.calls c.args.self.now
    c.succeed.new.self texts) (going_no_end g.P.Policy.rule c.args.silent
    (seat_at c.args.self.now.seats c.args.place) (ready_goes_on _ ready)) c.succeed.ensures.goes

pub returns-else-lives-clause-follows : goal.returns-else-lives-clause-follows
returns-else-lives-clause-follows g c = takes_next _ _ c.args.silent _ _ _ c.succeed.ensures.closed
    c.requires.number (ap (λ (s : ConversationState). s.number) c.succeed.ensures.seat)

pub returns-in_default-clause-goes : goal.returns-in_default-clause-goes
returns-in_default-clause-goes g c =
    rw (← c.self.view_is) (goes_none g.P.Policy.rule g.C.Connections.calls _)

pub returns-in_default-clause-follows : goal.returns-in_default-clause-follows
returns-in_default-clause-follows g c = rw (← c.self.view_is)
    (takes_same _ _ [] _ _ _ (tells_nothing _) refl refl)
