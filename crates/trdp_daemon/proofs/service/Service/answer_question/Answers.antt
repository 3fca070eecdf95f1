use Rattle.std.proofs.Common.{[], List, ℕ, Option, ap, arith, length, subst, ◌∙◌, refl}
use Rattle.trdp_engine.specs.NodeStates.{uncounted}
use Rattle.trdp_daemon.specs.declared.contact.Contact.{Contact}
use Rattle.trdp_wire.specs.declared.port.Port.TheVariants.{Operator}
use Rattle.trdp_daemon.specs.Effects.{ServiceState, offering}
use Rattle.trdp_daemon.specs.Links.{Carries}
use Rattle.trdp_daemon.specs.Questions.{text_of_question}
use Rattle.trdp_daemon.proofs.service.Service.answer_question.Goals as goal

pub returns-clause-short : goal.returns-clause-short
returns-clause-short g c =
    let told = c.put_answer.ensures.items c.args.self.now.lease ∙ ap (λ (l : List (Option Contact)).
    let s : ServiceState = record {
      node = uncounted c.args.self.now.node;
      contacts = l;
      reading = c.args.self.now.reading;
      lease = c.args.self.now.lease;
    } in text_of_question s c.args.link.now.totals c.args.question) c.deref.ensures.value in
    let same = ap (λ (l : List ℕ). length l) told in
    omega (arith, same, c.put_answer.ensures.len)

pub returns-clause-comes : goal.returns-clause-comes
returns-clause-comes g c =
    let told = c.put_answer.ensures.items c.args.self.now.lease ∙ ap (λ (l : List (Option Contact)).
    let s : ServiceState = record {
      node = uncounted c.args.self.now.node;
      contacts = l;
      reading = c.args.self.now.reading;
      lease = c.args.self.now.lease;
    } in text_of_question s c.args.link.now.totals c.args.question) c.deref.ensures.value in
    record {
      service_is = refl;
      carried = subst (λ (l : List ℕ). Carries g.W.Wire.takings g.W.Wire.gives c.args.link.now
          c.give.new.self [] (offering Operator c.args.from l))
          (c.deref-2.ensures.value ∙ told) c.give.ensures.carried;
    }
