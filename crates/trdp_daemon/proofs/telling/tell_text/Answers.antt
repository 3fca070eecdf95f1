use Rattle.std.proofs.Common.{ap, ◌∙◌, ◌++◌, subst, List, ℕ, []}
use Rattle.trdp_model.specs.Records.{record_model}
use Rattle.trdp_text.specs.RecordText.{text_of_record}
use Rattle.trdp_wire.specs.declared.port.Port.TheVariants.{Control}
use Rattle.trdp_daemon.specs.Effects.{offering}
use Rattle.trdp_daemon.specs.Links.{Carries}
use Rattle.trdp_daemon.proofs.TellingLemmas.{text_dropped, text_given, text_lost}
use Rattle.trdp_daemon.proofs.telling.tell_text.Goals as goal

pub returns-in_default : goal.returns-in_default
returns-in_default g c = text_dropped _ _ _ _ c.args.to _ c.in_default.is

pub returns-in-Ok : goal.returns-in-Ok
returns-in-Ok g c =
    let printed = c.deref.ensures.value ∙ c.in-Ok.ensures.ok
    ∙ ap (λ l. l ++ text_of_record (record_model c.args.record.now)) c.clear.ensures.items in
    text_given _ c.in-Some.to c.args.to _ c.in-Some.is
    (subst (λ (l : List ℕ). Carries g.W.Wire.takings g.W.Wire.gives c.args.link.now c.give.new.self
    [] (offering (Control c.args.record.now.slot) c.in-Some.to l)) printed c.give.ensures.carried)

pub returns-in-Err : goal.returns-in-Err
returns-in-Err g c = text_lost _ c.in-Some.to c.args.to _ c.in-Some.is c.miss.ensures.carried
