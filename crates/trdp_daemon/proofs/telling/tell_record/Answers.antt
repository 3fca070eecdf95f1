use Rattle.std.proofs.Common.{ap, subst, [], Option}
use Rattle.trdp_base.specs.declared.place.Place.{Place}
use Rattle.trdp_model.specs.Records.{record_model, content_model}
use Rattle.trdp_text.specs.RecordText.{text_of_record}
use Rattle.trdp_wire.specs.declared.port.Port.{Port}
use Rattle.trdp_daemon.specs.Effects.{offering}
use Rattle.trdp_daemon.specs.Links.{Carries}
use Rattle.trdp_daemon.specs.Tellings.{TellsText}
use Rattle.trdp_daemon.proofs.TellingLemmas.{record_sent, record_answered, record_indicated}
use Rattle.trdp_daemon.proofs.telling.tell_record.Goals as goal

pub returns-in-Send : goal.returns-in-Send
returns-in-Send g c =
    record_sent _ (record_model c.args.record.now)
    c.in-Send.kind c.in-Send.to c.in-Send.telegram.now (ap content_model c.in-Send.is)
    (subst (λ (p : Port). Carries g.W.Wire.takings g.W.Wire.gives c.args.link.now c.give.new.self
    [] (offering p c.in-Send.to c.in-Send.telegram.now)) c.port_of.ensures c.give.ensures.carried)

pub returns-in-Answer : goal.returns-in-Answer
returns-in-Answer g c =
    record_answered _ (record_model c.args.record.now) _ (ap content_model c.in-Answer.is)
    (subst (λ (to : Option Place). TellsText g.W.Wire.takings
    g.W.Wire.gives c.args.link.now c.tell_text.new.link c.args.record.now.slot to
    (text_of_record (record_model c.args.record.now))) c.place_of.ensures c.tell_text.ensures)

pub returns-in-Indication : goal.returns-in-Indication
returns-in-Indication g c =
    record_indicated _ (record_model c.args.record.now) _ (ap content_model c.in-Indication.is)
    (subst (λ (to : Option Place).
    TellsText g.W.Wire.takings g.W.Wire.gives c.args.link.now c.tell_text-in-Indication.new.link
    c.args.record.now.slot to (text_of_record (record_model c.args.record.now)))
    c.place_of-in-Indication.ensures c.tell_text-in-Indication.ensures)
