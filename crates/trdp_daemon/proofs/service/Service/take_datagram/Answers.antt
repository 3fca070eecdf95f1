use Rattle.std.proofs.Common.{◌∙◌, refl}
use Rattle.trdp_model.specs.declared.record.Protocol.TheVariants.{Pd as PdData, Md as MdData}
use Rattle.trdp_wire.specs.declared.port.Port.TheVariants.{Pd, Md, PdGroup, MdGroup}
use Rattle.trdp_daemon.specs.Services.{service_state}
use Rattle.trdp_daemon.proofs.VisitLemmas.{at_control, at_operator, at_telegram, group_at}
use Rattle.trdp_daemon.proofs.VisitLemmas.{md_comes, md_group_comes, pd_comes, pd_group_comes}
use Rattle.trdp_daemon.proofs.service.Service.take_datagram.Goals as goal

pub returns-in-Pd-clause-comes : goal.returns-in-Pd-clause-comes
returns-in-Pd-clause-comes g c =
    at_telegram c.args.self.now _ c.args.link.now.totals PdData c.args.port Pd c.args.from
    c.args.self.now.home.pd c.args.bytes.now c.in-Pd.is
    (pd_comes (service_state c.args.self.now) c.args.link.now.totals c.args.from c.args.bytes.now)
    c.requires.sound.0.0 c.take_telegram.ensures.comes

pub returns-in-Md-clause-comes : goal.returns-in-Md-clause-comes
returns-in-Md-clause-comes g c =
    at_telegram c.args.self.now _ c.args.link.now.totals MdData c.args.port Md c.args.from
    c.args.self.now.home.md c.args.bytes.now c.in-Md.is
    (md_comes (service_state c.args.self.now) c.args.link.now.totals c.args.from c.args.bytes.now)
    c.requires.sound.0.1 c.take_telegram-in-Md.ensures.comes

pub returns-in-PdGroup-clause-comes : goal.returns-in-PdGroup-clause-comes
returns-in-PdGroup-clause-comes g c =
    at_telegram c.args.self.now _ c.args.link.now.totals PdData c.args.port
    (PdGroup c.in-PdGroup.group) c.args.from c.group_place-to.result c.args.bytes.now c.in-PdGroup.is
    (pd_group_comes (service_state c.args.self.now) c.args.link.now.totals c.in-PdGroup.group
    c.args.from c.args.bytes.now)
    (c.group_place-to.ensures ∙ group_at c.in-PdGroup.group _ _ _ c.requires.sound.0.0 refl)
    c.take_telegram-in-PdGroup.ensures.comes

pub returns-in-MdGroup-clause-comes : goal.returns-in-MdGroup-clause-comes
returns-in-MdGroup-clause-comes g c =
    at_telegram c.args.self.now _ c.args.link.now.totals MdData c.args.port
    (MdGroup c.in-MdGroup.group) c.args.from c.group_place-to-in-MdGroup.result c.args.bytes.now
    c.in-MdGroup.is
    (md_group_comes (service_state c.args.self.now) c.args.link.now.totals c.in-MdGroup.group
    c.args.from c.args.bytes.now)
    (c.group_place-to-in-MdGroup.ensures ∙ group_at c.in-MdGroup.group _ _ _ c.requires.sound.0.1 refl)
    c.take_telegram-in-MdGroup.ensures.comes

pub returns-in-Operator-clause-comes : goal.returns-in-Operator-clause-comes
returns-in-Operator-clause-comes g c =
    at_operator c.args.self.now _ c.args.link.now.totals c.args.port c.args.from
    c.args.bytes.now c.in-Operator.is c.take_operator.ensures.comes

pub returns-in-Control-clause-comes : goal.returns-in-Control-clause-comes
returns-in-Control-clause-comes g c =
    at_control c.args.self.now _ c.args.link.now.totals c.args.port c.in-Control.slot
    c.args.from c.args.bytes.now c.in-Control.is c.take_control.ensures.comes
