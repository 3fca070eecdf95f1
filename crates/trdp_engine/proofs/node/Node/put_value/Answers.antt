use Rattle.std.proofs.Common.{◌<◌, length, arith}
use Rattle.trdp_marshal.specs.Items.{model_of}
use Rattle.trdp_model.specs.Configs.{setup_of}
use Rattle.trdp_store.specs.TableSlots.{slots_of}
use Rattle.trdp_model.specs.Values.{valued, valued_at}
use Rattle.trdp_model.proofs.FitEventLemmas.{valued_at_fits}
use Rattle.trdp_store.specs.Acting.{slot_at}
use Rattle.trdp_engine.proofs.ActLemmas.OneSlot.{became_parts, became_appends, became_count}
use Rattle.trdp_engine.proofs.ActLemmas.OneSlot.{became_room}
use Rattle.trdp_engine.proofs.ActLemmas.Quotas.{valued_quotas}
use Rattle.trdp_model.proofs.StepLemmas.{outcomes_fit}
use Rattle.trdp_engine.proofs.node.Node.put_value.Goals as goal

pub returns-clause-values : goal.returns-clause-values
returns-clause-values c =
    let there : c.args.slot < length c.self.inside.store = omega arith in
    rw (← c.self.view_is)
    (became_parts (λ slot. valued (setup_of c.self.inside.config) slot c.args.handle
    (model_of c.args.item.now)) c.args.slot c.self.inside.store c.put_value.new.store
    c.args.out.now c.put_value.new.out there c.in_ok-put_value.ensures.becomes)

pub returns-clause-appends : goal.returns-clause-appends
returns-clause-appends c =
    let there : c.args.slot < length c.self.inside.store = omega arith in
    rw (← c.self.view_is)
    (became_appends (λ slot. valued (setup_of c.self.inside.config) slot c.args.handle
    (model_of c.args.item.now)) c.args.slot c.self.inside.store c.put_value.new.store
    c.args.out.now c.put_value.new.out there c.in_ok-put_value.ensures.becomes)

pub invariant_of-self-2 : goal.invariant_of-self-2
invariant_of-self-2 c =
    let there : c.args.slot < length c.self.inside.store = omega arith in
    let parts = became_parts (λ slot. valued (setup_of c.self.inside.config) slot c.args.handle
    (model_of c.args.item.now)) c.args.slot c.self.inside.store c.put_value.new.store
    c.args.out.now c.put_value.new.out there c.in_ok-put_value.ensures.becomes in
    let count = became_count c.args.slot _ c.self.inside.store c.put_value.new.store
    c.args.out.now c.put_value.new.out c.in_ok-put_value.ensures.becomes in
    let fits = outcomes_fit (setup_of c.self.inside.config)
    (λ r slot. valued_at (setup_of c.self.inside.config) c.args.slot r slot c.args.handle
    (model_of c.args.item.now)) (slots_of c.self.inside.store) (slots_of c.put_value.new.store)
    _ _ count parts (λ r slot fit. valued_at_fits (setup_of c.self.inside.config)
    c.args.slot r slot c.args.handle (model_of c.args.item.now) fit) c.self.invariant.2 in
    let room = became_room c.args.slot _ c.self.inside.store c.put_value.new.store
    c.args.out.now c.put_value.new.out there
    (valued_quotas (setup_of c.self.inside.config) (slot_at c.args.slot c.self.inside.store)
    c.args.handle (model_of c.args.item.now)) c.in_ok-put_value.ensures.becomes in
    (c.self.invariant.0, c.self.invariant.1, fits, rw room c.self.invariant.3)
