use Rattle.std.proofs.Common.{◌<◌, length, arith}
use Rattle.trdp_model.specs.Configs.{setup_of}
use Rattle.trdp_model.specs.Events.{CallIs, call_model}
use Rattle.trdp_store.specs.TableSlots.{slots_of}
use Rattle.trdp_model.specs.Calls.{called}
use Rattle.trdp_model.specs.Alone.{plain_effect}
use Rattle.trdp_model.proofs.FitEventLemmas.{plain_call_fits}
use Rattle.trdp_engine.proofs.CostLemmas.Bounds.{bounded_none}
use Rattle.trdp_store.specs.Acting.{slot_at}
use Rattle.trdp_engine.proofs.ActLemmas.OneSlot.{became_parts, became_appends, became_count}
use Rattle.trdp_engine.proofs.ActLemmas.OneSlot.{became_room}
use Rattle.trdp_engine.proofs.ActLemmas.Quotas.{called_quotas}
use Rattle.trdp_model.proofs.StepLemmas.{outcomes_fit}
use Rattle.trdp_engine.proofs.node.Node.step_call.Goals as goal

pub returns-clause-outcomes : goal.returns-clause-outcomes
returns-clause-outcomes c =
    let there : c.args.s < length c.self.inside.store = omega arith in
    rw (← c.self.view_is)
    (became_parts (λ slot. called (setup_of c.self.inside.config) slot c.self.inside.globals
    (call_model c.args.call.now)) c.args.s c.self.inside.store c.serve.new.store
    c.args.out.now c.serve.new.out there c.in_ok-serve.ensures.becomes)

pub returns-clause-appends : goal.returns-clause-appends
returns-clause-appends c =
    let there : c.args.s < length c.self.inside.store = omega arith in
    rw (← c.self.view_is)
    (became_appends (λ slot. called (setup_of c.self.inside.config)
    slot c.self.inside.globals (call_model c.args.call.now)) c.args.s c.self.inside.store
    c.serve.new.store c.args.out.now c.serve.new.out there c.in_ok-serve.ensures.becomes)

pub invariant_of-self-2 : goal.invariant_of-self-2
invariant_of-self-2 c =
    let there : c.args.s < length c.self.inside.store = omega arith in
    let parts = became_parts (λ slot. called (setup_of c.self.inside.config)
    slot c.self.inside.globals (call_model c.args.call.now)) c.args.s c.self.inside.store
    c.serve.new.store c.args.out.now c.serve.new.out there c.in_ok-serve.ensures.becomes in
    let count = became_count c.args.s _ c.self.inside.store
    c.serve.new.store c.args.out.now c.serve.new.out c.in_ok-serve.ensures.becomes in
    let fits = outcomes_fit (setup_of c.self.inside.config)
    (λ r slot. plain_effect (setup_of c.self.inside.config)
    r slot c.self.inside.globals (CallIs c.args.s (call_model c.args.call.now)))
    (slots_of c.self.inside.store) (slots_of c.serve.new.store) _ _ count parts (λ r slot fit.
    plain_call_fits (setup_of c.self.inside.config) c.args.s r slot c.self.inside.globals
    (call_model c.args.call.now) c.self.invariant.1 fit) c.self.invariant.2 in
    let room = became_room c.args.s _ c.self.inside.store c.serve.new.store
    c.args.out.now c.serve.new.out there
    (called_quotas (setup_of c.self.inside.config) (slot_at c.args.s c.self.inside.store)
    c.self.inside.globals (call_model c.args.call.now)) c.in_ok-serve.ensures.becomes in
    (c.self.invariant.0, c.self.invariant.1, fits, rw room c.self.invariant.3)

pub returns-clause-cost : goal.returns-clause-cost
returns-clause-cost c =
    bounded_none c.args.self.now.slots (CallIs c.args.s (call_model c.args.call.now))
    c.none-self-inside.result c.none-self-inside.ensures
