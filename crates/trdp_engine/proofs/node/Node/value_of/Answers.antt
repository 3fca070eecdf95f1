use Rattle.std.proofs.Common.{◌<◌, length, arith}
use Rattle.trdp_model.specs.Configs.{setup_of}
use Rattle.trdp_store.specs.Acting.{slot_at}
use Rattle.trdp_model.proofs.FitEventLemmas.{subscription_fits}
use Rattle.trdp_store.proofs.StoreLemmas.Slots.{slot_there}
use Rattle.trdp_engine.proofs.node.Node.value_of.Goals as goal

pub item_shown-requires : goal.item_shown-requires
item_shown-requires c =
    let there : c.args.slot < length c.self.inside.store = omega arith in
    let fit = c.self.invariant.2 c.args.slot (slot_at c.args.slot c.self.inside.store)
    (slot_there c.self.inside.store c.args.slot there) in
    subscription_fits (setup_of c.self.inside.config)
    c.args.handle (slot_at c.args.slot c.self.inside.store).objects
    c.in_ok-subscription.subscription.now fit c.in_ok-subscription.ensures.found

pub returns : goal.returns
returns c =
    let there : c.args.slot < length c.self.inside.store = omega arith in
    rw (
      ← c.self.view_is,
      slot_there c.self.inside.store c.args.slot there,
      c.in_ok-subscription.ensures.found,
    ) c.item_shown.ensures
