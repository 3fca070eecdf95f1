use Rattle.std.proofs.Common.{List, [], ◌∷◌, ◌++◌, Option, refl, ap, sym, ◌∙◌, subst, slice_get}
use Rattle.trdp_net.specs.Networks.{Sent, delivered}
use Rattle.trdp_net.specs.Running.{NetworkState, Shows, DeliversAt}
use Rattle.trdp_net.specs.Tellings.{all_sent, latest}
use Rattle.trdp_net.specs.declared.told.Told.{Told}
use Rattle.trdp_net.proofs.RunningLemmas.{shows_delivery, pushed}
use Rattle.trdp_net.proofs.network.Network.deliver.Goals as goal

pub returns-clause-follows : goal.returns-clause-follows
returns-clause-follows c = λ w shows.
    let events = c.self.inside.events.items in
    let told = c.in_ok-told.told in
    let nodes = c.deliver_at.new.stations.items in
    let which = c.args.which in
    let old : NetworkState = record {
      nodes = c.self.inside.stations.items;
      sent = all_sent events;
      told = latest events;
    } in
    let before : Shows old w = subst (λ (s : NetworkState). Shows s w) (sym c.self.view_is) shows
    in
    let delivers : DeliversAt old.nodes nodes c.args.node (slice_get old.sent which) told =
    subst (λ (x : Option Sent). DeliversAt old.nodes nodes c.args.node x told)
    (c.find-sent.ensures
    ∙ ap (λ (xs : List Told). slice_get (all_sent xs) which)
    (c.deref.ensures.value ∙ c.reserve.ensures.items))
    c.in_ok-told.ensures.taken in
    pushed old nodes events c.push_reserved.new.self.items told
    (delivered w c.args.node (slice_get w.nodes c.args.node) (slice_get w.sent which))
    (c.push_reserved.ensures.items
    ∙ ap (λ (xs : List Told). xs ++ told ∷ []) c.reserve.ensures.items)
    refl
    (shows_delivery old nodes c.args.node which told delivers w before)
