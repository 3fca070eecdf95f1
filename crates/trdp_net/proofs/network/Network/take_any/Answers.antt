use Rattle.std.proofs.Common.{List, [], ◌∷◌, ◌++◌, refl, ap, sym, ◌∙◌, subst}
use Rattle.trdp_model.specs.Events.{event_model}
use Rattle.trdp_net.specs.Networks.{moves_at}
use Rattle.trdp_net.specs.Running.{NetworkState, Shows}
use Rattle.trdp_net.specs.Tellings.{all_sent, latest}
use Rattle.trdp_net.specs.declared.told.Told.{Told}
use Rattle.trdp_net.proofs.RunningLemmas.{shows_move, pushed}
use Rattle.std.proofs.Common.{slice_get}
use Rattle.trdp_net.proofs.network.Network.take_any.Goals as goal

pub returns-clause-follows : goal.returns-clause-follows
returns-clause-follows c = λ w shows.
    let events = c.self.inside.events.items in
    let told = c.in_ok-told.told in
    let nodes = c.take_at.new.stations.items in
    let old : NetworkState = record {
      nodes = c.self.inside.stations.items;
      sent = all_sent events;
      told = latest events;
    } in
    let before : Shows old w = subst (λ (s : NetworkState). Shows s w) (sym c.self.view_is) shows
    in
    pushed old nodes events c.push_reserved.new.self.items told
    (moves_at w c.args.node (slice_get w.nodes c.args.node) (event_model c.args.event.now))
    (c.push_reserved.ensures.items
    ∙ ap (λ (xs : List Told). xs ++ told ∷ []) c.reserve.ensures.items)
    refl
    (shows_move old nodes c.args.node (event_model c.args.event.now) told
    c.in_ok-told.ensures.taken w before)
