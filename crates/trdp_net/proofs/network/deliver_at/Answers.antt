use Rattle.std.proofs.Common.{◌≡◌, ◌<◌, length, List, Some, true, ap, sym, ◌∙◌, slice_get, rules}
use Rattle.std.proofs.lemmas.Option.{slice_get-get_or}
use Rattle.trdp_net.specs.Networks.{NetNode, Sent, place_of, reaches}
use Rattle.trdp_net.specs.Tellings.{sent_model}
use Rattle.trdp_net.proofs.RunningLemmas.{delivers_so}
use Rattle.trdp_net.proofs.network.deliver_at.Goals as goal

pub returns-else-not-is_reached-clause-taken : goal.returns-else-not-is_reached-clause-taken
returns-else-not-is_reached-clause-taken c =
    let old : List NetNode = c.args.stations.now.items in
    let new : List NetNode = c.arrive.new.stations.items in
    let x : Sent = sent_model c.in-Some.sent in
    let seen : NetNode = c.index.result.now in
    let lt : c.args.node < length old = search rules in
    let at : slice_get old c.args.node ≡ Some seen =
    slice_get-get_or old c.args.node seen lt
    ∙ ap (λ (node : NetNode). Some node) (sym c.index.ensures) in
    let yes : c.is_reached.result ≡ true = search rules in
    let reached : reaches x.to (place_of x.protocol seen.setup) ≡ true =
    sym c.is_reached.ensures ∙ yes in
    rw c.in-Some.is (delivers_so c.arrive.result old new c.args.node x seen at reached
    c.arrive.ensures.taken)
