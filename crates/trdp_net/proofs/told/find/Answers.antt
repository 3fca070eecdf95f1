use Rattle.std.proofs.Common.{◌≡◌, ◌+◌, ◌<◌, ◌≤◌, length, List, [], drop, Some, slice_get, rules}
use Rattle.std.proofs.Common.{ap, sym, ◌∙◌, append-nil}
use Rattle.std.proofs.lemmas.Option.{slice_get-get_or}
use Rattle.trdp_net.specs.Networks.{Sent}
use Rattle.trdp_net.specs.Tellings.{sent_in, all_sent}
use Rattle.trdp_net.specs.declared.told.TelegramSearch.TheVariants.{Found}
use Rattle.trdp_net.specs.declared.told.Told.{Told}
use Rattle.trdp_net.proofs.TellingLemmas.{went, events_step, none_left}
use Rattle.trdp_net.proofs.told.find.Goals as goal

pub returns-in-Found : goal.returns-in-Found
returns-in-Found c =
    let events : List Told = c.args.events.now in
    let i = c.loop-told.told-index in
    let told = c.told-item.result in
    let lt : i < length events = search rules in
    let at : slice_get events i ≡ Some told =
    slice_get-get_or events i told lt ∙ ap (λ (t : Told). Some t) (sym c.told-item.is) in
    sym (ap (λ (xs : List Sent). slice_get xs c.args.which) (sym (append-nil (all_sent events)))
    ∙ went (all_sent events) (all_sent (drop i events)) (sent_in told)
    (all_sent (drop (i + 1) events)) c.args.which c.loop-told.left (Found c.in-Found.sent)
    c.loop-told.invariant (events_step events i told at) c.in-Found.ensures [])

pub returns : goal.returns
returns c =
    let events : List Told = c.args.events.now in
    let le : length events ≤ c.loop-told.told-index = search rules in
    sym (none_left events c.args.which c.loop-told.told-index c.loop-told.left
    c.loop-told.invariant le)
