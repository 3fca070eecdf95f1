use Rattle.std.proofs.Common.{◌≡◌, ◌∙◌, Some, ap, sym, rules}
use Rattle.trdp_table.specs.Pools.{held_in, owner_of, owner_in}
use Rattle.trdp_table.proofs.TableLemmas.Found.{found_key}
use Rattle.trdp_table.proofs.table.Table.find_near.Goals as goal

pub returns : goal.returns
returns c =
    let slots = c.self.inside.slots.items in
    let pool = c.self.inside.pool in
    let held : held_in pool c.in-Some.key ≡ Some c.in-Some-get.held.now = search rules in
    let pair : owner_of (Some c.in-Some-get.held.now) ≡ Some (c.args.slot, c.args.handle) =
    search rules in
    let owner : owner_in pool c.in-Some.key ≡ Some (c.args.slot, c.args.handle) =
    ap owner_of held ∙ pair in
    rw (← c.self.view_is)
    (sym (found_key slots pool c.args.slot c.args.handle
    ∙ c.self.invariant.owned c.args.slot c.args.handle c.in-Some.key owner))
