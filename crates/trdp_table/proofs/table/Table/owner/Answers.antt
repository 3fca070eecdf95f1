use Rattle.std.proofs.Common.{◌≡◌, ◌∙◌, None, Some, ap, sym, rules, is_some}
use Rattle.trdp_table.specs.Pools.{held_in}
use Rattle.trdp_table.proofs.TableLemmas.Found.{found_held, some_held}
use Rattle.trdp_table.proofs.table.Table.owner.Goals as goal
use Rattle.trdp_table.proofs.table.Table.owner.Goals.{In-Some}

there : (c : In-Some) → held_in c.self.inside.pool c.args.key ≡ Some c.in-Some.held.now
there c = search rules

pub returns-in-Some-clause-owner : goal.returns-in-Some-clause-owner
returns-in-Some-clause-owner c =
    rw (← c.self.view_is)
    (found_held c.self.inside.slots.items c.self.inside.pool c.args.key
    c.in-Some.held.now c.self.invariant (there c)).same

pub returns-in-Some-clause-variant : goal.returns-in-Some-clause-variant
returns-in-Some-clause-variant c =
    rw (← c.self.view_is) (ap is_some (sym (there c))
    ∙ some_held c.self.inside.slots.items c.self.inside.pool c.args.key c.self.invariant)

pub returns-in-None-clause-variant : goal.returns-in-None-clause-variant
returns-in-None-clause-variant c =
    let none : None ≡ held_in c.self.inside.pool c.args.key = search rules in
    rw (← c.self.view_is) (ap is_some none
    ∙ some_held c.self.inside.slots.items c.self.inside.pool c.args.key c.self.invariant)
