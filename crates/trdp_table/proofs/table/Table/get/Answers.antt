use Rattle.std.proofs.Common.{◌≡◌, ◌∙◌, None, Some, ap, rules}
use Rattle.std.specs.Prelude.{option_map}
use Rattle.trdp_table.specs.declared.held.Held.{Held}
use Rattle.trdp_table.specs.Pools.{held_in}
use Rattle.trdp_table.proofs.TableLemmas.Found.{object_held}
use Rattle.trdp_table.proofs.table.Table.get.Goals as goal

pub returns-in-Some : goal.returns-in-Some
returns-in-Some c =
    let pool = c.self.inside.pool in
    let held : Some c.in-Some.held.now ≡ held_in pool c.args.key = search rules in
    rw (← c.self.view_is) (ap (option_map (λ (held : Held). held.object)) held
    ∙ object_held c.self.inside.slots.items pool c.args.key c.self.invariant)

pub returns-in-None : goal.returns-in-None
returns-in-None c =
    let pool = c.self.inside.pool in
    let none : None ≡ held_in pool c.args.key = search rules in
    rw (← c.self.view_is) (ap (option_map (λ (held : Held). held.object)) none
    ∙ object_held c.self.inside.slots.items pool c.args.key c.self.invariant)
