use Rattle.std.proofs.Common.{◌≡◌, ◌∙◌, inl, inr, ap, rules, is_some, true, false}
use Rattle.std.proofs.Math.Path.{fun_ext}
use Rattle.trdp_model.specs.declared.any_object.AnyObject.{AnyObject}
use Rattle.trdp_table.specs.Tables.{TableState, all_objects, by_key}
use Rattle.trdp_table.specs.Pools.{held_in}
use Rattle.trdp_table.proofs.TableLemmas.Found.{some_held, object_held}
use Rattle.trdp_table.proofs.TableLemmas.Known.{some_lent}
use Rattle.trdp_table.proofs.table.Table.get_mut.Goals as goal

pub invariant_of-self-lent : goal.invariant_of-self-lent
invariant_of-self-lent c = λ w.
    let some : is_some (held_in c.self.inside.pool c.args.key) ≡ true = search rules in
    (some_lent c.self.inside.slots.items c.self.inside.pool c.args.key c.self.invariant some w).0

pub returns-then-is_some : goal.returns-then-is_some
returns-then-is_some c =
    let slots = c.self.inside.slots.items in
    let pool = c.self.inside.pool in
    let some : is_some (held_in pool c.args.key) ≡ true = search rules in (
      ap (λ (f : AnyObject → TableState). inl (c.object_mut.result.ghost_name, f))
          (fun_ext (λ w. rw (← c.self.view_is)
          (some_lent slots pool c.args.key c.self.invariant some w).1)),
      record {
        writes_back = tt;
        value = rw (← c.self.view_is)
            (c.object_mut.ensures.value ∙ object_held slots pool c.args.key c.self.invariant);
      },
    )

pub returns-else-is_some : goal.returns-else-is_some
returns-else-is_some c =
    let slots = c.self.inside.slots.items in
    let pool = c.self.inside.pool in
    let none : false ≡ is_some (held_in pool c.args.key) = search rules in
    let unknown : false ≡ is_some (by_key c.args.key (all_objects c.args.self.now)) =
    none ∙ rw (← c.self.view_is) (some_held slots pool c.args.key c.self.invariant) in (
      ap inr c.self.view_is,
      record { writes_back = tt; value = search rules },
    )
