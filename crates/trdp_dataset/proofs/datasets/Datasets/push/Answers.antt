use Rattle.std.proofs.Common.{refl, sym, ◌∙◌}
use Rattle.trdp_dataset.proofs.LookupLemmas.{known_stored, pushed}
use Rattle.trdp_dataset.proofs.datasets.Datasets.push.Goals as goal

pub returns-then-contains_key-clause-twice : goal.returns-then-contains_key-clause-twice
returns-then-contains_key-clause-twice c =
    λ _. (
      rw (← c.self.view_is) (sym (known_stored c.self.inside.by_id.entries c.args.id)
          ∙ (sym c.contains_key.ensures ∙ c.if-contains_key.true)),
      refl,
    )

pub returns-clause-new : goal.returns-clause-new
returns-clause-new c =
    let absent = sym c.contains_key.ensures ∙ c.if-contains_key.false in
    λ _. rw (← c.self.view_is) (
      sym (known_stored c.self.inside.by_id.entries c.args.id) ∙ absent,
      pushed c.self.inside.by_id c.insert.new.self.entries
          c.args.id c.args.elements absent c.in_ok-insert.ensures.entries,
    )
