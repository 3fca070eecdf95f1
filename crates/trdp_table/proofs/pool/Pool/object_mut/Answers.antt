use Rattle.std.proofs.Common.{◌≡◌, ◌∙◌, get_or, map, Some, None, refl, ap, vec_capacity}
use Rattle.trdp_table.specs.Pools.{placed, held_in}
use Rattle.trdp_table.proofs.PoolLemmas.Places.{held_at}
use Rattle.trdp_table.proofs.PoolLemmas.Changes.{place_there, kept_lent, seen_lent}
use Rattle.trdp_table.proofs.pool.Pool.object_mut.Goals as goal

pub place_of-place-requires : goal.place_of-place-requires
place_of-place-requires c =
    rw c.deref.ensures.value (place_there c.self.inside.slab
    c.self.inside.places.items c.args.key (rw (← c.self.view_is) at c.requires))

pub invariant_of-self-lent : goal.invariant_of-self-lent
invariant_of-self-lent c = λ w.
    let s = c.self.inside.slab in
    let ps = c.self.inside.places.items in
    let capacity = vec_capacity c.self.inside.free in
    kept_lent s ps c.self.inside.free.items capacity c.place_of-place.result
    c.index_mut-held.result.now _ c.self.invariant c.index_mut-held.ensures.value

pub returns : goal.returns
returns c =
    let s = c.self.inside.slab in
    let ps = c.self.inside.places.items in
    let capacity = vec_capacity c.self.inside.free in
    let named : get_or ps c.args.key None ≡ Some c.place_of-place.result =
    rw c.deref.ensures.value at c.place_of-place.ensures in
    let at : held_in (map (placed s) ps) c.args.key ≡ Some c.index_mut-held.result.now =
    held_at s ps c.args.key ∙ (ap (placed s) named ∙ c.index_mut-held.ensures.value) in (
      (
        refl,
        λ w. rw (← c.self.view_is)
            (seen_lent s ps c.self.inside.free.items capacity c.args.key c.place_of-place.result
            c.index_mut-held.result.now w c.self.invariant named c.index_mut-held.ensures.value),
      ),
      record {
        writes_back = tt;
        value = rw (← c.self.view_is, at) refl;
      },
    )
