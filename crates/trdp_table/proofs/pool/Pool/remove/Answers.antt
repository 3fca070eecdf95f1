use Rattle.std.proofs.Common.{◌≡◌, get_or, Some, None, vec_capacity, arith}
use Rattle.trdp_table.proofs.PoolLemmas.Changes.{place_there, list_room, kept_remove, seen_remove}
use Rattle.trdp_table.proofs.pool.Pool.remove.Goals as goal

pub place_of-place-requires : goal.place_of-place-requires
place_of-place-requires c =
    rw c.deref.ensures.value (place_there c.self.inside.slab
    c.self.inside.places.items c.args.key (rw (← c.self.view_is) at c.requires))

pub push_reserved-requires : goal.push_reserved-requires
push_reserved-requires c =
    let s = c.self.inside.slab in
    let ps = c.self.inside.places.items in
    let capacity = vec_capacity c.self.inside.free in
    let named : get_or ps c.args.key None ≡ Some c.place_of-place.result =
    rw c.deref.ensures.value at c.place_of-place.ensures in
    omega (
      arith,
      list_room s ps c.self.inside.free.items
          capacity c.args.key c.place_of-place.result c.self.invariant named,
    )

pub invariant_of-self : goal.invariant_of-self
invariant_of-self c =
    let s = c.self.inside.slab in
    let ps = c.self.inside.places.items in
    let capacity = vec_capacity c.self.inside.free in
    let named : get_or ps c.args.key None ≡ Some c.place_of-place.result =
    rw c.deref.ensures.value at c.place_of-place.ensures in
    rw (c.push_reserved.ensures.items, c.push_reserved.ensures.capacity)
    (kept_remove s c.remove.new.self ps c.self.inside.free.items
    capacity c.args.key c.place_of-place.result c.self.invariant
    named c.remove.ensures.updates c.remove.ensures.len c.remove.ensures.capacity)

pub returns-clause-pool : goal.returns-clause-pool
returns-clause-pool c =
    let s = c.self.inside.slab in
    let ps = c.self.inside.places.items in
    let capacity = vec_capacity c.self.inside.free in
    let named : get_or ps c.args.key None ≡ Some c.place_of-place.result =
    rw c.deref.ensures.value at c.place_of-place.ensures in
    rw (← c.self.view_is)
    (seen_remove s c.remove.new.self ps c.self.inside.free.items
    capacity c.args.key c.place_of-place.result c.self.invariant named c.remove.ensures.updates)
