use Rattle.std.proofs.Common.{ℕ, List, subst, [], ◌∷◌, ◌++◌, refl, vec_capacity, arith}
use Rattle.std.proofs.lemmas.List.{length-map}
use Rattle.trdp_table.specs.Pools.{placed, IsKeptPool}
use Rattle.trdp_table.proofs.PoolLemmas.Changes.{some_free, slab_room, last_free}
use Rattle.trdp_table.proofs.PoolLemmas.Places.{held_at}
use Rattle.trdp_table.proofs.PoolLemmas.Changes.{kept_insert, seen_insert}
use Rattle.trdp_table.proofs.pool.Pool.insert.Goals as goal

pub unreachable-requires : goal.unreachable-requires
unreachable-requires c =
    let s = c.self.inside.slab in
    let ps = c.self.inside.places.items in
    let capacity = vec_capacity c.self.inside.free in
    let free = some_free s ps c.self.inside.free.items
    capacity c.self.invariant (rw (← c.self.view_is) at c.requires) in
    absurd (omega (arith, free, c.in_default.ensures.cases.0))

pub insert_reserved-place-requires : goal.insert_reserved-place-requires
insert_reserved-place-requires c =
    let s = c.self.inside.slab in
    let ps = c.self.inside.places.items in
    let capacity = vec_capacity c.self.inside.free in
    slab_room s ps c.self.inside.free.items capacity c.self.invariant (some_free s
    ps c.self.inside.free.items capacity c.self.invariant (rw (← c.self.view_is) at c.requires))

pub index_mut-requires : goal.index_mut-requires
index_mut-requires c =
    let s = c.self.inside.slab in
    let ps = c.self.inside.places.items in
    let capacity = vec_capacity c.self.inside.free in
    let P : List ℕ → Type 0 = λ xs. IsKeptPool s ps xs capacity in
    let is = subst P c.in-Some.ensures.items c.self.invariant in
    omega (arith, (last_free s ps c.pop.new.self.items capacity c.in-Some.key is).0)

pub invariant_of-self : goal.invariant_of-self
invariant_of-self c =
    let s = c.self.inside.slab in
    let ps = c.self.inside.places.items in
    let capacity = vec_capacity c.self.inside.free in
    let P : List ℕ → Type 0 = λ xs. IsKeptPool s ps xs capacity in
    let is = subst P c.in-Some.ensures.items c.self.invariant in
    rw c.pop.ensures.capacity
    (kept_insert s c.insert_reserved-place.new.self
    ps c.pop.new.self.items capacity c.in-Some.key c.insert_reserved-place.result c.args.held
    is c.insert_reserved-place.ensures.was_vacant c.insert_reserved-place.ensures.updates
    c.insert_reserved-place.ensures.len c.insert_reserved-place.ensures.capacity)

pub returns-clause-vacant : goal.returns-clause-vacant
returns-clause-vacant c =
    let s = c.self.inside.slab in
    let ps = c.self.inside.places.items in
    let capacity = vec_capacity c.self.inside.free in
    let P : List ℕ → Type 0 = λ xs. IsKeptPool s ps xs capacity in
    let is = subst P c.in-Some.ensures.items c.self.invariant in
    rw (
      ← c.self.view_is,
      held_at s ps c.in-Some.key,
      (last_free s ps c.pop.new.self.items capacity c.in-Some.key is).1,
    ) refl

pub returns-clause-within : goal.returns-clause-within
returns-clause-within c =
    let s = c.self.inside.slab in
    let ps = c.self.inside.places.items in
    let capacity = vec_capacity c.self.inside.free in
    let P : List ℕ → Type 0 = λ xs. IsKeptPool s ps xs capacity in
    let is = subst P c.in-Some.ensures.items c.self.invariant in
    let within = (last_free s ps c.pop.new.self.items capacity c.in-Some.key is).0 in
    rw (← c.self.view_is, length-map ps (placed s)) within

pub returns-clause-pool : goal.returns-clause-pool
returns-clause-pool c =
    let s = c.self.inside.slab in
    let ps = c.self.inside.places.items in
    let capacity = vec_capacity c.self.inside.free in
    let P : List ℕ → Type 0 = λ xs. IsKeptPool s ps xs capacity in
    let is = subst P c.in-Some.ensures.items c.self.invariant in
    rw (← c.self.view_is)
    (seen_insert s c.insert_reserved-place.new.self ps (c.pop.new.self.items ++ c.in-Some.key ∷ [])
    capacity c.in-Some.key c.insert_reserved-place.result c.args.held
    is c.insert_reserved-place.ensures.was_vacant c.insert_reserved-place.ensures.updates)
