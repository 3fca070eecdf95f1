use Rattle.std.proofs.Common.{◌≡◌, vec_capacity, ap, arith}
use Rattle.slab.specs.Slab.{Slab}
use Rattle.trdp_table.specs.declared.held.Held.{Held}
use Rattle.trdp_table.proofs.PoolLemmas.Growth.{kept_wider, kept_keys, seen_keys}
use Rattle.trdp_table.proofs.pool.Pool.grow.Goals as goal

pub invariant_of-self-in_err-reserve_exact-3 : goal.invariant_of-self-in_err-reserve_exact-3
invariant_of-self-in_err-reserve_exact-3 c =
    let s = c.self.inside.slab in
    let t = c.reserve_exact-3.new.self in
    let same : t.slots ≡ s.slots =
    ap (λ (slab : Slab Held). slab.slots) c.reserve_exact-3.ensures.rest_kept in
    rw (c.reserve_exact.ensures.items, c.reserve_exact-2.ensures.items)
    (kept_wider s t c.self.inside.places.items c.self.inside.free.items
    (vec_capacity c.self.inside.free) (vec_capacity c.reserve_exact-2.new.self) c.self.invariant
    same c.reserve_exact-3.ensures.capacity c.reserve_exact-2.ensures.capacity)

pub invariant_of-self-2 : goal.invariant_of-self-2
invariant_of-self-2 c =
    let s = c.self.inside.slab in
    let t = c.reserve_exact-3.new.self in
    let ps = c.self.inside.places.items in
    let free = c.self.inside.free.items in
    let capacity = vec_capacity c.reserve_exact-2.new.self in
    let same : t.slots ≡ s.slots =
    ap (λ (slab : Slab Held). slab.slots) c.reserve_exact-3.ensures.rest_kept in
    let wider = kept_wider s t ps free (vec_capacity c.self.inside.free) capacity c.self.invariant
    same c.reserve_exact-3.ensures.capacity c.reserve_exact-2.ensures.capacity in
    rw (
      c.add_keys.ensures.places,
      c.add_keys.ensures.free,
      c.add_keys.ensures.capacity,
      c.reserve_exact.ensures.items,
      c.reserve_exact-2.ensures.items,
    )
    (kept_keys t c.args.more ps free capacity wider
    (omega (
      arith,
      c.in_ok-reserve_exact-3.ensures.room,
      wider.all,
      wider.count,
      c.len.ensures,
      c.reserve_exact-2.ensures.len,
    ))
    (omega (
      arith,
      c.in_ok-reserve_exact-2.ensures.ok,
      c.self.invariant.all,
      c.self.invariant.count,
      c.len-held.ensures,
      c.reserve_exact-2.ensures.len,
    )))

pub returns-clause-ok : goal.returns-clause-ok
returns-clause-ok c =
    let s = c.self.inside.slab in
    let t = c.reserve_exact-3.new.self in
    let same : t.slots ≡ s.slots =
    ap (λ (slab : Slab Held). slab.slots) c.reserve_exact-3.ensures.rest_kept in
    rw (← c.self.view_is, c.add_keys.ensures.places, c.reserve_exact.ensures.items)
    (seen_keys s t c.args.more c.self.inside.places.items same)
