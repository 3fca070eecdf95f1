use Rattle.std.proofs.Common.{◌≡◌, [], ◌∷◌, length, drop, sym, subst, arith}
use Rattle.trdp_base.specs.Reported.{TellsMore}
use Rattle.trdp_lines.specs.Connections.{Reading, Reads}
use Rattle.trdp_lines.proofs.IntakeLemmas.{read_between, grown_by, longer_by, still_in_order}
use Rattle.trdp_lines.proofs.IntakeLemmas.{came_at_most}
use Rattle.trdp_lines.proofs.intake.Intake.fill.Goals as goal

pub invariant_of-self : goal.invariant_of-self
invariant_of-self g c =
    let inside = c.self.inside in
    let came = c.refill-came.result in
    let room = c.refill-came.new.room in
    let most = came_at_most came _ c.refill-came.ensures.count in
    let spare : length c.deref_mut.result.now ≡ 140000 = omega (arith, c.deref_mut.ensures.len) in
    rw c.count.ensures (still_in_order came inside.room.items room
    (drop (length room) inside.room.items) inside.room.len inside.begin inside.end
    (omega (arith, c.refill-came.auto.room, c.deref_mut.ensures.len)) (omega arith)
    (rw c.deref_mut.ensures.value at c.refill-came.ensures.bytes) inside.seen
    (omega (arith, c.refill-came.auto.room, spare))
    (omega (arith, most, spare, c.self.invariant.order))
    c.self.invariant.order c.self.invariant.unended)

pub returns-clause-bytes : goal.returns-clause-bytes
returns-clause-bytes g c =
    let inside = c.self.inside in
    let room = c.refill-came.new.room in
    rw (c.count.ensures, ← c.self.view_is) (grown_by c.refill-came.result inside.room.items room
    (drop (length room) inside.room.items) inside.room.len inside.begin inside.end
    (omega (arith, c.refill-came.auto.room, c.deref_mut.ensures.len)) (omega arith)
    (rw c.deref_mut.ensures.value at c.refill-came.ensures.bytes))

pub returns-clause-told : goal.returns-clause-told
returns-clause-told g c =
    let inside = c.self.inside in
    let room = c.refill-came.new.room in
    let whole : length c.deref_mut.result.now ≡ 140000 = omega (arith, c.deref_mut.ensures.len) in
    rw (c.count.ensures, ← c.self.view_is) (subst (λ (reading : Reading).
    TellsMore (g.C.Connections.calls c.args.from.now)
    (g.C.Connections.calls c.refill-came.new.from) (Reads c.args.number reading ∷ [])) (sym (
    read_between c.refill-came.result inside.room.items room
    (drop (length room) inside.room.items) inside.room.len inside.begin inside.end
    (omega (arith, c.refill-came.auto.room, c.deref_mut.ensures.len)) (omega arith)
    (rw c.deref_mut.ensures.value at c.refill-came.ensures.bytes)))
    (rw whole at c.refill-came.ensures.told))

pub returns-clause-length : goal.returns-clause-length
returns-clause-length g c =
    let inside = c.self.inside in
    let came = c.refill-came.result in
    let room = c.refill-came.new.room in
    let most = came_at_most came _ c.refill-came.ensures.count in
    rw (c.count.ensures, ← c.self.view_is) (longer_by came inside.room.items room
    (drop (length room) inside.room.items) inside.room.len inside.begin inside.end
    (omega (arith, c.refill-came.auto.room, c.deref_mut.ensures.len)) (omega arith)
    (rw c.deref_mut.ensures.value at c.refill-came.ensures.bytes)
    (omega (arith, most, c.deref_mut.ensures.len, c.self.invariant.order)))
