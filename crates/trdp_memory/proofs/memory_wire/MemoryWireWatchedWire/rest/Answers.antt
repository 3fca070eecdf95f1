use Rattle.std.proofs.Common.{◌≡◌, ◌<◌, ◌∙◌, [], ◌∷◌, ◌++◌, sym, ap, arith, length, subst, ℕ}
use Rattle.trdp_memory.specs.contracts.memory_wire.MemoryWire.{the_view}
use Rattle.trdp_memory.specs.declared.rows.Rest.{Rest}
use Rattle.trdp_memory.specs.MemoryWires.{MemoryWireState, after_rest, asked_rest}
use Rattle.trdp_memory.proofs.MemoryWireLemmas.{rest_beyond, rest_within}
use Rattle.trdp_memory.proofs.TakeRowLemmas.{many_takings}
use Rattle.trdp_memory.proofs.memory_wire.MemoryWireWatchedWire.rest.Goals as goal

pub returns-then-len-capacity-clause-rests : goal.returns-then-len-capacity-clause-rests
returns-then-len-capacity-clause-rests c =
    let w = the_view c.self.inside in
    let some : 0 < w.rest_room =
    omega (arith, c.if-len-capacity.true, c.len.ensures, c.capacity.ensures) in
    let many : c.len-takes.result ≡ length c.self.inside.taken.items =
    omega (arith, c.len-takes.ensures) in
    let told : c.len-takes.result ≡ length w.takings =
    many ∙ sym (many_takings c.self.inside.arrivals.items c.self.inside.taken.items) in
    rest_within w (asked_rest w c.args.most) _ _ some
    (c.push_rest.ensures.items
    ∙ ap (λ (n : ℕ). c.self.inside.rested.items
    ++ (let rest : Rest = record { takes = n; most = c.args.most } in rest) ∷ []) told)
    (omega (arith, c.push_rest.ensures.len, c.push_rest.ensures.capacity))
    ∙ ap (λ x. after_rest x (asked_rest x c.args.most)) c.self.view_is

pub returns-else-len-capacity-clause-rests : goal.returns-else-len-capacity-clause-rests
returns-else-len-capacity-clause-rests c =
    let w = the_view c.self.inside in
    let none : w.rest_room ≡ 0 =
    omega (arith, c.if-len-capacity.false, c.len.ensures, c.capacity.ensures) in
    subst (λ (x : MemoryWireState). x ≡ after_rest x (asked_rest x c.args.most)) c.self.view_is
    (rest_beyond w (asked_rest w c.args.most) none)
