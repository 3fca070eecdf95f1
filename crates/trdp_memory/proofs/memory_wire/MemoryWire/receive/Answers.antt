use Rattle.std.proofs.Common.{◌≡◌, ◌+◌, ◌<◌, ◌∙◌, ◌&&◌, [], ◌∷◌, ◌++◌, Bool, false, sym, ap, arith}
use Rattle.std.proofs.Common.{length, map, subst, if◌then◌else◌}
use Rattle.trdp_memory.specs.contracts.memory_wire.MemoryWire.{the_view}
use Rattle.trdp_memory.specs.MemoryWires.{after_take, arrival_for}
use Rattle.trdp_wire.specs.Failures.{failure_after}
use Rattle.trdp_memory.specs.MemoryWires.{ends_at, is_failing, next_arrival, next_ends, takes_at}
use Rattle.std.specs.List.{count_by}
use Rattle.trdp_memory.specs.declared.rows.TakeRow.{TakeRow}
use Rattle.trdp_wire.specs.Ports.{is_port}
use Rattle.trdp_memory.specs.Rows.{IsLaidDown, arrived_of, row_taking}
use Rattle.trdp_wire.specs.Told.{arrived_in, taking_at, taking_of}
use Rattle.trdp_memory.proofs.MemoryWireLemmas.{arrival_beyond, arrival_within, take_beyond}
use Rattle.trdp_memory.proofs.MemoryWireLemmas.{ends_beyond, ends_within, take_within}
use Rattle.trdp_memory.proofs.TakeRowLemmas.{takes_rows, takings_push, within_row, many_takings}
use Rattle.trdp_memory.proofs.memory_wire.MemoryWire.receive.Goals as goal

pub returns-then-len-capacity-clause-arrived : goal.returns-then-len-capacity-clause-arrived
returns-then-len-capacity-clause-arrived c =
    let none : (the_view c.self.inside).take_room ≡ 0 =
    omega (arith, c.if-len-capacity.true, c.len.ensures, c.capacity.ensures) in
    arrival_beyond (the_view c.self.inside) c.args.port
    (length c.args.room.now) (arrived_in c.failing_take-result.result.1 c.args.room.now)
    none (c.failing_take-result.ensures.arrived c.args.room.now)
    ∙ ap (λ w. next_arrival w c.args.port (length c.args.room.now)) c.self.view_is

pub returns-then-len-capacity-clause-after : goal.returns-then-len-capacity-clause-after
returns-then-len-capacity-clause-after c =
    let none : (the_view c.self.inside).take_room ≡ 0 =
    omega (arith, c.if-len-capacity.true, c.len.ensures, c.capacity.ensures) in
    let taking = taking_of c.args.port (λ place. c.args.looks && next_ends c.args.self.now c.args.port)
    c.failing_take-result.result.1 c.args.room.now in
    take_beyond (the_view c.self.inside) taking c.failing_take-result.new.failures
    none (c.failing_take-result.ensures.failures c.args.room.now)
    ∙ ap (λ w. after_take w taking) c.self.view_is

pub returns-then-len-capacity-clause-ended : goal.returns-then-len-capacity-clause-ended
returns-then-len-capacity-clause-ended c =
    let none : (the_view c.self.inside).take_room ≡ 0 =
    omega (arith, c.if-len-capacity.true, c.len.ensures, c.capacity.ensures) in
    ends_beyond (the_view c.self.inside) c.args.port c.args.looks none
    ∙ ap (λ w. c.args.looks && next_ends w c.args.port) c.self.view_is

pub invariant_of-self-2 : goal.invariant_of-self-2
invariant_of-self-2 c = (
  c.self.invariant.0,
  within_row (length c.self.inside.arrivals.items)
      c.self.inside.taken.items c.push_take.new.taken.items _ c.push_take.ensures.items
      c.self.invariant.1 (subst (λ l. IsLaidDown (length l) c.answer_take-answer.result.0)
      c.deref-4.ensures.value c.answer_take-answer.ensures.known),
  c.self.invariant.2,
)

pub returns-clause-arrived : goal.returns-clause-arrived
returns-clause-arrived c =
    let w = the_view c.self.inside in
    let some : 0 < w.take_room =
    omega (arith, c.if-len-capacity.false, c.len.ensures, c.capacity.ensures) in
    let many : c.len-2.result ≡ length c.self.inside.taken.items = omega (arith, c.len-2.ensures) in
    let which : c.is_failing-fails.result
    ≡ is_failing w.laid_down.failing_takes (length w.takings + 1) = c.is_failing-fails.ensures
    ∙ ap (λ l. is_failing l (c.len-2.result + 1)) c.deref.ensures.value
    ∙ ap (λ n. is_failing c.self.inside.failing_takes.items (n + 1)) (many
    ∙ sym (many_takings c.self.inside.arrivals.items c.self.inside.taken.items)) in
    let nth : c.takes_at-number.result + 1 ≡ takes_at c.args.port w.takings + 1 =
    ap (λ n. n + 1) (c.takes_at-number.ensures
    ∙ ap (λ l. count_by (λ (row : TakeRow). is_port row.port c.args.port) l) c.deref-2.ensures.value
    ∙ takes_rows c.self.inside.arrivals.items c.args.port c.self.inside.taken.items) in
    arrival_within w c.args.port (length c.args.room.now)
    _ c.is_failing-fails.result _ some which nth
    (c.answer_take-answer.ensures.arrived ∙ ap (λ l. if c.is_failing-fails.result
    then failure_after c.self.inside.failures else arrival_for l c.args.port
    (c.takes_at-number.result + 1) (length c.args.room.now)) c.deref-4.ensures.value)
    ∙ ap (λ w. next_arrival w c.args.port (length c.args.room.now)) c.self.view_is

pub returns-clause-ended : goal.returns-clause-ended
returns-clause-ended c =
    let w = the_view c.self.inside in
    let some : 0 < w.take_room =
    omega (arith, c.if-len-capacity.false, c.len.ensures, c.capacity.ensures) in
    let many : c.len-2.result ≡ length c.self.inside.taken.items = omega (arith, c.len-2.ensures) in
    let which : c.is_failing-fails.result
    ≡ is_failing w.laid_down.failing_takes (length w.takings + 1) = c.is_failing-fails.ensures
    ∙ ap (λ l. is_failing l (c.len-2.result + 1)) c.deref.ensures.value
    ∙ ap (λ n. is_failing c.self.inside.failing_takes.items (n + 1)) (many
    ∙ sym (many_takings c.self.inside.arrivals.items c.self.inside.taken.items)) in
    let nth : c.takes_at-number.result + 1 ≡ takes_at c.args.port w.takings + 1 =
    ap (λ n. n + 1) (c.takes_at-number.ensures
    ∙ ap (λ l. count_by (λ (row : TakeRow). is_port row.port c.args.port) l) c.deref-2.ensures.value
    ∙ takes_rows c.self.inside.arrivals.items c.args.port c.self.inside.taken.items) in
    c.hands_end-ended.ensures
    ∙ ap (λ l. c.args.looks && (if c.is_failing-fails.result then false
    else ends_at l c.args.port (c.takes_at-number.result + 1))) c.deref-3.ensures.value
    ∙ ap (λ b. c.args.looks && b) (ends_within w c.args.port (c.takes_at-number.result + 1)
    c.is_failing-fails.result some which nth)
    ∙ ap (λ x. c.args.looks && next_ends x c.args.port) c.self.view_is

pub returns-clause-after : goal.returns-clause-after
returns-clause-after c =
    let w = the_view c.self.inside in
    let some : 0 < w.take_room =
    omega (arith, c.if-len-capacity.false, c.len.ensures, c.capacity.ensures) in
    let ended : Bool = c.args.looks && next_ends c.args.self.now c.args.port in
    let arrived = arrived_in c.answer_take-answer.result.1 c.answer_take-answer.new.room in
    let taking = taking_of c.args.port (λ place. ended)
    c.answer_take-answer.result.1 c.answer_take-answer.new.room in
    let pushed = takings_push c.self.inside.arrivals.items c.self.inside.taken.items
    c.push_take.new.taken.items c.args.port (length c.answer_take-answer.new.room)
    c.answer_take-answer.result.0 c.hands_end-ended.result arrived
    c.push_take.ensures.items (ap (λ l. arrived_of l c.answer_take-answer.result.0)
    (sym c.deref-4.ensures.value) ∙ c.answer_take-answer.ensures.told) in
    let more = pushed ∙ ap (λ b. map (row_taking c.self.inside.arrivals.items)
    c.self.inside.taken.items ++ taking_at c.args.port (length c.answer_take-answer.new.room)
    (λ place. b) arrived ∷ []) (returns-clause-ended c) in
    take_within w taking _ c.answer_take-answer.new.failures
    _ some more c.answer_take-answer.ensures.failures
    (omega (arith, c.push_take.ensures.len, c.push_take.ensures.capacity))
    ∙ ap (λ w. after_take w taking) c.self.view_is
