use Rattle.std.proofs.Common.{length, sym, arith}
use Rattle.trdp_timers.proofs.DueLemmas.{none_below, unset_size, unset_one, least_due}
use Rattle.trdp_timers.proofs.DueLemmas.{add_left, add_right, total_is, total_fits}
use Rattle.trdp_timers.proofs.DueLemmas.{count_due_left, count_due_right, costs_due}
use Rattle.trdp_timers.proofs.heap.Heap.+due_below.Goals as goal

pub returns-then-place-len-clause-first_total : goal.returns-then-place-len-clause-first_total
returns-then-place-len-clause-first_total t c = λ d deep.
    sym (none_below c.args.t c.args.orders.now.items c.args.self.now.keys.items
    _ (λ k. unset_size c.args.t c.args.orders.now.items c.args.sizes.0.now k c.requires.first)
    c.requires.order d c.args.place (λ h. absurd (omega arith)))

pub returns-then-place-len-clause-second_total : goal.returns-then-place-len-clause-second_total
returns-then-place-len-clause-second_total t c = λ d deep.
    sym (none_below c.args.t c.args.orders.now.items c.args.self.now.keys.items
    _ (λ k. unset_size c.args.t c.args.orders.now.items c.args.sizes.1.now k c.requires.second)
    c.requires.order d c.args.place (λ h. absurd (omega arith)))

pub returns-in-None-clause-first_total : goal.returns-in-None-clause-first_total
returns-in-None-clause-first_total t c =
    λ d deep. sym (none_below c.args.t c.args.orders.now.items c.args.self.now.keys.items
    _ (λ k. unset_size c.args.t c.args.orders.now.items c.args.sizes.0.now k c.requires.first)
    c.requires.order d c.args.place (λ h. c.in-None.ensures.none))

pub returns-in-None-clause-second_total : goal.returns-in-None-clause-second_total
returns-in-None-clause-second_total t c =
    λ d deep. sym (none_below c.args.t c.args.orders.now.items c.args.self.now.keys.items
    _ (λ k. unset_size c.args.t c.args.orders.now.items c.args.sizes.1.now k c.requires.second)
    c.requires.order d c.args.place (λ h. c.in-None.ensures.none))

pub due_below-left-requires : goal.due_below-left-requires
due_below-left-requires t c =
    let n = length c.args.self.now.keys.items in
    let probes = count_due_left n c.args.place c.args.probes.now c.due_at.new.probes
    _ (omega arith) c.in-Some.ensures.one c.due_at.ensures.counted c.requires.probes in (
      omega arith,
      (
        c.requires.placed,
        (
          c.requires.order,
          (
            c.requires.first,
            (
              c.requires.second,
              (
                add_left n c.args.place _ (omega arith) c.requires.first_fits,
                (add_left n c.args.place _ (omega arith) c.requires.second_fits, probes),
              ),
            ),
          ),
        ),
      ),
    )

pub due_below-right-requires : goal.due_below-right-requires
due_below-right-requires t c =
    let n = length c.args.self.now.keys.items in
    let probes = count_due_right n c.args.place c.args.probes.now c.due_at.new.probes
    c.due_below-left.new.probes _ (omega arith) c.in-Some.ensures.one
    c.due_at.ensures.counted c.due_below-left.ensures.cost c.requires.probes in (
      omega arith,
      (
        c.requires.placed,
        (
          c.requires.order,
          (
            c.requires.first,
            (
              c.requires.second,
              (
                add_right n c.args.place _ (omega arith) c.requires.first_fits,
                (add_right n c.args.place _ (omega arith) c.requires.second_fits, probes),
              ),
            ),
          ),
        ),
      ),
    )

pub returns-in-Some-clause-first_total : goal.returns-in-Some-clause-first_total
returns-in-Some-clause-first_total t c =
    total_is (length c.args.self.now.keys.items)
    c.args.place c.in-Some.first c.due_below-left.result.0 c.due_below-right.result.0 _
    (omega arith) c.in-Some.ensures.first
    c.due_below-left.ensures.first_total c.due_below-right.ensures.first_total

pub returns-in-Some-clause-second_total : goal.returns-in-Some-clause-second_total
returns-in-Some-clause-second_total t c =
    total_is (length c.args.self.now.keys.items)
    c.args.place c.in-Some.second c.due_below-left.result.1 c.due_below-right.result.1 _
    (omega arith) c.in-Some.ensures.second
    c.due_below-left.ensures.second_total c.due_below-right.ensures.second_total

pub returns-in-Some-clause-cost : goal.returns-in-Some-clause-cost
returns-in-Some-clause-cost t c =
    costs_due (length c.args.self.now.keys.items)
    c.args.place c.args.probes.now c.due_at.new.probes c.due_below-left.new.probes
    c.due_below-right.new.probes _ (omega arith) c.in-Some.ensures.one c.due_at.ensures.counted
    c.due_below-left.ensures.cost c.due_below-right.ensures.cost

pub returns-then-place-len-clause-least : goal.returns-then-place-len-clause-least
returns-then-place-len-clause-least t c = λ d deep. let none =
    none_below c.args.t c.args.orders.now.items
    c.args.self.now.keys.items _ (λ k. unset_one c.args.t c.args.orders.now.items k)
    c.requires.order d c.args.place (λ h. absurd (omega arith)) in omega arith

pub returns-in-None-clause-least : goal.returns-in-None-clause-least
returns-in-None-clause-least t c = λ d deep. let none = none_below c.args.t c.args.orders.now.items
    c.args.self.now.keys.items _ (λ k. unset_one c.args.t c.args.orders.now.items k)
    c.requires.order d c.args.place (λ h. c.in-None.ensures.none) in omega arith

pub returns-in-Some-clause-least : goal.returns-in-Some-clause-least
returns-in-Some-clause-least t c =
    least_due (length c.args.self.now.keys.items)
    c.args.place c.args.probes.now c.due_at.new.probes c.due_below-left.new.probes
    c.due_below-right.new.probes _ (omega arith) c.in-Some.ensures.one c.due_at.ensures.counted
    c.due_below-left.ensures.least c.due_below-right.ensures.least

pub overflow_add-result : goal.overflow_add-result
overflow_add-result t c =
    let all = total_fits (length c.args.self.now.keys.items) c.args.place c.in-Some.first
    c.due_below-left.result.0 c.due_below-right.result.0 _ (omega arith) c.in-Some.ensures.first
    c.due_below-left.ensures.first_total c.due_below-right.ensures.first_total
    c.requires.first_fits in
    omega arith

pub overflow_add-result-in-Some : goal.overflow_add-result-in-Some
overflow_add-result-in-Some t c =
    let all = total_fits (length c.args.self.now.keys.items) c.args.place c.in-Some.first
    c.due_below-left.result.0 c.due_below-right.result.0 _ (omega arith) c.in-Some.ensures.first
    c.due_below-left.ensures.first_total c.due_below-right.ensures.first_total
    c.requires.first_fits in
    omega arith

pub overflow_add-result-in-Some-2 : goal.overflow_add-result-in-Some-2
overflow_add-result-in-Some-2 t c =
    let all = total_fits (length c.args.self.now.keys.items) c.args.place c.in-Some.second
    c.due_below-left.result.1 c.due_below-right.result.1 _ (omega arith) c.in-Some.ensures.second
    c.due_below-left.ensures.second_total c.due_below-right.ensures.second_total
    c.requires.second_fits in
    omega arith

pub overflow_add-result-in-Some-3 : goal.overflow_add-result-in-Some-3
overflow_add-result-in-Some-3 t c =
    let all = total_fits (length c.args.self.now.keys.items) c.args.place c.in-Some.second
    c.due_below-left.result.1 c.due_below-right.result.1 _ (omega arith) c.in-Some.ensures.second
    c.due_below-left.ensures.second_total c.due_below-right.ensures.second_total
    c.requires.second_fits in
    omega arith
