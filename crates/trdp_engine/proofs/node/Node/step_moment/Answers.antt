use Rattle.std.proofs.Common.{ℕ, ◌<◌, ◌^◌, ◌∙◌, ap, subst, arith, rules}
use Rattle.trdp_table.specs.Tables.{room_of}
use Rattle.trdp_store.specs.declared.counts.Counts.{Counts}
use Rattle.trdp_model.specs.NodeModels.{due_in}
use Rattle.trdp_datagrams.proofs.CostLemmas.Telegrams.{total_room}
use Rattle.trdp_engine.proofs.CostLemmas.Moments.{moment_within}
use Rattle.trdp_filter.specs.declared.globals.Globals.{Globals}
use Rattle.trdp_model.specs.Configs.{setup_of}
use Rattle.trdp_store.specs.TableSlots.{slots_of}
use Rattle.trdp_model.specs.Moments.{moved_to}
use Rattle.trdp_model.proofs.FitLemmas.{each_sound}
use Rattle.trdp_model.proofs.FitEventLemmas.{moved_fits}
use Rattle.trdp_engine.proofs.ActLemmas.OneSlot.{same_count, lacks_due}
use Rattle.trdp_model.proofs.StepLemmas.{has_outcome, outcomes_fit}
use Rattle.trdp_engine.proofs.node.Node.step_moment.Goals as goal

pub returns-in_err-reserve-clause-memory : goal.returns-in_err-reserve-clause-memory
returns-in_err-reserve-clause-memory c _ =
    rw (← c.self.view_is)
    (lacks_due c.args.t (slots_of c.self.inside.store)
    c.args.out.now (rw c.due_room-comparisons.ensures.room at c.in_err-reserve.ensures.full))

pub fire_all-requires-clause-sound : goal.fire_all-requires-clause-sound
fire_all-requires-clause-sound c =
    rw c.due_room-comparisons.ensures.kept
    (each_sound (setup_of c.self.inside.config) (slots_of c.self.inside.store) c.self.invariant.2)

pub returns-clause-outcomes : goal.returns-clause-outcomes
returns-clause-outcomes c =
    let globals : Globals = record c.self.inside.globals { now = c.args.t } in
    let parts = rw c.due_room-comparisons.ensures.kept at c.fire_all.ensures.parts in
    rw (← c.self.view_is)
    (λ s slot is.
    has_outcome _ _ _ _ s (moved_to slot globals) c.in_ok-reserve.ensures.records (parts s slot is))

pub returns-clause-appends : goal.returns-clause-appends
returns-clause-appends c =
    rw (← c.self.view_is, ← c.in_ok-reserve.ensures.records)
    (rw c.due_room-comparisons.ensures.kept at c.fire_all.ensures.appends)

pub invariant_of-self : goal.invariant_of-self
invariant_of-self c = (
  c.self.invariant.0,
  c.self.invariant.1,
  rw c.due_room-comparisons.ensures.kept c.self.invariant.2,
  rw c.due_room-comparisons.ensures.kept c.self.invariant.3,
)

pub invariant_of-self-2 : goal.invariant_of-self-2
invariant_of-self-2 c =
    let globals : Globals = record c.self.inside.globals { now = c.args.t } in
    let parts = rw c.due_room-comparisons.ensures.kept at c.fire_all.ensures.parts in
    let count = same_count c.self.inside.store
    c.fire_all.new.store (rw c.due_room-comparisons.ensures.kept at c.fire_all.ensures.count) in
    let fits = outcomes_fit (setup_of c.self.inside.config)
    (λ s slot. moved_to slot globals) (slots_of c.self.inside.store)
    (slots_of c.fire_all.new.store) _ _ count parts (λ s slot fit. moved_fits
    (setup_of c.self.inside.config) slot globals c.self.invariant.1 fit) c.self.invariant.2 in
    let room = rw c.due_room-comparisons.ensures.kept at c.fire_all.ensures.room in
    (c.if-t-gt-MOMENT_MAX.false, c.self.invariant.1, fits, rw room c.self.invariant.3)

pub returns-clause-cost : goal.returns-clause-cost
returns-clause-cost c = λ b lt.
    let within : room_of c.self.inside.store < 2 ^ b = subst (λ (n : ℕ). n < 2 ^ b)
    (total_room c.self.inside.store) (rw (← c.self.view_is) at lt) in
    let comparisons = rw c.due_room-comparisons.ensures.kept at c.fire_all.ensures.comparisons in
    let look_ups = rw c.due_room-comparisons.ensures.kept at c.fire_all.ensures.look_ups in
    rw (← c.self.view_is)
    (moment_within b (due_in c.args.t (slots_of c.self.inside.store))
    c.compared.new.self c.fire_all.new.counts
    (omega (
      arith,
      c.compared.ensures.comparisons,
      c.due_room-comparisons.ensures.cost,
      ap (λ (k : Counts). k.comparisons) c.none-cost.ensures,
    ))
    (c.compared.ensures.tests ∙ ap (λ (k : Counts). k.tests) c.none-cost.ensures)
    (c.compared.ensures.look_ups ∙ ap (λ (k : Counts). k.look_ups) c.none-cost.ensures)
    (comparisons b within)
    c.fire_all.ensures.tests
    look_ups)

pub returns-in_err-reserve-clause-kept : goal.returns-in_err-reserve-clause-kept
returns-in_err-reserve-clause-kept c = search rules
