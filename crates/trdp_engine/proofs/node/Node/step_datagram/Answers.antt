use Rattle.std.proofs.Common.{◌≡◌, ℕ, ◌^◌, ◌<◌, ◌≤◌, length, option_map, Some, true, false}
use Rattle.std.proofs.Common.{refl, sym, ap, subst, arith, rules}
use Rattle.trdp_head.specs.declared.md.MdKind.TheVariants as message
use Rattle.trdp_filter.specs.declared.telegram.Telegram.{Telegram}
use Rattle.trdp_filter.specs.declared.telegram.Telegram.TheVariants.{Pd as OnePd, Md as OneMd}
use Rattle.trdp_model.specs.declared.record.Protocol.TheVariants.{Pd, Md}
use Rattle.trdp_filter.specs.Telegrams.{telegram_model}
use Rattle.trdp_table.specs.Tables.{room_of}
use Rattle.trdp_store.specs.TableSlots.{slots_of}
use Rattle.trdp_store.proofs.StoreLemmas.Slots.{slots_length}
use Rattle.trdp_model.specs.Configs.{setup_of}
use Rattle.trdp_model.specs.Datagrams.{telegram_of, is_request, received_if, requested, handed}
use Rattle.trdp_model.proofs.FitEventLemmas.{received_fits}
use Rattle.trdp_model.proofs.StepLemmas.{has_outcome, outcomes_fit, unchanged_each, appends_none}
use Rattle.trdp_datagrams.specs.Meant.{meant_of}
use Rattle.trdp_engine.proofs.ActLemmas.OneSlot.{same_count}
use Rattle.trdp_datagrams.proofs.CostLemmas.Telegrams.{total_room, asks_unasked}
use Rattle.trdp_engine.proofs.CostLemmas.Bounds.{costs, read_and_taken, within_none}
use Rattle.trdp_engine.proofs.NodeLemmas.Admitted.{Comes, IsAdmitted, carries, no_request}
use Rattle.trdp_engine.proofs.NodeLemmas.Admitted.{none_read, none_valid, none_admitted}
use Rattle.trdp_engine.proofs.NodeLemmas.Admitted.{some_admitted, lacks_room, lacks_concerns}
use Rattle.trdp_engine.proofs.NodeLemmas.Admitted.{asked_outcome, handed_outcome}
use Rattle.trdp_engine.proofs.node.Node.step_datagram.Goals as goal
use Rattle.trdp_engine.proofs.node.Node.step_datagram.Goals.{After-none-counts}
use Rattle.trdp_engine.proofs.node.Node.step_datagram.Goals.{in-Some+in_ok-reserve+in-Md-telegram}
use Rattle.trdp_engine.proofs.node.Node.step_datagram.Goals.{in-Some+in_ok-reserve+in_default-telegram-2}
use Rattle.trdp_engine.proofs.node.Node.step_datagram.Goals.{in_default-telegram-2-via-in-Md-telegram+else-eq}
use Rattle.trdp_engine.proofs.node.Node.step_datagram.Goals.{in_default-telegram-2-via-in_default-telegram-2}
use Rattle.trdp_engine.proofs.node.Node.step_datagram.Goals.{in_default-telegram}
use Rattle.trdp_engine.proofs.node.Node.step_datagram.Goals.{in-Pd+in-Ok, in-Pd+in_default}
use Rattle.trdp_engine.proofs.node.Node.step_datagram.Goals.{in_default-via-in-Ok+else-topo_valid}
use Rattle.trdp_engine.proofs.node.Node.step_datagram.Goals.{in_default-via-in_default}
use Rattle.trdp_engine.proofs.node.Node.step_datagram.Goals.{in-Md+in-Ok-read_md}
use Rattle.trdp_engine.proofs.node.Node.step_datagram.Goals.{in-Md+in_default-read_md}
use Rattle.trdp_engine.proofs.node.Node.step_datagram.Goals.{in_default-read_md-via-in-Ok-read_md+else-topo_valid-2}
use Rattle.trdp_engine.proofs.node.Node.step_datagram.Goals.{in_default-read_md-via-in_default-read_md}

-- the bytes are read, and the topology counters compared
admitted : (c : After-none-counts) → IsAdmitted c.self.inside.globals
    (telegram_of c.args.protocol c.args.src c.args.dst c.args.bytes.now)
    (option_map telegram_model c.match-protocol.telegram)
admitted c = elim c.match-protocol.branch [
  | in-Pd+in-Ok w ↦
      let here = w.in-Ok.ensures.telegram.telegram in
      let carried = carries 40 1472 _ c.args.bytes.now w.in-Ok.view.payload.now here.short_enough
      here.fits here.content in
      let limit : length w.in-Ok.view.payload.now ≤ 1432 = omega (arith, carried) in
      rw (w.in-Pd.is, w.telegram-is) (record {
        is = rw w.in-Ok.ensures.found refl;
        valid = sym w.if-topo_valid.ensures;
        limit = limit;
      })
  | in-Pd+in_default w ↦ elim w.in_default.branch [
    | in_default-via-in-Ok+else-topo_valid v ↦
        rw (w.in-Pd.is, w.telegram-is)
        (none_valid c.self.inside.globals
        (telegram_of Pd c.args.src c.args.dst c.args.bytes.now)
        (telegram_model (OnePd c.args.src c.args.dst v.in-Ok.view))
        (rw v.in-Ok.ensures.found refl) (sym v.if-topo_valid.ensures))
    | in_default-via-in_default v ↦
        rw (w.in-Pd.is, w.telegram-is)
        (none_read c.self.inside.globals
        (telegram_of Pd c.args.src c.args.dst c.args.bytes.now)
        (rw v.in_default.ensures.none_found refl))
  ]
  | in-Md+in-Ok-read_md w ↦
      let here = w.in-Ok-read_md.ensures.telegram.telegram in
      let carried = carries 116 65504 _ c.args.bytes.now w.in-Ok-read_md.view.payload.now
      here.short_enough here.fits here.content in
      let limit : length w.in-Ok-read_md.view.payload.now ≤ 65388 = omega (arith, carried) in
      rw (w.in-Md.is, w.telegram-is) (record {
        is = rw w.in-Ok-read_md.ensures.found refl;
        valid = sym w.if-topo_valid-2.ensures;
        limit = limit;
      })
  | in-Md+in_default-read_md w ↦ elim w.in_default-read_md.branch [
    | in_default-read_md-via-in-Ok-read_md+else-topo_valid-2 v ↦
        rw (w.in-Md.is, w.telegram-is)
        (none_valid c.self.inside.globals
        (telegram_of Md c.args.src c.args.dst c.args.bytes.now)
        (telegram_model (OneMd c.args.src c.args.dst v.in-Ok-read_md.view))
        (rw v.in-Ok-read_md.ensures.found refl) (sym v.if-topo_valid-2.ensures))
    | in_default-read_md-via-in_default-read_md v ↦
        rw (w.in-Md.is, w.telegram-is)
        (none_read c.self.inside.globals
        (telegram_of Md c.args.src c.args.dst c.args.bytes.now)
        (rw v.in_default-read_md.ensures.none_found refl))
  ]
]

-- the telegram that is accepted came, and its topology counters match
told : (c : After-none-counts) (telegram : Telegram) → c.match-protocol.telegram ≡ Some telegram
    → Comes c.self.inside.globals
    (telegram_of c.args.protocol c.args.src c.args.dst c.args.bytes.now)
    (telegram_model telegram)
told c telegram is = some_admitted c.self.inside.globals
    (telegram_of c.args.protocol c.args.src c.args.dst c.args.bytes.now)
    c.match-protocol.telegram telegram is (admitted c)

pub returns-in_err-reserve-clause-memory : goal.returns-in_err-reserve-clause-memory
returns-in_err-reserve-clause-memory c = λ is.
    let came = told (goal.at.returns-in_err-reserve-clause-memory c).After-none-counts
    c.in-Some.telegram c.in-Some.is in
    rw (← c.self.view_is)
    (lacks_concerns c.args.out.now c.self.inside.globals (slots_of c.self.inside.store) _ _ came
    (rw c.note_all-room.ensures.room at c.in_err-reserve.ensures.full))

pub returns-in_err-reserve-clause-full : goal.returns-in_err-reserve-clause-full
returns-in_err-reserve-clause-full c = λ is.
    let came = told (goal.at.returns-in_err-reserve-clause-full c).After-none-counts
    c.in-Some.telegram c.in-Some.is in
    rw (← c.self.view_is)
    (lacks_room c.args.out.now c.self.inside.globals (slots_of c.self.inside.store) _ _ came
    (rw c.note_all-room.ensures.room at c.in_err-reserve.ensures.full))

pub returns-in_err-reserve-clause-still : goal.returns-in_err-reserve-clause-still
returns-in_err-reserve-clause-still c = λ is.
    let came = told (goal.at.returns-in_err-reserve-clause-still c).After-none-counts
    c.in-Some.telegram c.in-Some.is in
    rw (← c.self.view_is)
    (lacks_room c.reserve.new.self c.self.inside.globals (slots_of c.self.inside.store) _ _ came
    (rw c.note_all-room.ensures.room at c.in_err-reserve.ensures.still))

pub take_all-requires-clause-limit : goal.take_all-requires-clause-limit
take_all-requires-clause-limit c =
    let came = told (goal.at.take_all-requires-clause-limit c).After-none-counts
    c.in-Some.telegram c.in-Some.is in
    came.limit

pub returns-clause-outcomes : goal.returns-clause-outcomes
returns-clause-outcomes c = λ s slot at.
    let read = (goal.at.returns-clause-outcomes c).After-none-counts in
    let there = rw (← c.self.view_is) at at in
    elim c.match-telegram.branch [
      | in-Some+in_ok-reserve+in-Md-telegram w ↦
          let came = told read w.in-Some.telegram w.in-Some.is in
          let asks : is_request (telegram_model w.in-Some.telegram) ≡ true =
          let kind : w.in-Md-telegram.view.head.kind ≡ message.Request =
          search (rules, w.if-eq.ensures) in rw (w.in-Md-telegram.is, kind) refl in
          rw (w.out-is, w.self-inside-is, ← c.self.view_is)
          (asked_outcome (setup_of c.self.inside.config) slot c.self.inside.globals
          (telegram_of c.args.protocol c.args.src c.args.dst c.args.bytes.now)
          (telegram_model w.in-Some.telegram)
          (slots_of w.ask_all.new.store) c.args.out.now.records w.ask_all.new.out.records s came
          asks
          (has_outcome _ _ _ _ s (requested slot c.self.inside.globals
          (telegram_model w.in-Some.telegram)) w.in_ok-reserve.ensures.records
          (w.ask_all.ensures.parts s slot there)))
      | in-Some+in_ok-reserve+in_default-telegram-2 w ↦
          let came = told read w.in-Some.telegram w.in-Some.is in
          let asks : is_request (telegram_model w.in-Some.telegram) ≡ false =
          elim w.in_default-telegram-2.branch [
            | in_default-telegram-2-via-in-Md-telegram+else-eq v ↦
                let other : v.in-Md-telegram.view.head.kind ≡ message.Request → ⊥ =
                search (rules, v.if-eq.ensures) in
                rw v.in-Md-telegram.is (no_request v.in-Md-telegram.view.head.kind other)
            | in_default-telegram-2-via-in_default-telegram-2 v ↦
                rw v.in_default-telegram-2.is refl
          ] in
          rw (w.out-is, w.self-inside-is, ← c.self.view_is)
          (handed_outcome (setup_of c.self.inside.config) slot c.self.inside.globals
          (telegram_of c.args.protocol c.args.src c.args.dst c.args.bytes.now)
          (telegram_model w.in-Some.telegram)
          (slots_of w.take_all.new.store) c.args.out.now.records w.take_all.new.out.records s came
          asks (has_outcome _ _ _ _ s (handed (setup_of c.self.inside.config) slot
          c.self.inside.globals (telegram_model w.in-Some.telegram))
          w.in_ok-reserve.ensures.records (w.take_all.ensures.parts s slot there)))
      | in_default-telegram w ↦
          let none = none_admitted c.self.inside.globals
          (telegram_of c.args.protocol c.args.src c.args.dst c.args.bytes.now)
          c.match-protocol.telegram w.in_default-telegram.is (admitted read) in
          rw (w.out-is, w.self-inside-is, ← c.self.view_is)
          (rw (none (setup_of c.self.inside.config) slot)
          (unchanged_each (slots_of c.self.inside.store) c.args.out.now.records s slot there))
    ]

pub returns-clause-appends : goal.returns-clause-appends
returns-clause-appends c = elim c.match-telegram.branch [
  | in-Some+in_ok-reserve+in-Md-telegram w ↦
      rw (w.out-is, ← c.self.view_is, ← w.in_ok-reserve.ensures.records) w.ask_all.ensures.appends
  | in-Some+in_ok-reserve+in_default-telegram-2 w ↦
      rw (w.out-is, ← c.self.view_is, ← w.in_ok-reserve.ensures.records) w.take_all.ensures.appends
  | in_default-telegram w ↦ rw w.out-is (appends_none _ _ _ refl)
]

pub invariant_of-self-2 : goal.invariant_of-self-2
invariant_of-self-2 c =
    let parts = rw (← c.self.view_is) at (returns-clause-outcomes c) in
    let count : length (slots_of c.match-telegram.self-inside.store)
    ≡ length (slots_of c.self.inside.store) = elim c.match-telegram.branch [
      | in-Some+in_ok-reserve+in-Md-telegram w ↦
          rw w.self-inside-is
          (same_count c.self.inside.store w.ask_all.new.store w.ask_all.ensures.count)
      | in-Some+in_ok-reserve+in_default-telegram-2 w ↦
          rw w.self-inside-is
          (same_count c.self.inside.store w.take_all.new.store w.take_all.ensures.count)
      | in_default-telegram w ↦ rw w.self-inside-is refl
    ] in
    let fits = outcomes_fit (setup_of c.self.inside.config)
    (λ s slot. received_if (setup_of c.self.inside.config) slot c.self.inside.globals
    (telegram_of c.args.protocol c.args.src c.args.dst c.args.bytes.now))
    (slots_of c.self.inside.store) (slots_of c.match-telegram.self-inside.store) _ _ count parts
    (λ s slot fit. received_fits (setup_of c.self.inside.config) slot c.self.inside.globals
    (telegram_of c.args.protocol c.args.src c.args.dst c.args.bytes.now) fit)
    c.self.invariant.2 in
    elim c.match-telegram.branch [
      | in-Some+in_ok-reserve+in-Md-telegram w ↦
          let kept = rw w.self-inside-is at fits in
          rw w.self-inside-is (
            c.self.invariant.0,
            c.self.invariant.1,
            kept,
            rw (w.note_all-room.ensures.capacity, w.ask_all.ensures.room) c.self.invariant.3,
          )
      | in-Some+in_ok-reserve+in_default-telegram-2 w ↦
          let kept = rw w.self-inside-is at fits in
          rw w.self-inside-is (
            c.self.invariant.0,
            c.self.invariant.1,
            kept,
            rw (w.note_all-room.ensures.capacity, w.take_all.ensures.room) c.self.invariant.3,
          )
      | in_default-telegram w ↦ rw w.self-inside-is c.self.invariant
    ]

pub returns-clause-cost : goal.returns-clause-cost
returns-clause-cost c = λ b lt.
    let read = (goal.at.returns-clause-cost c).After-none-counts in
    let below = rw (← c.self.view_is) at lt in
    let within : room_of c.self.inside.store < 2 ^ b =
    subst (λ (n : ℕ). n < 2 ^ b) (total_room c.self.inside.store) below in
    let count = slots_length c.self.inside.store in
    elim c.match-telegram.branch [
      | in-Some+in_ok-reserve+in-Md-telegram w ↦
          let came = told read w.in-Some.telegram w.in-Some.is in
          let asks : is_request (telegram_model w.in-Some.telegram) ≡ true =
          let kind : w.in-Md-telegram.view.head.kind ≡ message.Request =
          search (rules, w.if-eq.ensures) in rw (w.in-Md-telegram.is, kind) refl in
          let unasked = asks_unasked (telegram_model w.in-Some.telegram) asks in
          rw (w.counts-is, ← c.self.view_is)
          (costs c.none-counts.result w.ask_all.new.counts b
          (telegram_of c.args.protocol c.args.src c.args.dst c.args.bytes.now)
          (telegram_model w.in-Some.telegram) (slots_of c.self.inside.store)
          c.none-counts.ensures came.is
          (read_and_taken w.ask_all.new.counts.comparisons w.note_all-room.new.counts.comparisons
          c.none-counts.result.comparisons (length w.deref.result.now)
          (meant_of (telegram_model w.in-Some.telegram) (slots_of c.self.inside.store)) b
          (omega (arith, w.note_all-room.ensures.comparisons b within))
          (w.ask_all.ensures.comparisons b within)
          (omega (arith, w.note_all-room.ensures.few, ap length w.deref.ensures.value)))
          (omega (arith, w.note_all-room.ensures.tests, w.ask_all.ensures.tests))
          (omega (
            arith,
            w.note_all-room.ensures.unasked unasked,
            w.ask_all.ensures.look_ups,
            count,
          )))
      | in-Some+in_ok-reserve+in_default-telegram-2 w ↦
          let came = told read w.in-Some.telegram w.in-Some.is in
          let noted = ap length w.deref-in_default-telegram-2.ensures.value in
          rw (w.counts-is, ← c.self.view_is)
          (costs c.none-counts.result w.take_all.new.counts b
          (telegram_of c.args.protocol c.args.src c.args.dst c.args.bytes.now)
          (telegram_model w.in-Some.telegram) (slots_of c.self.inside.store)
          c.none-counts.ensures came.is
          (read_and_taken w.take_all.new.counts.comparisons w.note_all-room.new.counts.comparisons
          c.none-counts.result.comparisons (length w.deref-in_default-telegram-2.result.now)
          (meant_of (telegram_model w.in-Some.telegram) (slots_of c.self.inside.store)) b
          (omega (arith, w.note_all-room.ensures.comparisons b within))
          (w.take_all.ensures.comparisons b within)
          (omega (arith, w.note_all-room.ensures.few, noted)))
          (omega (
            arith,
            w.note_all-room.ensures.tests,
            w.take_all.ensures.tests,
            w.note_all-room.ensures.few,
            noted,
          ))
          (omega (
            arith,
            w.note_all-room.ensures.look_ups,
            w.take_all.ensures.look_ups,
            w.note_all-room.ensures.few,
            noted,
            count,
          )))
      | in_default-telegram w ↦ rw w.counts-is (within_none _ _ c.none-counts.ensures)
    ]
