use Rattle.std.proofs.Common.{◌∙◌, sym, ap, rules}
use Rattle.trdp_filter.specs.Telegrams.{telegram_model}
use Rattle.trdp_head.specs.MdTelegrams.{MdTelegram}
use Rattle.trdp_store.specs.Acting.{slot_at}
use Rattle.trdp_outbox.specs.Outboxes.{OutboxState}
use Rattle.trdp_store.proofs.StoreLemmas.Counts.{room_added}
use Rattle.trdp_datagrams.proofs.DatagramLemmas.Requests.{hearing_asked, unasked, asked_again}
use Rattle.trdp_datagrams.proofs.DatagramLemmas.Requests.{asked_opens, asked_overruns}
use Rattle.trdp_datagrams.proofs.requests.ask.Goals.{in-Ok, in-Err}
use Rattle.trdp_datagrams.proofs.requests.ask.Goals as goal

pub returns-in_default-clause-becomes : goal.returns-in_default-clause-becomes
returns-in_default-clause-becomes c =
    rw c.in_default.is (unasked c.args.store.now c.args.listener.slot c.in_default.field-0
    c.in_default.field-1 (record {
      head = c.in_default.field-2.head;
      payload = c.in_default.field-2.payload.now;
    }) c.args.globals.now c.args.out.now c.requires.slot)

pub returns-then-has_session-clause-becomes : goal.returns-then-has_session-clause-becomes
returns-then-has_session-clause-becomes c =
    let message : MdTelegram =
    record { head = c.in-Md.view.head; payload = c.in-Md.view.payload.now } in
    rw (hearing_asked (slot_at c.args.listener.slot c.args.store.now) c.args.globals.now
    (telegram_model c.args.telegram.now) c.in-Md.src c.in-Md.dst message
    c.args.listener.handle (ap telegram_model c.in-Md.is) c.requires.heard)
    (asked_again c.args.store.now c.args.listener.slot c.args.listener.handle
    c.args.globals.now c.in-Md.src message c.args.out.now c.requires.slot
    (sym c.has_session.ensures ∙ c.if-has_session.true))

pub returns-clause-becomes : goal.returns-clause-becomes
returns-clause-becomes c =
    let message : MdTelegram =
    record { head = c.in-Md.view.head; payload = c.in-Md.view.payload.now } in
    let new = sym c.has_session.ensures ∙ c.if-has_session.false in
    rw (hearing_asked (slot_at c.args.listener.slot c.args.store.now) c.args.globals.now
    (telegram_model c.args.telegram.now) c.in-Md.src c.in-Md.dst message
    c.args.listener.handle (ap telegram_model c.in-Md.is) c.requires.heard)
    (elim c.match-add.branch [
      | in-Ok w ↦
          asked_opens c.args.store.now c.add.new.self c.args.listener.slot
          c.args.listener.handle w.in-Ok.handle c.args.globals.now c.in-Md.src message
          c.new-replier.result c.args.out.now c.match-add.out new w.in-Ok.ensures.granted
          c.new-replier.ensures w.in-Ok.ensures.handle w.in-Ok.ensures.added
          (ap (λ (o : OutboxState). o.records) w.out-is
          ∙ rw w.of.ensures at w.push_asked.ensures.records)
      | in-Err w ↦
          asked_overruns c.args.store.now c.add.new.self c.args.listener.slot
          c.args.listener.handle c.args.globals.now c.in-Md.src message
          _ c.args.out.now c.match-add.out c.requires.slot new w.in-Err.ensures.fault
          w.in-Err.ensures.kept
          (ap (λ (o : OutboxState). o.records) w.out-is ∙ w.push.ensures.records)
    ])

pub returns-clause-room : goal.returns-clause-room
returns-clause-room c =
    room_added c.args.store.now c.add.new.self c.args.listener.slot _ c.add.result
    c.requires.slot c.add.ensures.added c.add.ensures.kept

pub add-requires-clause-fresh : goal.add-requires-clause-fresh
add-requires-clause-fresh c = search rules
