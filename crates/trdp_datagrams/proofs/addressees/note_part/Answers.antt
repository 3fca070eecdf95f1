use Rattle.std.proofs.Common.{◌++◌, ◌∷◌, [], ◌∙◌, sym, ap, List, length, append-nil, arith}
use Rattle.std.proofs.lemmas.List.{length-append}
use Rattle.trdp_filter.specs.Telegrams.{telegram_model}
use Rattle.trdp_model.specs.Slots.{Entry}
use Rattle.trdp_datagrams.specs.Noted.{noted_as}
use Rattle.trdp_outbox.specs.Rooms.{entries_room}
use Rattle.trdp_datagrams.specs.Noted.{Addressed}
use Rattle.trdp_datagrams.proofs.CostLemmas.Sessions.{part_counted}
use Rattle.trdp_store.proofs.StoreLemmas.Slots.{object_found}
use Rattle.trdp_datagrams.proofs.NoteLemmas.BySession.{acts_none, acts_gone, acts_not, acts_it}
use Rattle.trdp_datagrams.proofs.addressees.note_part.Goals as goal

pub returns-in_default-clause-noted : goal.returns-in_default-clause-noted
returns-in_default-clause-noted c =
    sym (append-nil c.args.noted.now.items)
    ∙ ap (λ (es : List Entry). c.args.noted.now.items ++ noted_as c.args.s es)
    (sym
    (acts_none c.args.store.now c.args.s (telegram_model c.args.awaited.now.telegram.now)
    c.args.awaited.now.globals.now
    (c.args.awaited.now.session, c.args.awaited.now.role) c.requires.part
    c.in_default.ensures.alone))

pub returns-in_default-clause-room : goal.returns-in_default-clause-room
returns-in_default-clause-room c =
    c.none.ensures
    ∙ ap entries_room (sym
    (acts_none c.args.store.now c.args.s (telegram_model c.args.awaited.now.telegram.now)
    c.args.awaited.now.globals.now
    (c.args.awaited.now.session, c.args.awaited.now.role) c.requires.part
    c.in_default.ensures.alone))

pub returns-in_default-get-clause-noted : goal.returns-in_default-get-clause-noted
returns-in_default-get-clause-noted c =
    sym (append-nil c.args.noted.now.items)
    ∙ ap (λ (es : List Entry). c.args.noted.now.items ++ noted_as c.args.s es)
    (sym (acts_gone c.args.store.now c.args.s c.in-Some.handle
    (telegram_model c.args.awaited.now.telegram.now)
    c.args.awaited.now.globals.now (c.args.awaited.now.session, c.args.awaited.now.role)
    c.sound.ensures.sound
    c.requires.part c.in-Some.ensures.alone
    (c.in_default-get.ensures
    ∙ object_found c.args.store.now c.args.s c.in-Some.handle c.in-Some.key
    c.sound.ensures.found c.in-Some.ensures.key)))

pub returns-in_default-get-clause-room : goal.returns-in_default-get-clause-room
returns-in_default-get-clause-room c =
    c.none-in_default-get.ensures
    ∙ ap entries_room (sym (acts_gone c.args.store.now c.args.s c.in-Some.handle
    (telegram_model c.args.awaited.now.telegram.now) c.args.awaited.now.globals.now
    (c.args.awaited.now.session, c.args.awaited.now.role) c.sound.ensures.sound
    c.requires.part c.in-Some.ensures.alone
    (c.in_default-get.ensures
    ∙ object_found c.args.store.now c.args.s c.in-Some.handle c.in-Some.key
    c.sound.ensures.found c.in-Some.ensures.key)))

pub returns-then-not-addressed-clause-noted : goal.returns-then-not-addressed-clause-noted
returns-then-not-addressed-clause-noted c =
    sym (append-nil c.args.noted.now.items)
    ∙ ap (λ (es : List Entry). c.args.noted.now.items ++ noted_as c.args.s es)
    (sym (acts_not c.args.store.now c.args.s c.in-Some.handle
    (telegram_model c.args.awaited.now.telegram.now) c.args.awaited.now.globals.now
    (c.args.awaited.now.session, c.args.awaited.now.role)
    c.in-Some-get.object.now c.sound.ensures.sound c.requires.part c.in-Some.ensures.alone
    (c.in-Some-get.ensures
    ∙ object_found c.args.store.now c.args.s c.in-Some.handle c.in-Some.key
    c.sound.ensures.found c.in-Some.ensures.key)
    (sym c.addressed.ensures ∙ c.if-not-addressed.true)))

pub returns-then-not-addressed-clause-room : goal.returns-then-not-addressed-clause-room
returns-then-not-addressed-clause-room c =
    c.none-then-not-addressed.ensures
    ∙ ap entries_room (sym (acts_not c.args.store.now c.args.s c.in-Some.handle
    (telegram_model c.args.awaited.now.telegram.now) c.args.awaited.now.globals.now
    (c.args.awaited.now.session, c.args.awaited.now.role)
    c.in-Some-get.object.now c.sound.ensures.sound c.requires.part c.in-Some.ensures.alone
    (c.in-Some-get.ensures
    ∙ object_found c.args.store.now c.args.s c.in-Some.handle c.in-Some.key
    c.sound.ensures.found c.in-Some.ensures.key)
    (sym c.addressed.ensures ∙ c.if-not-addressed.true)))

pub returns-clause-noted : goal.returns-clause-noted
returns-clause-noted c =
    (rw c.new.ensures at c.push_reserved.ensures.items)
    ∙ ap (λ (xs : List Addressed). c.args.noted.now.items ++ xs)
    (sym (acts_it c.args.store.now c.args.s c.in-Some.handle
    (telegram_model c.args.awaited.now.telegram.now) c.args.awaited.now.globals.now
    (c.args.awaited.now.session, c.args.awaited.now.role)
    c.in-Some-get.object.now c.sound.ensures.sound c.requires.part c.in-Some.ensures.alone
    (c.in-Some-get.ensures
    ∙ object_found c.args.store.now c.args.s c.in-Some.handle c.in-Some.key
    c.sound.ensures.found c.in-Some.ensures.key)
    (sym c.addressed.ensures ∙ c.if-not-addressed.false)).noted)

pub returns-clause-room : goal.returns-clause-room
returns-clause-room c =
    c.of.ensures
    ∙ sym (acts_it c.args.store.now c.args.s c.in-Some.handle
    (telegram_model c.args.awaited.now.telegram.now) c.args.awaited.now.globals.now
    (c.args.awaited.now.session, c.args.awaited.now.role)
    c.in-Some-get.object.now c.sound.ensures.sound c.requires.part c.in-Some.ensures.alone
    (c.in-Some-get.ensures
    ∙ object_found c.args.store.now c.args.s c.in-Some.handle c.in-Some.key
    c.sound.ensures.found c.in-Some.ensures.key)
    (sym c.addressed.ensures ∙ c.if-not-addressed.false)).room

pub returns-then-not-addressed-clause-tests : goal.returns-then-not-addressed-clause-tests
returns-then-not-addressed-clause-tests c =
    let one =
    part_counted c.args.store.now c.args.s c.in-Some.handle
    (telegram_model c.args.awaited.now.telegram.now)
    (c.args.awaited.now.session, c.args.awaited.now.role) c.requires.part c.in-Some.ensures.found in
    omega (arith, one, c.tested.ensures.tests, c.looked_up.ensures.tests)

pub returns-clause-tests : goal.returns-clause-tests
returns-clause-tests c =
    let one =
    part_counted c.args.store.now c.args.s c.in-Some.handle
    (telegram_model c.args.awaited.now.telegram.now)
    (c.args.awaited.now.session, c.args.awaited.now.role) c.requires.part c.in-Some.ensures.found in
    omega (arith, one, c.tested.ensures.tests, c.looked_up.ensures.tests)

pub returns-clause-few : goal.returns-clause-few
returns-clause-few c =
    let one =
    part_counted c.args.store.now c.args.s c.in-Some.handle
    (telegram_model c.args.awaited.now.telegram.now)
    (c.args.awaited.now.session, c.args.awaited.now.role) c.requires.part c.in-Some.ensures.found in
    let pushed = ap length c.push_reserved.ensures.items in
    let last : Addressed = record { slot = c.args.s; handle = c.in-Some.handle } in
    omega (arith, one, pushed, length-append c.args.noted.now.items (last ∷ []))

pub push_reserved-requires : goal.push_reserved-requires
push_reserved-requires c =
    let one =
    part_counted c.args.store.now c.args.s c.in-Some.handle
    (telegram_model c.args.awaited.now.telegram.now)
    (c.args.awaited.now.session, c.args.awaited.now.role) c.requires.part c.in-Some.ensures.found in
    omega (arith, one, c.requires.capacity)
