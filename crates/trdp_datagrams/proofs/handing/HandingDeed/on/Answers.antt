use Rattle.std.proofs.Common.{◌∙◌, sym, arith}
use Rattle.trdp_filter.specs.Telegrams.{telegram_model}
use Rattle.trdp_datagrams.proofs.DatagramLemmas.Taken.{kind_taken}
use Rattle.trdp_store.proofs.OrderLemmas.Over.{over_replied, over_confirmed}
use Rattle.trdp_datagrams.proofs.handing.HandingDeed.on.Goals as goal

pub push_answer-requires-clause-bytes : goal.push_answer-requires-clause-bytes
push_answer-requires-clause-bytes c =
    let kind = kind_taken c.args.object.now (telegram_model c.args.self.now.telegram.now)
    c.args.self.now.setting.globals.now c.fits_object-fits.result _
    (sym c.in-Pulled.is ∙ c.take.ensures.outcome) in
    rw kind at c.requires.may.3.bytes

pub returns-in-Pulled-clause-spends : goal.returns-in-Pulled-clause-spends
returns-in-Pulled-clause-spends c =
    let kind = kind_taken c.args.object.now (telegram_model c.args.self.now.telegram.now)
    c.args.self.now.setting.globals.now c.fits_object-fits.result _
    (sym c.in-Pulled.is ∙ c.take.ensures.outcome) in
    rw kind
    (record { rows = c.push_answer.ensures.row_room; bytes = c.push_answer.ensures.byte_room })

pub push_heard-requires-clause-row : goal.push_heard-requires-clause-row
push_heard-requires-clause-row c =
    let kind = kind_taken c.args.object.now (telegram_model c.args.self.now.telegram.now)
    c.args.self.now.setting.globals.now c.fits_object-fits.result _
    (sym c.in-Heard.is ∙ c.take.ensures.outcome) in
    rw kind at c.requires.may.3.rows

pub push_heard-requires-clause-bytes : goal.push_heard-requires-clause-bytes
push_heard-requires-clause-bytes c =
    let kind = kind_taken c.args.object.now (telegram_model c.args.self.now.telegram.now)
    c.args.self.now.setting.globals.now c.fits_object-fits.result _
    (sym c.in-Heard.is ∙ c.take.ensures.outcome) in
    rw kind at c.requires.may.3.bytes

pub returns-in-Heard-clause-spends : goal.returns-in-Heard-clause-spends
returns-in-Heard-clause-spends c =
    let kind = kind_taken c.args.object.now (telegram_model c.args.self.now.telegram.now)
    c.args.self.now.setting.globals.now c.fits_object-fits.result _
    (sym c.in-Heard.is ∙ c.take.ensures.outcome) in
    rw kind
    (record { rows = c.push_heard.ensures.row_room; bytes = c.push_heard.ensures.byte_room })

pub push_replied-requires-clause-bytes : goal.push_replied-requires-clause-bytes
push_replied-requires-clause-bytes c =
    let kind = kind_taken c.args.object.now (telegram_model c.args.self.now.telegram.now)
    c.args.self.now.setting.globals.now c.fits_object-fits.result _
    (sym c.in-Replied.is ∙ c.take.ensures.outcome) in
    let bytes = rw kind at c.requires.may.3.bytes in
    omega (arith, bytes)

pub returns-in-Replied-clause-spends : goal.returns-in-Replied-clause-spends
returns-in-Replied-clause-spends c =
    let kind = kind_taken c.args.object.now (telegram_model c.args.self.now.telegram.now)
    c.args.self.now.setting.globals.now c.fits_object-fits.result _
    (sym c.in-Replied.is ∙ c.take.ensures.outcome) in
    let row = c.push_replied.ensures.row_room in
    let bytes = c.push_replied.ensures.byte_room in
    rw kind (record { rows = omega (arith, row); bytes = omega (arith, bytes) })

pub push_replied-requires-in-RepliedLast-clause-bytes :
    goal.push_replied-requires-in-RepliedLast-clause-bytes
push_replied-requires-in-RepliedLast-clause-bytes c =
    let kind = kind_taken c.args.object.now (telegram_model c.args.self.now.telegram.now)
    c.args.self.now.setting.globals.now c.fits_object-fits.result _
    (sym c.in-RepliedLast.is ∙ c.take.ensures.outcome) in
    let bytes = rw kind at c.requires.may.3.bytes in
    omega (arith, bytes)

pub push-requires-in-RepliedLast : goal.push-requires-in-RepliedLast
push-requires-in-RepliedLast c =
    let kind = kind_taken c.args.object.now (telegram_model c.args.self.now.telegram.now)
    c.args.self.now.setting.globals.now c.fits_object-fits.result _
    (sym c.in-RepliedLast.is ∙ c.take.ensures.outcome) in
    let rows = rw kind at c.requires.may.3.rows in
    let row = c.push_replied-in-RepliedLast.ensures.row_room in
    omega (arith, rows, row)

pub returns-in-RepliedLast-clause-spends : goal.returns-in-RepliedLast-clause-spends
returns-in-RepliedLast-clause-spends c =
    let kind = kind_taken c.args.object.now (telegram_model c.args.self.now.telegram.now)
    c.args.self.now.setting.globals.now c.fits_object-fits.result _
    (sym c.in-RepliedLast.is ∙ c.take.ensures.outcome) in
    let row = c.push_replied-in-RepliedLast.ensures.row_room in
    let bytes = c.push_replied-in-RepliedLast.ensures.byte_room in
    let row_then = c.push-in-RepliedLast.ensures.row_room in
    let bytes_then = c.push-in-RepliedLast.ensures.byte_room in
    rw kind
    (record { rows = omega (arith, row, row_then); bytes = omega (arith, bytes, bytes_then) })

pub returns-in-RepliedLast-clause-over : goal.returns-in-RepliedLast-clause-over
returns-in-RepliedLast-clause-over c = λ _ _.
    over_replied c.args.object.now c.take.new.self
    (telegram_model c.args.self.now.telegram.now) c.args.self.now.setting.globals.now
    c.fits_object-fits.result c.take.ensures.state
    (sym c.in-RepliedLast.is ∙ c.take.ensures.outcome)

pub returns-in-Confirmed-clause-over : goal.returns-in-Confirmed-clause-over
returns-in-Confirmed-clause-over c = λ _ _.
    over_confirmed c.args.object.now c.take.new.self
    (telegram_model c.args.self.now.telegram.now) c.args.self.now.setting.globals.now
    c.fits_object-fits.result
    c.in-Confirmed.status c.take.ensures.state (sym c.in-Confirmed.is ∙ c.take.ensures.outcome)
