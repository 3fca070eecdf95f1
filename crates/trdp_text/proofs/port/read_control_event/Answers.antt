use Rattle.std.proofs.Common.{refl, ◌∙◌, Ok, Err, Some}
use Rattle.trdp_text.specs.Forms.{forms}
use Rattle.trdp_text.proofs.ReadLemmas.Forms.{words_read, few_parts}
use Rattle.trdp_text.proofs.ReadLemmas.Ports.{call_cut, control_too_long, control_says}
use Rattle.trdp_text.proofs.port.read_control_event.Goals as goal

pub returns-then-slot-text-gt-LINE_MAX : goal.returns-then-slot-text-gt-LINE_MAX
returns-then-slot-text-gt-LINE_MAX c =
    let shown = c.as_bytes-slot.ensures.value ∙ c.format.ensures.text in
    let some = rw c.is_skipped.ensures at c.if-is_skipped.false in
    let is = control_too_long c.args.slot _ _
    c.args.bytes.now shown c.without_end-text.ensures some c.if-slot-text-gt-LINE_MAX.true in
    record { meaning = rw is refl }

pub returns-in-Ok : goal.returns-in-Ok
returns-in-Ok c =
    let shown = c.as_bytes-slot.ensures.value ∙ c.format.ensures.text in
    let some = rw c.is_skipped.ensures at c.if-is_skipped.false in
    let is = control_says c.args.slot _ _ c.args.bytes.now
    shown c.ranges.slot.fits c.without_end-text.ensures some c.if-slot-text-gt-LINE_MAX.false in
    let cut = c.of.ensures ∙ call_cut _ _ _ _ _ _ c.without_end-text.result.now
    c.new-words.ensures c.push.ensures.items c.push-2.ensures.items c.cut_words.ensures in
    let read = words_read forms _ _ (Ok (Some c.in-Ok.event)) few_parts cut c.in-Ok.ensures in
    record { meaning = rw is read }

pub returns-in-Err : goal.returns-in-Err
returns-in-Err c =
    let shown = c.as_bytes-slot.ensures.value ∙ c.format.ensures.text in
    let some = rw c.is_skipped.ensures at c.if-is_skipped.false in
    let is = control_says c.args.slot _ _ c.args.bytes.now
    shown c.ranges.slot.fits c.without_end-text.ensures some c.if-slot-text-gt-LINE_MAX.false in
    let cut = c.of.ensures ∙ call_cut _ _ _ _ _ _ c.without_end-text.result.now
    c.new-words.ensures c.push.ensures.items c.push-2.ensures.items c.cut_words.ensures in
    let read = words_read forms _ _ (Err c.in-Err.fault) few_parts cut c.in-Err.ensures in
    record { meaning = rw is read }
