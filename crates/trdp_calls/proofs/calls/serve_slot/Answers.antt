use Rattle.trdp_store.specs.Acting.{slot_at}
use Rattle.trdp_model.specs.Notices.{notify_refusal, notice}
use Rattle.std.proofs.Common.{◌∷◌, []}
use Rattle.trdp_calls.proofs.CallLemmas.Acts.{told_becomes}
use Rattle.trdp_calls.proofs.calls.serve_slot.Goals as goal

pub returns-in-Notify-clause-becomes : goal.returns-in-Notify-clause-becomes
returns-in-Notify-clause-becomes c =
    rw c.in-Notify.is
    (told_becomes c.args.store.now c.args.s
    (notify_refusal c.args.setting.now.globals.now c.in-Notify.terms
    c.in-Notify.payload.now) (notice c.in-Notify.terms c.in-Notify.payload.now ∷ [])
    c.args.out.now c.notify.new.out c.requires.slot
    (c.notify.ensures (slot_at c.args.s c.args.store.now)))
