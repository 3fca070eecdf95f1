use Rattle.std.proofs.Common.{◌+◌, drop, slice_get}
use Rattle.std.specs.Prelude.{option_to_list}
use Rattle.trdp_net.specs.Tellings.{sent_in_slot}
use Rattle.trdp_net.specs.declared.told.TelegramSearch.TheVariants.{Found, Left}
use Rattle.trdp_net.proofs.TellingLemmas.{went, slot_step}
use Rattle.trdp_net.proofs.told.Told.seek_in_slot.Goals as goal

pub returns-in-Found : goal.returns-in-Found
returns-in-Found c =
    let home = c.args.self.now.home in
    let records = c.args.self.now.out.records in
    let s = c.args.slot in
    let i = c.loop-i.i in
    went (sent_in_slot home s records) (sent_in_slot home s (drop i records))
    (sent_in_slot home s (option_to_list (slice_get records i)))
    (sent_in_slot home s (drop (i + 1) records)) c.args.which c.loop-i.left (Found c.in-Found.sent)
    c.loop-i.invariant (slot_step home s records i) c.in-Found.ensures

pub loop-i-preserved : goal.loop-i-preserved
loop-i-preserved c =
    let home = c.args.self.now.home in
    let records = c.args.self.now.out.records in
    let s = c.args.slot in
    let i = c.loop-i.i in
    went (sent_in_slot home s records) (sent_in_slot home s (drop i records))
    (sent_in_slot home s (option_to_list (slice_get records i)))
    (sent_in_slot home s (drop (i + 1) records)) c.args.which c.loop-i.left (Left c.in-Left.n)
    c.loop-i.invariant (slot_step home s records i) c.in-Left.ensures
