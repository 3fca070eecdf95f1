use Rattle.std.proofs.Common.{◌+◌, ◌-◌, ◌<◌, rules}
use Rattle.trdp_net.specs.Tellings.{sent_in, sent_in_slot, sent_in_slots}
use Rattle.trdp_net.specs.declared.told.TelegramSearch.TheVariants.{Found, Left}
use Rattle.trdp_net.proofs.TellingLemmas.{went, slots_step}
use Rattle.trdp_net.proofs.told.Told.seek.Goals as goal

pub returns-in-Found : goal.returns-in-Found
returns-in-Found c =
    let home = c.args.self.now.home in
    let records = c.args.self.now.out.records in
    let slots = c.args.self.now.slots in
    let s = c.loop-slot.slot in
    let lt : s < slots = search rules in
    went (sent_in c.args.self.now) (sent_in_slots home records s (slots - s))
    (sent_in_slot home s records) (sent_in_slots home records (s + 1) (slots - (s + 1)))
    c.args.which c.loop-slot.left (Found c.in-Found.sent) c.loop-slot.invariant
    (slots_step home records s slots lt) c.in-Found.ensures

pub loop-slot-preserved : goal.loop-slot-preserved
loop-slot-preserved c =
    let home = c.args.self.now.home in
    let records = c.args.self.now.out.records in
    let slots = c.args.self.now.slots in
    let s = c.loop-slot.slot in
    let lt : s < slots = search rules in
    went (sent_in c.args.self.now) (sent_in_slots home records s (slots - s))
    (sent_in_slot home s records) (sent_in_slots home records (s + 1) (slots - (s + 1)))
    c.args.which c.loop-slot.left (Left c.in-Left.n) c.loop-slot.invariant
    (slots_step home records s slots lt) c.in-Left.ensures
