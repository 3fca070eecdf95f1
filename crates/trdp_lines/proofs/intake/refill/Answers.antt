use Rattle.std.proofs.Common.{◌≡◌, ◌-◌, ◌++◌, ◌∙◌, take}
use Rattle.std.proofs.lemmas.List.{take_at}
use Rattle.trdp_lines.specs.Connections.{came_count}
use Rattle.trdp_lines.specs.Intakes.{lying}
use Rattle.trdp_lines.proofs.IntakeLemmas.{take_both}
use Rattle.trdp_lines.proofs.intake.refill.Goals as goal

pub returns-clause-bytes : goal.returns-clause-bytes
returns-clause-bytes g c =
    let kept = c.args.end - c.args.begin in
    let front = c.split_at_mut-free.result.0.now in
    let room = front ++ c.read.new.room in
    let there : take kept room ≡ lying c.args.room.now c.args.begin c.args.end =
    take_at front c.read.new.room kept c.split_at_mut-free.ensures.front_len
    ∙ c.split_at_mut-free.ensures.front ∙ c.to_front.ensures in
    rw (← there) (take_both kept (came_count c.read.result) room)
