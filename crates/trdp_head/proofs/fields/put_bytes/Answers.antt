use Rattle.std.proofs.Common.{arith, length, ◌+◌, ◌-◌, ◌≡◌}
use Rattle.trdp_head.proofs.PartWriteLemmas.{part_rest}
use Rattle.trdp_head.proofs.fields.put_bytes.Goals as goal

pub returns-clause-rest : goal.returns-clause-rest
returns-clause-rest c =
    let len : length c.args.bytes.now ≡ c.args.offset
    + length c.args.bytes.now - c.args.offset = omega arith in
    part_rest c.args.offset (c.args.offset + length c.args.bytes.now)
    c.args.room.now c.args.bytes.now c.copy_from_slice.new.self
    (omega arith) c.requires len c.copy_from_slice.ensures.after
