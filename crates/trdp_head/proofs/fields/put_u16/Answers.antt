use Rattle.std.proofs.Common.{take, ◌++◌, ◌∙◌, sym, ap, List, ℕ, refl}
use Rattle.std.specs.Int.{bytes_high_first}
use Rattle.trdp_head.proofs.FieldNumberLemmas.{be_bytes-is}
use Rattle.trdp_head.proofs.PartWriteLemmas.{front_written, rest_kept}
use Rattle.trdp_head.proofs.fields.put_u16.Goals as goal

pub returns-clause-front : goal.returns-clause-front
returns-clause-front c =
    front_written c.args.offset 2 c.args.room.now
    (bytes_high_first 2 c.args.number) c.write_u16.new.buf c.requires refl c.write_u16.ensures
    ∙ ap (λ (r : List ℕ). take c.args.offset c.args.room.now ++ r)
    (sym (be_bytes-is 2 c.args.number))

pub returns-clause-rest : goal.returns-clause-rest
returns-clause-rest c = rest_kept c.args.offset 2 c.args.room.now
    (bytes_high_first 2 c.args.number) c.write_u16.new.buf c.requires refl c.write_u16.ensures
