use Rattle.trdp_head.proofs.PartWriteLemmas.{more}
use Rattle.trdp_head.proofs.prefix.put_prefix.Goals as goal

pub returns-clause-front : goal.returns-clause-front
returns-clause-front c =
    let front =
    more _ c.put_u16-2.ensures.front (more _ c.put_u16.ensures.front c.put_u32.ensures.front) in
    more _ c.put_u32-5.ensures.front (more _ c.put_u32-4.ensures.front
    (more _ c.put_u32-3.ensures.front (more _ c.put_u32-2.ensures.front front)))
