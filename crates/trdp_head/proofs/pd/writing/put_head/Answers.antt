use Rattle.std.proofs.Common.{ap, ◌∙◌, ℕ}
use Rattle.trdp_head.specs.declared.prefix.Prefix.{Prefix}
use Rattle.trdp_head.specs.Prefixes.{prefix_bytes}
use Rattle.trdp_head.specs.PdBytes.{pd_head_bytes}
use Rattle.trdp_head.proofs.PartWriteLemmas.{more}
use Rattle.trdp_head.proofs.pd.writing.put_head.Goals as goal

pub returns-clause-front : goal.returns-clause-front
unfolding pd_head_bytes
returns-clause-front c =
    let head = c.args.head in
    let prefix : ℕ → Prefix = λ code.
    record { counter = head.counter; code = code; com_id = head.com_id; topo = head.topo } in
    let front = c.put_prefix.ensures.front
    ∙ ap (λ (code : ℕ). prefix_bytes (prefix code) c.args.payload) c.code_of_kind.ensures in
    more _ c.put_u32-3.ensures.front
    (more _ c.put_u32-2.ensures.front (more _ c.put_u32.ensures.front front))
