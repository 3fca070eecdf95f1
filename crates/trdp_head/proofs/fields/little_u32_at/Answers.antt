use Rattle.std.proofs.Common.{ap, ◌∙◌, arith, take, List, ℕ}
use Rattle.trdp_base.specs.Numbers.{le}
use Rattle.trdp_head.specs.Fields.{little_field}
use Rattle.trdp_head.proofs.FieldNumberLemmas.{little_number-le}
use Rattle.trdp_head.proofs.fields.little_u32_at.Goals as goal

pub returns : goal.returns
unfolding little_field
returns c =
    c.read_u32.ensures
    ∙ little_number-le 4 c.split_at.result.1.now (omega (arith, c.split_at.ensures.back_len))
    ∙ ap (λ (rest : List ℕ). le (take 4 rest)) c.split_at.ensures.back
