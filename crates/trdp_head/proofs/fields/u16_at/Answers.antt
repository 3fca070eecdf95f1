use Rattle.std.proofs.Common.{ap, ◌∙◌, arith, take, List, ℕ}
use Rattle.trdp_base.specs.Numbers.{be}
use Rattle.trdp_head.specs.Fields.{field}
use Rattle.trdp_head.proofs.FieldNumberLemmas.{big_number-be}
use Rattle.trdp_head.proofs.fields.u16_at.Goals as goal

pub returns : goal.returns
unfolding field
returns c =
    c.read_u16.ensures
    ∙ big_number-be 2 c.split_at.result.1.now (omega (arith, c.split_at.ensures.back_len))
    ∙ ap (λ (rest : List ℕ). be (take 2 rest)) c.split_at.ensures.back
