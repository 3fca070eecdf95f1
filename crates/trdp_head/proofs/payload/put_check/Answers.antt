use Rattle.std.proofs.Common.{arith, ℕ, List, length, take, ◌++◌, ◌+◌, ◌≡◌, ap, sym, ◌∙◌}
use Rattle.trdp_fcs.specs.FrameCheck.{frame_check_of}
use Rattle.trdp_head.specs.Fields.{le_bytes}
use Rattle.trdp_head.specs.Checks.{with_check}
use Rattle.trdp_head.proofs.FieldNumberLemmas.{le_bytes-is}
use Rattle.trdp_head.proofs.payload.put_check.Goals as goal

pub returns-clause-front : goal.returns-clause-front
unfolding with_check
returns-clause-front c =
    let checked : List ℕ = take c.args.offset c.args.room.now in
    let four : length c.to_le_bytes.result ≡ 4 = ap length c.to_le_bytes.ensures in
    let end : c.args.offset + 4 ≡ c.args.offset + length c.to_le_bytes.result =
    omega (arith, four) in
    let stored : c.to_le_bytes.result ≡ le_bytes 4 (frame_check_of checked) =
    c.to_le_bytes.ensures ∙ sym (le_bytes-is 4 c.frame_check-check.result)
    ∙ ap (le_bytes 4) (c.frame_check-check.ensures ∙ ap frame_check_of c.split_at.ensures.front) in
    ap (λ (n : ℕ). take n c.put_bytes.new.room) end
    ∙ c.put_bytes.ensures.front ∙ ap (λ (r : List ℕ). checked ++ r) stored
