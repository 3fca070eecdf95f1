use Rattle.std.proofs.Common.{◌≤◌, arith, ℕ, List, length, take, drop}
use Rattle.std.proofs.Common.{replicate, ◌++◌, ◌+◌, ◌-◌, ◌≡◌, ap, sym, ◌∙◌}
use Rattle.std.proofs.lemmas.List.{take-append-drop}
use Rattle.trdp_head.specs.Checks.{with_check}
use Rattle.trdp_head.specs.TelegramBytes.{rounded_of, telegram_bytes}
use Rattle.trdp_head.proofs.payload.complete.Goals as goal

pub returns-clause-written : goal.returns-clause-written
unfolding telegram_bytes
returns-clause-written c =
    let n : ℕ = length c.args.payload.now in
    let size : ℕ = c.args.size in
    let end : ℕ = size + rounded_of n in
    let head : List ℕ = with_check (take (size - 4) c.args.room.now) in
    let zeros : List ℕ = replicate (rounded_of n - n) 0 in
    let sizes : size - 4 + 4 ≡ size = omega arith in
    let headed : take size c.put_check.new.room ≡ head =
    ap (λ (k : ℕ). take k c.put_check.new.room) (sym sizes) ∙ c.put_check.ensures.front in
    let reached : size + c.rounded.result ≡ end = ap (λ (k : ℕ). size + k) c.rounded.ensures in
    let filled : end - (size + n) ≡ rounded_of n - n = omega arith in
    let whole : take end c.put_zeros.new.room ≡ head ++ c.args.payload.now ++ zeros =
    ap (λ (k : ℕ). take k c.put_zeros.new.room) (sym reached) ∙ c.put_zeros.ensures.front
    ∙ ap (λ (k : ℕ). take (size + n) c.put_bytes.new.room ++ replicate (k - (size + n)) 0) reached
    ∙ ap (λ (k : ℕ). take (size + n) c.put_bytes.new.room ++ replicate k 0) filled
    ∙ ap (λ (r : List ℕ). r ++ zeros) (c.put_bytes.ensures.front
    ∙ ap (λ (r : List ℕ). r ++ c.args.payload.now) headed) in
    let after : size + n ≤ end = omega arith in
    let rest : drop end c.put_zeros.new.room ≡ drop end c.args.room.now =
    c.put_zeros.ensures.rest end (omega (arith, reached)) ∙ c.put_bytes.ensures.rest end after
    ∙ c.put_check.ensures.rest end (omega (arith, sizes)) in
    sym (take-append-drop end c.put_zeros.new.room)
    ∙ ap (λ (r : List ℕ). r ++ drop end c.put_zeros.new.room) whole
    ∙ ap (λ (r : List ℕ). (head ++ c.args.payload.now ++ zeros) ++ r) rest
