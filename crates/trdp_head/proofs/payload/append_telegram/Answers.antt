use Rattle.std.proofs.Common.{ℕ, zero, suc, List, ◌≡◌, ◌≤◌, ◌++◌, ◌-◌, length, take}
use Rattle.std.proofs.Common.{replicate, [], ◌∷◌, refl, ap, ◌∙◌, arith, append_assoc}
use Rattle.trdp_head.specs.TelegramBytes.{rounded_of}
use Rattle.trdp_head.proofs.payload.append_telegram.Goals as goal

abbrev three : List ℕ
three = 0 ∷ 0 ∷ 0 ∷ []

-- up to three zeros
zeros : (n : ℕ) → n ≤ 3 → take n three ≡ replicate n 0
zeros zero le = refl
zeros (suc zero) le = refl
zeros (suc (suc zero)) le = refl
zeros (suc (suc (suc zero))) le = refl
zeros (suc (suc (suc (suc n)))) le = absurd (omega (arith, le))

pub returns-clause-items : goal.returns-clause-items
returns-clause-items c =
    let size : ℕ = length c.args.payload.now in
    let before : List ℕ = c.args.list.now.items in
    let head : List ℕ = c.args.header.now in
    let more : ℕ = rounded_of size - size in
    let same : c.rounded-filled.result - size ≡ more =
    ap (λ (n : ℕ). n - size) c.rounded-filled.ensures in
    let padding : c.split_at.result.0.now ≡ replicate more 0 =
    c.split_at.ensures.front ∙ ap (λ (n : ℕ). take n three) same ∙ zeros more (omega arith) in
    rw (c.append-3.ensures.items, c.append-2.ensures.items, c.append.ensures.items, padding)
    (ap (λ (r : List ℕ). r ++ replicate more 0) (append_assoc before head c.args.payload.now)
    ∙ append_assoc before (head ++ c.args.payload.now) (replicate more 0))
