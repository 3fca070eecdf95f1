-- What is looked up is the register past bytes of 0, and past bytes.
-- For `past_byte`, `past_four` and `past_eight`, and for those past bytes of 0.
-- By: each table is computed once, and bytes of 0 act on each byte alone (`ZeroLemmas`).
use Rattle.std.proofs.Common.{◌≡◌, ℕ, zero, suc, ◌+◌, ◌/◌, ◌%◌, ◌^◌, ◌<◌, List, [], ◌∷◌}
use Rattle.std.proofs.Common.{length, drop, map, slice_index_or, sym, ap, ◌∙◌, arith, bit_xor}
use Rattle.std.specs.Int.{w32, from_le_bytes}
use Rattle.std.proofs.lemmas.List.FromFn.{get_or-map-range_with_len}
use lib.Bits.{xor_assoc, xor_comm}
use Rattle.std.specs.List.{range_with_len}
use Rattle.std.proofs.Math.Seq.{drop-cons}
use Rattle.std.proofs.lemmas.List.{drop_all}
use Rattle.trdp_fcs.specs.Register.{past_zeros, past, table, tables}
use Rattle.trdp_fcs.proofs.ZeroLemmas.{zeros-none, zeros-low, zeros-xor, zeros-add, number}
use Rattle.trdp_fcs.proofs.ZeroLemmas.{past-number}

-- an entry of tables
abbrev pub entry : List (List ℕ) → ℕ → ℕ → ℕ
entry rows k byte = slice_index_or (slice_index_or rows k []) byte 0

pub looked_up : (rows : List (List ℕ)) (count k byte : ℕ)
    → rows ≡ tables count → k < count → byte < 256 → entry rows k byte ≡ past_zeros (suc k) byte
looked_up rows count k byte e fits small =
    let row : slice_index_or rows k [] ≡ table (suc k) =
    ap (λ (t : List (List ℕ)). slice_index_or t k []) e
    ∙ get_or-map-range_with_len table 1 count k (suc k) [] fits (omega arith) in
    ap (λ (t : List ℕ). slice_index_or t byte 0) row
    ∙ get_or-map-range_with_len (λ b. past_zeros (suc k) b) 0 256 byte byte 0 small (omega arith)

-- past one byte of 0, by the first table
pub past_one : (rows : List (List ℕ)) (r : ℕ)
    → rows ≡ tables 8 → bit_xor (entry rows 0 (r % 256)) (r / 256) ≡ past_zeros 1 r
past_one rows r e =
    ap (λ (x : ℕ). bit_xor x (r / 256)) (looked_up rows 8 0 (r % 256) e (omega arith) (omega arith))
    ∙ ap (λ (x : ℕ). bit_xor (past_zeros 1 (r % 256)) x) (sym (zeros-none (r / 256)))
    ∙ sym (zeros-low 0 r)

-- past four bytes of 0 or more, by four tables
pub past_word : (rows : List (List ℕ)) (k r : ℕ) → rows ≡ tables 8 → k + 3 < 8 → r < 2 ^ 32
    → bit_xor (bit_xor (bit_xor (entry rows (k + 3) (r % 256)) (entry rows (k + 2) (r / 256 % 256)))
    (entry rows (k + 1) (r / 65536 % 256))) (entry rows k (r / 16777216 % 256))
    ≡ past_zeros (k + 4) r
past_word rows k r e fits word =
    let a : ℕ = past_zeros (suc (k + 3)) (r % 256) in
    let b : ℕ = past_zeros (suc (k + 2)) (r / 256 % 256) in
    let c : ℕ = past_zeros (suc (k + 1)) (r / 65536 % 256) in
    let d : ℕ = past_zeros (suc k) (r / 16777216 % 256) in
    let ea : entry rows (k + 3) (r % 256) ≡ a =
    looked_up rows 8 (k + 3) (r % 256) e fits (omega arith) in
    let eb : entry rows (k + 2) (r / 256 % 256) ≡ b =
    looked_up rows 8 (k + 2) (r / 256 % 256) e (omega arith) (omega arith) in
    let ec : entry rows (k + 1) (r / 65536 % 256) ≡ c =
    looked_up rows 8 (k + 1) (r / 65536 % 256) e (omega arith) (omega arith) in
    let ed : entry rows k (r / 16777216 % 256) ≡ d =
    looked_up rows 8 k (r / 16777216 % 256) e (omega arith) (omega arith) in
    let n4 : k + 4 ≡ suc (k + 3) = omega arith in
    let n3 : k + 3 ≡ suc (k + 2) = omega arith in
    let n2 : k + 2 ≡ suc (k + 1) = omega arith in
    let n1 : k + 1 ≡ suc k = omega arith in
    let r2 : r / 256 / 256 ≡ r / 65536 = omega arith in
    let r3 : r / 65536 / 256 ≡ r / 16777216 = omega arith in
    let top : r / 16777216 ≡ r / 16777216 % 256 = omega arith in
    let s4 : past_zeros (k + 4) r ≡ bit_xor a (past_zeros (k + 3) (r / 256)) =
    ap (λ (n : ℕ). past_zeros n r) n4 ∙ zeros-low (k + 3) r in
    let s3 : past_zeros (k + 3) (r / 256) ≡ bit_xor b (past_zeros (k + 2) (r / 65536)) =
    ap (λ (n : ℕ). past_zeros n (r / 256)) n3 ∙ zeros-low (k + 2) (r / 256)
    ∙ ap (λ (x : ℕ). bit_xor b (past_zeros (k + 2) x)) r2 in
    let s2 : past_zeros (k + 2) (r / 65536) ≡ bit_xor c (past_zeros (k + 1) (r / 16777216)) =
    ap (λ (n : ℕ). past_zeros n (r / 65536)) n2 ∙ zeros-low (k + 1) (r / 65536)
    ∙ ap (λ (x : ℕ). bit_xor c (past_zeros (k + 1) x)) r3 in
    let s1 : past_zeros (k + 1) (r / 16777216) ≡ d =
    ap (λ (n : ℕ). past_zeros n (r / 16777216)) n1 ∙ ap (λ (x : ℕ). past_zeros (suc k) x) top in
    let right : past_zeros (k + 4) r ≡ bit_xor a (bit_xor b (bit_xor c d)) =
    s4 ∙ ap (λ (x : ℕ). bit_xor a x)
    (s3 ∙ ap (λ (x : ℕ). bit_xor b x) (s2 ∙ ap (λ (x : ℕ). bit_xor c x) s1)) in
    rw (ea, eb, ec, ed) (xor_assoc (bit_xor a b) c d ∙ xor_assoc a b (bit_xor c d) ∙ sym right)

-- four bytes at once
pub past_four : (a b c d r : ℕ) → a < 256 → b < 256 → c < 256 → d < 256
    → past_zeros 4 (bit_xor r (from_le_bytes w32 (a ∷ b ∷ c ∷ d ∷ [])))
    ≡ past (a ∷ b ∷ c ∷ d ∷ []) r
past_four a b c d r ha hb hc hd =
    let bytes : List ℕ = a ∷ b ∷ c ∷ d ∷ [] in
    let same : from_le_bytes w32 bytes ≡ number bytes = omega arith in
    ap (λ (x : ℕ). past_zeros 4 (bit_xor r x)) same
    ∙ sym (past-number bytes r (ha, (hb, (hc, (hd, tt)))))

-- what is left after the first k, one by one
listed : (xs : List ℕ) (k n : ℕ) → length xs ≡ k + n
    → drop k xs ≡ map (λ i. slice_index_or xs i 0) (range_with_len k n)
listed xs k zero e = drop_all k xs (omega (arith, e))
listed xs k (suc n) e =
    let next : suc k ≡ k + 1 = omega arith in
    let head : drop k xs ≡ slice_index_or xs k 0 ∷ drop (suc k) xs =
    drop-cons xs k 0 (omega (arith, e)) in
    head
    ∙ ap (λ (j : ℕ). slice_index_or xs k 0 ∷ drop j xs) next
    ∙ ap (λ (rest : List ℕ). slice_index_or xs k 0 ∷ rest) (listed xs (k + 1) n (omega (arith, e)))

pub past_four_of : (bytes : List ℕ) (r : ℕ) → length bytes ≡ 4
    → ((i : ℕ) → slice_index_or bytes i 0 < 256)
    → past_zeros 4 (bit_xor r (from_le_bytes w32 bytes)) ≡ past bytes r
past_four_of bytes r e small =
    past_four (slice_index_or bytes 0 0) (slice_index_or bytes 1 0) (slice_index_or bytes 2 0)
    (slice_index_or bytes 3 0) r (small 0) (small 1) (small 2) (small 3)
    ∙ ap (λ (xs : List ℕ). past xs r) (sym (listed bytes 0 4 (omega (arith, e))))

-- eight bytes at once, as two times four
pub past_eight_of : (bytes : List ℕ) (r front back : ℕ)
    → length bytes ≡ 8 → ((i : ℕ) → slice_index_or bytes i 0 < 256)
    → front ≡ from_le_bytes w32 (slice_index_or bytes 0 0
    ∷ slice_index_or bytes 1 0 ∷ slice_index_or bytes 2 0 ∷ slice_index_or bytes 3 0 ∷ [])
    → back ≡ from_le_bytes w32 (slice_index_or bytes 4 0
    ∷ slice_index_or bytes 5 0 ∷ slice_index_or bytes 6 0 ∷ slice_index_or bytes 7 0 ∷ [])
    → bit_xor (past_zeros 4 back) (past_zeros 8 (bit_xor r front)) ≡ past bytes r
past_eight_of bytes r front back e small ef eb =
    let at : ℕ → ℕ = λ i. slice_index_or bytes i 0 in
    let later : List ℕ = at 4 ∷ at 5 ∷ at 6 ∷ at 7 ∷ [] in
    xor_comm (past_zeros 4 back) (past_zeros 8 (bit_xor r front))
    ∙ ap (λ (x : ℕ). bit_xor x (past_zeros 4 back)) (zeros-add 4 4 (bit_xor r front))
    ∙ sym (zeros-xor 4 (past_zeros 4 (bit_xor r front)) back)
    ∙ ap (λ (x : ℕ). past_zeros 4 (bit_xor (past_zeros 4 (bit_xor r front)) x)) eb
    ∙ past_four (at 4) (at 5) (at 6) (at 7) (past_zeros 4 (bit_xor r front))
    (small 4) (small 5) (small 6) (small 7)
    ∙ ap (λ (x : ℕ). past later (past_zeros 4 (bit_xor r x))) ef
    ∙ ap (λ (x : ℕ). past later x)
    (past_four (at 0) (at 1) (at 2) (at 3) r (small 0) (small 1) (small 2) (small 3))
    ∙ ap (λ (xs : List ℕ). past xs r) (sym (listed bytes 0 8 (omega (arith, e))))
