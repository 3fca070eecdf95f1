-- The register past any bytes is the frame check inverted, so a check goes on where another ended.
-- For `Running::start` and `Running::feed`.
-- By `DivisionLemmas` at items of eight bits; past one list and then another is past both.
use Rattle.std.proofs.Common.{lit<, ◌≡◌, ℕ, suc, zero, ◌+◌, ◌-◌, ◌*◌, ◌/◌, ◌%◌, ◌^◌, ◌<◌, List}
use Rattle.std.proofs.Common.{[], ◌∷◌, ◌++◌, map, get_or, refl, sym, ap, ◌∙◌, arith, bit_xor}
use Rattle.std.proofs.lemmas.List.{length-map, map-append}
use lib.Bits.{block_half, block_odd}
use Rattle.trdp_fcs.specs.Bits.{bits_from_bottom, number_from_bottom, message_bits, inverted}
use Rattle.trdp_fcs.specs.FrameCheck.{frame_check_of}
use Rattle.trdp_fcs.specs.Register.{past_zeros, past}
use Rattle.trdp_fcs.proofs.DivisionLemmas.{AreSmall, after, after-fits, divided}
use Rattle.trdp_fcs.proofs.DivisionLemmas.{number_from_bottom-inverted}

past-is : (xs : List ℕ) (r : ℕ) → past xs r ≡ after 0xEDB88320 8 xs r
unfolding past_zeros
past-is [] r = refl
past-is (x ∷ xs) r = past-is xs (past_zeros 1 (bit_xor r x))

pub past-append : (xs ys : List ℕ) (r : ℕ) → past (xs ++ ys) r ≡ past ys (past xs r)
past-append [] ys r = refl
past-append (x ∷ xs) ys r = past-append xs ys (past_zeros 1 (bit_xor r x))

-- the lowest bits of a sum are those of its lowest part
bits_from_bottom-low : (k high low : ℕ)
    → bits_from_bottom k (high * 2 ^ k + low) ≡ bits_from_bottom k low
bits_from_bottom-low zero high low = refl
bits_from_bottom-low (suc k) high low =
    rw (block_odd high k low, block_half high k low, bits_from_bottom-low k high (low / 2)) refl

-- the lowest byte of a number
abbrev pub low : ℕ → ℕ
low x = x % 256

-- only the lowest byte of each number counts
message_bits-low : (xs : List ℕ) → message_bits (map low xs) ≡ message_bits xs
message_bits-low [] = refl
message_bits-low (x ∷ xs) =
    let parts : x / 256 * 2 ^ 8 + low x ≡ x = omega arith in
    let same : bits_from_bottom 8 (low x) ≡ bits_from_bottom 8 x =
    sym (bits_from_bottom-low 8 (x / 256) (low x))
    ∙ ap (λ (n : ℕ). bits_from_bottom 8 n) parts in
    ap (λ (bs : List ℕ). bs ++ message_bits (map low xs)) same
    ∙ ap (λ (bs : List ℕ). bits_from_bottom 8 x ++ bs) (message_bits-low xs)

pub low-is_small : (xs : List ℕ) → AreSmall 8 (map low xs)
low-is_small [] = tt
low-is_small (x ∷ xs) = (omega arith, low-is_small xs)

low-of_bytes : (xs : List ℕ) → ((i : ℕ) → get_or xs i 0 < 256) → map low xs ≡ xs
low-of_bytes [] h = refl
low-of_bytes (x ∷ xs) h =
    let head : low x ≡ x = omega (arith, h 0) in
    rw (head, low-of_bytes xs (λ i. h (suc i))) refl

-- the inverted register is the frame check
whole : (xs : List ℕ)
    → AreSmall 8 xs → 4294967295 - after 0xEDB88320 8 xs 4294967295 ≡ frame_check_of xs
unfolding frame_check_of
whole xs small =
    let fits : after 0xEDB88320 8 xs 4294967295 < 2 ^ 32 =
    after-fits 8 24 32 0xEDB88320 refl (lit< tt) xs 4294967295 (lit< tt) small in
    let form = divided 8 24 31 0xEDB88320 refl xs 4294967295 (lit< tt) (lit< tt) small in
    sym (number_from_bottom-inverted 32 (after 0xEDB88320 8 xs 4294967295) fits)
    ∙ ap (λ (bs : List ℕ). number_from_bottom (inverted bs)) (sym form)

frame_check_of-low : (xs : List ℕ) → frame_check_of (map low xs) ≡ frame_check_of xs
unfolding frame_check_of
frame_check_of-low xs = rw (length-map xs low, message_bits-low xs) refl

-- the register past the lowest bytes
abbrev pub register : List ℕ → ℕ
register xs = past (map low xs) 4294967295

pub register-lt : (xs : List ℕ) → register xs < 2 ^ 32
register-lt xs = rw (past-is (map low xs) 4294967295) (after-fits 8
    24 32 0xEDB88320 refl (lit< tt) (map low xs) 4294967295 (lit< tt) (low-is_small xs))

pub register-inverted : (xs : List ℕ) → 4294967295 - register xs ≡ frame_check_of xs
register-inverted xs =
    ap (λ (r : ℕ). 4294967295 - r) (past-is (map low xs) 4294967295)
    ∙ whole (map low xs) (low-is_small xs)
    ∙ frame_check_of-low xs

-- the check of no bytes
pub check_of_none : 0 ≡ frame_check_of []
check_of_none = register-inverted []

-- from the check of the bytes before, the bytes that follow lead to the check of both
pub check_goes_on : (before bytes : List ℕ) (check : ℕ)
    → ((i : ℕ) → get_or bytes i 0 < 256) → check ≡ frame_check_of before
    → 4294967295 - past bytes (4294967295 - check) ≡ frame_check_of (before ++ bytes)
check_goes_on before bytes check small e =
    let known : 4294967295 - register before ≡ check = register-inverted before ∙ sym e in
    let fits = register-lt before in
    let back : 4294967295 - check ≡ register before = omega (arith, known, fits) in
    let joined : register (before ++ bytes) ≡ past bytes (register before) =
    ap (λ (xs : List ℕ). past xs 4294967295) (map-append low before bytes
    ∙ ap (λ (xs : List ℕ). map low before ++ xs) (low-of_bytes bytes small))
    ∙ past-append (map low before) bytes 4294967295 in
    ap (λ (r : ℕ). 4294967295 - past bytes r) back
    ∙ ap (λ (r : ℕ). 4294967295 - r) (sym joined) ∙ register-inverted (before ++ bytes)
