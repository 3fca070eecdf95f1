-- The bytes of a number that was read.
-- For `CodecLemmas` and `SpellingLemmas`, and for the reader of numbers.
-- By induction on the number of bytes: what is above the lowest ones doesn't change them.
use Rattle.std.proofs.Common.{◌≡◌, ◌<◌, ◌≤◌, ◌+◌, ◌*◌, ◌/◌, ◌%◌, ◌^◌, ℕ, zero, suc, List, []}
use Rattle.std.proofs.Common.{◌∷◌, ◌++◌, length, drop, get_or, subst, refl, sym, ap, ◌∙◌, arith}
use Rattle.std.specs.Int.{byte_at, bytes_high_first}
use Rattle.std.proofs.Math.Nat.{mod-lt, mul-add-mod_self_right, mul-add-div_right, div-one}
use Rattle.std.proofs.Math.Nat.{mod-eq_of_lt, div-eq_of_lt, mul_assoc, one-le-pow, pow-succ'}
use Rattle.byteorder.specs.Endian.{big_from, big_number, big_bytes}
use Rattle.trdp_marshal.specs.Numbers.{IsBytes}
use Rattle.byteorder.specs.Numbers.{big_from-cons, big_from-lt}

byte_at-pow : (k x : ℕ) → byte_at k x ≡ x / 256 ^ k % 256
byte_at-pow zero x = ap (λ (y : ℕ). y % 256) (sym (div-one x))
byte_at-pow (suc k) x = refl

pow_pos256 : (n : ℕ) → zero < 256 ^ n
pow_pos256 n = let h = one-le-pow n 256 (omega arith) in omega arith

-- what is above m bytes doesn't change the lowest m
low_bytes_of : (m q r : ℕ) → bytes_high_first m (q * 256 ^ m + r) ≡ bytes_high_first m r
low_bytes_of zero q r = refl
low_bytes_of (suc m) q r =
    let moved : q * 256 ^ (suc m) ≡ (q * 256) * 256 ^ m = ap (λ (p : ℕ). q * p) (pow-succ' 256 m)
    ∙ sym (mul_assoc q 256 (256 ^ m)) in
    let divided = mul-add-div_right {m = 256 ^ m} (pow_pos256 m) (q * 256) r in
    let byte : byte_at m ((q * 256) * 256 ^ m + r) ≡ byte_at m r =
    byte_at-pow m ((q * 256) * 256 ^ m + r) ∙ ap (λ (x : ℕ). x % 256) divided
    ∙ mul-add-mod_self_right q 256 (r / 256 ^ m) ∙ sym (byte_at-pow m r) in
    let rest = low_bytes_of m (q * 256) r in
    rw (moved, byte, rest) refl

top_byte_of : (m b r : ℕ) → b < 256 → r < 256 ^ m → byte_at m (b * 256 ^ m + r) ≡ b
top_byte_of m b r small low =
    let none : r / 256 ^ m ≡ 0 = div-eq_of_lt low in
    let whole : (b * 256 ^ m + r) / 256 ^ m ≡ b =
    mul-add-div_right {m = 256 ^ m} (pow_pos256 m) b r ∙ omega arith in
    byte_at-pow m (b * 256 ^ m + r) ∙ ap (λ (x : ℕ). x % 256) whole ∙ mod-eq_of_lt small

-- the number in k bytes is spelled by them
pub bytes_of_number : (k : ℕ) (bytes : List ℕ)
    → IsBytes bytes → k ≤ length bytes → big_bytes k (big_number k bytes) ++ drop k bytes ≡ bytes
bytes_of_number zero bytes fits room = refl
bytes_of_number (suc k) [] fits room = absurd (omega arith)
bytes_of_number (suc k) (b ∷ bs) fits room =
    let moved : big_from 1 k (b ∷ bs) ≡ big_number k bs = big_from-cons 0 k b bs in
    let low : big_number k bs < 256 ^ k = big_from-lt 0 k bs (λ i. fits (suc i)) in
    let top = top_byte_of k b (big_number k bs) (fits 0) low in
    let rest = low_bytes_of k b (big_number k bs) in
    let tail = bytes_of_number k bs (λ i. fits (suc i)) (omega arith) in
    rw (moved, top, rest, tail) refl

pub number_fits : (k : ℕ) (bytes : List ℕ) → IsBytes bytes → big_number k bytes < 256 ^ k
number_fits k bytes fits = big_from-lt 0 k bytes fits

byte_at-bound : (k x : ℕ) → byte_at k x < 256
byte_at-bound k x =
    subst (λ (y : ℕ). y < 256) (sym (byte_at-pow k x)) (mod-lt (x / 256 ^ k) (omega arith))

number_byte : (k x i : ℕ) → get_or (bytes_high_first k x) i 0 < 256
number_byte zero x i = omega arith
number_byte (suc k) x zero = byte_at-bound k x
number_byte (suc k) x (suc i) = number_byte k x i

-- what spells a number are bytes
pub number_bytes : (k x : ℕ) → IsBytes (big_bytes k x)
number_bytes k x = number_byte k x
