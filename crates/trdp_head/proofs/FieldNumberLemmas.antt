-- The numbers of a header's fields are those that `byteorder` reads and writes.
-- For `u16_at`, `u32_at`, `u128_at`, `put_u32` and the others of the fields, and for `put_check`.
-- By induction on the number of bytes, with one byte more at the end.
use Rattle.std.proofs.Common.{◌≡◌, ℕ, zero, suc, ◌+◌, ◌*◌, ◌/◌, ◌%◌, ◌^◌, ◌≤◌, List, [], ◌∷◌, ◌++◌}
use Rattle.std.proofs.Common.{length, take, reverse, refl, sym, ap, ◌∙◌, arith, length-append}
use Rattle.std.proofs.Math.Nat.{div-one, pow-succ'}
use Rattle.std.proofs.lemmas.List.{length-take-le, reverse-append}
use Rattle.std.specs.Int.{byte_at, bytes_high_first, bytes_low_first}
use Rattle.byteorder.specs.Endian.{big_from, little_from}
use Rattle.byteorder.specs.Numbers.{big_from-cons, little_from-cons}
use Rattle.trdp_base.specs.Numbers.{be, le}
use Rattle.trdp_head.specs.Fields.{be_bytes, le_bytes}

pub big_number-be : (n : ℕ) (xs : List ℕ) → n ≤ length xs → big_from 0 n xs ≡ be (take n xs)
big_number-be zero xs h = refl
big_number-be (suc n) [] h = absurd (omega arith)
big_number-be (suc n) (x ∷ xs) h =
    let fits : n ≤ length xs = omega arith in
    let rest = big_from-cons 0 n x xs ∙ big_number-be n xs fits in
    let len = length-take-le n xs fits in
    rw (rest, len) refl

-- one more byte at the end
be-push : (xs : List ℕ) (x : ℕ) → be (xs ++ x ∷ []) ≡ 256 * be xs + x
be-push [] x = omega arith
be-push (a ∷ xs) x =
    let rest = be-push xs x in
    let len : length (xs ++ x ∷ []) ≡ suc (length xs) = simp length-append (omega arith) in
    rw (rest, len, pow-succ' 256 (length xs)) (omega arith)

pub little_number-le : (n : ℕ) (xs : List ℕ) → n ≤ length xs → little_from 0 n xs ≡ le (take n xs)
little_number-le zero xs h = refl
little_number-le (suc n) [] h = absurd (omega arith)
little_number-le (suc n) (x ∷ xs) h =
    let fits : n ≤ length xs = omega arith in
    let rest = little_from-cons 0 n x xs ∙ little_number-le n xs fits in
    let pushed : le (x ∷ take n xs) ≡ 256 * le (take n xs) + x =
    ap be (reverse-append (x ∷ []) (take n xs)) ∙ be-push (reverse (take n xs)) x in
    omega (arith, rest, pushed)

byte_at-is : (n number : ℕ) → byte_at n number ≡ number / 256 ^ n % 256
byte_at-is zero number = ap (λ (m : ℕ). m % 256) (sym (div-one number))
byte_at-is (suc n) number = refl

pub be_bytes-is : (n number : ℕ) → be_bytes n number ≡ bytes_high_first n number
unfolding be_bytes
be_bytes-is zero number = refl
be_bytes-is (suc n) number = rw (byte_at-is n number, be_bytes-is n number) refl

-- the byte of the highest place is the last
low_first-more : (k i number : ℕ)
    → bytes_low_first i (suc k) number ≡ bytes_low_first i k number ++ byte_at (i + k) number ∷ []
low_first-more zero i number = let e : i + 0 ≡ i = omega arith in rw e refl
low_first-more (suc k) i number =
    let e : i + suc k ≡ suc i + k = omega arith in
    rw e (ap (λ (bytes : List ℕ). byte_at i number ∷ bytes) (low_first-more k (suc i) number))

pub le_bytes-is : (n number : ℕ) → le_bytes n number ≡ bytes_low_first 0 n number
unfolding le_bytes be_bytes
le_bytes-is zero number = refl
le_bytes-is (suc n) number =
    let e : 0 + n ≡ n = omega arith in
    let last : byte_at (0 + n) number ≡ number / 256 ^ n % 256 = rw e (byte_at-is n number) in
    let top : ℕ = number / 256 ^ n % 256 in
    reverse-append (top ∷ []) (be_bytes n number)
    ∙ ap (λ (bytes : List ℕ). bytes ++ top ∷ []) (le_bytes-is n number)
    ∙ ap (λ (b : ℕ). bytes_low_first 0 n number ++ b ∷ []) (sym last)
    ∙ sym (low_first-more n 0 number)
