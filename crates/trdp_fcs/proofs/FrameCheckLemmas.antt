-- A frame check has 32 bits.
-- For crates above, whose written headers store it in four bytes.
-- By: inverted bits are a number of as many bits, whatever they were.
use Rattle.std.proofs.Common.{◌≡◌, ℕ, zero, suc, ◌+◌, ◌-◌, ◌*◌, ◌/◌, ◌^◌, ◌<◌}
use Rattle.std.proofs.Common.{true, false, cond, eqb, List, [], ◌∷◌, ◌++◌, length}
use Rattle.std.proofs.Common.{drop, replicate, refl, subst, arith, length-append}
use Rattle.std.proofs.Math.Nat.{pow-succ'}
use Rattle.std.proofs.lemmas.List.{length-drop, length-replicate}
use Rattle.std.specs.Prelude.{flat_map}
use Rattle.trdp_fcs.specs.Bits.{bits_from_bottom, number_from_bottom, message_bits, inverted}
use Rattle.trdp_fcs.specs.Division.{add_front, divide}
use Rattle.trdp_fcs.specs.FrameCheck.{generator, frame_check_of}

length-bits_from_bottom : (k n : ℕ) → length (bits_from_bottom k n) ≡ k
length-bits_from_bottom zero n = refl
length-bits_from_bottom (suc k) n = let rest =
    length-bits_from_bottom k (n / 2) in omega (arith, rest)

length-add_front : (xs ys : List ℕ) → length (add_front xs ys) ≡ length ys
length-add_front [] ys = refl
length-add_front (x ∷ xs) [] = refl
length-add_front (x ∷ xs) (y ∷ ys) = let rest = length-add_front xs ys in omega (arith, rest)

length-divide : (divisor : List ℕ) (n : ℕ) (xs : List ℕ)
    → length (divide divisor n xs) ≡ length xs - n
length-divide divisor zero xs = omega arith
length-divide divisor (suc n) [] = omega arith
length-divide divisor (suc n) (x ∷ xs) =
    let taken : List ℕ = add_front divisor (x ∷ xs) in
    elim (eqb x 1) as (λ b. length (divide divisor n (drop 1 (cond b taken (x ∷ xs))))
    ≡ length (x ∷ xs) - suc n) [
      | true ↦ omega (
        arith,
        length-divide divisor n (drop 1 taken),
        length-drop 1 taken,
        length-add_front divisor (x ∷ xs),
      )
      | false ↦ omega (arith, length-divide divisor n xs)
    ]

-- there are eight bits of each byte
length-bits_in : (m : ℕ) (xs : List ℕ)
    → length (flat_map (λ x. bits_from_bottom m x) xs) ≡ m * length xs
length-bits_in m [] = omega arith
length-bits_in m (x ∷ xs) =
    let rest = length-bits_in m xs in
    let front = length-bits_from_bottom m x in
    simp length-append (omega (arith, rest, front))

-- inverted bits are a number of that many bits, whatever they were
inverted-lt : (bs : List ℕ) → number_from_bottom (inverted bs) < 2 ^ length bs
inverted-lt [] = omega arith
inverted-lt (b ∷ bs) = let rest = inverted-lt bs in
    rw (pow-succ' 2 (length bs)) (omega (arith, rest))

length-remainder : (k m : ℕ) (divisor ones xs : List ℕ) → length (divide divisor
    (m * length xs) (add_front ones (flat_map (λ x. bits_from_bottom m x) xs ++ replicate k 0))) ≡ k
length-remainder k m divisor ones xs =
    let none : List ℕ = replicate k 0 in
    let message : List ℕ = flat_map (λ x. bits_from_bottom m x) xs in
    let divided = length-divide divisor (m * length xs) (add_front ones (message ++ none)) in
    let added = length-add_front ones (message ++ none) in
    let joined : length (message ++ none) ≡ length message + length none =
    length-append message none in
    let bits = length-bits_in m xs in
    let zeros : length none ≡ k = length-replicate k 0 in
    omega (arith, divided, added, joined, bits, zeros)

-- a frame check has 32 bits
pub frame_check_of-lt : (bytes : List ℕ) → frame_check_of bytes < 2 ^ 32
unfolding frame_check_of
frame_check_of-lt bytes =
    let ones : List ℕ = replicate 32 1 in
    let rest : List ℕ = divide generator (8 * length bytes)
    (add_front ones (message_bits bytes ++ replicate 32 0)) in
    let bits : length rest ≡ 32 = length-remainder 32 8 generator ones bytes in
    let bound = inverted-lt rest in
    let P : ℕ → Type 0 = λ n. number_from_bottom (inverted rest) < 2 ^ n in
    subst P bits bound
