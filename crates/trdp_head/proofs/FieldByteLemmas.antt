-- A number is read back from its bytes.
-- For the lemmas on written telegrams of both kinds.
-- By induction on the number of bytes.
use Rattle.std.proofs.Common.{◌≡◌, ℕ, zero, suc, ◌^◌, ◌<◌, List, []}
use Rattle.std.proofs.Common.{length, refl, sym, ap, ◌∙◌, arith}
use Rattle.std.proofs.lemmas.List.{reverse-reverse}
use Rattle.std.specs.Int.{bytes_high_first}
use Rattle.byteorder.specs.Endian.{big_from}
use Rattle.byteorder.specs.Numbers.{big_number-reads_back}
use Rattle.std.proofs.lemmas.List.{append-nil, take_all}
use Rattle.trdp_base.specs.Numbers.{be, le}
use Rattle.trdp_head.specs.Fields.{be_bytes, le_bytes}
use Rattle.trdp_head.proofs.FieldNumberLemmas.{big_number-be, be_bytes-is}

pub length-be_bytes : (n number : ℕ) → length (be_bytes n number) ≡ n
unfolding be_bytes
length-be_bytes zero number = refl
length-be_bytes (suc n) number = let rest = length-be_bytes n number in omega (arith, rest)

-- the big-endian value of a number's n bytes
pub be-be_bytes : (n number : ℕ) → number < 256 ^ n → be (be_bytes n number) ≡ number
be-be_bytes n number h =
    let bytes : List ℕ = be_bytes n number in
    let len : length bytes ≡ n = length-be_bytes n number in
    let whole = ap be (take_all n bytes (omega (arith, len))) in
    sym whole ∙ sym (big_number-be n bytes (omega (arith, len)))
    ∙ ap (big_from 0 n) (be_bytes-is n number ∙ sym (append-nil (bytes_high_first n number)))
    ∙ big_number-reads_back n number [] h

-- the little-endian value of a number's n bytes
pub le-le_bytes : (n number : ℕ) → number < 256 ^ n → le (le_bytes n number) ≡ number
unfolding le_bytes
le-le_bytes n number h = ap be (reverse-reverse (be_bytes n number)) ∙ be-be_bytes n number h
