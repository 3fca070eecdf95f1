-- Written addresses and places are read as what they were written from.
-- For `read_ip`, `read_place` and `read_negative`.
-- By: std reads an address of its written form alone, and no digit or dot of it is a colon.
use Rattle.std.proofs.Common.{◌≡◌, ◌≢◌, ℕ, ◌+◌, ◌*◌, ◌/◌, ◌%◌, ◌^◌, ◌<◌}
use Rattle.std.proofs.Common.{List, [], ◌∷◌, ◌++◌, get_or, drop, Result, Ok}
use Rattle.std.proofs.Common.{Err, refl, sym, ap, ◌∙◌, arith, append_assoc}
use Rattle.std.specs.Prelude.{All}
use Rattle.std.specs.Int.{w32, to_be_bytes, from_be_bytes}
use Rattle.std.specs.Net.Addr.{ipv4_octets, ipv4_bits}
use Rattle.std.specs.Net.Grammar.{IsIpv4Text}
use Rattle.std.specs.declared.net.ipv4_addr.Ipv4Addr.{Ipv4Addr}
use Rattle.std.proofs.NetLemmas.Theorems.{IsIpv4Text_unique}
use Rattle.std.proofs.lemmas.Fmt.{decimal_is_IsNumeral}
use Rattle.std.proofs.lemmas.Nat.{from_be_bytes-to_be_bytes_4}
use Rattle.std.proofs.lemmas.List.Elements.{All-nil, All-cons, All-head, All-tail}
use Rattle.std.proofs.lemmas.List.Elements.{All-append, All-from_get_or}
use Rattle.std.proofs.lemmas.Result.{MatchResult-at_ok}
use Rattle.std.proofs.lemmas.Str.Parse.{digit_at}
use Rattle.trdp_base.specs.AddressText.{text_of_ip, text_of_place}
use Rattle.trdp_base.specs.NumberText.{text_of_number}
use Rattle.trdp_base.specs.declared.place.Ip.{Ip}
use Rattle.trdp_base.specs.declared.place.Place.{Place}

-- the address as std has it
pub address_of : Ip → Ipv4Addr
address_of ip = record { octets = to_be_bytes w32 ip.0 }

-- the written form is one that std reads as the address
pub text_is_read : (text : List ℕ) (ip : Ip) → text ≡ text_of_ip ip
    → IsIpv4Text text (address_of ip)
unfolding address_of
text_is_read text ip e = record {
  a = ip.0 / 2 ^ 24 % 256;
  b = ip.0 / 2 ^ 16 % 256;
  c = ip.0 / 2 ^ 8 % 256;
  d = ip.0 % 256;
  fit = (omega arith, omega arith, omega arith, omega arith);
  value = refl;
  spelled = e;
}

-- an address that std reads with this written form is that address
pub bits_of_text : (text : List ℕ) (ip : Ip) (address : Ipv4Addr)
    → ip.0 < 2 ^ 32 → text ≡ text_of_ip ip → IsIpv4Text text address → ipv4_bits address ≡ ip.0
unfolding address_of ipv4_bits
bits_of_text text ip address small e read =
    ap ipv4_bits (IsIpv4Text_unique text address (address_of ip) read (text_is_read text ip e))
    ∙ from_be_bytes-to_be_bytes_4 ip.0 small

bits_of_octets : (address : Ipv4Addr) (a b c d : ℕ) → ipv4_octets address ≡ a ∷ b ∷ c ∷ d ∷ []
    → ipv4_bits address ≡ a * 2 ^ 24 + b * 2 ^ 16 + c * 2 ^ 8 + d
unfolding ipv4_bits
bits_of_octets address a b c d e = ap (from_be_bytes w32) e

-- what std reads is the written form of the address's bits
pub text_of_read : (text : List ℕ) (address : Ipv4Addr)
    → IsIpv4Text text address → text ≡ text_of_ip (record { 0 = ipv4_bits address })
text_of_read text address read =
    let bits = bits_of_octets address read.a read.b read.c read.d read.value in
    let a : read.a ≡ ipv4_bits address / 2 ^ 24 % 256 =
    omega (arith, bits, read.fit.0, read.fit.1, read.fit.2, read.fit.3) in
    let b : read.b ≡ ipv4_bits address / 2 ^ 16 % 256 =
    omega (arith, bits, read.fit.0, read.fit.1, read.fit.2, read.fit.3) in
    let c : read.c ≡ ipv4_bits address / 2 ^ 8 % 256 =
    omega (arith, bits, read.fit.0, read.fit.1, read.fit.2, read.fit.3) in
    let d : read.d ≡ ipv4_bits address % 256 =
    omega (arith, bits, read.fit.0, read.fit.1, read.fit.2, read.fit.3) in
    read.spelled ∙ λ i. text_of_number (a i) ++ 46 ∷ [] ++ text_of_number (b i)
    ++ 46 ∷ [] ++ text_of_number (c i) ++ 46 ∷ [] ++ text_of_number (d i)

-- the byte is no colon
abbrev pub NoColon : ℕ → Type 0
NoColon byte = byte ≢ 58

-- no digit is a colon
number_no_colon : (number : ℕ) → number < 2 ^ 64 → All NoColon (text_of_number number)
number_no_colon number small =
    All-from_get_or NoColon (text_of_number number) 0 (λ i inside.
    let digit = digit_at (text_of_number number) i (decimal_is_IsNumeral number small).0.1 inside in
    λ colon. omega (arith, digit.0, digit.1, colon))

dot_no_colon : All NoColon (46 ∷ [])
dot_no_colon = All-cons NoColon 46 [] (λ e. omega (arith, e)) (All-nil NoColon)

-- an address has no colon
pub ip_no_colon : (ip : Ip) → All NoColon (text_of_ip ip)
ip_no_colon ip =
    let number = λ (n : ℕ) (small : n < 256). number_no_colon n (omega arith) in
    let join = λ (xs ys : List ℕ). All-append NoColon xs ys in
    join _ _ (join _ _ (join _ _ (join _ _ (join _ _ (join _ _ (number (ip.0 / 2 ^ 24 % 256)
    (omega arith)) dot_no_colon) (number (ip.0 / 2 ^ 16 % 256) (omega arith))) dot_no_colon)
    (number (ip.0 / 2 ^ 8 % 256) (omega arith))) dot_no_colon)
    (number (ip.0 % 256) (omega arith))

-- a text has one part before its first colon, and one after it
pub parts_alone : (front back head tail : List ℕ) → All NoColon front
    → All NoColon head → front ++ 58 ∷ back ≡ head ++ 58 ∷ tail → (front ≡ head) × (back ≡ tail)
parts_alone [] back [] tail p q e = (refl, ap (drop 1) e)
parts_alone [] back (y ∷ head) tail p q e =
    absurd (All-head NoColon y head q (sym (ap (λ l. get_or l 0 0) e)))
parts_alone (x ∷ front) back [] tail p q e =
    absurd (All-head NoColon x front p (ap (λ l. get_or l 0 0) e))
parts_alone (x ∷ front) back (y ∷ head) tail p q e =
    let same = parts_alone front back head tail
    (All-tail NoColon x front p) (All-tail NoColon y head q) (ap (drop 1) e) in
    let first = ap (λ l. get_or l 0 0) e in
    ((λ i. first i ∷ same.0 i), same.1)

-- equal results have equal values
pub ok_same : {A E : Type 0} (x y : A) → Path (Result A E) (Ok x) (Ok y) → x ≡ y
ok_same {A} {E} x y e =
    MatchResult-at_ok {T = A} {E = E} {r = Ok x} (λ z. x ≡ z) (λ _. Unit {0}) y e refl

-- a value is no fault
pub err_not_ok : {A E : Type 0} (y : A) (fault : E) → Path (Result A E) (Err fault) (Ok y) → ⊥
err_not_ok {A} {E} y fault e =
    MatchResult-at_ok {T = A} {E = E} {r = Err fault} (λ _. ⊥) (λ _. Unit {0}) y e tt

-- the parts of a written place
pub parts_of_place : (text front back : List ℕ) (place : Place)
    → text ≡ front ++ 58 ∷ back → All NoColon front → text ≡ text_of_place place
    → (front ≡ text_of_ip place.ip) × (back ≡ text_of_number place.port)
parts_of_place text front back place parts alone e =
    parts_alone front back _ _ alone (ip_no_colon place.ip)
    (sym parts ∙ e ∙ append_assoc (text_of_ip place.ip) (58 ∷ []) (text_of_number place.port))
