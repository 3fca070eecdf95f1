-- A URI is what comes before the first zero byte of its field.
-- For `Uri::new`, `from_field`, `bytes` and `front`, and for `read_uri`.
-- By induction on the bytes: none of a URI's is zero, and only zeros fill up its field.
use Rattle.std.proofs.Common.{◌≡◌, ◌≢◌, ℕ, zero, suc, ◌-◌, ◌<◌, ◌≤◌, List, []}
use Rattle.std.proofs.Common.{◌∷◌, ◌++◌, length, get_or, take, drop, refl, sym}
use Rattle.std.proofs.Common.{ap, ◌∙◌, subst, Option, Some, None, inl, inr, arith}
use Rattle.std.specs.Prelude.{All, IsSome, IfSome, IfNone, replicate}
use Rattle.std.proofs.lemmas.Bool.{cases_lt, false≢true}
use Rattle.std.proofs.lemmas.Bool.Decides.{nat_tests}
use Rattle.std.proofs.lemmas.List.{drop-replicate}
use Rattle.std.proofs.lemmas.List.Elements.{All-nil, All-cons, All-head, All-tail}
use Rattle.trdp_base.specs.HexText.{hex_pairs, text_of_hex, IsInPairs}
use Rattle.trdp_base.specs.Uris.{IsUri, before_zero, uri_field}
use Rattle.trdp_base.proofs.HexLemmas.{IsByte, length-hex_pairs, read_alone}

-- the byte is not zero
abbrev pub NoZero : ℕ → Type 0
NoZero byte = byte ≢ 0

-- where the first byte is zero nothing comes before it; another first byte does
begins_zero : (byte : ℕ) (bytes : List ℕ) → byte ≡ 0 → before_zero (byte ∷ bytes) ≡ []
begins_zero byte bytes none = rw none refl

pub goes_on : (byte : ℕ) (bytes : List ℕ) → 0 < byte
    → before_zero (byte ∷ bytes) ≡ byte ∷ before_zero bytes
goes_on byte bytes above = grind (arith, nat_tests)

-- no more bytes come before the first zero byte than there are
pub length-before_zero : (bytes : List ℕ) → length (before_zero bytes) ≤ length bytes
length-before_zero [] = omega arith
length-before_zero (byte ∷ bytes) =
    elim (cases_lt 0 byte) [
      | inl above ↦ omega (arith, ap length (goes_on byte bytes above), length-before_zero bytes)
      | inr below ↦ omega (arith, ap length (begins_zero byte bytes (omega (arith, below))))
    ]

-- none of them is zero
pub no_zero_before : (bytes : List ℕ) → All NoZero (before_zero bytes)
no_zero_before [] = All-nil NoZero
no_zero_before (byte ∷ bytes) =
    elim (cases_lt 0 byte) [
      | inl above ↦ subst (All NoZero) (sym (goes_on byte bytes above)) (All-cons NoZero
          byte (before_zero bytes) (λ e. omega (arith, e, above)) (no_zero_before bytes))
      | inr below ↦
          subst (All NoZero) (sym (begins_zero byte bytes (omega (arith, below)))) (All-nil NoZero)
    ]

above_zero : (byte : ℕ) → byte ≢ 0 → 0 < byte
above_zero byte other =
    elim (cases_lt 0 byte) [ inl above ↦ above | inr below ↦ absurd (other (omega (arith, below))) ]

-- bytes come before the zeros that follow them
pub before_zeros : (bytes : List ℕ) (count : ℕ)
    → All NoZero bytes → before_zero (bytes ++ replicate count 0) ≡ bytes
before_zeros [] zero sound = refl
before_zeros [] (suc count) sound = refl
before_zeros (byte ∷ bytes) count sound =
    goes_on byte (bytes ++ replicate count 0) (above_zero byte (All-head NoZero byte bytes sound))
    ∙ ap (λ l. byte ∷ l) (before_zeros bytes count (All-tail NoZero byte bytes sound))

-- where none is zero, all come before the first
pub before_none : (bytes : List ℕ) → All NoZero bytes → before_zero bytes ≡ bytes
before_none [] sound = refl
before_none (byte ∷ bytes) sound =
    goes_on byte bytes (above_zero byte (All-head NoZero byte bytes sound))
    ∙ ap (λ l. byte ∷ l) (before_none bytes (All-tail NoZero byte bytes sound))

-- what is written as a field is read back
pub field_back : (uri : List ℕ) → All NoZero uri → before_zero (uri_field uri) ≡ uri
unfolding uri_field
field_back uri sound = before_zeros uri (32 - length uri) sound

-- bytes at the front of 32 zeros are their field
pub field_of_front : (uri : List ℕ) → length uri ≤ 32
    → uri ++ drop (length uri) (replicate 32 0) ≡ uri_field uri
unfolding uri_field
field_of_front uri within = ap (λ l. uri ++ l) (drop-replicate (length uri) 32 0)

-- the bytes up to the first zero byte come before it
pub up_to_zero : (bytes : List ℕ) (end : ℕ) → ((k : ℕ) → k < end → get_or bytes k 0 ≢ 0)
    → get_or bytes end 0 ≡ 0 → take end bytes ≡ before_zero bytes
up_to_zero [] zero sound last = refl
up_to_zero [] (suc end) sound last = refl
up_to_zero (byte ∷ bytes) zero sound last = sym (begins_zero byte bytes last)
up_to_zero (byte ∷ bytes) (suc end) sound last =
    ap (λ l. byte ∷ l) (up_to_zero bytes end (λ k below. sound (suc k) (omega (arith, below))) last)
    ∙ sym (goes_on byte bytes (above_zero byte (sound 0 (omega arith))))

-- where an optional value is not there, what follows from that is so
pub if_none : {X : Type 0} {P : Type 0} → (found : Option X)
    → ((IsSome found → ⊥) → P) → IfNone found P
if_none None none = none (λ some. false≢true some)
if_none (Some x) none = tt

-- the digits of a URI are 64 at most
pub too_long : (text uri : List ℕ) → 64 < length text → IsUri uri → text ≡ text_of_hex uri → ⊥
too_long text [] long good e = omega (arith, long, ap length e)
too_long text (byte ∷ bytes) long good e =
    omega (arith, long, ap length e, length-hex_pairs (byte ∷ bytes), good.within)

-- of a text in pairs, the bytes that it is the written form of have these pairs
pub pairs_of : (text uri : List ℕ) → IsInPairs text → text ≡ text_of_hex uri → hex_pairs uri ≡ text
pairs_of text [] pairs e = absurd (omega (arith, pairs.even, ap length e))
pairs_of text (byte ∷ bytes) pairs e = sym e

-- what was read of a text in pairs is the URI that it is the written form of
pub uri_alone : (text uri : List ℕ) (found : Option (List ℕ))
    → IsInPairs text → IfSome found (λ read. hex_pairs read ≡ text)
    → IfSome found (All IsByte)
    → IfNone found ((good : List ℕ) → IsUri good → All IsByte good → hex_pairs good ≢ text)
    → IsUri uri → All IsByte uri → text ≡ text_of_hex uri → found ≡ Some uri
uri_alone text uri None pairs same bytes none good fits e =
    absurd (none uri good fits (pairs_of text uri pairs e))
uri_alone text uri (Some read) pairs same bytes none good fits e =
    ap Some (read_alone text read uri pairs same bytes fits e)
