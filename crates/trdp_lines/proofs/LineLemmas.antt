-- Lines in bytes that come piece by piece.
-- For the laws and `first_line_of`.
-- By: induction on the bytes, and whether the first of them ends a line.
use Rattle.std.proofs.Common.{◌≡◌, ℕ, zero, suc, ◌==◌, ◌||◌, ◌+◌, ◌<◌, List, [], ◌∷◌, ◌++◌, length}
use Rattle.std.proofs.Common.{take, drop, Bool, true, false, if◌then◌else◌}
use Rattle.std.proofs.Common.{refl, ap, sym, subst, ◌∙◌, arith}
use Rattle.std.proofs.Common.{Some, None, ◌≤◌}
use Rattle.std.proofs.lemmas.Bool.{eqb-true, false≢true, false_from_ne_true, or_parts}
use Rattle.std.specs.Prelude.{All}
use Rattle.std.proofs.lemmas.List.Elements.{All-nil, All-cons, All-head, All-tail}
use Rattle.memchr.specs.Find.{Nowhere, Passes, IsFirstByte, is_byte}
use Rattle.trdp_lines.specs.Lines.{line_end, has_line, first_line, behind_line, rest_of}
use Rattle.trdp_lines.specs.Lines.{longer_first, lines_in, with_ends, IsUnended}
use Rattle.trdp_lines.specs.Intakes.{IsFirstLine}

first_step : (ends : Bool) (byte : ℕ) (bytes : List ℕ)
    → (has_line bytes ≡ true → lines_in bytes ≡ first_line bytes ∷ lines_in (behind_line bytes))
    → (ends || has_line bytes) ≡ true
    → (if ends then [] ∷ lines_in bytes else longer_first byte (lines_in bytes))
    ≡ (if ends then [] else byte ∷ first_line bytes)
    ∷ lines_in (if ends then bytes else behind_line bytes)
first_step true byte bytes later has = refl
first_step false byte bytes later has = ap (longer_first byte) (later has)

pub first_comes : (bytes : List ℕ) → has_line bytes ≡ true
    → lines_in bytes ≡ first_line bytes ∷ lines_in (behind_line bytes)
first_comes [] has = absurd (false≢true has)
first_comes (byte ∷ bytes) has =
    first_step (byte == line_end) byte bytes (first_comes bytes) has

none_step : (ends : Bool) (byte : ℕ) (bytes : List ℕ)
    → (has_line bytes ≡ false → lines_in bytes ≡ [])
    → (ends || has_line bytes) ≡ false
    → (if ends then [] ∷ lines_in bytes else longer_first byte (lines_in bytes)) ≡ []
none_step true byte bytes later none = absurd (false≢true (sym none))
none_step false byte bytes later none = ap (longer_first byte) (later none)

pub none_comes : (bytes : List ℕ) → has_line bytes ≡ false → lines_in bytes ≡ []
none_comes [] none = refl
none_comes (byte ∷ bytes) none =
    none_step (byte == line_end) byte bytes (none_comes bytes) none

-- the rest of bytes without the end of a line is all of them
pub rest_unended : (bytes : List ℕ) → has_line bytes ≡ false → rest_of bytes ≡ bytes
rest_unended [] none = refl
rest_unended (byte ∷ bytes) none = rw none refl

-- the first of these lines is not the first of all
longer_some : (byte : ℕ) (lines more : List (List ℕ)) (first : List ℕ) (later : List (List ℕ))
    → lines ≡ first ∷ later
    → longer_first byte (lines ++ more) ≡ longer_first byte lines ++ more
longer_some byte lines more first later some = rw some refl

stay_step : (ends has : Bool) (byte : ℕ) (bytes more : List ℕ)
    → byte == line_end ≡ ends → has_line bytes ≡ has
    → lines_in (bytes ++ more) ≡ lines_in bytes ++ lines_in (rest_of bytes ++ more)
    → lines_in (byte ∷ (bytes ++ more))
    ≡ lines_in (byte ∷ bytes) ++ lines_in (rest_of (byte ∷ bytes) ++ more)
stay_step true has byte bytes more here later stay =
    rw here (ap (λ (lines : List (List ℕ)). [] ∷ lines) stay)
stay_step false true byte bytes more here later stay =
    let others = lines_in (rest_of bytes ++ more) in
    let first = first_comes bytes later in
    rw (here, later) (ap (longer_first byte) stay ∙ longer_some byte (lines_in bytes) others
    (first_line bytes) (lines_in (behind_line bytes)) first)
stay_step false false byte bytes more here later stay = rw (here, later, none_comes bytes later)
    (rw here refl)

pub lines_stay : (bytes more : List ℕ)
    → lines_in (bytes ++ more) ≡ lines_in bytes ++ lines_in (rest_of bytes ++ more)
lines_stay [] more = refl
lines_stay (byte ∷ bytes) more = stay_step (byte == line_end)
    (has_line bytes) byte bytes more refl refl (lines_stay bytes more)

rest_step : (has : Bool) (byte : ℕ) (bytes : List ℕ) → has_line (byte ∷ bytes) ≡ has
    → has_line (rest_of bytes) ≡ false
    → has_line (rest_of (byte ∷ bytes)) ≡ false
rest_step true byte bytes here later = rw here later
rest_step false byte bytes here later = rw here here

pub rest_ends : (bytes : List ℕ) → has_line (rest_of bytes) ≡ false
rest_ends [] = refl
rest_ends (byte ∷ bytes) =
    rest_step (has_line (byte ∷ bytes)) byte bytes refl (rest_ends bytes)

-- the first line is longer by a byte that ends none
longer_line : (byte : ℕ) (bytes : List ℕ) (n : ℕ) → byte == line_end ≡ false
    → IsFirstLine bytes n → IsFirstLine (byte ∷ bytes) (suc n)
longer_line byte bytes n other first =
    let next : suc n + 1 ≡ suc (n + 1) = omega arith in
    let rest = subst (λ (m : ℕ).
    drop m (byte ∷ bytes) ≡ behind_line bytes) (sym next) first.rest in
    record {
      within = omega (arith, first.within);
      some = rw other first.some;
      line = rw other (ap (λ (line : List ℕ). byte ∷ line) first.line);
      rest = rw other rest;
    }

-- no byte of a list that ends a line, by their places
none_anywhere : (bytes : List ℕ) → Nowhere (Passes (is_byte line_end) bytes) 0 (length bytes)
    → has_line bytes ≡ false
none_anywhere [] none = refl
none_anywhere (byte ∷ bytes) none =
    let other : byte == line_end ≡ false =
    false_from_ne_true (byte == line_end) (none 0 (omega arith) (omega arith)) in
    rw other (none_anywhere bytes (λ k low high. none (suc k) (omega arith) (omega arith)))

-- the first byte of a list that ends a line, by its place
first_there : (bytes : List ℕ) (n : ℕ) → n < length bytes
    → Nowhere (Passes (is_byte line_end) bytes) 0 n → Passes (is_byte line_end) bytes n
    → IsFirstLine bytes n
first_there [] n within before here = absurd (omega (arith, within))
first_there (byte ∷ bytes) zero within before here = record {
  within = within;
  some = rw here refl;
  line = rw here refl;
  rest = rw here refl;
}
first_there (byte ∷ bytes) (suc n) within before here =
    let other : byte == line_end ≡ false =
    false_from_ne_true (byte == line_end) (before 0 (omega arith) (omega arith)) in
    longer_line byte bytes n other (first_there bytes n (omega (arith, within))
    (λ k low high. before (suc k) (omega arith) (omega (arith, high))) here)

-- two parts of bytes without the end of a line
parts_unended : (seen : ℕ) (bytes : List ℕ) → has_line (take seen bytes) ≡ false
    → has_line (drop seen bytes) ≡ false → has_line bytes ≡ false
parts_unended zero bytes front back = back
parts_unended (suc seen) [] front back = refl
parts_unended (suc seen) (byte ∷ bytes) front back =
    let both = or_parts (byte == line_end) (has_line (take seen bytes)) front in
    rw both.0 (parts_unended seen bytes both.1 back)

-- a first line after bytes without the end of a line
line_behind : (seen : ℕ) (bytes : List ℕ) (n : ℕ) → seen ≤ length bytes
    → has_line (take seen bytes) ≡ false → IsFirstLine (drop seen bytes) n
    → IsFirstLine bytes (seen + n)
line_behind zero bytes n within front first =
    let none : 0 + n ≡ n = omega arith in
    subst (IsFirstLine bytes) (sym none) first
line_behind (suc seen) [] n within front first = absurd (omega (arith, within))
line_behind (suc seen) (byte ∷ bytes) n within front first =
    let both = or_parts (byte == line_end) (has_line (take seen bytes)) front in
    let more : suc seen + n ≡ suc (seen + n) = omega arith in
    subst (IsFirstLine (byte ∷ bytes)) (sym more) (longer_line byte bytes (seen + n) both.0
    (line_behind seen bytes n (omega (arith, within)) both.1 first))

pub none_found : (seen : ℕ) (bytes : List ℕ) → has_line (take seen bytes) ≡ false
    → IsFirstByte (is_byte line_end) (drop seen bytes) None → has_line bytes ≡ false
none_found seen bytes front none =
    parts_unended seen bytes front (none_anywhere (drop seen bytes) none)

pub line_found : (seen : ℕ) (bytes : List ℕ) (n : ℕ) → seen ≤ length bytes
    → has_line (take seen bytes) ≡ false
    → IsFirstByte (is_byte line_end) (drop seen bytes) (Some n) → IsFirstLine bytes (seen + n)
line_found seen bytes n within front found = line_behind seen bytes n within front
    (first_there (drop seen bytes) n found.0.high found.0.before found.1)

unended_step : (ends : Bool) (byte : ℕ) (bytes : List ℕ) → byte == line_end ≡ ends
    → IsUnended (first_line bytes) → IsUnended (first_line (byte ∷ bytes))
unended_step true byte bytes here later = rw here refl
unended_step false byte bytes here later = rw here (rw here later)

-- what comes before the first end of a line has none
pub first_unended : (bytes : List ℕ) → IsUnended (first_line bytes)
first_unended [] = refl
first_unended (byte ∷ bytes) =
    unended_step (byte == line_end) byte bytes refl (first_unended bytes)

split_step : (ends : Bool) (byte : ℕ) (bytes : List ℕ) → byte == line_end ≡ ends
    → (has_line bytes ≡ true → bytes ≡ first_line bytes ++ line_end ∷ behind_line bytes)
    → (ends || has_line bytes) ≡ true
    → byte ∷ bytes ≡ first_line (byte ∷ bytes) ++ line_end ∷ behind_line (byte ∷ bytes)
split_step true byte bytes here later has =
    rw here (ap (λ (b : ℕ). b ∷ bytes) (eqb-true byte line_end here))
split_step false byte bytes here later has =
    rw here (ap (λ (l : List ℕ). byte ∷ l) (later has))

-- the first line, its end, and what follows it
pub first_split : (bytes : List ℕ) → has_line bytes ≡ true
    → bytes ≡ first_line bytes ++ line_end ∷ behind_line bytes
first_split [] has = absurd (false≢true has)
first_split (byte ∷ bytes) has =
    split_step (byte == line_end) byte bytes refl (first_split bytes) has

whole_step : (ends has : Bool) (byte : ℕ) (bytes : List ℕ)
    → byte == line_end ≡ ends → has_line bytes ≡ has
    → bytes ≡ with_ends (lines_in bytes) ++ rest_of bytes
    → byte ∷ bytes ≡ with_ends (lines_in (byte ∷ bytes)) ++ rest_of (byte ∷ bytes)
whole_step true has byte bytes here later whole = rw here
    (ap (λ (b : ℕ). b ∷ bytes) (eqb-true byte line_end here)
    ∙ ap (λ (l : List ℕ). line_end ∷ l) whole)
whole_step false true byte bytes here later whole =
    let same = rw (first_comes bytes later) at whole in
    rw (here, later, first_comes bytes later) (ap (λ (l : List ℕ). byte ∷ l) same)
whole_step false false byte bytes here later whole =
    rw (here, later, none_comes bytes later) refl

pub whole_again : (bytes : List ℕ) → bytes ≡ with_ends (lines_in bytes) ++ rest_of bytes
whole_again [] = refl
whole_again (byte ∷ bytes) = whole_step (byte == line_end)
    (has_line bytes) byte bytes refl refl (whole_again bytes)

longer_unended : (byte : ℕ) (lines : List (List ℕ)) → byte == line_end ≡ false
    → All IsUnended lines → All IsUnended (longer_first byte lines)
longer_unended byte [] here all = all
longer_unended byte (line ∷ lines) here all =
    All-cons IsUnended (byte ∷ line) lines (rw here (All-head IsUnended line lines all))
    (All-tail IsUnended line lines all)

lines_step : (ends : Bool) (byte : ℕ) (bytes : List ℕ) → byte == line_end ≡ ends
    → All IsUnended (lines_in bytes) → All IsUnended (lines_in (byte ∷ bytes))
lines_step true byte bytes here all = rw here (All-cons IsUnended [] (lines_in bytes) refl all)
lines_step false byte bytes here all = rw here (longer_unended byte (lines_in bytes) here all)

pub all_unended : (bytes : List ℕ) → All IsUnended (lines_in bytes)
all_unended [] = All-nil IsUnended
all_unended (byte ∷ bytes) =
    lines_step (byte == line_end) byte bytes refl (all_unended bytes)
