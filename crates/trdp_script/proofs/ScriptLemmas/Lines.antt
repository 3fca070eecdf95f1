-- The lines of an input that comes in pieces.
-- For `ScriptLemmas.Steps` and `OneLine`.
-- By induction on the bytes: those before a newline are the first line, whatever comes later.
use Rattle.std.proofs.Common.{inl, inr, ◌≡◌, ◌+◌, ◌-◌, ◌<◌, ◌≤◌, ℕ, Bool, true, false, List}
use Rattle.std.proofs.Common.{[], ◌∷◌, ◌++◌, length, take, Some, Err, refl, sym, ◌∙◌, ap}
use Rattle.std.proofs.Common.{arith, append_assoc, append-nil, length-append, length-take}
use Rattle.std.specs.Prelude.{◌==◌, nat_lt, if◌then◌else◌, slice_index}
use Rattle.std.specs.List.{slice_split, onto_first}
use Rattle.std.specs.Str.Lines.{lines, lines_of_parts, strip_carriage_return}
use Rattle.std.proofs.lemmas.Bool.Decides.{nat_tests, eqb_tells}
use Rattle.std.proofs.lemmas.List.Elements.{All-push}
use Rattle.std.proofs.lemmas.List.Splits.{slice_split_none, slice_split_at}
use Rattle.std.proofs.lemmas.List.Splits.{slice_split-cons_yes, slice_split-cons_no}
use Rattle.trdp_text.specs.declared.fault.LineFault.TheVariants.{TooLong}
use Rattle.trdp_text.specs.Lines.{line_among, line_of}
use Rattle.trdp_script.specs.Pieces.{IsBare}
use Rattle.trdp_script.specs.ScriptText.{events_of, fault_from}

abbrev is_newline : ℕ → Bool
is_newline byte = byte == 10

-- parts of which there is a first
record HasFirst (parts : List (List ℕ)) : Type 0 where
  first : List ℕ
  rest : List (List ℕ)
  is : parts ≡ first ∷ rest

onto_has_first : (x : ℕ) (parts : List (List ℕ)) → HasFirst (onto_first x parts)
onto_has_first x [] = record { first = x ∷ []; rest = []; is = refl }
onto_has_first x (part ∷ parts) = record { first = x ∷ part; rest = parts; is = refl }

split_has_first : (bytes : List ℕ) → HasFirst (slice_split is_newline bytes)
split_has_first [] = record { first = []; rest = []; is = refl }
split_has_first (x ∷ xs) = elim (eqb_tells x 10) [
  | inl same ↦ record {
    first = [];
    rest = slice_split is_newline xs;
    is = slice_split-cons_yes is_newline x xs same.0;
  }
  | inr other ↦ let more = onto_has_first x (slice_split is_newline xs) in record {
    first =
        more.first;
    rest = more.rest;
    is = slice_split-cons_no is_newline x xs other.0 ∙ more.is;
  }
]

parts_next : (x first : List ℕ) (parts rest : List (List ℕ)) → parts ≡ first ∷ rest
    → lines_of_parts (x ∷ parts) ≡ strip_carriage_return x ∷ lines_of_parts parts
parts_next x first parts rest is = rw is refl

-- bytes before a newline are the first line
pub lines_first : (bare later : List ℕ) → IsBare bare
    → lines (bare ++ 10 ∷ later) ≡ strip_carriage_return bare ∷ lines later
lines_first bare later is_bare =
    let more = split_has_first later in
    ap lines_of_parts (slice_split_at is_newline bare 10 later is_bare refl)
    ∙ parts_next bare more.first (slice_split is_newline later) more.rest more.is

one_part : (bare : List ℕ) → 0 < length bare → lines_of_parts (bare ∷ []) ≡ bare ∷ []
one_part [] some = absurd (omega (arith, some))
one_part (x ∷ xs) some = let filled : (length (x ∷ xs) == 0) ≡ false =
    grind (arith, nat_tests) in rw filled refl

-- bytes without a newline are the one line
pub lines_last : (bare : List ℕ) → IsBare bare → 0 < length bare → lines bare ≡ bare ∷ []
lines_last bare is_bare some =
    ap lines_of_parts (slice_split_none is_newline bare is_bare) ∙ one_part bare some

-- lines of which the first has more than that many bytes
pub record LongFirst (m : ℕ) (all : List (List ℕ)) : Type 0 where
  pub first : List ℕ
  pub rest : List (List ℕ)
  pub is : all ≡ first ∷ rest
  pub long : m < length first

strip_length : (xs : List ℕ) (b : Bool)
    → length xs ≤ length (if b then take (length xs - 1) xs else xs) + 1
strip_length xs true = omega (arith, length-take (length xs - 1) xs)
strip_length xs false = omega arith

-- however a long line goes on, it is long
pub long_line : (m : ℕ) (later bare : List ℕ)
    → IsBare bare → m + 1 < length bare → LongFirst m (lines (bare ++ later))
long_line m [] bare is_bare long =
    let some : 0 < length bare = omega (arith, long) in
    record {
      first = bare;
      rest = [];
      is = ap lines (append-nil bare)
          ∙ lines_last bare is_bare some;
      long = omega (arith, long);
    }
long_line m (x ∷ later) bare is_bare long = elim (eqb_tells x 10) [
  | inl same ↦ record {
    first = strip_carriage_return bare;
    rest = lines later;
    is = ap (λ b. lines (bare ++ b ∷ later)) same.1 ∙ lines_first bare later is_bare;
    long = omega (arith, long, strip_length bare (slice_index bare (length bare - 1) == 13));
  }
  | inr other ↦
      let longer : m + 1 < length (bare ++ x ∷ []) =
      omega (arith, long, length-append bare (x ∷ [])) in
      let more = long_line m later
      (bare ++ x ∷ []) (All-push (λ b. (b == 10) ≡ false) bare x is_bare other.0) longer in
      record {
        first = more.first;
        rest = more.rest;
        is = ap lines (sym (append_assoc bare (x ∷ []) later)) ∙ more.is;
        long = more.long;
      }
]

line_too_long : (text : List ℕ) → 140000 < length text → line_of text ≡ Err TooLong
unfolding line_among
line_too_long text long = let is : nat_lt 140000 (length text) ≡ true =
    grind (arith, nat_tests) in rw is refl

-- a line that is too long is the first with a fault
pub too_long_fault : (n : ℕ) (all : List (List ℕ))
    → LongFirst 140000 all → fault_from n all ≡ Some (n, TooLong)
too_long_fault n all long = rw (long.is, line_too_long long.first long.long) refl

-- and it has no event
pub too_long_events : (all : List (List ℕ)) → LongFirst 140000 all → events_of all ≡ []
too_long_events all long = rw (long.is, line_too_long long.first long.long) refl
