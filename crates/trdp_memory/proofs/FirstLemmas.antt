-- The first element of a list that passes a test.
-- For `take_arrival`, `accepted_at`, `went_at`, `file_fault`, `is_end_at` and `bring`.
-- By cases: the index at which the search ends is within the list, or past its end.
use Rattle.std.proofs.Common.{◌≡◌, ◌<◌, ◌≤◌, ◌+◌, zero, suc, ℕ, Bool, true, false, cond, nat_lt, List}
use Rattle.std.proofs.Common.{[], ◌∷◌, Some, None, refl, sym, ◌∙◌, ap, arith, length, get_or}
use Rattle.std.specs.Prelude.{not, slice_get}
use Rattle.std.specs.List.{position, position_or_len, find}
use Rattle.std.proofs.lemmas.Bool.{ltb-false, ltb-true}
use Rattle.std.proofs.lemmas.List.Folds.{find_at}
use Rattle.std.proofs.lemmas.Option.{slice_get_past, slice_get-get_or}

-- the first element that passes is at the first index at which one does
pub found_none : {X : Type 0} (p : X → Bool) (xs : List X) → position p xs ≡ None → find p xs ≡ None
found_none p xs none = by_test (nat_lt (position_or_len p xs) (length xs)) refl none
  where
    by_test : (b : Bool) → nat_lt (position_or_len p xs) (length xs) ≡ b
        → cond b (Some (position_or_len p xs)) None ≡ None → find p xs ≡ None
    by_test true is none = absurd (cc)
    by_test false is none = find_at p xs
        ∙ slice_get_past xs (position_or_len p xs) (ltb-false (position_or_len p xs) (length xs) is)

pub found_some : {X : Type 0} (p : X → Bool) (xs : List X) (i : ℕ)
    → position p xs ≡ Some i → find p xs ≡ slice_get xs i
found_some p xs i some = by_test (nat_lt (position_or_len p xs) (length xs)) refl some
  where
    by_test : (b : Bool) → nat_lt (position_or_len p xs) (length xs) ≡ b
        → cond b (Some (position_or_len p xs)) None ≡ Some i → find p xs ≡ slice_get xs i
    by_test true is some = let at : position_or_len p xs ≡ i = cc in
        find_at p xs ∙ ap (slice_get xs) at
    by_test false is some = absurd (cc)

pub found_below : {X : Type 0} (p : X → Bool) (xs : List X) (i : ℕ)
    → position p xs ≡ Some i → i < length xs
found_below p xs i some = by_test (nat_lt (position_or_len p xs) (length xs)) refl some
  where
    by_test : (b : Bool) → nat_lt (position_or_len p xs) (length xs) ≡ b
        → cond b (Some (position_or_len p xs)) None ≡ Some i → i < length xs
    by_test true is some = let at : position_or_len p xs ≡ i = cc in
        let below = ltb-true (position_or_len p xs) (length xs) is in omega (arith, at, below)
    by_test false is some = absurd (cc)

-- what is at that index
pub element_found : {X : Type 0} (p : X → Bool) (xs : List X) (i : ℕ) (x : X)
    → position p xs ≡ Some i → x ≡ get_or xs i x → slice_get xs i ≡ Some x
element_found {X} p xs i x some is = slice_get-get_or xs i x (found_below p xs i some)
    ∙ ap (λ (y : X). Some y) (sym is)

pub find_element : {X : Type 0} (p : X → Bool) (xs : List X) (i : ℕ) (d : X)
    → position p xs ≡ Some i → find p xs ≡ Some (get_or xs i d)
find_element p xs i d some =
    found_some p xs i some ∙ slice_get-get_or xs i d (found_below p xs i some)

-- where that index is, and that none is found
pub first_at : {X : Type 0} (p : X → Bool) (xs : List X) (i : ℕ)
    → position p xs ≡ Some i → position_or_len p xs ≡ i
first_at p xs i some = by_test (nat_lt (position_or_len p xs) (length xs)) some
  where
    by_test : (b : Bool) → cond b (Some (position_or_len p xs)) None ≡ Some i
        → position_or_len p xs ≡ i
    by_test true some = cc
    by_test false some = absurd (cc)

pub first_past : {X : Type 0} (p : X → Bool) (xs : List X)
    → position p xs ≡ None → length xs ≤ position_or_len p xs
first_past p xs none = by_test (nat_lt (position_or_len p xs) (length xs)) refl none
  where
    by_test : (b : Bool) → nat_lt (position_or_len p xs) (length xs) ≡ b
        → cond b (Some (position_or_len p xs)) None ≡ None → length xs ≤ position_or_len p xs
    by_test true is none = absurd (cc)
    by_test false is none = ltb-false (position_or_len p xs) (length xs) is

-- what is at that index passes
pub passes_first : {X : Type 0} (p : X → Bool) (xs : List X) (i : ℕ) (d : X)
    → position_or_len p xs ≡ i → i < length xs → p (get_or xs i d) ≡ true
passes_first p [] i d at below = absurd (omega (arith, below))
passes_first p (x ∷ xs) i d at below =
    by_test (p x) refl i at below (λ j at below. passes_first p xs j d at below)
  where
    by_test : (b : Bool) → p x ≡ b → (i : ℕ)
        → cond (not b) (1 + position_or_len p xs) 0 ≡ i → i < suc (length xs)
        → ((j : ℕ) → position_or_len p xs ≡ j → j < length xs → p (get_or xs j d) ≡ true)
        → p (get_or (x ∷ xs) i d) ≡ true
    by_test true is zero at below rest = is
    by_test true is (suc i) at below rest = absurd (omega (arith, at))
    by_test false is zero at below rest = absurd (omega (arith, at))
    by_test false is (suc i) at below rest = rest i (omega (arith, at)) (omega (arith, below))
