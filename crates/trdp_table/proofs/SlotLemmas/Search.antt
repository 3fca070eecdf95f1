-- A handle is found among rising ones.
-- For `index_of` of a slot's list, and for `TableLemmas.Found`.
-- By: handles rise, so the index that a binary search ends at has the handle, or none has.
use Rattle.std.proofs.Common.{◌≡◌, ◌≢◌, ℕ, zero, suc, ◌<◌, ◌≤◌, List, [], ◌∷◌, length}
use Rattle.std.proofs.Common.{get_or, Option, Some, None, Result, Ok, Err, IfSome}
use Rattle.std.proofs.Common.{true, false, ◌⊎◌, inl, inr, refl, ◌∙◌, sym, ap, arith}
use Rattle.std.specs.Prelude.{slice_get, ◌==◌}
use Rattle.std.specs.Result.{result_ok}
use Rattle.std.specs.List.Sorted.{IsSearchInRange, IsBinarySearchResult, IsNonDecreasingBy}
use Rattle.std.specs.Ordering.{nat_cmp, ordering_index}
use Rattle.std.proofs.lemmas.Cmp.{ranked}
use Rattle.std.proofs.lemmas.Option.{slice_get_within, get_or_from_slice_get}
use Rattle.std.proofs.lemmas.Bool.{cases_lt}
use Rattle.std.proofs.lemmas.Bool.Decides.{nat_tests}
use Rattle.trdp_table.specs.declared.entry.Entry.{Entry}
use Rattle.trdp_table.specs.Entries.{entry_of, AreAbove, AreRising}
use Rattle.trdp_table.specs.SlotKept.{IsIndexOfHandle}

above_at : (h : ℕ) (xs : List Entry) (i : ℕ) (d : Entry)
    → AreAbove h xs → i < length xs → h < (get_or xs i d).handle
above_at h [] i d above lt = absurd (omega arith)
above_at h (x ∷ xs) zero d above lt = above.0
above_at h (x ∷ xs) (suc i) d above lt = above_at h xs i d above.1 (omega arith)

rises : (xs : List Entry) (i j : ℕ) (d : Entry)
    → AreRising xs → i ≤ j → j < length xs → (get_or xs i d).handle ≤ (get_or xs j d).handle
rises [] i j d rising le lt = absurd (omega arith)
rises (x ∷ xs) zero zero d rising le lt = omega arith
rises (x ∷ xs) zero (suc j) d rising le lt = let above =
    above_at x.handle xs j d rising.0 (omega arith) in omega (arith, above)
rises (x ∷ xs) (suc i) zero d rising le lt = absurd (omega arith)
rises (x ∷ xs) (suc i) (suc j) d rising le lt = rises xs i j d rising.1 (omega arith) (omega arith)

comparisons_rise : (xs : List Entry) (h : ℕ) → AreRising xs
    → IsNonDecreasingBy (λ entry. ordering_index (nat_cmp entry.handle h)) xs
comparisons_rise xs h rising i j d le lt =
    let up : (get_or xs i d).handle ≤ (get_or xs j d).handle = rises xs i j d rising le lt in
    grind (arith, nat_tests)

-- the entry at an index is that of its handle
pub entry_of_at : (xs : List Entry) (h i : ℕ) (d : Entry)
    → AreRising xs → i < length xs → (get_or xs i d).handle ≡ h → slice_get xs i ≡ entry_of h xs
entry_of_at [] h i d rising lt is = absurd (omega arith)
entry_of_at (x ∷ xs) h zero d rising lt is =
    let same : (x.handle == h) ≡ true = grind (arith, nat_tests) in
    rw same refl
entry_of_at (x ∷ xs) h (suc i) d rising lt is =
    let above : x.handle < (get_or xs i d).handle =
    above_at x.handle xs i d rising.0 (omega arith) in
    let other : (x.handle == h) ≡ false = grind (arith, nat_tests) in
    rw other (entry_of_at xs h i d rising.1 (omega arith) is)

entry_of_none : (xs : List Entry) (h : ℕ)
    → ((i : ℕ) (d : Entry) → i < length xs → (get_or xs i d).handle ≢ h) → entry_of h xs ≡ None
entry_of_none [] h none = refl
entry_of_none (x ∷ xs) h none =
    let here : x.handle ≢ h = none 0 x (omega arith) in
    let other : (x.handle == h) ≡ false = grind (arith, nat_tests) in
    rw other (entry_of_none xs h (λ i d lt. none (suc i) d (omega arith)))

pub record Searched (xs : List Entry) (h : ℕ) (r : Option ℕ) : Type 0 where
  pub found : IfSome r (IsIndexOfHandle h xs)
  pub absent : r ≡ None → entry_of h xs ≡ None

-- what a binary search by handle finds
pub searched : (xs : List Entry) (h : ℕ) → AreRising xs
    → (r : Result ℕ ℕ) → IsSearchInRange r (length xs)
    → IsBinarySearchResult (λ entry. nat_cmp entry.handle h) xs r → Searched xs h (result_ok r)
searched [] h rising (Ok i) within equal = absurd (omega (arith, within))
searched (x ∷ xs) h rising (Ok i) within equal = record {
  found = record {
    within = within;
    found = entry_of_at (x ∷ xs) h i x rising within (ranked _ h _ (sym (equal x)));
  };
  absent = λ none. absurd (cc);
}
searched xs h rising (Err i) within parted = record {
  found = tt;
  absent = λ none. entry_of_none xs h (λ j d lt same. either j d lt same (cases_lt j i));
}
  where
    either : (j : ℕ) (d : Entry) → j < length xs
        → (get_or xs j d).handle ≡ h → (j < i) ⊎ (i ≤ j) → ⊥
    either j d lt same (inl below) =
        let less : (get_or xs j d).handle < h = ranked _
        h _ (sym ((parted (comparisons_rise xs h rising)).0 j d (omega arith) below)) in
        omega (arith, less, same)
    either j d lt same (inr above) =
        let more : h < (get_or xs j d).handle =
        ranked _ h _ (sym ((parted (comparisons_rise xs h rising)).1 j d above lt)) in
        omega (arith, more, same)

pub entry_of_get : (xs : List Entry) (i : ℕ) (e : Entry)
    → AreRising xs → slice_get xs i ≡ Some e → entry_of e.handle xs ≡ Some e
entry_of_get xs i e rising at =
    let lt : i < length xs = slice_get_within xs i e at in
    let is : get_or xs i e ≡ e = get_or_from_slice_get xs i e e at in
    sym (entry_of_at xs e.handle i e rising lt (ap (λ (k : Entry). k.handle) is)) ∙ at
