-- The key of a handle, as entries come and go.
-- For `TableLemmas`, which know a handle's key while other entries change.
-- By induction on the entries, whose handles rise.
use Rattle.std.proofs.Common.{◌≡◌, ◌≢◌, ◌⊎◌, inl, inr, ℕ, ◌+◌, ◌<◌, List, [], ◌∷◌, ◌++◌, length}
use Rattle.std.proofs.Common.{Option, Some, None, Bool, true, false, not, refl, ◌∙◌, sym, arith}
use Rattle.std.specs.Prelude.{option_map, filter, ◌==◌}
use Rattle.std.proofs.lemmas.Option.{same_Some, none-some}
use Rattle.std.proofs.lemmas.Bool.Decides.{nat_tests}
use Rattle.trdp_table.specs.declared.entry.Entry.{Entry}
use Rattle.trdp_table.specs.Entries.{entry_of, key_of, AreAbove, AreBelow, AreRising}
use Rattle.trdp_table.proofs.SlotLemmas.Kept.{filter_above, handle_found}

-- One more entry.

pub key_of-more : (h k : ℕ) (es : List Entry) (e : Entry)
    → key_of h es ≡ Some k → key_of h (es ++ e ∷ []) ≡ Some k
key_of-more h k [] e at = absurd (none-some k at)
key_of-more h k (x ∷ es) e at = either (x.handle == h) refl at (key_of-more h k es e)
  where
    either : (b : Bool) → (x.handle == h) ≡ b
        → key_of h (x ∷ es) ≡ Some k → (key_of h es ≡ Some k → key_of h (es ++ e ∷ []) ≡ Some k)
        → key_of h (x ∷ es ++ e ∷ []) ≡ Some k
    either true is at rest = rw is (rw is at at)
    either false is at rest = rw is (rest (rw is at at))

pub key_of-last : (es : List Entry) (e : Entry)
    → AreBelow e.handle es → key_of e.handle (es ++ e ∷ []) ≡ Some e.key
key_of-last [] e below =
    let same : (e.handle == e.handle) ≡ true = grind (arith, nat_tests) in
    rw same refl
key_of-last (x ∷ es) e below =
    let lt : x.handle < e.handle = below.0 in
    let other : (x.handle == e.handle) ≡ false = grind (arith, nat_tests) in
    rw other (key_of-last es e below.1)

pub key_of-push : (h k : ℕ) (es : List Entry) (e : Entry)
    → key_of h (es ++ e ∷ []) ≡ Some k → (key_of h es ≡ Some k) ⊎ ((h ≡ e.handle) × (k ≡ e.key))
key_of-push h k [] e at = either (e.handle == h) refl at
  where
    either : (b : Bool) → (e.handle == h) ≡ b
        → key_of h (e ∷ []) ≡ Some k → (key_of h [] ≡ Some k) ⊎ ((h ≡ e.handle) × (k ≡ e.key))
    either true is at =
        let same : h ≡ e.handle = grind (arith, nat_tests) in
        inr (same, sym (same_Some e.key k (rw is at at)))
    either false is at = absurd (none-some k (rw is at at))
key_of-push h k (x ∷ es) e at = either (x.handle == h) refl at (key_of-push h k es e)
  where
    either : (b : Bool) → (x.handle == h) ≡ b
        → key_of h (x ∷ es ++ e ∷ []) ≡ Some k → (key_of h (es ++ e ∷ []) ≡ Some k
        → (key_of h es ≡ Some k) ⊎ ((h ≡ e.handle) × (k ≡ e.key)))
        → (key_of h (x ∷ es) ≡ Some k) ⊎ ((h ≡ e.handle) × (k ≡ e.key))
    either true is at rest = inl (rw is (rw is at at))
    either false is at rest = elim (rest (rw is at at)) [
      | inl old ↦ inl (rw is old)
      | inr new ↦ inr new
    ]

-- One entry fewer.

pub key_of-without : (h g : ℕ) (es : List Entry)
    → g ≢ h → key_of g (filter (λ entry. not (entry.handle == h)) es) ≡ key_of g es
key_of-without h g [] differ = refl
key_of-without h g (x ∷ es) differ = either (x.handle == h) refl (key_of-without h g es differ)
  where
    either : (b : Bool) → (x.handle == h) ≡ b
        → key_of g (filter (λ entry. not (entry.handle == h)) es) ≡ key_of g es
        → key_of g (filter (λ entry. not (entry.handle == h)) (x ∷ es)) ≡ key_of g (x ∷ es)
    either true is rest =
        let same : x.handle ≡ h = grind (arith, nat_tests) in
        let apart : x.handle ≢ g = λ e. differ (sym e ∙ same) in
        let other : (x.handle == g) ≡ false = grind (arith, nat_tests) in
        rw (is, other) rest
    either false is rest = rw is (here (x.handle == g) refl rest)
      where
        here : (b : Bool) → (x.handle == g) ≡ b
            → key_of g (filter (λ entry. not (entry.handle == h)) es) ≡ key_of g es
            → key_of g (x ∷ filter (λ entry. not (entry.handle == h)) es) ≡ key_of g (x ∷ es)
        here true test rest = rw test refl
        here false test rest = rw test rest

pub key_of-gone : (h : ℕ) (es : List Entry)
    → key_of h (filter (λ entry. not (entry.handle == h)) es) ≡ None
key_of-gone h [] = refl
key_of-gone h (x ∷ es) = either (x.handle == h) refl (key_of-gone h es)
  where
    either : (b : Bool) → (x.handle == h) ≡ b
        → key_of h (filter (λ entry. not (entry.handle == h)) es) ≡ None
        → key_of h (filter (λ entry. not (entry.handle == h)) (x ∷ es)) ≡ None
    either true is rest = rw is rest
    either false is rest = rw (is, is) rest

pub length_without : (h k : ℕ) (es : List Entry) → AreRising es
    → key_of h es ≡ Some k → length (filter (λ entry. not (entry.handle == h)) es) + 1 ≡ length es
length_without h k [] rising at = absurd (none-some k at)
length_without h k (x ∷ es) rising at =
    either (x.handle == h) refl at (length_without h k es rising.1)
  where
    either : (b : Bool) → (x.handle == h) ≡ b → key_of h (x ∷ es) ≡ Some k → (key_of h es ≡ Some k
        → length (filter (λ entry. not (entry.handle == h)) es) + 1 ≡ length es)
        → length (filter (λ entry. not (entry.handle == h)) (x ∷ es)) + 1 ≡ length (x ∷ es)
    either true is at rest =
        let same : x.handle ≡ h = grind (arith, nat_tests) in
        rw (is, filter_above x.handle h es (omega (arith, same)) rising.0) (omega arith)
    either false is at rest = rw is (omega (arith, rest (rw is at at)))

-- A found key is that of an entry.

-- the entry of a handle, with its key
pub record IsEntry (h k : ℕ) (es : List Entry) : Type 0 where
  pub entry : Entry
  pub found : entry_of h es ≡ Some entry
  pub handle : entry.handle ≡ h
  pub key : entry.key ≡ k

pub entry_there : (h k : ℕ) (es : List Entry) → key_of h es ≡ Some k → IsEntry h k es
entry_there h k es at = either (entry_of h es) refl at
  where
    either : (o : Option Entry) → entry_of h es ≡ o
        → option_map (λ (entry : Entry). entry.key) o ≡ Some k → IsEntry h k es
    either None is at = absurd (none-some k at)
    either (Some e) is at = record {
      entry = e;
      found = is;
      handle = handle_found h es e is;
      key = same_Some e.key k at;
    }

-- an entry among those above a handle has a greater one
pub key_above : (a h k : ℕ) (es : List Entry) → AreAbove a es → key_of h es ≡ Some k → a < h
key_above a h k [] above at = absurd (none-some k at)
key_above a h k (x ∷ es) above at = either (x.handle == h) refl at (key_above a h k es above.1)
  where
    either : (b : Bool) → (x.handle == h) ≡ b
        → key_of h (x ∷ es) ≡ Some k → (key_of h es ≡ Some k → a < h) → a < h
    either true is at rest =
        let same : x.handle ≡ h = grind (arith, nat_tests) in
        omega (arith, above.0, same)
    either false is at rest = rest (rw is at at)
