-- A pool's keys: each has a place of its own in the slab, or is free.
-- For `Pool::insert`, `object_mut` and `add_keys`, and for `PoolLemmas.Changes` and `Growth`.
-- By: two keys have two places, so a change at one place is seen under one key alone.
use Rattle.std.proofs.Common.{◌≡◌, ◌≢◌, ◌<◌, ◌+◌, inl, inr, ℕ, zero, suc, List, [], ◌∷◌}
use Rattle.std.proofs.Common.{◌++◌, length, map, get_or, set, Option, Some, None, Bool, true}
use Rattle.std.proofs.Common.{cond, is_some, IsSome, count_by, refl, sym, ap, ◌∙◌, arith}
use Rattle.std.specs.Prelude.{slice_get, replicate, ◌⊎◌}
use Rattle.std.proofs.lemmas.List.Sums.{sum_by-cons}
use Rattle.std.proofs.lemmas.Option.{same_Some, none-some}
use Rattle.std.proofs.Math.ListN.{get_or-map}
use Rattle.slab.specs.Slab.{Slab, get, Updates}
use Rattle.trdp_table.specs.declared.held.Held.{Held}
use Rattle.trdp_table.specs.Pools.{PoolState, held_in}
use Rattle.trdp_table.specs.Pools.{placed, IsKeptPool}

count_by-cons : {X : Type 0} (p : X → Bool) (x : X) (xs : List X)
    → count_by p (x ∷ xs) ≡ cond {A = ℕ} (p x) 1 0 + count_by p xs
count_by-cons p x xs = sum_by-cons (λ y. cond {A = ℕ} (p y) 1 0) x xs

abbrev pub Places : Type 0
Places = List (Option ℕ)

-- What is seen of the pool.

-- there are as many objects as keys that have a place
pub count_placed : (s : Slab Held) (ps : Places)
    → ((i k : ℕ) → get_or ps i None ≡ Some k → IsSome (get s k))
    → count_by is_some (map (placed s) ps) ≡ count_by is_some ps
count_placed s [] h = refl
count_placed s (None ∷ ps) h =
    let rest = count_placed s ps (λ i k e. h (suc i) k e) in
    omega (
      arith,
      rest,
      count_by-cons is_some None ps,
      count_by-cons is_some None (map (placed s) ps),
    )
count_placed s (Some k ∷ ps) h =
    let some : is_some (get s k) ≡ true = h 0 k refl in
    let rest = count_placed s ps (λ i j e. h (suc i) j e) in
    let here : cond {A = ℕ} (is_some (get s k)) 1 0 ≡ 1 =
    ap (λ (b : Bool). cond {A = ℕ} b 1 0) some in
    omega (
      arith,
      rest,
      here,
      count_by-cons is_some (Some k) ps,
      count_by-cons is_some (get s k) (map (placed s) ps),
    )

pub held_at : (s : Slab Held) (ps : Places) (key : ℕ)
    → held_in (map (placed s) ps) key ≡ placed s (get_or ps key None)
held_at s ps key = get_or-map (placed s) ps key None

-- a change at a place that no key has changes nothing that is seen
pub seen_same : (s t : Slab Held) (k : ℕ) (v : Option Held) (ps : Places) → Updates s t k v
    → ((i : ℕ) → get_or ps i None ≢ Some k) → map (placed t) ps ≡ map (placed s) ps
seen_same s t k v [] u h = refl
seen_same s t k v (None ∷ ps) u h =
    ap (λ (r : PoolState). None ∷ r) (seen_same s t k v ps u (λ i. h (suc i)))
seen_same s t k v (Some j ∷ ps) u h =
    let apart : j ≢ k = λ e. h 0 (ap Some e) in
    let here : get t j ≡ get s j = u.others j apart in
    rw here (ap (λ (r : PoolState). get s j ∷ r) (seen_same s t k v ps u (λ i. h (suc i))))

-- a change at the place of one key alone is seen at that key
pub seen_changed : (s t : Slab Held) (k key : ℕ) (v : Option Held) (ps : Places) → Updates s t k v
    → get_or ps key None ≡ Some k → ((i : ℕ) → i ≢ key → get_or ps i None ≢ Some k)
    → map (placed t) ps ≡ set (map (placed s) ps) key v
seen_changed s t k key v [] u at h = refl
seen_changed s t k zero v (p ∷ ps) u at h =
    let here : placed t p ≡ v = ap (placed t) at ∙ u.changed in
    rw here (ap (λ (r : PoolState). v ∷ r)
    (seen_same s t k v ps u (λ i. h (suc i) (λ e. absurd (omega arith)))))
seen_changed s t k (suc key) v (None ∷ ps) u at h =
    ap (λ (r : PoolState). None ∷ r)
    (seen_changed s t k key v ps u at (λ i ne. h (suc i) (λ e. ne (omega arith))))
seen_changed s t k (suc key) v (Some j ∷ ps) u at h =
    let apart : j ≢ k = λ e. h 0 (λ z. absurd (omega arith)) (ap Some e) in
    let here : get t j ≡ get s j = u.others j apart in
    rw here (ap (λ (r : PoolState). get s j ∷ r)
    (seen_changed s t k key v ps u at (λ i ne. h (suc i) (λ e. ne (omega arith)))))

-- The free keys.

pub at_push : (xs : List ℕ) (x i y : ℕ) → slice_get (xs ++ x ∷ []) i ≡ Some y
    → ((i < length xs) × (slice_get xs i ≡ Some y)) ⊎ ((i ≡ length xs) × (y ≡ x))
at_push [] x zero y at = inr (refl, sym (same_Some x y at))
at_push [] x (suc i) y at = absurd (none-some y at)
at_push (z ∷ xs) x zero y at = inl (omega arith, at)
at_push (z ∷ xs) x (suc i) y at = elim (at_push xs x i y at) [
  | inl there ↦ inl (omega (arith, there.0), there.1)
  | inr last ↦ inr (omega (arith, last.0), last.1)
]

pub at_front : (xs : List ℕ) (x i y : ℕ) → slice_get xs i ≡ Some y
    → slice_get (xs ++ x ∷ []) i ≡ Some y
at_front [] x i y at = absurd (none-some y at)
at_front (z ∷ xs) x zero y at = at
at_front (z ∷ xs) x (suc i) y at = at_front xs x i y at

pub at_last : (xs : List ℕ) (x : ℕ) → slice_get (xs ++ x ∷ []) (length xs) ≡ Some x
at_last [] x = refl
at_last (z ∷ xs) x = at_last xs x

pub length_push : (xs : List ℕ) (x : ℕ) → length (xs ++ x ∷ []) ≡ length xs + 1
length_push [] x = refl
length_push (z ∷ xs) x = let rest = length_push xs x in omega (arith, rest)

-- The number of keys that have a place.

pub count_set : {X : Type 0} (ps : List (Option X)) (i : ℕ) (k : X) → i < length ps
    → get_or ps i None ≡ None → count_by is_some (set ps i (Some k)) ≡ count_by is_some ps + 1
count_set [] i k h e = absurd (omega arith)
count_set (None ∷ ps) zero k h e =
    omega (arith, count_by-cons is_some None ps, count_by-cons is_some (Some k) ps)
count_set (Some j ∷ ps) zero k h e = absurd (none-some j (sym e))
count_set (None ∷ ps) (suc i) k h e = let r = count_set ps i k (omega arith) e in
    omega (arith, r, count_by-cons is_some None ps, count_by-cons is_some None (set ps i (Some k)))
count_set (Some j ∷ ps) (suc i) k h e = let r = count_set ps i k (omega arith) e in omega (
  arith,
  r,
  count_by-cons is_some (Some j) ps,
  count_by-cons is_some (Some j) (set ps i (Some k)),
)

pub count_unset : {X : Type 0} (ps : List (Option X)) (i : ℕ) (k : X)
    → get_or ps i None ≡ Some k → count_by is_some (set ps i None) + 1 ≡ count_by is_some ps
count_unset [] i k e = absurd (none-some k e)
count_unset (None ∷ ps) zero k e = absurd (none-some k e)
count_unset (Some j ∷ ps) zero k e =
    omega (arith, count_by-cons is_some None ps, count_by-cons is_some (Some j) ps)
count_unset (None ∷ ps) (suc i) k e = let r = count_unset ps i k e in
    omega (arith, r, count_by-cons is_some None ps, count_by-cons is_some None (set ps i None))
count_unset (Some j ∷ ps) (suc i) k e = let r = count_unset ps i k e in omega (
  arith,
  r,
  count_by-cons is_some (Some j) ps,
  count_by-cons is_some (Some j) (set ps i None),
)

pub count_kept : {X : Type 0} (xs : List (Option X)) (i : ℕ) (x y : X)
    → get_or xs i None ≡ Some x → count_by is_some (set xs i (Some y)) ≡ count_by is_some xs
count_kept [] i x y at = absurd (none-some x at)
count_kept (None ∷ xs) zero x y at = absurd (none-some x at)
count_kept (Some z ∷ xs) zero x y at =
    omega (arith, count_by-cons is_some (Some z) xs, count_by-cons is_some (Some y) xs)
count_kept (z ∷ xs) (suc i) x y at = let r = count_kept xs i x y at in
    omega (arith, r, count_by-cons is_some z xs, count_by-cons is_some z (set xs i (Some y)))

pub place_within : {X : Type 0} (xs : List (Option X)) (i : ℕ) (x : X)
    → get_or xs i None ≡ Some x → i < length xs
place_within [] i x at = absurd (none-some x at)
place_within (z ∷ xs) zero x at = omega arith
place_within (z ∷ xs) (suc i) x at = omega (arith, place_within xs i x at)

-- An empty pool.

pub no_held : (n i : ℕ) → held_in (replicate n None) i ≡ None
no_held zero i = refl
no_held (suc n) zero = refl
no_held (suc n) (suc i) = no_held n i

pub kept_empty : (s : Slab Held) (capacity : ℕ) → s.slots ≡ [] → IsKeptPool s [] [] capacity
kept_empty s capacity empty = record {
  filled = λ key place at. absurd (none-some place at);
  apart = λ a b place at there. absurd (none-some place at);
  vacant = λ i key at. absurd (none-some key at);
  once = λ i j key at there. absurd (none-some key at);
  count = ap (count_by is_some) empty;
  all = refl;
  room = omega arith;
  reserved = omega arith;
}
