-- The keys in a heap weigh as much as all keys.
-- For `TotalLemmas`.
-- By induction on the levels of the heap: each is a stretch of places, and each key has one place.
use Rattle.std.proofs.Common.{◌≡◌, ◌≢◌, ◌<◌, ◌-◌, ◌+◌, ◌*◌, ◌^◌, inl, inr, ℕ, zero, suc}
use Rattle.std.proofs.Common.{List, [], ◌∷◌, length, get_or, set, map, take, Option}
use Rattle.std.proofs.Common.{Some, None, IsSome, sum, refl, sym, ap, ◌∙◌, arith}
use Rattle.std.proofs.Math.Nat.{pow-succ'}
use Rattle.std.proofs.lemmas.Nat.{pow_pos}
use Rattle.std.proofs.lemmas.List.{get_or-set_same, get_or-set_other}
use Rattle.std.proofs.lemmas.List.{get_or_past, length-map, length-set, take_all}
use Rattle.std.proofs.lemmas.List.Sums.{sum_by-set, sum_by-cons, sum_by_more}
use Rattle.std.proofs.lemmas.Bool.{cases_eq, cases_lt}
use Rattle.trdp_timers.specs.declared.order.Order.{Order}
use Rattle.trdp_timers.specs.Heap.{IsPlaced}
use Rattle.trdp_timers.specs.Levels.{below, weight_at}
use Rattle.trdp_timers.proofs.KeyLemmas.{set_within}

none_unless : {X : Type 0} (o : Option X) → (IsSome o → ⊥) → o ≡ None
none_unless None h = refl
none_unless (Some x) h = absurd (h refl)

-- one level, d steps below p
level : (ℕ → ℕ) → ℕ → ℕ → ℕ
level f zero p = f p
level f (suc d) p = level f d (2 * p + 1) + level f d (2 * p + 2)

one_more : (f : ℕ → ℕ) (d p : ℕ) → below f (suc d) p ≡ below f d p + level f d p
unfolding below level
one_more f zero p = omega arith
one_more f (suc d) p = omega (arith, one_more f d (2 * p + 1), one_more f d (2 * p + 2))

left_at : (m p : ℕ) → m * (2 * p + 1 + 1) ≡ 2 * m * (p + 1)
left_at m p = grind arith

right_at : (m p : ℕ) → m * (2 * p + 2 + 1) ≡ 2 * m * (p + 1) + m
right_at m p = grind arith

-- a level is a stretch of places
level_is : (f front : ℕ → ℕ) → ((i : ℕ) → front (i + 1) ≡ front i + f i)
    → (d p a : ℕ) → a + 1 ≡ 2 ^ d * (p + 1) → front a + level f d p ≡ front (a + 2 ^ d)
unfolding level
level_is f front step zero p a e = let is : a ≡ p = omega arith in rw is (sym (step p))
level_is f front step (suc d) p a e =
    let m = 2 ^ d in
    let two : 2 ^ suc d ≡ 2 * m = pow-succ' 2 d in
    let whole : a + 1 ≡ 2 * m * (p + 1) = e ∙ ap (λ (w : ℕ). w * (p + 1)) two in
    let left = level_is f front step d (2 * p + 1) a (whole ∙ sym (left_at m p)) in
    let right = level_is f front step d (2 * p + 2) (a + m) (omega (arith, right_at m p)) in
    let end : front (a + m + m) ≡ front (a + 2 ^ suc d) = ap front (omega arith) in
    omega arith

below_front : (f front : ℕ → ℕ) → ((i : ℕ) → front (i + 1) ≡ front i + f i)
    → front 0 ≡ 0 → (d : ℕ) → below f d 0 ≡ front (2 ^ d - 1)
unfolding below
below_front f front step none zero = sym none
below_front f front step none (suc d) =
    let all = below_front f front step none d in
    let l = level_is f front step d 0 (2 ^ d - 1) (omega (arith, pow_pos d)) in
    let end : front (2 ^ d - 1 + 2 ^ d) ≡ front (2 ^ suc d - 1) =
    ap front (omega (arith, pow_pos d, pow-succ' 2 d)) in
    omega (arith, one_more f d 0)

sum_step : (xs : List ℕ) (i : ℕ) → sum (take (i + 1) xs) ≡ sum (take i xs) + get_or xs i 0
sum_step xs i = elim (cases_lt i (length xs)) [
  | inl h ↦ sum_by_more (λ (x : ℕ). x) xs i 0 h
  | inr h ↦ let a = take_all i xs h in let b = take_all (i + 1) xs (omega arith) in
      let z = get_or_past xs i 0 h in rw (a, b, z) (omega arith)
]

-- all keys in a heap
below_all : (xs : List ℕ) (d : ℕ) → length xs < 2 ^ d → below (λ i. get_or xs i 0) d 0 ≡ sum xs
below_all xs d deep =
    below_front (λ i. get_or xs i 0) (λ i. sum (take i xs)) (sum_step xs) refl d
    ∙ ap sum (take_all (2 ^ d - 1) xs (omega arith))

map_same : (f g : ℕ → ℕ) (xs : List ℕ)
    → ((i : ℕ) → i < length xs → f (get_or xs i 0) ≡ g (get_or xs i 0)) → map f xs ≡ map g xs
map_same f g [] h = refl
map_same f g (x ∷ xs) h = rw (h 0 (omega arith))
    (ap (λ (r : List ℕ). g x ∷ r) (map_same f g xs (λ i k. h (suc i) (omega arith))))

sum_zeros : (xs : List ℕ) → ((k : ℕ) → get_or xs k 0 ≡ 0) → sum xs ≡ 0
sum_zeros [] h = refl
sum_zeros (x ∷ xs) h =
    omega (arith, sum_by-cons (λ (y : ℕ). y) x xs, sum_zeros xs (λ k. h (suc k)), h 0)

-- what is listed once, with nothing besides, is all
sum_listed : (keys ws : List ℕ) → ((i : ℕ) → i < length keys → get_or keys i 0 < length ws)
    → ((i j : ℕ) → i < length keys → j < length keys → get_or keys i 0 ≡ get_or keys j 0 → i ≡ j)
    → ((k : ℕ) → ((i : ℕ) → i < length keys → get_or keys i 0 ≢ k) → get_or ws k 0 ≡ 0)
    → sum (map (λ k. get_or ws k 0) keys) ≡ sum ws
sum_listed [] ws within apart rest = sym (sum_zeros ws (λ k. rest k (λ i h. absurd (omega arith))))
sum_listed (x ∷ keys) ws within apart rest =
    let others = set ws x 0 in
    let inside : x < length ws = within 0 (omega arith) in
    let ne : (i : ℕ) → i < length keys → get_or keys i 0 ≢ x = λ i h e. let z : suc i ≡ 0 =
    apart (suc i) 0 (omega arith) (omega arith) e in absurd (omega arith) in
    let later = sum_listed keys others (λ i h. let w = within (suc i) (omega arith) in
    omega (arith, length-set ws x 0)) (λ i j hi hj e.
    let z : suc i ≡ suc j = apart (suc i) (suc j) (omega arith) (omega arith) e in omega arith)
    (λ k h. elim (cases_eq k x) [
      | inl e ↦ ap (λ (j : ℕ). get_or others j 0) e ∙ get_or-set_same ws x 0 0 inside
      | inr nk ↦ get_or-set_other ws x k 0 0 nk
          ∙ rest k (λ i. elim i as (λ j. j < length (x ∷ keys) → get_or (x ∷ keys) j 0 ≢ k)
          [ zero ↦ λ _ e. nk (sym e) | suc i ↦ λ l. h i (omega arith) ])
    ]) in
    let same : map (λ k. get_or others k 0) keys ≡ map (λ k. get_or ws k 0) keys =
    map_same (λ k. get_or others k 0) (λ k. get_or ws k 0)
    keys (λ i h. get_or-set_other ws x (get_or keys i 0) 0 0 (ne i h)) in
    let sums : sum (map (λ k. get_or others k 0) keys)
    ≡ sum (map (λ k. get_or ws k 0) keys) = ap sum same in
    omega (
      arith,
      sum_by-cons (λ (y : ℕ). y) (get_or ws x 0) (map (λ k. get_or ws k 0) keys),
      sum_by-set (λ (y : ℕ). y) ws x 0 0 inside,
    )

-- the heap weighs as much as all keys, where those that aren't set weigh nothing
pub weighs : (orders : List (Option Order)) (keys places ws : List ℕ) → IsPlaced orders keys places
    → length ws ≡ length orders → ((k : ℕ) → get_or orders k None ≡ None → get_or ws k 0 ≡ 0)
    → (d : ℕ) → length keys < 2 ^ d → below (weight_at ws keys) d 0 ≡ sum ws
weighs orders keys places ws p len unset d deep =
    below_all (map (λ k. get_or ws k 0) keys)
    d (omega (arith, length-map keys (λ k. get_or ws k 0)))
    ∙ sum_listed keys ws (λ i h. omega (arith, set_within orders (get_or keys i 0) (p.present i h)))
    (λ i j hi hj e. sym (p.listed i hi) ∙ ap (λ (k : ℕ). get_or places k 0) e ∙ p.listed j hj)
    (λ k h. unset k (none_unless (get_or orders k None)
    (λ some. h (get_or places k 0) (p.found k some) (p.named k some))))
