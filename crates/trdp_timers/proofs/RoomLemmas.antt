-- More room for keys.
-- For `Timers::grow`.
-- By: a new key has no order, so that the heap stays as it is.
use Rattle.std.proofs.Common.{◌≡◌, ◌≤◌, ◌+◌, ◌++◌, ℕ, zero, suc, List, [], ◌∷◌}
use Rattle.std.proofs.Common.{length, get_or, replicate, Option, None, cond}
use Rattle.std.proofs.Common.{is_some, count_by, refl, sym, ap, ◌∙◌, arith}
use Rattle.std.proofs.lemmas.List.{length-append, length-replicate}
use Rattle.std.proofs.lemmas.List.Sums.{sum_by-cons}
use Rattle.trdp_timers.specs.declared.order.Order.{Order}
use Rattle.trdp_timers.specs.Heap.{order_at, IsKept}
use Rattle.trdp_timers.proofs.KeyLemmas.{same_heap}

padded : {X : Type 0} (xs : List X) (m k : ℕ) (d : X)
    → get_or (xs ++ replicate m d) k d ≡ get_or xs k d
padded [] zero k d = refl
padded [] (suc m) zero d = refl
padded [] (suc m) (suc k) d = padded [] m k d
padded (x ∷ xs) m zero d = refl
padded (x ∷ xs) m (suc k) d = padded xs m k d

count_padded : (orders : List (Option Order)) (m : ℕ)
    → count_by is_some (orders ++ replicate m None) ≡ count_by is_some orders
count_padded [] zero = refl
count_padded [] (suc m) = omega (
  arith,
  count_padded [] m,
  sum_by-cons (λ (x : Option Order). cond {A = ℕ} (is_some x) 1 0) None (replicate m None),
)
count_padded (o ∷ orders) m =
    omega (
      arith,
      count_padded orders m,
      sum_by-cons
          (λ (x : Option Order). cond {A = ℕ} (is_some x) 1 0) o (orders ++ replicate m None),
      sum_by-cons (λ (x : Option Order). cond {A = ℕ} (is_some x) 1 0) o orders,
    )

pub kept_grown : (orders os : List (Option Order))
    (keys ks places ps : List ℕ) (limit limit_now m : ℕ) → IsKept orders keys places limit
    → os ≡ orders ++ replicate m None → ks ≡ keys
    → ps ≡ places ++ replicate m 0 → length orders + m ≤ limit_now → IsKept os ks ps limit_now
kept_grown orders os keys ks places ps limit limit_now m kept e f g room =
    let to = orders ++ replicate m None in
    let same : (k : ℕ) → get_or to k None ≡ get_or orders k None = λ k. padded orders m k None in
    let after = places ++ replicate m 0 in
    let stays : (k : ℕ) → get_or after k 0 ≡ get_or places k 0 = λ k. padded places m k 0 in
    let longer : length after ≡ length places + m = length-append places (replicate m 0)
    ∙ ap (λ (n : ℕ). length places + n) (length-replicate m 0) in
    let more : length to ≡ length orders + m = length-append orders (replicate m None)
    ∙ ap (λ (n : ℕ). length orders + n) (length-replicate m None) in
    let p = kept.placed in
    rw (e, f, g) (record {
      placed = record {
        within = λ i h. let w = p.within i h in omega arith;
        listed = λ i h. stays (get_or keys i 0) ∙ p.listed i h;
        present = λ i h. ap is_some (same (get_or keys i 0)) ∙ p.present i h;
        found = λ k h. let s = stays k in let w =
            p.found k (ap is_some (sym (same k)) ∙ h) in omega arith;
        named = λ k h. ap (λ (j : ℕ). get_or keys j 0) (stays k)
            ∙ p.named k (ap is_some (sym (same k)) ∙ h);
      };
      heap = same_heap (length keys) (order_at orders keys)
          (order_at to keys) kept.heap (λ i h. same (get_or keys i 0));
      count = kept.count ∙ sym (count_padded orders m);
      room = omega (arith, longer, more, kept.room);
      capacity = omega (arith, more);
    })
