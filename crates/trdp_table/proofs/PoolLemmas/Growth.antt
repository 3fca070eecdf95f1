-- A pool stays a pool as it gets room and keys.
-- For `Pool::grow` and `add_keys`.
-- By: what was held is still held, and a new key is free and has no place.
use Rattle.std.proofs.Common.{◌≡◌, ◌≢◌, ◌≤◌, ◌+◌, inl, inr, ℕ, zero, suc, List, [], ◌∷◌, ◌++◌}
use Rattle.std.proofs.Common.{length, map, get_or, Option, Some, None, cond, is_some, count_by}
use Rattle.std.proofs.Common.{refl, sym, ap, ◌∙◌, subst, arith}
use Rattle.std.specs.Prelude.{slice_get, slice_index_or, replicate}
use Rattle.std.specs.List.{range_with_len}
use Rattle.std.proofs.lemmas.List.{append-nil, append_assoc, length-append, map-append, get_or_past}
use Rattle.std.proofs.lemmas.List.Sums.{sum_by-append}
use Rattle.slab.specs.Slab.{Slab, get}
use Rattle.trdp_table.specs.declared.held.Held.{Held}
use Rattle.trdp_table.specs.Pools.{PoolState, placed, IsKeptPool}
use Rattle.trdp_table.proofs.PoolLemmas.Places.{Places, at_push, length_push}

-- More room, in which nothing has changed.

pub seen_wider : (s t : Slab Held) (ps : Places)
    → t.slots ≡ s.slots → map (placed t) ps ≡ map (placed s) ps
seen_wider s t [] same = refl
seen_wider s t (None ∷ ps) same = ap (λ (r : PoolState). None ∷ r) (seen_wider s t ps same)
seen_wider s t (Some k ∷ ps) same =
    let here : get t k ≡ get s k =
    ap (λ (slots : List (Option Held)). slice_index_or slots k None) same in
    rw here (ap (λ (r : PoolState). get s k ∷ r) (seen_wider s t ps same))

-- a slab and a list of free keys with more room
pub kept_wider : (s t : Slab Held) (ps : Places) (free : List ℕ) (capacity wider : ℕ)
    → IsKeptPool s ps free capacity → t.slots ≡ s.slots → s.capacity ≤ t.capacity
    → capacity ≤ wider → IsKeptPool t ps free wider
kept_wider s t ps free capacity wider is same slab list = record {
  filled = λ key place at.
      ap (λ (slots : List (Option Held)). is_some (slice_index_or slots place None)) same
      ∙ is.filled key place at;
  apart = is.apart;
  vacant = is.vacant;
  once = is.once;
  count = ap (count_by is_some) same ∙ is.count;
  all = is.all;
  room = omega (arith, is.room, slab);
  reserved = omega (arith, is.reserved, list);
}

-- Free keys are added.

-- the keys from k on, and one more
pub keys_more : (k n : ℕ) → range_with_len k n ++ (k + n) ∷ [] ≡ range_with_len k (n + 1)
keys_more k n =
    let more : suc n ≡ n + 1 = omega arith in
    last k n ∙ ap (range_with_len k) more
  where
    last : (j m : ℕ) → range_with_len j m ++ (j + m) ∷ [] ≡ range_with_len j (suc m)
    last j zero =
        let same : j + 0 ≡ j = omega arith in
        ap (λ (i : ℕ). i ∷ []) same
    last j (suc m) =
        let same : j + suc m ≡ j + 1 + m = omega arith in
        ap (λ (ks : List ℕ). j ∷ ks)
        (ap (λ (i : ℕ). range_with_len (j + 1) m ++ i ∷ []) same ∙ last (j + 1) m)

same_place : (ps : Places) (i : ℕ) → get_or (ps ++ None ∷ []) i None ≡ get_or ps i None
same_place [] zero = refl
same_place [] (suc i) = refl
same_place (p ∷ ps) zero = refl
same_place (p ∷ ps) (suc i) = same_place ps i

same_count : (ps : Places) → count_by is_some (ps ++ None ∷ []) ≡ count_by is_some ps
same_count ps =
    omega (arith, sum_by-append (λ (p : Option ℕ). cond {A = ℕ} (is_some p) 1 0) ps (None ∷ []))

one_more : (ps : Places) → length (ps ++ None ∷ []) ≡ length ps + 1
one_more ps = omega (arith, length-append ps (None ∷ []))

kept_key : (s : Slab Held) (ps : Places) (free : List ℕ) (capacity : ℕ)
    → IsKeptPool s ps free capacity → length ps + 1 ≤ s.capacity → length ps + 1 ≤ capacity
    → IsKeptPool s (ps ++ None ∷ []) (free ++ length ps ∷ []) capacity
kept_key s ps free capacity is slab list =
    let fresh : (i : ℕ) → slice_get free i ≢ Some (length ps) =
    λ i at. absurd (omega (arith, (is.vacant i (length ps) at).0)) in
    record {
      filled = λ key place at. is.filled key place (sym (same_place ps key) ∙ at);
      apart = λ a b place at there.
          is.apart a b place (sym (same_place ps a) ∙ at) (sym (same_place ps b) ∙ there);
      vacant = λ i key at. elim (at_push free (length ps) i key at) [
        | inl there ↦
            let was = is.vacant i key there.1 in
            (omega (arith, was.0, one_more ps), same_place ps key ∙ was.1)
        | inr last ↦ (
          omega (arith, last.1, one_more ps),
          same_place ps key ∙ get_or_past ps key None (omega (arith, last.1)),
        )
      ];
      once = λ i j key at there. elim (at_push free (length ps) i key at) [
        | inl early ↦ elim (at_push free (length ps) j key there) [
          | inl too ↦ is.once i j key early.1 too.1
          | inr late ↦ absurd (fresh i (early.1 ∙ ap Some late.1))
        ]
        | inr last ↦ elim (at_push free (length ps) j key there) [
          | inl too ↦ absurd (fresh j (too.1 ∙ ap Some last.1))
          | inr late ↦ last.0 ∙ sym late.0
        ]
      ];
      count = is.count ∙ sym (same_count ps);
      all = omega (arith, same_count ps, one_more ps, length_push free (length ps), is.all);
      room = omega (arith, one_more ps, slab);
      reserved = omega (arith, one_more ps, list);
    }

pub kept_keys : (s : Slab Held) (n : ℕ) (ps : Places) (free : List ℕ) (capacity : ℕ)
    → IsKeptPool s ps free capacity → length ps + n ≤ s.capacity → length ps + n ≤ capacity
    → IsKeptPool s (ps ++ replicate n None) (free ++ range_with_len (length ps) n) capacity
kept_keys s zero ps free capacity is slab list = rw (append-nil ps, append-nil free) is
kept_keys s (suc n) ps free capacity is slab list =
    let first = kept_key s ps free capacity is (omega (arith, slab)) (omega (arith, list)) in
    let more = one_more ps in
    let rest = kept_keys s n (ps ++ None ∷ []) (free ++ length ps ∷ []) capacity first
    (omega (arith, slab, more)) (omega (arith, list, more)) in
    let keys : free ++ length ps ∷ [] ++ range_with_len (length (ps ++ None ∷ [])) n
    ≡ free ++ range_with_len (length ps) (suc n) =
    append_assoc free (length ps ∷ []) (range_with_len (length (ps ++ None ∷ [])) n)
    ∙ ap (λ (k : ℕ). free ++ length ps ∷ range_with_len k n) more in
    subst (λ (xs : List ℕ). IsKeptPool s (ps ++ replicate (suc n) None) xs capacity) keys
    (subst (λ (qs : Places). IsKeptPool s qs
    (free ++ length ps ∷ [] ++ range_with_len (length (ps ++ None ∷ [])) n) capacity)
    (append_assoc ps (None ∷ []) (replicate n None)) rest)

seen_free : (s : Slab Held) (n : ℕ) → map (placed s) (replicate n None) ≡ replicate n None
seen_free s zero = refl
seen_free s (suc n) = ap (λ (r : PoolState). None ∷ r) (seen_free s n)

-- free keys are added to a slab with more room
pub seen_keys : (s t : Slab Held) (n : ℕ) (ps : Places) → t.slots ≡ s.slots
    → map (placed t) (ps ++ replicate n None) ≡ map (placed s) ps ++ replicate n None
seen_keys s t n ps same =
    map-append (placed t) ps (replicate n None)
    ∙ (ap (λ (r : PoolState). r ++ map (placed t) (replicate n None)) (seen_wider s t ps same)
    ∙ ap (λ (r : PoolState). map (placed s) ps ++ r) (seen_free t n))
