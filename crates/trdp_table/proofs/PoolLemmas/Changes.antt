-- A pool stays a pool as keys are used and freed, and objects are lent.
-- For `Pool::insert`, `remove` and `object_mut`.
-- By: the key that changes is the last free one or becomes it, and all others stay.
use Rattle.std.proofs.Common.{◌≡◌, ◌≢◌, ◌≤◌, ◌<◌, ◌+◌, inl, inr, ℕ, zero, suc, List, [], ◌∷◌}
use Rattle.std.proofs.Common.{◌++◌, length, map, get_or, set, Option, Some, None}
use Rattle.std.proofs.Common.{is_some, IsSome, refl, sym, ap, ◌∙◌, arith}
use Rattle.std.specs.Prelude.{slice_get, option_map}
use Rattle.std.proofs.lemmas.List.{get_or-set_same, get_or-set_other}
use Rattle.std.proofs.lemmas.List.{length-set, map-set, length-map}
use Rattle.std.proofs.lemmas.Bool.{false≢true, cases_eq}
use Rattle.std.proofs.lemmas.Option.{same_Some, none-some, slice_get_within}
use Rattle.slab.specs.Slab.{Slab, get, slab_len, Updates, with_value}
use Rattle.trdp_model.specs.declared.any_object.AnyObject.{AnyObject}
use Rattle.trdp_table.specs.declared.held.Held.{Held}
use Rattle.trdp_table.specs.Pools.{PoolState, held_in, held_count, pool_with}
use Rattle.trdp_table.specs.Pools.{with_other_held, placed, IsKeptPool}
use Rattle.trdp_table.proofs.PoolLemmas.Places.{Places, count_placed, held_at, seen_same}
use Rattle.trdp_table.proofs.PoolLemmas.Places.{seen_changed, at_push}
use Rattle.trdp_table.proofs.PoolLemmas.Places.{at_front, at_last, length_push, count_set}
use Rattle.trdp_table.proofs.PoolLemmas.Places.{count_unset}
use Rattle.trdp_table.proofs.PoolLemmas.Places.{count_kept, place_within}

-- where fewer objects than keys are held, a key is free
pub some_free : (s : Slab Held) (ps : Places) (free : List ℕ) (capacity : ℕ)
    → IsKeptPool s ps free capacity
    → held_count (map (placed s) ps) < length (map (placed s) ps) → 0 < length free
some_free s ps free capacity is lt =
    omega (arith, lt, count_placed s ps is.filled, length-map ps (placed s), is.all)

pub slab_room : (s : Slab Held) (ps : Places) (free : List ℕ) (capacity : ℕ)
    → IsKeptPool s ps free capacity → 0 < length free → slab_len s + 1 ≤ s.capacity
slab_room s ps free capacity is lt = omega (arith, lt, is.all, is.count, is.room)

-- no key has a place that has no value
unnamed : (s : Slab Held) (ps : Places) (free : List ℕ) (capacity k : ℕ)
    → IsKeptPool s ps free capacity → get s k ≡ None → (i : ℕ) → get_or ps i None ≢ Some k
unnamed s ps free capacity k is vacant i at =
    false≢true (ap is_some (sym vacant) ∙ is.filled i k at)

pub last_free : (s : Slab Held) (ps : Places) (xs : List ℕ) (capacity key : ℕ)
    → IsKeptPool s ps (xs ++ key ∷ []) capacity → (key < length ps) × (get_or ps key None ≡ None)
last_free s ps xs capacity key is = is.vacant (length xs) key (at_last xs key)

pub kept_insert : (s t : Slab Held) (ps : Places) (xs : List ℕ) (capacity key k : ℕ) (x : Held)
    → IsKeptPool s ps (xs ++ key ∷ []) capacity
    → get s k ≡ None → Updates s t k (Some x) → slab_len t ≡ slab_len s + 1
    → t.capacity ≡ s.capacity → IsKeptPool t (set ps key (Some k)) xs capacity
kept_insert s t ps xs capacity key k x is vacant u len cap =
    let within = (last_free s ps xs capacity key is).0 in
    let free = (last_free s ps xs capacity key is).1 in
    let named : (i j : ℕ) → i ≡ key → get_or (set ps key (Some k)) i None ≡ Some j → j ≡ k =
    λ i j same at. same_Some j k (sym at ∙ ap (λ (n : ℕ). get_or (set ps key (Some k)) n None) same
    ∙ get_or-set_same ps key (Some k) None within) in
    let other : (i j : ℕ) → i ≢ key → get_or (set ps key (Some k)) i None ≡ Some j
    → get_or ps i None ≡ Some j =
    λ i j apart at. sym (get_or-set_other ps key i (Some k) None apart) ∙ at in
    let not_k : (i : ℕ) → get_or ps i None ≢ Some k =
    unnamed s ps (xs ++ key ∷ []) capacity k is vacant in
    record {
      filled = λ i j at. elim (cases_eq i key) [
        | inl same ↦ ap is_some (ap (get t) (named i j same at) ∙ u.changed)
        | inr apart ↦
            let old = other i j apart at in
            ap is_some (u.others j (λ e. not_k i (old ∙ ap Some e))) ∙ is.filled i j old
      ];
      apart = λ a b n at there. elim (cases_eq a key) [
        | inl sa ↦ elim (cases_eq b key) [
          | inl sb ↦ sa ∙ sym sb
          | inr ob ↦ absurd (not_k b (other b n ob there ∙ ap Some (named a n sa at)))
        ]
        | inr oa ↦ elim (cases_eq b key) [
          | inl sb ↦ absurd (not_k a (other a n oa at ∙ ap Some (named b n sb there)))
          | inr ob ↦ is.apart a b n (other a n oa at) (other b n ob there)
        ]
      ];
      vacant = λ i n at.
          let old = is.vacant i n (at_front xs key i n at) in
          let lt = slice_get_within xs i n at in
          let apart : n ≢ key = λ e. absurd (omega (
            arith,
            lt,
            is.once
                i (length xs) n (at_front xs key i n at) (at_last xs key ∙ ap Some (sym e)),
          )) in (
            omega (arith, old.0, length-set ps key (Some k)),
            get_or-set_other ps key n (Some k) None apart ∙ old.1,
          );
      once = λ i j n at there. is.once i j n (at_front xs key i n at) (at_front xs key j n there);
      count = omega (arith, count_set ps key k within free, len, is.count);
      all = omega (
        arith,
        count_set ps key k within free,
        is.all,
        length_push xs key,
        length-set ps key (Some k),
      );
      room = omega (arith, length-set ps key (Some k), cap, is.room);
      reserved = omega (arith, length-set ps key (Some k), is.reserved);
    }

pub seen_insert : (s t : Slab Held) (ps : Places) (free : List ℕ) (capacity key k : ℕ) (x : Held)
    → IsKeptPool s ps free capacity → get s k ≡ None → Updates s t k (Some x)
    → map (placed t) (set ps key (Some k)) ≡ set (map (placed s) ps) key (Some x)
seen_insert s t ps free capacity key k x is vacant u =
    map-set (placed t) ps key (Some k)
    ∙ ap (λ (v : Option Held). set (map (placed t) ps) key v) u.changed
    ∙ ap (λ (r : PoolState). set r key (Some x))
    (seen_same s t k (Some x) ps u (unnamed s ps free capacity k is vacant))

-- A key is freed.

-- a key under which something is held has a place
pub place_there : (s : Slab Held) (ps : Places) (key : ℕ)
    → IsSome (held_in (map (placed s) ps) key) → IsSome (get_or ps key None)
place_there s ps key some = either (get_or ps key None) refl
  where
    either : (o : Option ℕ) → get_or ps key None ≡ o → IsSome o
    either None at =
        absurd (false≢true (sym (ap is_some (held_at s ps key ∙ ap (placed s) at)) ∙ some))
    either (Some k) at = refl

pub list_room : (s : Slab Held) (ps : Places) (free : List ℕ) (capacity key k : ℕ)
    → IsKeptPool s ps free capacity → get_or ps key None ≡ Some k → length free < capacity
list_room s ps free capacity key k is at =
    omega (arith, count_unset ps key k at, is.all, is.reserved)

pub kept_remove : (s t : Slab Held) (ps : Places) (free : List ℕ) (capacity key k : ℕ)
    → IsKeptPool s ps free capacity → get_or ps key None ≡ Some k
    → Updates s t k None → slab_len t + 1 ≡ slab_len s
    → t.capacity ≡ s.capacity → IsKeptPool t (set ps key None) (free ++ key ∷ []) capacity
kept_remove s t ps free capacity key k is named u len cap =
    let within = place_within ps key k named in
    let old : (i j : ℕ) → get_or (set ps key None) i None ≡ Some j
    → (i ≢ key) × (get_or ps i None ≡ Some j) =
    λ i j at. elim (cases_eq i key) [
      | inl same ↦ absurd (none-some j (sym (get_or-set_same ps key None None within)
          ∙ ap (λ (n : ℕ). get_or (set ps key None) n None) (sym same) ∙ at))
      | inr apart ↦ (apart, sym (get_or-set_other ps key i None None apart) ∙ at)
    ] in
    let taken : (i : ℕ) → slice_get free i ≢ Some key =
    λ i at. none-some k (sym (is.vacant i key at).1 ∙ named) in
    record {
      filled = λ i j at.
          let o = old i j at in
          ap is_some (u.others j (λ e. o.0 (is.apart i key k (o.1 ∙ ap Some e) named)))
          ∙ is.filled i j o.1;
      apart = λ a b n at there. is.apart a b n (old a n at).1 (old b n there).1;
      vacant = λ i n at. elim (at_push free key i n at) [
        | inl there ↦
            let was = is.vacant i n there.1 in (
              omega (arith, was.0, length-set ps key None),
              get_or-set_other ps key n None None (λ e. taken i (there.1 ∙ ap Some e)) ∙ was.1,
            )
        | inr last ↦ (
          omega (arith, last.1, within, length-set ps key None),
          ap (λ (m : ℕ).
              get_or (set ps key None) m None) last.1 ∙ get_or-set_same ps key None None within,
        )
      ];
      once = λ i j n at there. elim (at_push free key i n at) [
        | inl early ↦ elim (at_push free key j n there) [
          | inl too ↦ is.once i j n early.1 too.1
          | inr late ↦ absurd (taken i (early.1 ∙ ap Some late.1))
        ]
        | inr last ↦ elim (at_push free key j n there) [
          | inl too ↦ absurd (taken j (too.1 ∙ ap Some last.1))
          | inr late ↦ last.0 ∙ sym late.0
        ]
      ];
      count = omega (arith, count_unset ps key k named, len, is.count);
      all = omega (
        arith,
        count_unset ps key k named,
        is.all,
        length_push free key,
        length-set ps key None,
      );
      room = omega (arith, length-set ps key None, cap, is.room);
      reserved = omega (arith, length-set ps key None, is.reserved);
    }

pub seen_remove : (s t : Slab Held) (ps : Places) (free : List ℕ) (capacity key k : ℕ)
    → IsKeptPool s ps free capacity → get_or ps key None ≡ Some k
    → Updates s t k None → map (placed t) (set ps key None) ≡ set (map (placed s) ps) key None
seen_remove s t ps free capacity key k is named u =
    map-set (placed t) ps key None
    ∙ (ap (λ (r : PoolState). set r key None)
    (seen_changed s t k key None ps u named (λ i apart at. apart (is.apart i key k at named)))
    ∙ set_again (map (placed s) ps) key)
  where
    set_again : (xs : PoolState) (i : ℕ) → set (set xs i None) i None ≡ set xs i None
    set_again [] i = refl
    set_again (x ∷ xs) zero = refl
    set_again (x ∷ xs) (suc i) = ap (λ (r : PoolState). x ∷ r) (set_again xs i)

-- An object is lent.

value_updates : (s : Slab Held) (k : ℕ) (x y : Held)
    → get s k ≡ Some x → Updates s (with_value s k y) k (Some y)
value_updates s k x y at = record {
  changed = get_or-set_same s.slots k (Some y) None (place_within s.slots k x at);
  others = λ other apart. get_or-set_other s.slots k other (Some y) None apart;
}

pub kept_lent : (s : Slab Held) (ps : Places) (free : List ℕ) (capacity k : ℕ) (x y : Held)
    → IsKeptPool s ps free capacity → get s k ≡ Some x
    → IsKeptPool (with_value s k y) ps free capacity
kept_lent s ps free capacity k x y is at = record {
  filled = λ i j named. elim (cases_eq j k) [
    | inl same ↦ ap is_some (ap (get (with_value s k y)) same ∙ (value_updates s k x y at).changed)
    | inr apart ↦ ap is_some ((value_updates s k x y at).others j apart) ∙ is.filled i j named
  ];
  apart = is.apart;
  vacant = is.vacant;
  once = is.once;
  count = count_kept s.slots k x y at ∙ is.count;
  all = is.all;
  room = is.room;
  reserved = is.reserved;
}

pub seen_lent :
    (s : Slab Held) (ps : Places) (free : List ℕ) (capacity key k : ℕ) (x : Held) (w : AnyObject)
    → IsKeptPool s ps free capacity → get_or ps key None ≡ Some k → get s k ≡ Some x
    → map (placed (with_value s k (with_other_held x w))) ps ≡ pool_with key (map (placed s) ps) w
seen_lent s ps free capacity key k x w is named at =
    seen_changed s (with_value s k (with_other_held x w))
    k key (Some (with_other_held x w)) ps (value_updates s k x (with_other_held x w) at)
    named (λ i apart there. apart (is.apart i key k there named))
    ∙ ap (λ (v : Option Held). set (map (placed s) ps) key v)
    (sym (ap (option_map (λ held. with_other_held held w))
    (held_at s ps key ∙ ap (placed s) named ∙ at)))
