-- The steps of a walk over records slot by slot.
-- For `BySlot::next` and what it calls.
-- By: what is left is a slot's records from an index on, and then the records of all slots above.
use Rattle.std.proofs.Common.{◌≡◌, ◌⊎◌, inl, inr, zero, suc, ◌+◌, ◌-◌, ◌<◌, ◌≤◌, ℕ, true, false}
use Rattle.std.proofs.Common.{List, [], ◌∷◌, ◌++◌, length, drop, take, Some, None, Option}
use Rattle.std.proofs.Common.{refl, sym, ◌∙◌, ap, arith, append_assoc, append-nil, Bool, get_or}
use Rattle.std.specs.Prelude.{◌==◌, slice_get, IfNone}
use Rattle.std.proofs.Math.Seq.{take-suc}
use Rattle.std.proofs.lemmas.Bool.{cases_lt}
use Rattle.std.proofs.lemmas.List.{drop_all}
use Rattle.std.proofs.lemmas.List.Elements.{filter-append}
use Rattle.std.proofs.lemmas.Option.{slice_get_within, get_or_from_slice_get, slice_get-get_or}
use Rattle.trdp_model.specs.Records.{RecordModel}
use Rattle.trdp_outbox.specs.SlotOrder.{by_slot, slots_end, slots_from, slots_own}
use Rattle.trdp_outbox.specs.SlotWalk.{IsNext, IsNextSlot, NextSlotIs, left_of, slots_above}
use Rattle.trdp_outbox.proofs.SlotOrderLemmas.Rising.{drop_get}
use Rattle.trdp_outbox.proofs.SlotOrderLemmas.Slots.{own_is, own_higher, own_lower, own_past}
use Rattle.trdp_outbox.proofs.SlotOrderLemmas.Slots.{from_zero, from_suc, from_skip}
use Rattle.trdp_outbox.proofs.SlotOrderLemmas.Slots.{from_none}

-- the first records and one more
pub next_taken : (i : ℕ) (rs : List RecordModel) (r : RecordModel)
    → slice_get rs i ≡ Some r → take (i + 1) rs ≡ take i rs ++ r ∷ []
next_taken i rs r here =
    let next : i + 1 ≡ suc i = omega arith in
    ap (λ m. take m rs) next ∙ take-suc rs i r (slice_get_within rs i r here)
    ∙ ap (λ x. take i rs ++ x ∷ []) (get_or_from_slice_get rs i r r here)

own_append : (s : ℕ) (rs : List RecordModel) (r : RecordModel)
    → slots_own s (rs ++ r ∷ []) ≡ slots_own s rs ++ slots_own s (r ∷ [])
own_append s rs r = filter-append (λ x. x.slot == s) rs (r ∷ [])

-- a record of another slot adds none to a slot's
more_lower : (s : ℕ) (rs : List RecordModel) (r : RecordModel)
    → r.slot < s → slots_own s (rs ++ r ∷ []) ≡ slots_own s rs
more_lower s rs r below = own_append s rs r
    ∙ ap (λ l. slots_own s rs ++ l) (own_lower s r [] below) ∙ append-nil (slots_own s rs)

more_higher : (s : ℕ) (rs : List RecordModel) (r : RecordModel)
    → s < r.slot → slots_own s (rs ++ r ∷ []) ≡ slots_own s rs
more_higher s rs r above = own_append s rs r
    ∙ ap (λ l. slots_own s rs ++ l) (own_higher s r [] above) ∙ append-nil (slots_own s rs)

-- where there are some, one more leaves some
not_none : (xs ys : List RecordModel) → (xs ≡ [] → ⊥) → xs ++ ys ≡ [] → ⊥
not_none [] ys some none = some refl
not_none (x ∷ xs) ys some none = absurd (cc)

no_more : (xs : List RecordModel) (x : RecordModel) → xs ++ x ∷ [] ≡ [] → ⊥
no_more [] x none = absurd (cc)
no_more (y ∷ xs) x none = absurd (cc)

more_some : (s : ℕ) (rs : List RecordModel) (r : RecordModel)
    → (slots_own s rs ≡ [] → ⊥) → slots_own s (rs ++ r ∷ []) ≡ [] → ⊥
more_some s rs r some none = not_none (slots_own s rs) (slots_own s (r ∷ [])) some
    (sym (own_append s rs r) ∙ none)

more_own : (s : ℕ) (rs : List RecordModel) (r : RecordModel)
    → r.slot ≡ s → slots_own s (rs ++ r ∷ []) ≡ [] → ⊥
more_own s rs r is none = no_more (slots_own s rs) r
    (sym (own_append s rs r ∙ ap (λ l. slots_own s rs ++ l) (own_is s r [] is)) ∙ none)

-- a record of no slot above
pub kept_below : (s : ℕ) (least : Option ℕ) (rs : List RecordModel) (r : RecordModel)
    → r.slot ≤ s → NextSlotIs s rs least → NextSlotIs s (rs ++ r ∷ []) least
kept_below s None rs r below none = λ t above.
    let lower : r.slot < t = omega (arith, below, above) in
    more_lower t rs r lower ∙ none t above
kept_below s (Some near) rs r below next = record {
  above = next.above;
  least = λ t above under.
      let lower : r.slot < t = omega (arith, below, above) in
      more_lower t rs r lower ∙ next.least t above under;
  some = more_some near rs r next.some;
}

-- a record of no lower slot above
pub kept_near : (s near : ℕ) (rs : List RecordModel) (r : RecordModel)
    → near ≤ r.slot → IsNextSlot s near rs → IsNextSlot s near (rs ++ r ∷ [])
kept_near s near rs r past next = record {
  above = next.above;
  least = λ t above under.
      let higher : t < r.slot = omega (arith, past, under) in
      more_higher t rs r higher ∙ next.least t above under;
  some = more_some near rs r next.some;
}

-- a record of a lower slot above
pub nearer_found : (s near : ℕ) (rs : List RecordModel) (r : RecordModel)
    → s < r.slot → r.slot < near → IsNextSlot s near rs → IsNextSlot s r.slot (rs ++ r ∷ [])
nearer_found s near rs r above below next = record {
  above = above;
  least = λ t higher under.
      let lower : t < near = omega (arith, below, under) in
      more_higher t rs r under ∙ next.least t higher lower;
  some = more_own r.slot rs r refl;
}

-- the first record of a slot above
pub first_found : (s : ℕ) (rs : List RecordModel) (r : RecordModel)
    → s < r.slot → NextSlotIs s rs None → IsNextSlot s r.slot (rs ++ r ∷ [])
first_found s rs r above none = record {
  above = above;
  least = λ t higher under. more_higher t rs r under ∙ none t higher;
  some = more_own r.slot rs r refl;
}

-- without a slot above that has a record nothing is left above
pub none_above : (s : ℕ) (rs : List RecordModel) → NextSlotIs s rs None → slots_above s rs ≡ []
none_above s rs none = from_none (slots_end rs - suc s) (suc s) rs (λ t past.
    let above : s < t = omega (arith, past) in none t above)

-- the least slot above comes first of those above
pub next_above : (s t : ℕ) (rs : List RecordModel) → IsNextSlot s t rs
    → slots_above s rs ≡ slots_own t rs ++ slots_above t rs
next_above s t rs next =
    let end = slots_end rs in
    let within : t < end = by_place (cases_lt t end) in
    let gap : end - suc s ≡ (t - suc s) + suc (end - suc t) = omega (arith, next.above, within) in
    let there : suc s + (t - suc s) ≡ t = omega (arith, next.above) in
    ap (λ n. slots_from (suc s) n rs) gap
    ∙ from_skip (t - suc s) (suc s) (suc (end - suc t)) rs (λ u past below.
    let above : s < u = omega (arith, past) in
    let lower : u < t = omega (arith, below, there) in next.least u above lower)
    ∙ ap (λ u. slots_from u (suc (end - suc t)) rs) there
    ∙ from_suc t (end - suc t) rs
  where
    by_place : (t < slots_end rs) ⊎ (slots_end rs ≤ t) → t < slots_end rs
    by_place (inl lower) = lower
    by_place (inr past) = absurd (next.some (own_past t rs past))

-- one record of the slot more, or of another
pub own_there : (s i : ℕ) (rs : List RecordModel) (r : RecordModel) → slice_get rs i ≡ Some r
    → r.slot ≡ s → slots_own s (drop i rs) ≡ r ∷ slots_own s (drop (i + 1) rs)
own_there s i rs r here is = ap (slots_own s) (drop_get rs i r here)
    ∙ own_is s r (drop (i + 1) rs) is

pub own_further : (s i : ℕ) (rs : List RecordModel) (r : RecordModel) → slice_get rs i ≡ Some r
    → (r.slot ≡ s → ⊥) → slots_own s (drop i rs) ≡ slots_own s (drop (i + 1) rs)
own_further s i rs r here other = ap (slots_own s) (drop_get rs i r here)
    ∙ by_place (cases_lt r.slot s) (cases_lt s r.slot)
  where
    by_place : (r.slot < s) ⊎ (s ≤ r.slot) → (s < r.slot) ⊎ (r.slot ≤ s)
        → slots_own s (r ∷ drop (i + 1) rs) ≡ slots_own s (drop (i + 1) rs)
    by_place (inl lower) either = own_lower s r (drop (i + 1) rs) lower
    by_place (inr high) (inl higher) = own_higher s r (drop (i + 1) rs) higher
    by_place (inr high) (inr low) = absurd (other (omega (arith, high, low)))

-- in their order
pub next_in_order : (s i : ℕ) (rs : List RecordModel) → i < length rs
    → IsNext i (left_of true s i rs) (left_of true s (i + 1) rs) rs
unfolding left_of
next_in_order s i [] within = absurd (omega (arith, within))
next_in_order s i (x ∷ xs) within =
    let here = slice_get-get_or (x ∷ xs) i x within in
    record { r = get_or (x ∷ xs) i x; here = here; first = drop_get (x ∷ xs) i _ here }

pub none_in_order : (s i : ℕ) (rs : List RecordModel) → length rs ≤ i → left_of true s i rs ≡ []
unfolding left_of
none_in_order s i rs past = drop_all i rs past

-- of the slot itself
pub next_own : (s at i : ℕ) (rs : List RecordModel)
    → IsNext i (slots_own s (drop at rs)) (slots_own s (drop (i + 1) rs)) rs
    → IsNext i (left_of false s at rs) (left_of false s (i + 1) rs) rs
unfolding left_of
next_own s at i rs next = record {
  r = next.r;
  here = next.here;
  first = ap (λ l. l ++ slots_above s rs) next.first;
}

-- of no slot
pub none_left : (s at : ℕ) (rs : List RecordModel) → slots_own s (drop at rs) ≡ []
    → NextSlotIs s rs None → left_of false s at rs ≡ []
unfolding left_of
none_left s at rs own above = ap (λ l. l ++ slots_above s rs) own ∙ none_above s rs above

-- of the least slot above
pub next_of_above : (s t at i : ℕ) (rs : List RecordModel) → slots_own s (drop at rs) ≡ []
    → IsNextSlot s t rs → IsNext i (slots_own t (drop 0 rs)) (slots_own t (drop (i + 1) rs)) rs
    → IsNext i (left_of false s at rs) (left_of false t (i + 1) rs) rs
unfolding left_of
next_of_above s t at i rs own above next = record {
  r = next.r;
  here = next.here;
  first = ap (λ l. l ++ slots_above s rs) own ∙ next_above s t rs above
      ∙ ap (λ l. l ++ slots_above t rs) next.first;
}

-- at first all are left
pub all_left : (rising : Bool) (rs : List RecordModel)
    → (rising ≡ true → by_slot rs ≡ rs) → left_of rising 0 0 rs ≡ by_slot rs
unfolding left_of by_slot
all_left true rs rises = sym (rises refl)
all_left false rs rises = by_end (slots_end rs) refl
  where
    by_end : (end : ℕ) → slots_end rs ≡ end
        → slots_own 0 (drop 0 rs) ++ slots_above 0 rs ≡ slots_from 0 (slots_end rs) rs
    by_end zero is =
        let past : slots_end rs ≤ 0 = omega (arith, is) in
        let none : slots_end rs - suc 0 ≡ zero = omega (arith, is) in
        ap (λ l. l ++ slots_above 0 rs) (own_past 0 rs past)
        ∙ ap (λ n. slots_from 1 n rs) none ∙ from_zero 1 rs ∙ sym (from_zero 0 rs)
        ∙ ap (λ n. slots_from 0 n rs) (sym is)
    by_end (suc end) is =
        let fewer : slots_end rs - suc 0 ≡ end = omega (arith, is) in
        ap (λ n. slots_own 0 rs ++ slots_from 1 n rs) fewer ∙ sym (from_suc 0 end rs)
        ∙ ap (λ n. slots_from 0 n rs) (sym is)

-- one more record was reached, of those that were still to come
pub walked_one : (all done left : List RecordModel) (r : RecordModel)
    → all ≡ done ++ r ∷ left → all ≡ (done ++ r ∷ []) ++ left
walked_one all done left r is = is ∙ sym (append_assoc done (r ∷ []) left)

-- none was still to come
pub walked_all : (all done left : List RecordModel) → all ≡ done ++ left → left ≡ [] → all ≡ done
walked_all all done left is none = is ∙ ap (λ l. done ++ l) none ∙ append-nil done

-- what holds of any result holds where there is none
pub if_none : {A P : Type 0} (r : Option A) → P → IfNone r P
if_none None p = p
if_none (Some x) p = tt
