-- A header in which one byte differs has another frame check, or stores another one.
-- For `one_damaged_byte_is_found`.
-- By: a byte before the check changes the check, and a byte of the check changes what is stored.
use Rattle.std.proofs.Common.{◌≡◌, ◌≢◌, ℕ, suc, ◌+◌, ◌-◌, ◌*◌, ◌/◌, ◌^◌, ◌<◌, ◌≤◌, Bool, true}
use Rattle.std.proofs.Common.{List, [], ◌∷◌, ◌++◌, length, take, drop, refl, sym, ap, ◌∙◌}
use Rattle.std.proofs.Common.{arith}
use Rattle.std.proofs.Common.{Some, None, Option, inl, inr, reverse, ◌==◌, ltb}
use Rattle.std.proofs.Math.Nat.{mul-div_cancel, one-le-pow}
use Rattle.std.proofs.lemmas.Bool.{cases_lt, eqb-true}
use Rattle.std.proofs.lemmas.List.{length-append, reverse-append, append_assoc, take-take}
use Rattle.std.proofs.lemmas.List.{drop-take}
use Rattle.std.proofs.lemmas.List.{take-append-le, drop-append-le}
use Rattle.std.proofs.Math.Seq.{take-append-add, drop-append-add}
use Rattle.trdp_base.specs.Numbers.{be, le}
use Rattle.trdp_fcs.specs.FrameCheck.{frame_check_of}
use Rattle.trdp_fcs.specs.Damage.{DifferInOneByte}
use Rattle.trdp_fcs.proofs.DamageLemmas.{one_byte_changes_check}
use Rattle.std.specs.Prelude.{is_some, not}
use Rattle.trdp_head.specs.declared.fault.HeadFault.TheVariants.{Short, TooLong, Fcs}
use Rattle.std.specs.Option.{option_or}
use Rattle.trdp_head.specs.Fields.{field, little_field}
use Rattle.trdp_head.specs.Faults.{prefix_fault_of, fault_of}
use Rattle.trdp_head.specs.PdKinds.{pd_kind_of}
use Rattle.trdp_head.specs.MdKinds.{md_kind_of}
use Rattle.trdp_head.specs.PdFaults.{pd_fault_of}
use Rattle.trdp_head.specs.MdFaults.{md_fault_of}
use Rattle.trdp_head.proofs.TelegramLemmas.{cond-no_fault, not-false}
use Rattle.trdp_head.specs.Checks.{is_checked}

-- a factor that isn't 0 is dropped on both sides
cancelled : (x y p : ℕ) → 0 < p → x * p ≡ y * p → x ≡ y
cancelled x y p some same = sym (mul-div_cancel x some)
    ∙ ap (λ (n : ℕ). n / p) same ∙ mul-div_cancel y some

-- numbers of bytes that are the same but for one
be_apart : (front back : List ℕ) (x y : ℕ)
    → be (front ++ x ∷ back) ≡ be (front ++ y ∷ back) → x ≡ y
be_apart [] back x y same = cancelled x y (256 ^ length back)
    (one-le-pow (length back) 256 (omega arith)) (omega (arith, same))
be_apart (f ∷ front) back x y same =
    let lengths : length (front ++ x ∷ back) ≡ length (front ++ y ∷ back) =
    length-append front (x ∷ back) ∙ sym (length-append front (y ∷ back)) in
    let h = rw lengths at same in
    be_apart front back x y (omega (arith, h))

-- the same of the lowest byte first
le_apart : (front back : List ℕ) (x y : ℕ)
    → le (front ++ x ∷ back) ≡ le (front ++ y ∷ back) → x ≡ y
le_apart front back x y same =
    be_apart (reverse back) (reverse front) x y
    (sym (turned x) ∙ same ∙ turned y)
  where
    turned : (z : ℕ) → be (reverse (front ++ z ∷ back)) ≡ be (reverse back ++ z ∷ reverse front)
    turned z = ap be (reverse-append front (z ∷ back)
        ∙ ap (λ (xs : List ℕ). xs ++ reverse front) (reverse-append (z ∷ []) back)
        ∙ append_assoc (reverse back) (z ∷ []) (reverse front))

eqb_same : (a b : ℕ) → (a == b) ≡ true → a ≡ b
eqb_same a b is = eqb-true a b is

-- two lists whose headers differ in one byte don't both have the check that they store
pub checked_once : (offset : ℕ) (first second : List ℕ)
    → DifferInOneByte (take (offset + 4) first) (take (offset + 4) second)
    → is_checked offset first ≡ true → is_checked offset second ≡ true → ⊥
unfolding is_checked little_field
checked_once offset first second d one_checked other_checked =
    elim (cases_lt (length d.front) offset) [
      | inl before ↦ in_bytes before
      | inr behind ↦ in_check behind
    ]
  where
    -- the index of the byte
    n : ℕ
    n = length d.front

    -- the bytes of the check
    stored : List ℕ → List ℕ
    stored xs = take 4 (drop offset xs)

    -- each list stores the check of what comes before it
    one_stores : le (stored first) ≡ frame_check_of (take offset first)
    one_stores = eqb_same _ _ one_checked

    other_stores : le (stored second) ≡ frame_check_of (take offset second)
    other_stores = eqb_same _ _ other_checked

    -- the front of a list has all that is checked
    covered : (xs : List ℕ) → take offset (take (offset + 4) xs) ≡ take offset xs
    covered xs = take-take offset (offset + 4) xs (omega arith)

    kept : (xs : List ℕ) → drop offset (take (offset + 4) xs) ≡ stored xs
    kept xs = drop-take offset 4 xs

    -- a byte before the check: both store one number, and their checks differ
    in_bytes : n < offset → ⊥
    in_bytes before = one_byte_changes_check (take offset first) (take offset second)
        (record {
          front = d.front;
          back = take (offset - suc n) d.back;
          one = d.one;
          other = d.other;
          first_is = sym (covered first) ∙ ap (take offset) d.first_is ∙ cut d.one;
          second_is = sym (covered second) ∙ ap (take offset) d.second_is ∙ cut d.other;
          one_byte = d.one_byte;
          other_byte = d.other_byte;
          differ = d.differ;
        })
        (sym one_stores ∙ ap le same_stored ∙ other_stores)
      where
        cut : (x : ℕ) → take offset (d.front ++ x ∷ d.back)
            ≡ d.front ++ x ∷ take (offset - suc n) d.back
        cut x =
            let size : offset ≡ n + suc (offset - suc n) = omega (arith, before) in
            ap (λ (k : ℕ). take k (d.front ++ x ∷ d.back)) size
            ∙ take-append-add d.front (x ∷ d.back) (suc (offset - suc n))

        left : (x : ℕ) → drop offset (d.front ++ x ∷ d.back) ≡ drop (offset - suc n) d.back
        left x =
            let size : offset ≡ n + suc (offset - suc n) = omega (arith, before) in
            ap (λ (k : ℕ). drop k (d.front ++ x ∷ d.back)) size
            ∙ drop-append-add d.front (x ∷ d.back) (suc (offset - suc n))

        same_stored : stored first ≡ stored second
        same_stored =
            sym (kept first) ∙ ap (drop offset) d.first_is ∙ left d.one
            ∙ sym (left d.other) ∙ ap (drop offset) (sym d.second_is) ∙ kept second

    -- a byte of the check: what is checked is the same, and they store different numbers
    in_check : offset ≤ n → ⊥
    in_check behind =
        d.differ (le_apart (drop offset d.front) d.back d.one d.other
        (ap le (sym (tail d.one) ∙ ap (drop offset) (sym d.first_is) ∙ kept first)
        ∙ one_stores ∙ ap frame_check_of same_covered ∙ sym other_stores
        ∙ ap le (sym (kept second) ∙ ap (drop offset) d.second_is ∙ tail d.other)))
      where
        tail : (x : ℕ) → drop offset (d.front ++ x ∷ d.back) ≡ drop offset d.front ++ x ∷ d.back
        tail x = drop-append-le offset d.front (x ∷ d.back) behind

        same_covered : take offset first ≡ take offset second
        same_covered =
            sym (covered first) ∙ ap (take offset) d.first_is
            ∙ take-append-le offset d.front (d.one ∷ d.back) behind
            ∙ sym (take-append-le offset d.front (d.other ∷ d.back) behind)
            ∙ ap (take offset) (sym d.second_is) ∙ covered second

-- where neither of two is there, the first isn't
first_none : {X : Type 0} (a b : Option X) → option_or a b ≡ None → a ≡ None
first_none None b none = refl
first_none (Some x) b none = absurd (cc)

-- a header without a fault has the check that it stores
prefix_checked : (size longest : ℕ) (bytes : List ℕ)
    → prefix_fault_of size longest bytes ≡ None → is_checked (size - 4) bytes ≡ true
unfolding prefix_fault_of
prefix_checked size longest bytes none =
    let short = cond-no_fault (ltb (length bytes) size) Short _ none in
    let long = cond-no_fault (ltb longest (length bytes)) TooLong _ short.1 in
    let check = cond-no_fault (not (is_checked (size - 4) bytes)) Fcs _ long.1 in
    not-false (is_checked (size - 4) bytes) check.0

-- bytes without a fault have the check that they store
pub faultless_checked : (size longest : ℕ) (known : Bool) (bytes : List ℕ)
    → fault_of size longest known bytes ≡ None → is_checked (size - 4) bytes ≡ true
unfolding fault_of
faultless_checked size longest known bytes none =
    prefix_checked size longest bytes (first_none (prefix_fault_of size longest bytes) _ none)

-- of two headers of process data that differ in one byte at most one is that of a telegram
pub pd_found : (first second : List ℕ) → DifferInOneByte (take 40 first) (take 40 second)
    → pd_fault_of first ≡ None → pd_fault_of second ≢ None
unfolding pd_fault_of
pd_found first second d one other =
    checked_once 36 first second d
    (faultless_checked 40 1472 (is_some (pd_kind_of (field 6 2 first))) first one)
    (faultless_checked 40 1472 (is_some (pd_kind_of (field 6 2 second))) second other)

-- the same of message data
pub md_found : (first second : List ℕ) → DifferInOneByte (take 116 first) (take 116 second)
    → md_fault_of first ≡ None → md_fault_of second ≢ None
unfolding md_fault_of
md_found first second d one other =
    checked_once 112 first second d
    (faultless_checked 116 65504 (is_some (md_kind_of (field 6 2 first))) first one)
    (faultless_checked 116 65504 (is_some (md_kind_of (field 6 2 second))) second other)
