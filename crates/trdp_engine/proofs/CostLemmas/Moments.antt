-- What a moment costs, in terms of the objects that are due.
-- For `fire_all` and `step_moment`.
-- By a loop's invariant: what was counted and what is left to count are within the bounds.
use Rattle.std.proofs.Common.{◌≡◌, ℕ, zero, suc, ◌+◌, ◌*◌, ◌^◌, ◌<◌, ◌≤◌, List, [], ◌∷◌, length}
use Rattle.std.proofs.Common.{filter, Bool, true, false, refl, ◌∙◌, ap, sym, subst, arith}
use Rattle.std.specs.List.{sum_by}
use Rattle.std.proofs.lemmas.List.Sums.{sum_by-cons}
use Rattle.std.proofs.lemmas.Nat.{mul-add-lt}
use Rattle.trdp_filter.specs.declared.globals.Globals.{Globals}
use Rattle.trdp_table.specs.Tables.{TableState, room_of}
use Rattle.trdp_store.specs.declared.counts.Counts.{Counts}
use Rattle.trdp_model.specs.Slots.{Entry, SlotState}
use Rattle.trdp_store.specs.TableSlots.{slots_of}
use Rattle.trdp_model.specs.Moments.{is_due, fires_before, inserted, in_order}
use Rattle.trdp_model.specs.NodeModels.{due_in}
use Rattle.trdp_engine.specs.Costs.{moment_bounds, IsWithin}
use Rattle.trdp_engine.proofs.MomentLemmas.AllFire.{due_left}

-- How many are due.

length-inserted : (e : Entry) (es : List Entry) → length (inserted e es) ≡ suc (length es)
length-inserted e [] = refl
length-inserted e (f ∷ es) = either (fires_before f e) refl (length-inserted e es)
  where
    either : (b : Bool) → fires_before f e ≡ b → length (inserted e es) ≡ suc (length es)
        → length (inserted e (f ∷ es)) ≡ suc (length (f ∷ es))
    either true is rest = rw is (ap suc rest)
    either false is rest = rw is refl

length-in_order : (es : List Entry) → length (in_order es) ≡ length es
length-in_order [] = refl
length-in_order (e ∷ es) = length-inserted e (in_order es) ∙ ap suc (length-in_order es)

pub all_left : (globals : Globals) (slots : List SlotState)
    → sum_by (λ (slot : SlotState). length (in_order (filter (is_due globals.now) slot.objects)))
    slots ≡ due_in globals.now slots
all_left globals [] = refl
all_left globals (x ∷ xs) =
    omega (
      arith,
      length-in_order (filter (is_due globals.now) x.objects),
      all_left globals xs,
      sum_by-cons
          (λ (slot : SlotState). length (in_order (filter (is_due globals.now) slot.objects))) x xs,
      sum_by-cons (λ (slot : SlotState). length (filter (is_due globals.now) slot.objects)) x xs,
    )

-- The cost of a moment that goes on.

-- what was counted, and what each object that is left may still cost, is within the bounds
pub record IsCounting (globals : Globals) (start : TableState)
    (first : Counts) (table : TableState) (counts : Counts) : Type 0 where
  pub room_is : room_of table ≡ room_of start
  pub comparisons : (b : ℕ) → room_of start < 2 ^ b → counts.comparisons + due_left globals table
      * (4 * b + 5) ≤ first.comparisons + (due_left globals start * (4 * b + 5) + 1)
  pub tests : counts.tests ≡ first.tests
  pub look_ups : counts.look_ups + due_left globals table ≤ first.look_ups + due_left globals start

more_first : (new old x : ℕ) → new ≤ old + 1 → new + x ≤ old + (x + 1)
more_first new old x le = omega (arith, le)

pub counting_first : (globals : Globals) (table : TableState) (first counts : Counts)
    → counts.comparisons ≤ first.comparisons + 1 → counts.tests ≡ first.tests
    → counts.look_ups ≡ first.look_ups → IsCounting globals table first table counts
counting_first globals table first counts comparisons tests look_ups = record {
  room_is = refl;
  comparisons = λ b lt. more_first counts.comparisons
      first.comparisons (due_left globals table * (4 * b + 5)) comparisons;
  tests = tests;
  look_ups = omega (arith, look_ups);
}

times_less : (n m k : ℕ) → n < m → n * suc k + suc k ≤ m * suc k
times_less n m k lt = let less = mul-add-lt n (suc k) k m lt (omega arith) in omega (arith, less)

five : (b : ℕ) → suc (4 * b + 4) ≡ 4 * b + 5
five b = omega arith

one_less : (n m b : ℕ) → n < m → n * (4 * b + 5) + (4 * b + 5) ≤ m * (4 * b + 5)
one_less n m b lt = subst (λ (k : ℕ). n * k + k ≤ m * k) (five b) (times_less n m (4 * b + 4) lt)

go_on : (now old first x y z b : ℕ) → now ≤ old + (4 * b + 5)
    → old + y ≤ first + (z + 1) → x + (4 * b + 5) ≤ y → now + x ≤ first + (z + 1)
go_on now old first x y z b le before fewer = omega (arith, le, before, fewer)

pub counting_on :
    (globals : Globals) (start table table_then : TableState) (first counts counts_then : Counts)
    → IsCounting globals start first table counts
    → room_of table_then ≡ room_of table → due_left globals table_then < due_left globals table
    → ((b : ℕ) → room_of table < 2 ^ b → counts_then.comparisons ≤ counts.comparisons + (4 * b + 5))
    → counts_then.tests ≡ counts.tests → counts_then.look_ups ≤ counts.look_ups + 1
    → IsCounting globals start first table_then counts_then
counting_on globals start table table_then first
    counts counts_then counting room fewer comparisons tests look_ups = record {
      room_is = room ∙ counting.room_is;
      comparisons = λ b lt.
          go_on counts_then.comparisons counts.comparisons
          first.comparisons (due_left globals table_then * (4 * b + 5))
          (due_left globals table * (4 * b + 5)) (due_left globals start * (4 * b + 5)) b
          (comparisons b (subst (λ (n : ℕ). n < 2 ^ b) (sym counting.room_is) lt))
          (counting.comparisons b lt)
          (one_less (due_left globals table_then) (due_left globals table) b fewer);
      tests = tests ∙ counting.tests;
      look_ups = omega (arith, counting.look_ups, fewer, look_ups);
    }

drop_left : (now x first z : ℕ) → now + x ≤ first + (z + 1) → now ≤ first + (z + 1)
drop_left now x first z le = omega (arith, le)

pub counted_comparisons : (globals : Globals) (start table : TableState) (first counts : Counts)
    → IsCounting globals start first table counts
    → (b : ℕ) → room_of start < 2 ^ b → counts.comparisons
    ≤ first.comparisons + (due_in globals.now (slots_of start) * (4 * b + 5) + 1)
counted_comparisons globals start table first counts counting b lt =
    subst (λ (n : ℕ). counts.comparisons ≤ first.comparisons + (n * (4 * b + 5) + 1))
    (all_left globals (slots_of start))
    (drop_left counts.comparisons (due_left globals table * (4 * b + 5)) first.comparisons
    (due_left globals start * (4 * b + 5)) (counting.comparisons b lt))

pub counted_look_ups : (globals : Globals) (start table : TableState) (first counts : Counts)
    → IsCounting globals start first table counts
    → counts.look_ups ≤ first.look_ups + due_in globals.now (slots_of start)
counted_look_ups globals start table first counts counting =
    let is : due_left globals start ≡ due_in globals.now (slots_of start) =
    all_left globals (slots_of start) in
    omega (arith, counting.look_ups, is)

-- The whole moment.

all_nine : (k b : ℕ) → k * (4 * b + 5) + 4 * k ≡ k * (4 * b + 9)
all_nine zero b = omega arith
all_nine (suc k) b = omega (arith, all_nine k b)

whole : (now first k z w : ℕ) → first ≤ 4 * k + 2
    → now ≤ first + (z + 1) → z + 4 * k ≡ w → now ≤ w + 3
whole now first k z w one two is = omega (arith, one, two, is)

pub moment_within : (b k : ℕ) (counts after : Counts)
    → counts.comparisons ≤ 4 * k + 2 → counts.tests ≡ 0 → counts.look_ups ≡ 0
    → after.comparisons ≤ counts.comparisons + (k * (4 * b + 5) + 1) → after.tests ≡ counts.tests
    → after.look_ups ≤ counts.look_ups + k → IsWithin after (moment_bounds b k)
moment_within b k counts after one tests look_ups two tests_then look_ups_then = record {
  comparisons = whole after.comparisons counts.comparisons
      k (k * (4 * b + 5)) (k * (4 * b + 9)) one two (all_nine k b);
  tests = omega (arith, tests, tests_then);
  look_ups = omega (arith, look_ups, look_ups_then);
}
