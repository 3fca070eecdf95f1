-- The steps of a reader through records slot by slot.
-- For `Cursor::moved_to` and `Records::place_of`.
-- By: the record that comes next follows those that came, and is the first of those that are left.
use Rattle.std.proofs.Common.{◌≡◌, ℕ, ◌+◌, ◌≤◌, List, [], ◌∷◌, ◌++◌, length, ap, true, Bool}
use Rattle.std.proofs.Common.{◌∙◌, sym, arith, refl, append-nil}
use Rattle.std.specs.Prelude.{slice_get, None}
use Rattle.std.proofs.lemmas.Option.{slice_get_past}
use Rattle.trdp_model.specs.Records.{RecordModel}
use Rattle.trdp_outbox.specs.SlotOrder.{by_slot}
use Rattle.trdp_outbox.specs.SlotWalk.{IsNext, left_of}
use Rattle.trdp_outbox.proofs.SlotOrderLemmas.Walk.{all_left, walked_one}
use Rattle.trdp_node.specs.declared.cursor.Cursor.{Cursor}
use Rattle.trdp_node.specs.Reading.{IsReadTo}
use Rattle.trdp_node.proofs.RecordLemmas.{found_there, longer}

-- at first all are left
pub none_passed : (rs : List RecordModel) (rising : Bool) → (rising ≡ true → by_slot rs ≡ rs)
    → IsReadTo rs (record { passed = 0; rising = rising; slot = 0; at = 0 })
none_passed rs rising rises = record {
  first = [];
  count = refl;
  rest = sym (all_left rising rs rises);
}

-- one more record was passed
pub one_passed : (rs : List RecordModel) (c : Cursor) (passed slot at : ℕ) → IsReadTo rs c
    → IsNext at (left_of c.rising c.slot c.at rs) (left_of c.rising slot (at + 1) rs) rs
    → c.passed ≡ passed
    → IsReadTo rs (record { passed = passed + 1; rising = c.rising; slot = slot; at = at + 1 })
one_passed rs c passed slot at reads next is = record {
  first = reads.first ++ next.r ∷ [];
  count = longer reads.first next.r ∙ ap (λ n. n + 1) (reads.count ∙ is);
  rest = walked_one (by_slot rs) reads.first (left_of c.rising slot (at + 1) rs) next.r
      (reads.rest ∙ ap (λ l. reads.first ++ l) next.first);
}

-- the record that comes next has the index of how many come before it
pub shown_there : (rs left : List RecordModel) (c : Cursor) (index at : ℕ) → IsReadTo rs c
    → IsNext at (left_of c.rising c.slot c.at rs) left rs → c.passed ≡ index
    → slice_get rs at ≡ slice_get (by_slot rs) index
shown_there rs left c index at reads next is =
    next.here
    ∙ sym (ap (λ l. slice_get l index)
    (reads.rest ∙ ap (λ l. reads.first ++ l) next.first)
    ∙ ap (λ i. slice_get (reads.first ++ next.r ∷ left) i) (sym (reads.count ∙ is))
    ∙ found_there reads.first left next.r)

-- where none is left, a reader is past the last
pub none_there : (rs : List RecordModel) (c : Cursor) (index : ℕ) → IsReadTo rs c
    → left_of c.rising c.slot c.at rs ≡ [] → c.passed ≤ index
    → slice_get (by_slot rs) index ≡ None
none_there rs c index reads none few =
    let all : by_slot rs ≡ reads.first =
    reads.rest ∙ ap (λ l. reads.first ++ l) none ∙ append-nil reads.first in
    let count : length (by_slot rs) ≡ c.passed = ap length all ∙ reads.count in
    let past : length (by_slot rs) ≤ index = omega (arith, few, count) in
    slice_get_past (by_slot rs) index past

-- no record is past the last, in whichever order
pub past_both : (rs : List RecordModel) (n index : ℕ) → n ≡ length rs
    → slice_get (by_slot rs) index ≡ None → slice_get rs n ≡ slice_get (by_slot rs) index
past_both rs n index last none =
    let all : length rs ≤ n = omega (arith, last) in
    slice_get_past rs n all ∙ sym none
