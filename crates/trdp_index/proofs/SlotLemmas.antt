-- The rows but those of a slot.
-- For `remove_slot` of both indexes, and for the store above, whose slots lose all objects at once.
-- By induction on the rows: each is of the slot and goes, or it stays.
use Rattle.std.proofs.Common.{◌≡◌, ℕ, List, [], ◌∷◌, None, Bool, true, false}
use Rattle.std.proofs.Common.{not, refl, ◌∙◌, sym, ap, arith}
use Rattle.std.specs.Prelude.{◌==◌, if◌then◌else◌}
use Rattle.std.proofs.lemmas.Bool.{false≢true}
use Rattle.std.proofs.lemmas.Bool.Decides.{nat_tests}
use Rattle.trdp_index.specs.declared.rank.Rank.{Rank}
use Rattle.trdp_index.specs.Ranks.{is_same}
use Rattle.trdp_index.specs.Kept.{AreKept}
use Rattle.trdp_index.specs.Rows.{row_of, without_rank, without_slot}
use Rattle.trdp_index.proofs.RowLemmas.{length-filter_le, IsRising-filter}

pub same_slot : (a b : Rank) → is_same a b ≡ true → a.slot ≡ b.slot
unfolding is_same
same_slot a b same = grind (arith, nat_tests)

module _ {Row : Type 0} (rank_of : Row → Rank) (slot : ℕ) where
  -- the row of a rank is the same as before, or the rank is of the slot
  pub row_of-without_slot : (rank : Rank) (rows : List Row)
      → row_of rank_of rank (without_slot rank_of slot rows)
      ≡ (if rank.slot == slot then None else row_of rank_of rank rows)
  row_of-without_slot rank [] = either (rank.slot == slot) refl
    where
      either : (c : Bool) → (rank.slot == slot) ≡ c → row_of rank_of rank (without_slot rank_of
          slot []) ≡ (if rank.slot == slot then None else row_of rank_of rank [])
      either true of = rw of refl
      either false of = rw of refl
  row_of-without_slot rank (row ∷ rows) =
      either ((rank_of row).slot == slot) refl (is_same (rank_of row) rank) refl
      (rank.slot == slot) refl (row_of-without_slot rank rows)
    where
      either : (b : Bool) → ((rank_of row).slot == slot) ≡ b
          → (q : Bool) → is_same (rank_of row) rank ≡ q
          → (c : Bool) → (rank.slot == slot) ≡ c
          → row_of rank_of rank (without_slot rank_of slot rows)
          ≡ (if rank.slot == slot then None else row_of rank_of rank rows)
          → row_of rank_of rank (without_slot rank_of slot (row ∷ rows))
          ≡ (if rank.slot == slot then None else row_of rank_of rank (row ∷ rows))
      either true is true its true of rest = rw (is, of) (rw of at rest)
      either true is true its false of rest =
          let one : (rank_of row).slot ≡ rank.slot = same_slot (rank_of row) rank its in
          absurd (false≢true (rw (← of, ← one) is))
      either true is false its c of rest = rw (is, its) rest
      either false is true its true of rest =
          let one : (rank_of row).slot ≡ rank.slot = same_slot (rank_of row) rank its in
          absurd (false≢true (rw (← is, one) of))
      either false is true its false of rest = rw (is, its, of) refl
      either false is false its c of rest = rw (is, its) rest

  pub IsKept-without_slot : (rows : List Row) (room capacity : ℕ)
      → AreKept rank_of rows room capacity
      → AreKept rank_of (without_slot rank_of slot rows) room capacity
  IsKept-without_slot rows room capacity kept = record {
    rising = IsRising-filter rank_of (λ row. not ((rank_of row).slot == slot)) rows kept.rising;
    within = let fewer = length-filter_le (λ row. not ((rank_of row).slot == slot)) rows in
        omega (arith, fewer, kept.within);
    reserved = kept.reserved;
  }

  -- a row of the slot may as well go before
  pub without_slot-after : (rank : Rank) (rows : List Row) → rank.slot ≡ slot
      → without_slot rank_of slot (without_rank rank_of rank rows) ≡ without_slot rank_of slot rows
  without_slot-after rank [] of = refl
  without_slot-after rank (row ∷ rows) of =
      either (is_same (rank_of row) rank) refl ((rank_of row).slot == slot) refl
      (without_slot-after rank rows of)
    where
      either : (q : Bool) → is_same (rank_of row) rank ≡ q
          → (b : Bool) → ((rank_of row).slot == slot) ≡ b
          → without_slot rank_of slot (without_rank rank_of rank rows)
          ≡ without_slot rank_of slot rows
          → without_slot rank_of slot (without_rank rank_of rank (row ∷ rows))
          ≡ without_slot rank_of slot (row ∷ rows)
      either true its true is rest = rw (its, is) rest
      either true its false is rest =
          let one : (rank_of row).slot ≡ rank.slot = same_slot (rank_of row) rank its in
          let here : ((rank_of row).slot == slot) ≡ true = grind (arith, nat_tests) in
          absurd (false≢true (sym is ∙ here))
      either false its true is rest = rw (its, is) rest
      either false its false is rest =
          rw (its, is) (ap (λ (l : List Row). row ∷ l) rest)
