-- What a slot receives, and its records.
-- For what crates above write and report of an event.
-- By induction on the records: each of the slot is what it says, as a record of that slot.
use Rattle.std.proofs.Common.{◌≡◌, ℕ, true, false, List, [], ◌∷◌, inl, inr, refl, sym, ◌∙◌, ap}
use Rattle.std.specs.Prelude.{◌==◌}
use Rattle.std.proofs.lemmas.Bool.Decides.{eqb_tells}
use Rattle.trdp_model.specs.Records.{RecordModel, labelled, records_of}
use Rattle.trdp_outbox.specs.SlotOrder.{slots_own}

labelled_here : (s : ℕ) (r : RecordModel) (records : List RecordModel) (same : (r.slot == s) ≡ true)
    → r.slot ≡ s → labelled s (records_of s records) ≡ slots_own s records
    → labelled s (records_of s (r ∷ records)) ≡ slots_own s (r ∷ records)
labelled_here s r records same is rest =
    rw same (ap (λ m. let x : RecordModel = record { slot = m; content = r.content } in
    x ∷ labelled s (records_of s records)) (sym is) ∙ ap (λ l. r ∷ l) rest)

labelled_other : (s : ℕ) (r : RecordModel) (records : List RecordModel)
    (other : (r.slot == s) ≡ false) → labelled s (records_of s records) ≡ slots_own s records
    → labelled s (records_of s (r ∷ records)) ≡ slots_own s (r ∷ records)
labelled_other s r records other rest = rw other rest

-- the records of a slot, as records of that slot
pub own_labelled : (s : ℕ) (records : List RecordModel)
    → labelled s (records_of s records) ≡ slots_own s records
own_labelled s [] = refl
own_labelled s (r ∷ records) = elim (eqb_tells r.slot s) [
  | inl same ↦ labelled_here s r records same.0 same.1 (own_labelled s records)
  | inr other ↦ labelled_other s r records other.0 (own_labelled s records)
]
