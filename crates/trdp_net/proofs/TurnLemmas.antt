-- What a turn of a history says was reported.
-- For `the_promises_are_not_empty`, by `ExampleRunLemmas`.
-- By induction on the history: a turn is the image of a move, which recorded what it reports.
use Rattle.std.proofs.Common.{◌≡◌, ℕ, zero, suc, List, [], ◌∷◌, ◌++◌, Option, None, Some, refl}
use Rattle.std.proofs.Common.{ap, sym, subst, inl, inr, slice_get}
use Rattle.std.specs.Prelude.{◌⊎◌}
use Rattle.trdp_model.specs.Records.{Content}
use Rattle.trdp_model.specs.Slots.{SlotState}
use Rattle.trdp_net.specs.Networks.{Move}
use Rattle.trdp_net.specs.Provenance.{In, Gives}
use Rattle.trdp_net.specs.Promises.{told_in}
use Rattle.trdp_net.specs.Example.{ToldAtMove, turn_of, turns_of, WasTold}

-- the item at a number is one of the list
pub get_in : {A : Type 0} (xs : List A) (i : ℕ) (x : A) → slice_get xs i ≡ Some x → In x xs
get_in [] i x is = absurd (cc is)
get_in (y ∷ xs) zero x is = let e : y ≡ x = cc in inl e
get_in (y ∷ xs) (suc i) x is = inr (get_in xs i x is)

-- an item of two lists is one of the first or of the second
in_append : {A : Type 0} (x : A) (xs ys : List A) → In x (xs ++ ys) → In x xs ⊎ In x ys
in_append x [] ys is = inr is
in_append x (y ∷ xs) ys (inl is) = inl (inl is)
in_append x (y ∷ xs) ys (inr is) =
    elim (in_append x xs ys is) [ inl first ↦ inl (inr first) | inr second ↦ inr second ]

-- what was reported at a move was recorded there
given : (m : Move) (found : Option SlotState) (told : List Content) (content : Content)
    → slice_get m.before.slots 0 ≡ found → told_in 0 m found ≡ told → In content told
    → Gives m.node 0 content m
given m None told content found_is told_is is =
    absurd (subst (λ all. In content all) (sym told_is) is)
given m (Some slot) told content found_is told_is is = record {
  node_is = refl;
  slot = slot;
  slot_is = found_is;
  given = subst (λ all. In content all) (sym told_is) is;
}

-- what a turn of the history reports was reported
pub was_told : (past : List Move) (turn : ToldAtMove) (content : Content)
    → In turn (turns_of past) → In content turn.told → WasTold turn.node 0 content past
was_told [] turn content is there = absurd is
was_told (m ∷ past) turn content is there =
    here (in_append turn (turns_of past) (turn_of m ∷ []) is)
    (λ before. was_told past turn content before there)
  where
    here : In turn (turns_of past) ⊎ In turn (turn_of m ∷ [])
        → (In turn (turns_of past) → WasTold turn.node 0 content past)
        → WasTold turn.node 0 content (m ∷ past)
    here (inl before) later = inr (later before)
    here (inr (inl now)) later =
        inl (subst (λ node. Gives node 0 content m) (ap (λ t. t.node) now)
        (given m (slice_get m.before.slots 0) turn.told content refl (ap (λ t. t.told) now) there))
    here (inr (inr none)) later = absurd none
