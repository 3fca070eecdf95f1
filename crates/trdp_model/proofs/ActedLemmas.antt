-- Objects that an act leaves as they are.
-- For crates above: a call at an object, and an object that takes a telegram.
-- By induction on the objects, whose handles rise.
use Rattle.std.proofs.Common.{◌≡◌, ℕ, ◌<◌, List, [], ◌∷◌, ◌++◌, Option, Some, Bool, true, false}
use Rattle.std.proofs.Common.{refl, ◌∙◌, ap, subst, arith}
use Rattle.std.specs.Prelude.{◌==◌}
use Rattle.std.proofs.lemmas.Bool.Decides.{nat_tests}
use Rattle.std.proofs.lemmas.Option.{same_Some}
use Rattle.std.proofs.lemmas.List.Concat.{flat_map-cons}
use Rattle.trdp_model.specs.declared.any_object.AnyObject.{AnyObject}
use Rattle.trdp_model.specs.Acts.{left_at, acted}
use Rattle.trdp_model.specs.Slots.{Entry, entry_under}
use Rattle.trdp_model.proofs.HandleLemmas.{AllAbove, IsRising}

-- no object has that handle
pub acted-above : (h : ℕ) (left : Option AnyObject) (objects : List Entry)
    → AllAbove h objects → acted h left objects ≡ objects
acted-above h left [] above = refl
acted-above h left (e ∷ es) above =
    let lt : h < e.handle = above.0 in
    let other : (e.handle == h) ≡ false = grind (arith, nat_tests) in
    flat_map-cons (left_at h left) e es
    ∙ rw other (ap (λ (xs : List Entry). e ∷ xs) (acted-above h left es above.1))

-- the object of that handle is left as it was
pub acted-same : (h : ℕ) (entry : Entry) (objects : List Entry) → IsRising objects
    → entry_under h objects ≡ Some entry → acted h (Some entry.object) objects ≡ objects
acted-same h entry [] rising found = refl
acted-same h entry (e ∷ es) rising found =
    flat_map-cons (left_at h (Some entry.object)) e es
    ∙ either (e.handle == h) refl found (acted-same h entry es rising.1)
  where
    either : (b : Bool) → (e.handle == h) ≡ b → entry_under h (e ∷ es) ≡ Some entry
        → (entry_under h es ≡ Some entry → acted h (Some entry.object) es ≡ es)
        → left_at h (Some entry.object) e ++ acted h (Some entry.object) es ≡ e ∷ es
    either true is found rest =
        let same : e ≡ entry = same_Some e entry (rw is at found) in
        let of : e.handle ≡ h = grind (arith, nat_tests) in
        let above : AllAbove h es = subst (λ (n : ℕ). AllAbove n es) of rising.0 in
        let kept : record e { object = entry.object } ≡ e = rw (← same) refl in
        rw (is, acted-above h (Some entry.object) es above) (ap (λ (x : Entry). x ∷ es) kept)
    either false is found rest = rw is (ap (λ (xs : List Entry). e ∷ xs) (rest (rw is at found)))
