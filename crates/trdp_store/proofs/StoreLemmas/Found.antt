-- What is found by handle among objects, as they are added, change and are removed.
-- For `ComLemmas.Kept`, `SessionLemmas.Kept`, and `OrderLemmas`.
-- By induction on the objects, whose handles rise.
use Rattle.std.proofs.Common.{◌≡◌, ◌≢◌, ℕ, ◌<◌, List, [], ◌∷◌, ◌++◌, map, filter, not, Some}
use Rattle.std.proofs.Common.{None, Bool, true, false, refl, ◌∙◌, sym, ap, subst, arith}
use Rattle.std.specs.Prelude.{◌==◌, option_map}
use Rattle.std.proofs.lemmas.Bool.Decides.{nat_tests}
use Rattle.std.proofs.lemmas.Option.{same_Some, none-some}
use Rattle.trdp_model.specs.declared.any_object.AnyObject.{AnyObject}
use Rattle.trdp_table.specs.Tables.{Keyed, TableState, slot_in, all_objects}
use Rattle.trdp_table.specs.Tables.{by_handle, by_key, other_by_handle}
use Rattle.trdp_table.specs.TableLaws.{AllBelow}
use Rattle.trdp_store.proofs.StoreLemmas.Slots.{KeysGive}

-- what holds of a number and of each other one holds of all
pub at_each : (P : ℕ → Type 0) (s : ℕ) → P s → ((t : ℕ) → t ≢ s → P t) → (t : ℕ) → P t
at_each P s here others t = either (t == s) refl
  where
    either : (b : Bool) → (t == s) ≡ b → P t
    either true is =
        let same : t ≡ s = grind (arith, nat_tests) in
        subst P (sym same) here
    either false is =
        let apart : t ≢ s = grind (arith, nat_tests) in
        others t apart

-- An object is added.

pub found_last : (n : ℕ) (es : List Keyed) (e : Keyed)
    → AllBelow n es → e.handle ≡ n → by_handle n (es ++ e ∷ []) ≡ Some e
found_last n [] e below is =
    let same : (e.handle == n) ≡ true = grind (arith, nat_tests) in
    rw same refl
found_last n (x ∷ es) e below is =
    let lt : x.handle < n = below.0 in
    let other : (x.handle == n) ≡ false = grind (arith, nat_tests) in
    rw other (found_last n es e below.1 is)

-- one that was there is still found
pub found_before : (h : ℕ) (es : List Keyed) (e keyed : Keyed)
    → by_handle h es ≡ Some keyed → by_handle h (es ++ e ∷ []) ≡ Some keyed
found_before h [] e keyed at = absurd (none-some keyed at)
found_before h (x ∷ es) e keyed at = either (x.handle == h) refl at (found_before h es e keyed)
  where
    either : (b : Bool) → (x.handle == h) ≡ b → by_handle h (x ∷ es) ≡ Some keyed
        → (by_handle h es ≡ Some keyed → by_handle h (es ++ e ∷ []) ≡ Some keyed)
        → by_handle h (x ∷ es ++ e ∷ []) ≡ Some keyed
    either true is at rest = rw is (rw is at at)
    either false is at rest = rw is (rest (rw is at at))

-- what is found was there, or was added
pub found_added : {P : Type 0} (h : ℕ) (es : List Keyed) (e keyed : Keyed)
    → by_handle h (es ++ e ∷ []) ≡ Some keyed
    → (by_handle h es ≡ Some keyed → P) → (e ≡ keyed → P) → P
found_added {P} h [] e keyed at old new = either (e.handle == h) refl at
  where
    either : (b : Bool) → (e.handle == h) ≡ b → by_handle h (e ∷ []) ≡ Some keyed → P
    either true is at = new (same_Some e keyed (rw is at at))
    either false is at = absurd (none-some keyed (rw is at at))
found_added {P} h (x ∷ es) e keyed at old new =
    either (x.handle == h) refl at old (λ there then. found_added h es e keyed there then new)
  where
    either : (b : Bool) → (x.handle == h) ≡ b
        → by_handle h (x ∷ es ++ e ∷ []) ≡ Some keyed → (by_handle h (x ∷ es) ≡ Some keyed → P)
        → (by_handle h (es ++ e ∷ []) ≡ Some keyed → (by_handle h es ≡ Some keyed → P) → P) → P
    either true is at old rest = old (rw is (rw is at at))
    either false is at old rest = rest (rw is at at) (λ there. old (rw is there))

-- An object is removed.

pub found_without : (h g : ℕ) (es : List Keyed)
    → g ≢ h → by_handle g (filter (λ keyed. not (keyed.handle == h)) es) ≡ by_handle g es
found_without h g [] apart = refl
found_without h g (e ∷ es) apart =
    either (e.handle == h) refl (e.handle == g) refl (found_without h g es apart)
  where
    either : (b : Bool) → (e.handle == h) ≡ b → (c : Bool) → (e.handle == g) ≡ c
        → by_handle g (filter (λ keyed. not (keyed.handle == h)) es) ≡ by_handle g es
        → by_handle g (filter (λ keyed. not (keyed.handle == h)) (e ∷ es)) ≡ by_handle g (e ∷ es)
    either true is true its rest =
        let same : g ≡ h = grind (arith, nat_tests) in
        absurd (apart same)
    either true is false its rest = rw (is, its) rest
    either false is true its rest = rw (is, its) refl
    either false is false its rest = rw (is, its) rest

pub none_without : (h : ℕ) (es : List Keyed)
    → by_handle h (filter (λ keyed. not (keyed.handle == h)) es) ≡ None
none_without h [] = refl
none_without h (e ∷ es) = either (e.handle == h) refl (none_without h es)
  where
    either : (b : Bool) → (e.handle == h) ≡ b
        → by_handle h (filter (λ keyed. not (keyed.handle == h)) es) ≡ None
        → by_handle h (filter (λ keyed. not (keyed.handle == h)) (e ∷ es)) ≡ None
    either true is rest = rw is rest
    either false is rest = rw is (rw is rest)

-- An object becomes another one.

pub found_other : (h g : ℕ) (w : AnyObject) (es : List Keyed)
    → by_handle g (map (other_by_handle h w) es) ≡ option_map (other_by_handle h w) (by_handle g es)
found_other h g w [] = refl
found_other h g w (e ∷ es) = either (e.handle == h) refl (e.handle == g) refl (found_other h g w es)
  where
    either : (b : Bool) → (e.handle == h) ≡ b
        → (c : Bool) → (e.handle == g) ≡ c → by_handle g (map (other_by_handle h w) es)
        ≡ option_map (other_by_handle h w) (by_handle g es)
        → by_handle g (map (other_by_handle h w) (e ∷ es))
        ≡ option_map (other_by_handle h w) (by_handle g (e ∷ es))
    either true is true its rest = rw (is, its) (rw is refl)
    either true is false its rest = rw (is, its) rest
    either false is true its rest = rw (is, its) (rw is refl)
    either false is false its rest = rw (is, its) rest

-- no two objects have one key
abbrev pub AreAlone : List Keyed → Type 0
AreAlone es = (g h : ℕ) (a b : Keyed) → by_handle g es ≡ Some a
    → by_handle h es ≡ Some b → a.key ≡ b.key → a ≡ b

pub are_alone : (table : TableState) (s : ℕ) → KeysGive table → AreAlone (slot_in s table).objects
are_alone table s gives g h a b at_a at_b same =
    same_Some a b (sym (gives s g a at_a)
    ∙ (ap (λ (k : ℕ). by_key k (all_objects table)) same ∙ gives s h b at_b))
