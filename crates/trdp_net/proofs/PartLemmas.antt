-- What holds of each item of a list, and tests.
-- For all modules here: each, an item of, one of two lists, and of two tests.
-- By induction on the list, or by cases on the test.
use Rattle.std.proofs.Common.{◌≡◌, ℕ, zero, suc, List, [], ◌∷◌, ◌++◌, Some}
use Rattle.std.proofs.Common.{Bool, true, false, ◌&&◌, refl, ap, sym, subst, inl, inr}
use Rattle.std.proofs.Common.{slice_get, filter}
use Rattle.std.specs.Prelude.{slice_set, ◌⊎◌, cond}
use Rattle.std.specs.List.{flat_map}
use Rattle.trdp_net.specs.Networks.{Move}
use Rattle.trdp_net.specs.Provenance.{Each, Ever, In}

-- of two lists, one after the other
pub each_append : {A : Type 0} (P : A → Type 0) (xs ys : List A)
    → Each P xs → Each P ys → Each P (xs ++ ys)
each_append P [] ys h k = k
each_append P (x ∷ xs) ys h k = (h.0, each_append P xs ys h.1 k)

-- what follows of each item
pub each_map : {A : Type 0} (P Q : A → Type 0) (xs : List A)
    → ((x : A) → P x → Q x) → Each P xs → Each Q xs
each_map P Q [] f h = tt
each_map P Q (x ∷ xs) f h = (f x h.0, each_map P Q xs f h.1)

-- of the item at a number
pub each_get : {A : Type 0} (P : A → Type 0) (xs : List A) (i : ℕ) (x : A)
    → Each P xs → slice_get xs i ≡ Some x → P x
each_get P [] i x h is = absurd (cc)
each_get P (y ∷ xs) zero x h is = let e : y ≡ x = cc in subst P e h.0
each_get P (y ∷ xs) (suc i) x h is = each_get P xs i x h.1 is

-- of an item of the list
pub each_in : {A : Type 0} (P : A → Type 0) (xs : List A) (x : A) → Each P xs → In x xs → P x
each_in P [] x h is = absurd is
each_in P (y ∷ xs) x h (inl e) = subst P e h.0
each_in P (y ∷ xs) x h (inr is) = each_in P xs x h.1 is

-- of each, where it holds of any item of the list
pub in_each : {A : Type 0} (P : A → Type 0) (xs : List A) → ((x : A) → In x xs → P x) → Each P xs
in_each P [] f = tt
in_each P (x ∷ xs) f = (f x (inl refl), in_each P xs (λ y is. f y (inr is)))

-- an item of the first of two lists
pub in_left : {A : Type 0} (x : A) (xs ys : List A) → In x xs → In x (xs ++ ys)
in_left x [] ys is = absurd is
in_left x (y ∷ xs) ys (inl e) = inl e
in_left x (y ∷ xs) ys (inr is) = inr (in_left x xs ys is)

-- an item of the second of two lists
pub in_right : {A : Type 0} (x : A) (xs ys : List A) → In x ys → In x (xs ++ ys)
in_right x [] ys is = is
in_right x (y ∷ xs) ys is = inr (in_right x xs ys is)

-- an item of what one item gives
pub in_flat_map : {A B : Type 0} (f : A → List B) (xs : List A) (x : A) (y : B)
    → In x xs → In y (f x) → In y (flat_map f xs)
in_flat_map f [] x y is there = absurd is
in_flat_map f (z ∷ xs) x y (inl e) there =
    in_left y (f z) (flat_map f xs) (subst (λ w. In y (f w)) (sym e) there)
in_flat_map f (z ∷ xs) x y (inr is) there =
    in_right y (f z) (flat_map f xs) (in_flat_map f xs x y is there)

-- of each item of what each item yields
pub each_flat_map : {A B : Type 0} (P : B → Type 0) (f : A → List B) (xs : List A)
    → ((x : A) → In x xs → Each P (f x)) → Each P (flat_map f xs)
each_flat_map P f [] all = tt
each_flat_map P f (x ∷ xs) all =
    each_append P (f x) (flat_map f xs) (all x (inl refl))
    (each_flat_map P f xs (λ y is. all y (inr is)))

-- an item that passes is among those that pass
pub in_filter : {A : Type 0} (test : A → Bool) (xs : List A) (x : A)
    → In x xs → test x ≡ true → In x (filter test xs)
in_filter test [] x is passes = absurd is
in_filter test (y ∷ xs) x (inl e) passes = here (test y) refl
  where
    here : (b : Bool) → test y ≡ b → In x (cond b (y ∷ filter test xs) (filter test xs))
    here true is = inl e
    here false is =
        let no : test x ≡ false = subst (λ w. test w ≡ false) e is in absurd (cc)
in_filter test (y ∷ xs) x (inr is) passes = here (test y) (in_filter test xs x is passes)
  where
    here : (b : Bool) → In x (filter test xs)
        → In x (cond b (y ∷ filter test xs) (filter test xs))
    here true rest = inr rest
    here false rest = rest

-- what passes is an item
pub filter_in : {A : Type 0} (test : A → Bool) (xs : List A) (x : A)
    → In x (filter test xs) → In x xs
filter_in test [] x is = absurd is
filter_in test (y ∷ xs) x is = here (test y) is (λ later. filter_in test xs x later)
  where
    here : (b : Bool) → In x (cond b (y ∷ filter test xs) (filter test xs))
        → (In x (filter test xs) → In x xs) → In x (y ∷ xs)
    here true (inl e) later = inl e
    here true (inr is) later = inr (later is)
    here false is later = inr (later is)

-- of two tests that both pass, the first
pub and_left : (a b : Bool) → (a && b) ≡ true → a ≡ true
and_left true b h = refl
and_left false b h = absurd (cc)

-- and the second
pub and_right : (a b : Bool) → (a && b) ≡ true → b ≡ true
and_right true b h = h
and_right false b h = absurd (cc)

-- what is set at k is found there, and the others as before
pub set_get : {A : Type 0} (xs : List A) (k : ℕ) (y : A) (j : ℕ) (x : A)
    → slice_get (slice_set xs k y) j ≡ Some x
    → ((j ≡ k) × (y ≡ x)) ⊎ (slice_get xs j ≡ Some x)
set_get [] k y j x h = absurd (cc)
set_get (z ∷ xs) zero y zero x h = inl (refl, cc)
set_get (z ∷ xs) zero y (suc j) x h = inr h
set_get (z ∷ xs) (suc k) y zero x h = inr h
set_get (z ∷ xs) (suc k) y (suc j) x h =
    elim (set_get xs k y j x h) [ inl e ↦ inl (ap suc e.0, e.1) | inr e ↦ inr e ]

-- what held once, of what follows of it
pub ever_map : (P Q : Move → List Move → Type 0)
    → ((m : Move) (past : List Move) → P m past → Q m past) → (h : List Move) → Ever P h → Ever Q h
ever_map P Q f [] e = absurd e
ever_map P Q f (m ∷ past) (inl p) = inl (f m past p)
ever_map P Q f (m ∷ past) (inr e) = inr (ever_map P Q f past e)

-- an item of two lists is one of the first or of the second
pub get_append : {A : Type 0} (xs ys : List A) (j : ℕ) (x : A)
    → slice_get (xs ++ ys) j ≡ Some x → (slice_get xs j ≡ Some x) ⊎ In x ys
get_append [] ys j x h = inr (get_in ys j x h)
  where
    get_in : {A : Type 0} (ys : List A) (j : ℕ) (x : A) → slice_get ys j ≡ Some x → In x ys
    get_in [] j x h = absurd (cc)
    get_in (y ∷ ys) zero x h = inl (cc h)
    get_in (y ∷ ys) (suc j) x h = inr (get_in ys j x h)
get_append (z ∷ xs) ys zero x h = inl h
get_append (z ∷ xs) ys (suc j) x h = get_append xs ys j x h
