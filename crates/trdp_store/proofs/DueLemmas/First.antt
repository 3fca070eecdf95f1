-- The object that fires first, and what is left to fire.
-- For `DueLemmas.Next`, and for what the node above does at a moment.
-- By induction on the objects in the order in which they fire.
use Rattle.std.proofs.Common.{◌≡◌, ◌≢◌, ℕ, ◌+◌, List, [], ◌∷◌, ◌++◌, filter, Some}
use Rattle.std.proofs.Common.{Bool, true, false, refl, ◌∙◌, sym, ap, subst, arith}
use Rattle.std.specs.Prelude.{◌==◌, option_map, slice_get}
use Rattle.std.specs.List.{sum_by}
use Rattle.std.proofs.lemmas.List.Sums.{sum_by-cons}
use Rattle.std.proofs.lemmas.Bool.Decides.{nat_tests}
use Rattle.std.proofs.lemmas.Option.{same_Some, none-some}
use Rattle.std.proofs.lemmas.List.Elements.{filter-append}
use Rattle.trdp_model.specs.Slots.{Entry, entry_under}
use Rattle.trdp_model.proofs.HandleLemmas.{AllAbove, IsRising}
use Rattle.trdp_model.specs.Moments.{is_due, fires_before, inserted, in_order}
use Rattle.trdp_store.specs.Firing.{FiresBeforeAll, FiresFirst, FiresNext}

-- each of these that is due, and has another handle, fires after it
abbrev pub AllCome : ℕ → Entry → List Entry → Type 0
AllCome t e [] = Unit {0}
AllCome t e (x ∷ xs) =
    (is_due t x ≡ true → x.handle ≢ e.handle → fires_before e x ≡ true) × AllCome t e xs

-- none of these has the handle
abbrev AllOthers : ℕ → List Entry → Type 0
AllOthers h [] = Unit {0}
AllOthers h (x ∷ xs) = (x.handle ≢ h) × AllOthers h xs

above_others : (h : ℕ) (xs : List Entry) → AllAbove h xs → AllOthers h xs
above_others h [] above = tt
above_others h (x ∷ xs) above =
    (λ same. absurd (omega (arith, same, above.0)), above_others h xs above.1)

AllAfter-cons : (t : ℕ) (x y : Entry) (ys : List Entry) (b : Bool)
    → is_due t y ≡ b → (b ≡ true → fires_before x y ≡ true)
    → FiresBeforeAll x (filter (is_due t) ys) → FiresBeforeAll x (filter (is_due t) (y ∷ ys))
AllAfter-cons t x y ys true is head rest = rw is (head refl, rest)
AllAfter-cons t x y ys false is head rest = rw is rest

all_after : (t : ℕ) (e : Entry) (xs : List Entry)
    → AllCome t e xs → AllOthers e.handle xs → FiresBeforeAll e (filter (is_due t) xs)
all_after t e [] come others = tt
all_after t e (x ∷ xs) come others =
    AllAfter-cons t e x xs (is_due t x) refl (λ due. come.0 due others.0)
    (all_after t e xs come.1 others.1)

-- it fires first of all that are due
pub fires_first : (t : ℕ) (e : Entry) (xs : List Entry) → IsRising xs
    → AllCome t e xs → entry_under e.handle xs ≡ Some e → is_due t e ≡ true → FiresFirst t xs e
fires_first t e [] rising come found due = absurd (none-some e found)
fires_first t e (x ∷ xs) rising come found due =
    either (x.handle == e.handle) refl found (λ later. fires_first t e xs rising.1 come.1 later due)
  where
    either : (b : Bool) → (x.handle == e.handle) ≡ b → entry_under e.handle (x ∷ xs) ≡ Some e
        → (entry_under e.handle xs ≡ Some e → FiresFirst t xs e) → FiresFirst t (x ∷ xs) e
    either true is found rest =
        let same : x ≡ e = same_Some x e (rw is at found) in
        let above : AllAbove e.handle xs =
        subst (λ (y : Entry). AllAbove y.handle xs) same rising.0 in
        record {
          before = [];
          after = xs;
          split = ap (λ (y : Entry). y ∷ xs) same;
          due = due;
          first_before = tt;
          first_after = all_after t e xs come.1 (above_others e.handle xs above);
        }
    either false is found rest =
        let f = rest (rw is at found) in
        let apart : x.handle ≢ e.handle = grind (arith, nat_tests) in
        record {
          before = x ∷ f.before;
          after = f.after;
          split = ap (λ (es : List Entry). x ∷ es) f.split;
          due = due;
          first_before = AllAfter-cons t e x f.before
              (is_due t x) refl (λ yes. come.0 yes apart) f.first_before;
          first_after = f.first_after;
        }

not_after : (x y : Entry) → fires_before x y ≡ true → fires_before y x ≡ false
not_after x y is = grind (arith, nat_tests)

AllAfter-inserted : (x y : Entry) (ys : List Entry)
    → fires_before x y ≡ true → FiresBeforeAll x ys → FiresBeforeAll x (inserted y ys)
AllAfter-inserted x y [] is all = (is, tt)
AllAfter-inserted x y (z ∷ zs) is all =
    either x y z zs (fires_before z y) refl is all (AllAfter-inserted x y zs is all.1)
  where
    either : (x y z : Entry) (zs : List Entry) (b : Bool) → fires_before z y ≡ b
        → fires_before x y ≡ true
        → FiresBeforeAll x (z ∷ zs) → FiresBeforeAll x (inserted y zs)
        → FiresBeforeAll x (inserted y (z ∷ zs))
    either x y z zs true way is all rest = rw way (all.0, rest)
    either x y z zs false way is all rest = rw way (is, all)

AllAfter-in_order : (x : Entry) (ys : List Entry) → FiresBeforeAll x ys
    → FiresBeforeAll x (in_order ys)
AllAfter-in_order x [] all = tt
AllAfter-in_order x (y ∷ ys) all =
    AllAfter-inserted x y (in_order ys) all.0 (AllAfter-in_order x ys all.1)

inserted_first : (x : Entry) (ys : List Entry) → FiresBeforeAll x ys → inserted x ys ≡ x ∷ ys
inserted_first x [] all = refl
inserted_first x (y ∷ ys) all = rw (not_after x y all.0) refl

in_order-first : (x : Entry) (before after : List Entry) → FiresBeforeAll x before
    → FiresBeforeAll x after → in_order (before ++ x ∷ after) ≡ x ∷ in_order (before ++ after)
in_order-first x [] after all all' =
    inserted_first x (in_order after) (AllAfter-in_order x after all')
in_order-first x (y ∷ before) after all all' =
    rw (in_order-first x before after all.1 all', all.0) refl

filter-in : (t : ℕ) (x : Entry) (before after : List Entry)
    → is_due t x ≡ true → filter (is_due t) (before ++ x ∷ after)
    ≡ filter (is_due t) before ++ x ∷ filter (is_due t) after
filter-in t x before after is = filter-append (is_due t) before (x ∷ after) ∙ rw is refl

-- the first of all in order
pub first_in_order : (t : ℕ) (objects : List Entry) (entry : Entry) (f : FiresFirst t objects entry)
    → in_order (filter (is_due t) objects) ≡ entry
    ∷ in_order (filter (is_due t) f.before ++ filter (is_due t) f.after)
first_in_order t objects entry f =
    ap (λ (es : List Entry). in_order (filter (is_due t) es)) f.split
    ∙ (ap in_order (filter-in t entry f.before f.after f.due)
    ∙ in_order-first entry (filter (is_due t) f.before)
    (filter (is_due t) f.after) f.first_before f.first_after)

-- it comes next
pub comes_next : (t : ℕ) (objects : List Entry) (entry : Entry)
    → FiresFirst t objects entry → FiresNext t objects entry.handle
comes_next t objects entry f =
    ap (λ (es : List Entry). option_map (λ e. e.handle) (slice_get es 0))
    (sym (first_in_order t objects entry f))

-- Some of the objects in order are those objects in order.

-- it fires after none of these
abbrev NoneBefore : Entry → List Entry → Type 0
NoneBefore x [] = Unit {0}
NoneBefore x (y ∷ ys) = (fires_before y x ≡ false) × NoneBefore x ys

-- each of these fires after none of those that follow it
abbrev AreOrdered : List Entry → Type 0
AreOrdered [] = Unit {0}
AreOrdered (x ∷ xs) = NoneBefore x xs × AreOrdered xs

none_before-trans : (x y z : Entry) → fires_before y x ≡ false
    → fires_before z y ≡ false → fires_before z x ≡ false
none_before-trans x y z one two = grind (arith, nat_tests)

NoneBefore-trans : (x y : Entry) (zs : List Entry)
    → fires_before y x ≡ false → NoneBefore y zs → NoneBefore x zs
NoneBefore-trans x y [] one all = tt
NoneBefore-trans x y (z ∷ zs) one all =
    (none_before-trans x y z one all.0, NoneBefore-trans x y zs one all.1)

NoneBefore-inserted : (x y : Entry) (zs : List Entry)
    → fires_before y x ≡ false → NoneBefore x zs → NoneBefore x (inserted y zs)
NoneBefore-inserted x y [] one all = (one, tt)
NoneBefore-inserted x y (z ∷ zs) one all =
    either (fires_before z y) refl (NoneBefore-inserted x y zs one all.1)
  where
    either : (b : Bool) → fires_before z y ≡ b → NoneBefore x (inserted y zs)
        → NoneBefore x (inserted y (z ∷ zs))
    either true way rest = rw way (all.0, rest)
    either false way rest = rw way (one, all)

AreOrdered-inserted : (x : Entry) (ys : List Entry) → AreOrdered ys → AreOrdered (inserted x ys)
AreOrdered-inserted x [] ordered = (tt, tt)
AreOrdered-inserted x (y ∷ ys) ordered =
    either (fires_before y x) refl (AreOrdered-inserted x ys ordered.1)
  where
    either : (b : Bool) → fires_before y x ≡ b → AreOrdered (inserted x ys)
        → AreOrdered (inserted x (y ∷ ys))
    either true way rest = rw way (NoneBefore-inserted y x ys (not_after y x way) ordered.0, rest)
    either false way rest = rw way ((way, NoneBefore-trans x y ys way ordered.0), ordered)

AreOrdered-in_order : (xs : List Entry) → AreOrdered (in_order xs)
AreOrdered-in_order [] = tt
AreOrdered-in_order (x ∷ xs) = AreOrdered-inserted x (in_order xs) (AreOrdered-in_order xs)

NoneBefore-filter : (q : Entry → Bool) (x : Entry) (ys : List Entry)
    → NoneBefore x ys → NoneBefore x (filter q ys)
NoneBefore-filter q x [] all = tt
NoneBefore-filter q x (y ∷ ys) all = either (q y) refl (NoneBefore-filter q x ys all.1)
  where
    either : (b : Bool) → q y ≡ b → NoneBefore x (filter q ys) → NoneBefore x (filter q (y ∷ ys))
    either true is rest = rw is (all.0, rest)
    either false is rest = rw is rest

inserted_in_front : (x : Entry) (ys : List Entry) → NoneBefore x ys → inserted x ys ≡ x ∷ ys
inserted_in_front x [] all = refl
inserted_in_front x (y ∷ ys) all = rw all.0 refl

filter-yes : (q : Entry → Bool) (x : Entry) (xs : List Entry)
    → q x ≡ true → filter q (x ∷ xs) ≡ x ∷ filter q xs
filter-yes q x xs is = rw is refl

filter-no : (q : Entry → Bool) (x : Entry) (xs : List Entry)
    → q x ≡ false → filter q (x ∷ xs) ≡ filter q xs
filter-no q x xs is = rw is refl

-- what the test doesn't pass might as well not have been inserted
inserted_out : (q : Entry → Bool) (x : Entry) (ys : List Entry)
    → q x ≡ false → filter q (inserted x ys) ≡ filter q ys
inserted_out q x [] is = rw is refl
inserted_out q x (y ∷ ys) is = either (fires_before y x) refl (q y) refl (inserted_out q x ys is)
  where
    either : (b : Bool) → fires_before y x ≡ b → (c : Bool) → q y ≡ c → filter q (inserted x ys)
        ≡ filter q ys → filter q (inserted x (y ∷ ys)) ≡ filter q (y ∷ ys)
    either true way true of rest = rw (way, of, rest) refl
    either true way false of rest = rw (way, of) rest
    either false way c of rest = rw way (filter-no q x (y ∷ ys) is)

-- what the test passes may be inserted afterwards
inserted_in : (q : Entry → Bool) (x : Entry) (ys : List Entry)
    → q x ≡ true → AreOrdered ys → filter q (inserted x ys) ≡ inserted x (filter q ys)
inserted_in q x [] is ordered = rw is refl
inserted_in q x (y ∷ ys) is ordered =
    either (fires_before y x) refl (q y) refl (inserted_in q x ys is ordered.1)
  where
    either : (b : Bool) → fires_before y x ≡ b → (c : Bool) → q y ≡ c → filter q (inserted x ys)
        ≡ inserted x (filter q ys) → filter q (inserted x (y ∷ ys)) ≡ inserted x (filter q (y ∷ ys))
    either true way true of rest = rw (way, of) (rw way (ap (λ (es : List Entry). y ∷ es) rest))
    either true way false of rest = rw (way, of) rest
    either false way c of rest =
        let all : NoneBefore x (y ∷ ys) = (way, NoneBefore-trans x y ys way ordered.0) in
        rw way (filter-yes q x (y ∷ ys) is
        ∙ sym (inserted_in_front x (filter q (y ∷ ys)) (NoneBefore-filter q x (y ∷ ys) all)))

pub in_order-filter : (q : Entry → Bool) (xs : List Entry)
    → in_order (filter q xs) ≡ filter q (in_order xs)
in_order-filter q [] = refl
in_order-filter q (x ∷ xs) = either (q x) refl (in_order-filter q xs)
  where
    either : (b : Bool) → q x ≡ b → in_order (filter q xs) ≡ filter q (in_order xs)
        → in_order (filter q (x ∷ xs)) ≡ filter q (in_order (x ∷ xs))
    either true is rest =
        ap in_order (filter-yes q x xs is)
        ∙ (ap (inserted x) rest ∙ sym (inserted_in q x (in_order xs) is (AreOrdered-in_order xs)))
    either false is rest = ap in_order (filter-no q x xs is)
        ∙ (rest ∙ sym (inserted_out q x (in_order xs) is))

-- A sum over objects in order is the sum over them.

sum-inserted : (f : Entry → ℕ) (x : Entry) (ys : List Entry)
    → sum_by f (inserted x ys) ≡ f x + sum_by f ys
sum-inserted f x [] = sum_by-cons f x []
sum-inserted f x (y ∷ ys) = either (fires_before y x) refl (sum-inserted f x ys)
  where
    either : (b : Bool) → fires_before y x ≡ b → sum_by f (inserted x ys) ≡ f x + sum_by f ys
        → sum_by f (inserted x (y ∷ ys)) ≡ f x + sum_by f (y ∷ ys)
    either true way rest =
        rw way (omega (arith, rest, sum_by-cons f y (inserted x ys), sum_by-cons f y ys))
    either false way rest = rw way (sum_by-cons f x (y ∷ ys))

pub sum-in_order : (f : Entry → ℕ) (xs : List Entry) → sum_by f (in_order xs) ≡ sum_by f xs
sum-in_order f [] = refl
sum-in_order f (x ∷ xs) = sum-inserted f x (in_order xs)
    ∙ (ap (λ (n : ℕ). f x + n) (sum-in_order f xs) ∙ sym (sum_by-cons f x xs))
