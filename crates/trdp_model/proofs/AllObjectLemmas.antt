-- What is true of each object of a slot is so of the one of a handle, and stays so as objects come
-- and act.
-- For `FitLemmas`, `FitActLemmas` and `FitEventLemmas`.
-- By induction on the objects.
use Rattle.std.proofs.Common.{◌≡◌, ℕ, List, [], ◌∷◌, ◌++◌, Some, None, Option, Bool, true, false}
use Rattle.std.proofs.Common.{refl}
use Rattle.std.specs.Prelude.{◌==◌}
use Rattle.std.specs.List.{flat_map}
use Rattle.trdp_model.specs.declared.any_object.AnyObject.{AnyObject}
use Rattle.trdp_model.specs.Slots.{Entry, entry_under}
use Rattle.trdp_model.specs.Acts.{entry_left, left_at, acted}
use Rattle.trdp_model.specs.Fitting.{AllObjects}

-- the object of a handle is one of them
pub AllObjects-found : (P : AnyObject → Type 0) (handle : ℕ) (objects : List Entry) (entry : Entry)
    → AllObjects P objects → entry_under handle objects ≡ Some entry → P entry.object
AllObjects-found P handle [] entry all is = absurd (cc)
AllObjects-found P handle (e ∷ objects) entry all is = either P handle e objects entry
    (e.handle == handle) refl all is (AllObjects-found P handle objects entry all.1)
  where
    either : (P : AnyObject → Type 0) (handle : ℕ) (e : Entry) (objects : List Entry)
        (entry : Entry) (b : Bool) → (e.handle == handle) ≡ b
        → AllObjects P (e ∷ objects) → entry_under handle (e ∷ objects) ≡ Some entry
        → (entry_under handle objects ≡ Some entry → P entry.object) → P entry.object
    either P handle e objects entry true same all is rest =
        let found : Some e ≡ Some entry = rw same at is in
        let one : e ≡ entry = cc in
        rw (← one) all.0
    either P handle e objects entry false same all is rest = rest (rw same at is)

-- what follows from it is true of each of them too
pub AllObjects-so : (P Q : AnyObject → Type 0) → ((object : AnyObject) → P object → Q object)
    → (objects : List Entry) → AllObjects P objects → AllObjects Q objects
AllObjects-so P Q so [] all = tt
AllObjects-so P Q so (e ∷ objects) all = (so e.object all.0, AllObjects-so P Q so objects all.1)

-- it is true of what is left of an object, if anything is
abbrev pub IsLeft : (AnyObject → Type 0) → Option AnyObject → Type 0
IsLeft P None = Unit {0}
IsLeft P (Some object) = P object

pub AllObjects-left : (P : AnyObject → Type 0) (entry : Entry) (left : Option AnyObject)
    → IsLeft P left → AllObjects P (entry_left entry left)
AllObjects-left P entry None it = tt
AllObjects-left P entry (Some object) it = (it, tt)

pub AllObjects-append : (P : AnyObject → Type 0) (objects others : List Entry)
    → AllObjects P objects → AllObjects P others → AllObjects P (objects ++ others)
AllObjects-append P [] others all more = more
AllObjects-append P (e ∷ objects) others all more =
    (all.0, AllObjects-append P objects others all.1 more)

pub AllObjects-each : (P : AnyObject → Type 0) (f : Entry → List Entry)
    → ((e : Entry) → P e.object → AllObjects P (f e))
    → (objects : List Entry) → AllObjects P objects → AllObjects P (flat_map f objects)
AllObjects-each P f keeps [] all = tt
AllObjects-each P f keeps (e ∷ objects) all = AllObjects-append P
    (f e) (flat_map f objects) (keeps e all.0) (AllObjects-each P f keeps objects all.1)

-- one object acted
pub AllObjects-acted : (P : AnyObject → Type 0) (h : ℕ) (left : Option AnyObject) → IsLeft P left
    → (objects : List Entry) → AllObjects P objects → AllObjects P (acted h left objects)
AllObjects-acted P h left it objects all = AllObjects-each P (left_at h left) keeps objects all
  where
    either : (e : Entry) (b : Bool) → (e.handle == h) ≡ b
        → P e.object → AllObjects P (left_at h left e)
    either e true is old = rw is (AllObjects-left P e left it)
    either e false is old = rw is (old, tt)

    keeps : (e : Entry) → P e.object → AllObjects P (left_at h left e)
    keeps e old = either e (e.handle == h) refl old
