-- Objects of a slot act one after the other, by their handles, in any order.
-- For `MomentLemmas`.
-- By induction on those that act: no two have one handle, so that no act touches another's object.
use Rattle.trdp_model.proofs.TestLemmas.{same_number}
use Rattle.std.proofs.Common.{◌≡◌, ℕ, ◌<◌, List, [], ◌∷◌, ◌++◌, length, filter, Option, Some}
use Rattle.std.proofs.Common.{None, Bool, true, false, refl, ◌∙◌, ap, sym, subst, arith}
use Rattle.std.specs.Prelude.{◌==◌, ◌||◌, slice_get, slice_set}
use Rattle.std.specs.List.{flat_map}
use Rattle.std.proofs.lemmas.Bool.Decides.{nat_tests}
use Rattle.std.proofs.lemmas.List.{length-set}
use Rattle.std.proofs.lemmas.Option.{same_Some}
use Rattle.std.proofs.lemmas.Grind.{flat_map-append}
use Rattle.trdp_model.specs.declared.any_object.AnyObject.{AnyObject}
use Rattle.trdp_model.specs.Acts.{Act, entry_left, acted}
use Rattle.trdp_model.specs.Kinds.{kind_of}
use Rattle.trdp_table.specs.Tables.{TableState}
use Rattle.trdp_model.specs.Records.{labelled}
use Rattle.trdp_store.specs.Acting.{slot_at, TookWithin, ActsAt, act_of}
use Rattle.trdp_outbox.specs.Outboxes.{OutboxState}
use Rattle.trdp_outbox.specs.Rooms.{kind_room}
use Rattle.trdp_store.proofs.StoreLemmas.Slots.{slots_length, slot_there, slot_within, slot_is}
use Rattle.trdp_model.proofs.SweepLemmas.{get-set}
use Rattle.trdp_model.proofs.HandleLemmas.{AllAbove, IsRising}
use Rattle.trdp_model.specs.Slots.{Entry, SlotState, Outcome, entry_under}
use Rattle.trdp_store.specs.TableSlots.{slots_of}

-- one outcome, and then the next
abbrev pub followed_by : Outcome → (SlotState → Outcome) → Outcome
followed_by outcome next = record {
  slot = (next outcome.slot).slot;
  records = outcome.records ++ (next outcome.slot).records;
}

-- one of these has the handle
abbrev pub has_handle : ℕ → List Entry → Bool
has_handle h [] = false
has_handle h (e ∷ es) = (h == e.handle) || has_handle h es

-- each of these is the object of its handle
abbrev pub AllFound : List Entry → List Entry → Type 0
AllFound objects [] = Unit {0}
AllFound objects (e ∷ es) = (entry_under e.handle objects ≡ Some e) × AllFound objects es

-- no two of these have one handle
abbrev pub AreApart : List Entry → Type 0
AreApart [] = Unit {0}
AreApart (e ∷ es) = (has_handle e.handle es ≡ false) × AreApart es

-- what two functions make of each element of a list is the same
abbrev pub AllSame : {X Y : Type 0} → (X → Y) → (X → Y) → List X → Type 0
AllSame f g [] = Unit {0}
AllSame f g (x ∷ xs) = (f x ≡ g x) × AllSame f g xs

-- these are the objects that the test passes, in some order
pub record AreThose (p : Entry → Bool) (objects entries : List Entry) : Type 0 where
  pub found : AllFound objects entries
  pub apart : AreApart entries
  pub covered : AllSame (λ x. has_handle x.handle entries) p objects

-- Lists.

pub flat_map-self : (xs : List Entry) → flat_map (λ (x : Entry). x ∷ []) xs ≡ xs
flat_map-self [] = refl
flat_map-self (x ∷ xs) = ap (λ (es : List Entry). x ∷ es) (flat_map-self xs)

pub flat_map-same : {X Y : Type 0} (f g : X → List Y) (xs : List X)
    → AllSame f g xs → flat_map f xs ≡ flat_map g xs
flat_map-same f g [] same = refl
flat_map-same f g (x ∷ xs) same = rw (same.0, flat_map-same f g xs same.1) refl

pub flat_map-flat_map : {X Y Z : Type 0} (f : Y → List Z) (g : X → List Y) (xs : List X)
    → flat_map f (flat_map g xs) ≡ flat_map (λ x. flat_map f (g x)) xs
flat_map-flat_map f g [] = refl
flat_map-flat_map f g (x ∷ xs) = flat_map-append f (g x) (flat_map g xs)
    ∙ ap (λ (ys : List _). flat_map f (g x) ++ ys) (flat_map-flat_map f g xs)

pub equal : (h k : ℕ) → (h == k) ≡ true → h ≡ k
equal h k is = grind (arith, nat_tests)

-- Objects by handle.

-- above a handle there is no object of it
above_differ : (h : ℕ) (x : Entry) → h < x.handle → (h == x.handle) ≡ false
above_differ h x lt = grind (arith, nat_tests)

above_differ_too : (h : ℕ) (x : Entry) → h < x.handle → (x.handle == h) ≡ false
above_differ_too h x lt = grind (arith, nat_tests)

pub above_has : (h : ℕ) (xs : List Entry) → AllAbove h xs → has_handle h xs ≡ false
above_has h [] above = refl
above_has h (x ∷ xs) above = rw (above_differ h x above.0, above_has h xs above.1) refl

-- each of these that has the handle of an object is that object
abbrev pub AllOnly : Entry → List Entry → Type 0
AllOnly e [] = Unit {0}
AllOnly e (x ∷ xs) = ((x.handle == e.handle) ≡ true → x ≡ e) × AllOnly e xs

AllOnly-above : (e : Entry) (xs : List Entry) → AllAbove e.handle xs → AllOnly e xs
AllOnly-above e [] above = tt
AllOnly-above e (x ∷ xs) above = (
  (λ is. let other : (x.handle == e.handle)
      ≡ false = above_differ_too e.handle x above.0 in absurd (cc)),
  AllOnly-above e xs above.1,
)

-- handles rise, so there is one object of each
pub only_found : (e : Entry) (xs : List Entry)
    → IsRising xs → entry_under e.handle xs ≡ Some e → AllOnly e xs
only_found e [] rising found = tt
only_found e (x ∷ xs) rising found =
    either (x.handle == e.handle) refl found (only_found e xs rising.1)
  where
    either : (b : Bool) → (x.handle == e.handle) ≡ b → entry_under e.handle (x ∷ xs) ≡ Some e
        → (entry_under e.handle xs ≡ Some e → AllOnly e xs) → AllOnly e (x ∷ xs)
    either true is found rest =
        let same : x ≡ e = same_Some x e (rw is at found) in (
          (λ is. same),
          AllOnly-above e xs (subst (λ (y : Entry). AllAbove y.handle xs) same rising.0),
        )
    either false is found rest = ((λ yes. absurd (cc)), rest (rw is at found))

-- One object acts.

AllAbove-left : (n : ℕ) (x : Entry) (left : Option AnyObject) (xs : List Entry)
    → n < x.handle → AllAbove n xs → AllAbove n (entry_left x left ++ xs)
AllAbove-left n x None xs lt above = above
AllAbove-left n x (Some object) xs lt above = (lt, above)

pub AllAbove-acted : (n h : ℕ) (left : Option AnyObject) (xs : List Entry)
    → AllAbove n xs → AllAbove n (acted h left xs)
AllAbove-acted n h left [] above = tt
AllAbove-acted n h left (x ∷ xs) above =
    either (x.handle == h) refl (AllAbove-acted n h left xs above.1)
  where
    either : (b : Bool) → (x.handle == h) ≡ b
        → AllAbove n (acted h left xs) → AllAbove n (acted h left (x ∷ xs))
    either true is rest = rw is (AllAbove-left n x left (acted h left xs) above.0 rest)
    either false is rest = rw is (above.0, rest)

IsRising-left : (x : Entry) (left : Option AnyObject) (xs : List Entry)
    → AllAbove x.handle xs → IsRising xs → IsRising (entry_left x left ++ xs)
IsRising-left x None xs above rising = rising
IsRising-left x (Some object) xs above rising = (above, rising)

-- handles keep rising
pub IsRising-acted : (h : ℕ) (left : Option AnyObject) (xs : List Entry)
    → IsRising xs → IsRising (acted h left xs)
IsRising-acted h left [] rising = tt
IsRising-acted h left (x ∷ xs) rising = either (x.handle == h) refl
    (AllAbove-acted x.handle h left xs rising.0) (IsRising-acted h left xs rising.1)
  where
    either : (b : Bool) → (x.handle == h) ≡ b → AllAbove x.handle (acted h left xs)
        → IsRising (acted h left xs) → IsRising (acted h left (x ∷ xs))
    either true is above rest = rw is (IsRising-left x left (acted h left xs) above rest)
    either false is above rest = rw is (above, rest)

-- Objects act in turn.

-- Those that a test passes, by rising handle.

pub AllAbove-filter : (p : Entry → Bool) (n : ℕ) (xs : List Entry)
    → AllAbove n xs → AllAbove n (filter p xs)
AllAbove-filter p n [] above = tt
AllAbove-filter p n (x ∷ xs) above = either (p x) refl (AllAbove-filter p n xs above.1)
  where
    either : (b : Bool) → p x ≡ b → AllAbove n (filter p xs) → AllAbove n (filter p (x ∷ xs))
    either true is rest = rw is (above.0, rest)
    either false is rest = rw is rest

pub IsRising-filter : (p : Entry → Bool) (xs : List Entry) → IsRising xs → IsRising (filter p xs)
IsRising-filter p [] rising = tt
IsRising-filter p (x ∷ xs) rising =
    either (p x) refl (AllAbove-filter p x.handle xs rising.0) (IsRising-filter p xs rising.1)
  where
    either : (b : Bool) → p x ≡ b → AllAbove x.handle (filter p xs)
        → IsRising (filter p xs) → IsRising (filter p (x ∷ xs))
    either true is above rest = rw is (above, rest)
    either false is above rest = rw is rest

pub AreApart-rising : (xs : List Entry) → IsRising xs → AreApart xs
AreApart-rising [] rising = tt
AreApart-rising (x ∷ xs) rising = (above_has x.handle xs rising.0, AreApart-rising xs rising.1)

AllFound-cons : (x : Entry) (xs es : List Entry)
    → AllAbove x.handle es → AllFound xs es → AllFound (x ∷ xs) es
AllFound-cons x xs [] above found = tt
AllFound-cons x xs (e ∷ es) above found =
    (rw (above_differ x.handle e above.0) found.0, AllFound-cons x xs es above.1 found.1)

AllFound-filter : (p : Entry → Bool) (xs : List Entry) → IsRising xs → AllFound xs (filter p xs)
AllFound-filter p [] rising = tt
AllFound-filter p (x ∷ xs) rising = either (p x) refl (AllFound-cons x
    xs (filter p xs) (AllAbove-filter p x.handle xs rising.0) (AllFound-filter p xs rising.1))
  where
    either : (b : Bool) → p x ≡ b → AllFound (x ∷ xs) (filter p xs)
        → AllFound (x ∷ xs) (filter p (x ∷ xs))
    either true is rest = rw is (rw (same_number x.handle) refl, rest)
    either false is rest = rw is rest

covered-cons : (p : Entry → Bool) (x : Entry) (es xs : List Entry) → AllAbove x.handle xs
    → AllSame (λ y. has_handle y.handle es) p xs → AllSame (λ y. has_handle y.handle (x ∷ es)) p xs
covered-cons p x es [] above covered = tt
covered-cons p x es (y ∷ xs) above covered =
    (rw (above_differ_too x.handle y above.0) covered.0, covered-cons p x es xs above.1 covered.1)

covered-filter : (p : Entry → Bool) (xs : List Entry)
    → IsRising xs → AllSame (λ x. has_handle x.handle (filter p xs)) p xs
covered-filter p [] rising = tt
covered-filter p (x ∷ xs) rising = either (p x) refl (covered-filter p xs rising.1)
  where
    either : (b : Bool) → p x ≡ b → AllSame (λ y. has_handle y.handle (filter p xs)) p xs
        → AllSame (λ y. has_handle y.handle (filter p (x ∷ xs))) p (x ∷ xs)
    either true is rest =
        let same : filter p (x ∷ xs) ≡ x ∷ filter p xs = rw is refl in
        subst (λ (es : List Entry). AllSame (λ y. has_handle y.handle es) p (x ∷ xs)) (sym same)
        (rw (same_number x.handle) (sym is), covered-cons p x (filter p xs) xs rising.0 rest)
    either false is rest =
        let same : filter p (x ∷ xs) ≡ filter p xs = rw is refl in
        subst (λ (es : List Entry). AllSame (λ y. has_handle y.handle es) p (x ∷ xs)) (sym same) (
          above_has x.handle (filter p xs) (AllAbove-filter p x.handle xs rising.0)
              ∙ sym is,
          rest,
        )

pub those-filter : (p : Entry → Bool) (objects : List Entry)
    → IsRising objects → AreThose p objects (filter p objects)
those-filter p objects rising = record {
  found = AllFound-filter p objects rising;
  apart = AreApart-rising (filter p objects) (IsRising-filter p objects rising);
  covered = covered-filter p objects rising;
}

-- An object of the table acts.

-- how an act changes its slot
pub record IsActed (s h : ℕ) (act : Entry → Act)
    (table table_then : TableState) (out out_then : OutboxState) (entry : Entry) : Type 0 where
  pub there : s < length table_then
  pub count : length table_then ≡ length table
  pub slot : slot_at s table_then ≡ (act_of entry act (slot_at s table)).slot
  pub slots : slots_of table_then ≡ slice_set (slots_of table) s (slot_at s table_then)
  pub records : out_then.records ≡ out.records ++ labelled s (act entry).records
  pub within : TookWithin out out_then (kind_room (kind_of entry.object))

pub is_acted : (s h : ℕ) (act : Entry → Act) (table table_then : TableState)
    (out out_then : OutboxState) (entry : Entry)
    → s < length table → entry_under h (slot_at s table).objects ≡ Some entry
    → ActsAt s h act table table_then out out_then
    → IsActed s h act table table_then out out_then entry
is_acted s h act table table_then out out_then entry lt found acts =
    subst (λ (e : Entry). IsActed s h act table table_then out out_then e)
    (same_Some acts.entry entry (sym acts.found ∙ found))
    (record {
      there = slot_within table_then s slot stands;
      count = sym (slots_length table_then) ∙ (ap (λ (xs : List SlotState). length xs)
          acts.becomes.slots ∙ (length-set (slots_of table) s slot ∙ slots_length table));
      slot = here;
      slots = acts.becomes.slots ∙ ap (slice_set (slots_of table) s) (sym here);
      records = acts.becomes.records;
      within = acts.within;
    })
  where
    slot : SlotState
    slot = (act_of acts.entry act (slot_at s table)).slot

    stands : slice_get (slots_of table_then) s ≡ Some slot
    stands = ap (λ (xs : List SlotState). slice_get xs s) acts.becomes.slots
        ∙ get-set (slots_of table) s (slot_at s table) slot (slot_there table s lt)

    here : slot_at s table_then ≡ slot
    here = sym (slot_is table_then s slot stands)
