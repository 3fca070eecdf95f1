-- One object fires, and the rest of the moment is left.
-- For `MomentLemmas.AllFire`.
-- By: what fired isn't due by now, so what is due then is what else was due, in its order.
use Rattle.std.proofs.Common.{◌≡◌, ℕ, ◌+◌, List, [], ◌∷◌, ◌++◌, filter, Option, Some, Bool}
use Rattle.std.proofs.Common.{true, false, not, All, refl, ◌∙◌, ap, sym, subst, arith}
use Rattle.std.specs.Prelude.{slice_get, option_map, ◌==◌, ◌||◌}
use Rattle.std.specs.List.{flat_map, sum_by}
use Rattle.std.proofs.lemmas.List.{append-nil}
use Rattle.std.proofs.lemmas.List.Elements.{filter-append, filter_passes}
use Rattle.std.proofs.lemmas.List.Sums.{sum_by-cons}
use Rattle.std.proofs.lemmas.Option.{same_Some}
use Rattle.trdp_filter.specs.declared.globals.Globals.{Globals}
use Rattle.trdp_model.specs.declared.any_object.AnyObject.{AnyObject}
use Rattle.trdp_pd.specs.declared.object.Fired.{Fired}
use Rattle.trdp_pd.specs.declared.object.Fired.TheVariants.{Nothing, Data, Again, Silent}
use Rattle.trdp_pd.specs.declared.object.Fired.TheVariants.{Closed}
use Rattle.trdp_pd.specs.Due.{has_come_by}
use Rattle.trdp_model.specs.Objects.{due_of, is_sound, after_firing, fired}
use Rattle.trdp_model.specs.ObjectLaws.{due-firing, is_sound-firing}
use Rattle.trdp_model.specs.Slots.{Entry, SlotState, entry_under}
use Rattle.trdp_model.specs.Acts.{entry_left, left_at, acted}
use Rattle.trdp_store.specs.Acting.{act_of}
use Rattle.trdp_model.proofs.HandleLemmas.{IsRising}
use Rattle.trdp_model.specs.Moments.{is_due, fires_before, inserted, in_order, left_firing}
use Rattle.trdp_model.specs.Moments.{firing_act, after_moment, moved_to}
use Rattle.trdp_store.specs.Firing.{FiresNext}
use Rattle.trdp_model.specs.Fitting.{AllSound}
use Rattle.trdp_model.proofs.AllObjectLemmas.{AllObjects-found, IsLeft, AllObjects-acted}
use Rattle.trdp_store.proofs.DueLemmas.First.{in_order-filter, sum-in_order}
use Rattle.trdp_engine.proofs.ActLemmas.AnyOrder.{followed_by, has_handle, AllFound, AreApart}
use Rattle.trdp_engine.proofs.ActLemmas.AnyOrder.{AllOnly, AllSame, AreThose, those-filter}
use Rattle.trdp_engine.proofs.ActLemmas.AnyOrder.{only_found, flat_map-same, flat_map-flat_map}
use Rattle.trdp_model.proofs.TestLemmas.{same_number, differ_either_way, or_left, or_right}

-- What fired isn't due by now.

quiet_left : (t : ℕ) (did : Fired) (entry : Entry) (object : AnyObject)
    → has_come_by t (due_of object) ≡ false
    → filter (is_due t) (entry_left entry (left_firing did object)) ≡ []
quiet_left t Nothing entry object not = rw not refl
quiet_left t (Data head) entry object not = rw not refl
quiet_left t (Again head) entry object not = rw not refl
quiet_left t Silent entry object not = rw not refl
quiet_left t (Closed reason) entry object not = refl

-- nothing of a sound object that fired is due by now, under any handle
pub is_quiet : (globals : Globals) (entry : Entry) → is_sound entry.object ≡ true → (under : Entry)
    → filter (is_due globals.now) (entry_left under (firing_act globals entry).left) ≡ []
is_quiet globals entry sound under = quiet_left globals.now (fired entry.object globals) under
    (after_firing entry.object globals) (due-firing entry.object globals sound)

-- and what is left of it is sound
sound_left : (did : Fired) (object : AnyObject) → is_sound object ≡ true
    → IsLeft (λ left. is_sound left ≡ true) (left_firing did object)
sound_left Nothing object sound = sound
sound_left (Data head) object sound = sound
sound_left (Again head) object sound = sound
sound_left Silent object sound = sound
sound_left (Closed reason) object sound = tt

-- where nothing is due the moment changes nothing
pub none_fires : (globals : Globals) (objects : List Entry)
    → filter (is_due globals.now) objects ≡ [] → flat_map (after_moment globals) objects ≡ objects
none_fires globals [] none = refl
none_fires globals (x ∷ objects) none =
    either (is_due globals.now x) refl none (none_fires globals objects)
  where
    either : (b : Bool) → is_due globals.now x ≡ b → filter (is_due globals.now) (x ∷ objects) ≡ []
        → (filter (is_due globals.now) objects ≡ [] → flat_map (after_moment globals) objects
        ≡ objects) → flat_map (after_moment globals) (x ∷ objects) ≡ x ∷ objects
    either true is none rest = let h = rw is at none in absurd (cc)
    either false is none rest = let h = rw is at none in
        rw is (ap (λ (es : List Entry). x ∷ es) (rest h))

-- The objects in order are those that the test passes.

AllFound-inserted : (objects : List Entry) (e : Entry) (es : List Entry)
    → entry_under e.handle objects ≡ Some e → AllFound objects es → AllFound objects (inserted e es)
AllFound-inserted objects e [] found all = (found, tt)
AllFound-inserted objects e (f ∷ es) found all =
    either (fires_before f e) refl (AllFound-inserted objects e es found all.1)
  where
    either : (b : Bool) → fires_before f e ≡ b → AllFound objects (inserted e es)
        → AllFound objects (inserted e (f ∷ es))
    either true way rest = rw way (all.0, rest)
    either false way rest = rw way (found, all)

AllFound-in_order : (objects es : List Entry) → AllFound objects es → AllFound objects (in_order es)
AllFound-in_order objects [] all = tt
AllFound-in_order objects (e ∷ es) all =
    AllFound-inserted objects e (in_order es) all.0 (AllFound-in_order objects es all.1)

or_swap : (a b c : Bool) → (a || (b || c)) ≡ (b || (a || c))
or_swap true true c = refl
or_swap true false c = refl
or_swap false true c = refl
or_swap false false c = refl

has-inserted : (h : ℕ) (e : Entry) (es : List Entry)
    → has_handle h (inserted e es) ≡ ((h == e.handle) || has_handle h es)
has-inserted h e [] = refl
has-inserted h e (f ∷ es) = either (fires_before f e) refl (has-inserted h e es)
  where
    either : (b : Bool)
        → fires_before f e ≡ b → has_handle h (inserted e es) ≡ ((h == e.handle) || has_handle h es)
        → has_handle h (inserted e (f ∷ es)) ≡ ((h == e.handle) || has_handle h (f ∷ es))
    either true way rest =
        rw way (rw rest (or_swap (h == f.handle) (h == e.handle) (has_handle h es)))
    either false way rest = rw way refl

pub has-in_order : (h : ℕ) (es : List Entry) → has_handle h (in_order es) ≡ has_handle h es
has-in_order h [] = refl
has-in_order h (e ∷ es) = has-inserted h e (in_order es)
    ∙ ap (λ (b : Bool). (h == e.handle) || b) (has-in_order h es)

none_of_both : (a b : Bool) → a ≡ false → b ≡ false → (a || b) ≡ false
none_of_both a b one two = rw (one, two) refl

AreApart-inserted : (e : Entry) (es : List Entry)
    → has_handle e.handle es ≡ false → AreApart es → AreApart (inserted e es)
AreApart-inserted e [] none apart = (refl, tt)
AreApart-inserted e (f ∷ es) none apart = either (fires_before f e) refl
    (AreApart-inserted e es (or_right (e.handle == f.handle) (has_handle e.handle es) none) apart.1)
  where
    either : (b : Bool) → fires_before f e ≡ b → AreApart (inserted e es)
        → AreApart (inserted e (f ∷ es))
    either true way rest =
        let differ : (f.handle == e.handle) ≡ false = differ_either_way e.handle
        f.handle (or_left (e.handle == f.handle) (has_handle e.handle es) none) in
        rw way (
          has-inserted f.handle e es
              ∙ none_of_both (f.handle == e.handle) (has_handle f.handle es) differ apart.0,
          rest,
        )
    either false way rest = rw way (none, apart)

AreApart-in_order : (es : List Entry) → AreApart es → AreApart (in_order es)
AreApart-in_order [] apart = tt
AreApart-in_order (e ∷ es) apart = AreApart-inserted e
    (in_order es) (has-in_order e.handle es ∙ apart.0) (AreApart-in_order es apart.1)

pub those-in_order : (p : Entry → Bool) (objects es : List Entry)
    → AreThose p objects es → AreThose p objects (in_order es)
those-in_order p objects es those = record {
  found = AllFound-in_order objects es those.found;
  apart = AreApart-in_order es those.apart;
  covered = covered objects those.covered;
}
  where
    covered : (xs : List Entry) → AllSame (λ x. has_handle x.handle es) p xs
        → AllSame (λ x. has_handle x.handle (in_order es)) p xs
    covered [] all = tt
    covered (x ∷ xs) all = (has-in_order x.handle es ∙ all.0, covered xs all.1)

-- the object that fires next
pub record IsNextOf (t : ℕ) (objects rest : List Entry) (entry : Entry) : Type 0 where
  pub order : in_order (filter (is_due t) objects) ≡ entry ∷ rest
  pub found : entry_under entry.handle objects ≡ Some entry
  pub sound : is_sound entry.object ≡ true
  pub due : is_due t entry ≡ true
  pub alone : has_handle entry.handle rest ≡ false

pub is_next : (t : ℕ) (objects rest : List Entry) (entry : Entry) → IsRising objects
    → AllSound objects → in_order (filter (is_due t) objects) ≡ entry ∷ rest
    → IsNextOf t objects rest entry
is_next t objects rest entry rising sound order =
    let those = those-in_order (is_due t) objects
    (filter (is_due t) objects) (those-filter (is_due t) objects rising) in
    let found : AllFound objects (entry ∷ rest) =
    subst (λ (es : List Entry). AllFound objects es) order those.found in
    let apart : AreApart (entry ∷ rest) =
    subst (λ (es : List Entry). AreApart es) order those.apart in
    let passes : All (λ x. is_due t x ≡ true) (entry ∷ rest) =
    subst (λ (es : List Entry). All (λ x. is_due t x ≡ true) es)
    (sym (in_order-filter (is_due t) objects)
    ∙ order) (filter_passes (is_due t) (in_order objects)) in
    record {
      order = order;
      found = found.0;
      sound = AllObjects-found
          (λ object. is_sound object ≡ true) entry.handle objects entry sound found.0;
      due = passes 0 entry (omega arith);
      alone = apart.0;
    }

-- the object of the handle that comes next
pub record HasNext (t : ℕ) (objects : List Entry) (handle : ℕ) : Type 0 where
  pub entry : Entry
  pub rest : List Entry
  pub next : IsNextOf t objects rest entry
  pub handle_is : entry.handle ≡ handle

pub next_is : (t : ℕ) (objects : List Entry) (handle : ℕ) → IsRising objects
    → AllSound objects → FiresNext t objects handle → HasNext t objects handle
next_is t objects handle rising sound is = elim (in_order (filter (is_due t) objects)) as (λ es.
    in_order (filter (is_due t) objects) ≡ es → Some handle
    ≡ option_map (λ entry. entry.handle) (slice_get es 0) → HasNext t objects handle) [
      | [] ↦ λ order of. absurd (cc)
      | entry ∷ rest ↦ λ order of. record {
        entry = entry;
        rest = rest;
        next = is_next t objects rest entry rising sound order;
        handle_is = sym (same_Some handle entry.handle of);
      }
    ] refl is

-- The next object fires.

abbrev is_other : ℕ → Entry → Bool
is_other h x = not (x.handle == h)

-- what is due then is what else was due
due_left : (t h : ℕ) (left : Option AnyObject) (xs : List Entry)
    → ((x : Entry) → filter (is_due t) (entry_left x left) ≡ [])
    → filter (is_due t) (acted h left xs) ≡ filter (is_other h) (filter (is_due t) xs)
due_left t h left [] quiet = refl
due_left t h left (x ∷ xs) quiet =
    filter-append (is_due t) (left_at h left x) (acted h left xs)
    ∙ either (x.handle == h) refl (is_due t x) refl (due_left t h left xs quiet)
  where
    either : (b : Bool) → (x.handle == h) ≡ b → (c : Bool) → is_due t x ≡ c
        → filter (is_due t) (acted h left xs) ≡ filter (is_other h) (filter (is_due t) xs)
        → filter (is_due t) (left_at h left x) ++ filter (is_due t) (acted h left xs)
        ≡ filter (is_other h) (filter (is_due t) (x ∷ xs))
    either true own true due rest = rw (own, quiet x, due) (rw own rest)
    either true own false due rest = rw (own, quiet x, due) rest
    either false own true due rest =
        rw own (rw due (rw own (ap (λ (es : List Entry). x ∷ es) rest)))
    either false own false due rest = rw own (rw due rest)

others_stay : (h : ℕ) (es : List Entry) → has_handle h es ≡ false → filter (is_other h) es ≡ es
others_stay h [] none = refl
others_stay h (e ∷ es) none =
    let differ : (e.handle == h) ≡ false =
    differ_either_way h e.handle (or_left (h == e.handle) (has_handle h es) none) in
    rw differ (ap (λ (xs : List Entry). e ∷ xs)
    (others_stay h es (or_right (h == e.handle) (has_handle h es) none)))

-- the slot once the object fired
abbrev pub once_fired : Globals → Entry → List Entry → List Entry
once_fired globals entry objects = acted entry.handle (firing_act globals entry).left objects

-- the rest comes in its order
pub rest_left : (globals : Globals) (objects rest : List Entry) (entry : Entry)
    → IsNextOf globals.now objects rest entry
    → in_order (filter (is_due globals.now) (once_fired globals entry objects)) ≡ rest
rest_left globals objects rest entry next =
    let h = entry.handle in
    let out : filter (is_other h) (entry ∷ rest) ≡ filter (is_other h) rest =
    rw (same_number h) refl in
    ap in_order
    (due_left globals.now h (firing_act globals entry).left objects
    (is_quiet globals entry next.sound))
    ∙ (in_order-filter (is_other h) (filter (is_due globals.now) objects)
    ∙ (ap (filter (is_other h)) next.order
    ∙ (out ∙ others_stay h rest next.alone)))

-- an object that fired is left as it is
fires_once : (globals : Globals) (entry x : Entry) → is_sound entry.object ≡ true
    → is_due globals.now entry ≡ true → ((x.handle == entry.handle) ≡ true → x ≡ entry)
    → flat_map (after_moment globals) (left_at entry.handle (firing_act globals entry).left x)
    ≡ after_moment globals x
fires_once globals entry x sound due only = either (x.handle == entry.handle) refl
  where
    here : (y : Entry) → entry ≡ y → flat_map (after_moment globals)
        (left_at entry.handle (firing_act globals entry).left y) ≡ after_moment globals y
    here y same =
        subst (λ (z : Entry). flat_map (after_moment globals)
        (left_at entry.handle (firing_act globals entry).left z) ≡ after_moment globals z) same
        (rw (same_number entry.handle, due) (none_fires globals
        (entry_left entry (firing_act globals entry).left) (is_quiet globals entry sound entry)))

    either : (b : Bool) → (x.handle == entry.handle) ≡ b
        → flat_map (after_moment globals) (left_at entry.handle (firing_act globals entry).left x)
        ≡ after_moment globals x
    either true own = here x (sym (only own))
    either false own = rw own (append-nil (after_moment globals x))

all_fire_once : (globals : Globals) (entry : Entry) (xs : List Entry) → is_sound entry.object
    ≡ true → is_due globals.now entry ≡ true → AllOnly entry xs
    → AllSame (λ x. flat_map (after_moment globals)
    (left_at entry.handle (firing_act globals entry).left x)) (after_moment globals) xs
all_fire_once globals entry [] sound due only = tt
all_fire_once globals entry (x ∷ xs) sound due only =
    (fires_once globals entry x sound due only.0, all_fire_once globals entry xs sound due only.1)

objects_then : (globals : Globals) (objects rest : List Entry) (entry : Entry)
    → IsRising objects → IsNextOf globals.now objects rest entry
    → flat_map (after_moment globals) (once_fired globals entry objects)
    ≡ flat_map (after_moment globals) objects
objects_then globals objects rest entry rising next =
    flat_map-flat_map (after_moment globals)
    (left_at entry.handle (firing_act globals entry).left) objects
    ∙ flat_map-same _ _ objects
    (all_fire_once globals entry objects next.sound next.due
    (only_found entry objects rising next.found))

-- the objects stay sound
pub sound_then : (globals : Globals) (objects rest : List Entry) (entry : Entry)
    → AllSound objects → IsNextOf globals.now objects rest entry
    → AllSound (once_fired globals entry objects)
sound_then globals objects rest entry sound next =
    AllObjects-acted (λ object. is_sound object ≡ true) entry.handle
    (firing_act globals entry).left
    (sound_left (fired entry.object globals) (after_firing entry.object globals)
    (is_sound-firing entry.object globals next.sound)) objects sound

-- the moment is that the next object fires, and then the moment of what is left
pub fires_then : (globals : Globals) (slot : SlotState) (rest : List Entry) (entry : Entry)
    → IsRising slot.objects → IsNextOf globals.now slot.objects rest entry
    → followed_by (act_of entry (firing_act globals) slot) (λ left. moved_to left globals)
    ≡ moved_to slot globals
fires_then globals slot rest entry rising next =
    rw (
      objects_then globals slot.objects rest entry rising next,
      rest_left globals slot.objects rest entry next,
      next.order,
    ) refl

-- so is the room that the moment takes
pub sum_then : (f : Entry → ℕ) (globals : Globals) (objects rest : List Entry) (entry : Entry)
    → IsNextOf globals.now objects rest entry → sum_by f (filter (is_due globals.now) objects)
    ≡ f entry + sum_by f (filter (is_due globals.now) (once_fired globals entry objects))
sum_then f globals objects rest entry next =
    sym (sum-in_order f (filter (is_due globals.now) objects))
    ∙ (ap (λ (es : List Entry). sum_by f es) next.order
    ∙ (sum_by-cons f entry rest
    ∙ ap (λ (n : ℕ). f entry + n)
    (ap (λ (es : List Entry). sum_by f es) (sym (rest_left globals objects rest entry next))
    ∙ sum-in_order f (filter (is_due globals.now) (once_fired globals entry objects)))))
