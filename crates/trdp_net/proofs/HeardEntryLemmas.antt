-- What was reported to the objects of a slot, and one that acts by its handle.
-- For `no_invented_reply`, its clause `distinct`, through `HeardSlotLemmas`.
-- What was reported to each handle is a function beside the slot; an act changes it at one handle.
use Rattle.std.proofs.Common.{◌≡◌, ℕ, ◌<◌, ◌≤◌, ◌+◌, List, [], ◌∷◌, ◌++◌, Option, Some, None}
use Rattle.std.proofs.Common.{Bool, true, false, refl, ap, sym, ◌∙◌, subst, arith, inl, inr}
use Rattle.std.proofs.Common.{filter}
use Rattle.std.specs.Prelude.{◌==◌, if◌then◌else◌}
use Rattle.std.specs.List.{flat_map}
use Rattle.std.proofs.lemmas.Bool.Decides.{nat_tests}
use Rattle.trdp_base.specs.declared.place.Place.{Place}
use Rattle.trdp_filter.specs.declared.globals.Globals.{Globals}
use Rattle.trdp_model.specs.declared.any_object.AnyObject.{AnyObject}
use Rattle.trdp_model.specs.declared.fault.Refusal.{Refusal}
use Rattle.trdp_model.specs.Records.{Content, Answers, Indicates, Sends, SilentIs, AliveIs}
use Rattle.trdp_model.specs.Records.{NotifiedIs, AskedIs, OverrunIs, RepliedIs, ConfirmedIs}
use Rattle.trdp_model.specs.Records.{ClosedIs}
use Rattle.trdp_model.specs.Acts.{Act, entry_left, left_at}
use Rattle.trdp_model.specs.Slots.{Entry, SlotState, Outcome, entry_under, with_new_object}
use Rattle.trdp_model.specs.Openings.{refused, opened_with}
use Rattle.trdp_model.specs.Moments.{is_due, in_order, firing_act, after_moment}
use Rattle.trdp_model.specs.Moments.{moved_to}
use Rattle.trdp_model.specs.Calls.{at_entry, at_object}
use Rattle.trdp_net.specs.Provenance.{In}
use Rattle.trdp_net.specs.Promises.{replied_in, AreDistinct}
use Rattle.trdp_net.proofs.PartLemmas.{each_append, each_map, each_in, each_flat_map, filter_in}
use Rattle.trdp_net.proofs.SlotLemmas.{order_in, find_in}
use Rattle.trdp_net.proofs.HeardLemmas.{Covers, CoversLeft, IsQuiet, QuietAct, fires_quiet}
use Rattle.trdp_net.specs.Provenance.{Each}

-- no entry has the handle
abbrev pub IsOnly : ℕ → List Entry → Type 0
IsOnly h es = Each (λ e. (e.handle == h) ≡ false) es

-- no two entries have one handle
abbrev pub AreOnly : List Entry → Type 0
AreOnly [] = Unit {0}
AreOnly (e ∷ es) = IsOnly e.handle es × AreOnly es

-- what was reported to the objects of a slot: nothing at handles that aren't used yet, to each
-- object no more than it knows, and no place twice
pub record HeardSlot (old : ℕ → List Place) (slot : SlotState) : Type 0 where
  pub only : AreOnly slot.objects
  pub below : Each (λ e. e.handle < slot.next) slot.objects
  pub fresh : (h : ℕ) → slot.next ≤ h → old h ≡ []
  pub covers : Each (λ e. Covers (old e.handle) e.object) slot.objects
  pub distinct : (h : ℕ) → AreDistinct (old h)

-- the same where what was reported is the same at each handle
pub heard_same : (old new : ℕ → List Place) (slot : SlotState) → ((h : ℕ) → old h ≡ new h)
    → HeardSlot old slot → HeardSlot new slot
heard_same old new slot same h = record {
  only = h.only;
  below = h.below;
  fresh = λ n above. sym (same n) ∙ h.fresh n above;
  covers =
      each_map (λ e. Covers (old e.handle) e.object) (λ e. Covers (new e.handle) e.object)
      slot.objects
      (λ e covers. subst (λ (ps : List Place). Covers ps e.object)
      (same e.handle) covers) h.covers;
  distinct = λ n. subst (λ (ps : List Place). AreDistinct ps) (same n) (h.distinct n);
}

-- what is reported by records one after the other
pub told_append : (h : ℕ) (xs ys : List Content)
    → replied_in h (xs ++ ys) ≡ replied_in h xs ++ replied_in h ys
told_append h [] ys = refl
told_append h (Answers answer ∷ xs) ys = told_append h xs ys
told_append h (Sends protocol to bytes ∷ xs) ys = told_append h xs ys
told_append h (Indicates (SilentIs handle) ∷ xs) ys = told_append h xs ys
told_append h (Indicates (AliveIs handle) ∷ xs) ys = told_append h xs ys
told_append h (Indicates (NotifiedIs handle said) ∷ xs) ys = told_append h xs ys
told_append h (Indicates (AskedIs listener replier session said) ∷ xs) ys = told_append h xs ys
told_append h (Indicates (OverrunIs listener) ∷ xs) ys = told_append h xs ys
told_append h (Indicates (ConfirmedIs handle status) ∷ xs) ys = told_append h xs ys
told_append h (Indicates (ClosedIs handle reason) ∷ xs) ys = told_append h xs ys
told_append h (Indicates (RepliedIs handle answer) ∷ xs) ys =
    either (handle == h) (told_append h xs ys)
  where
    either : (b : Bool)
        → replied_in h (xs ++ ys) ≡ replied_in h xs ++ replied_in h ys
        → (if b then answer.src ∷ replied_in h (xs ++ ys) else replied_in h (xs ++ ys))
        ≡ (let ps : List Place =
        (if b then answer.src ∷ replied_in h xs else replied_in h xs) in ps) ++ replied_in h ys
    either true rest = ap (λ (ps : List Place). answer.src ∷ ps) rest
    either false rest = rest

-- an outcome without answers
pub quiet_outcome : (old : ℕ → List Place) (outcome : Outcome) → IsQuiet outcome.records
    → HeardSlot old outcome.slot
    → HeardSlot (λ h. replied_in h outcome.records ++ old h) outcome.slot
quiet_outcome old outcome quiet h =
    heard_same old (λ n. replied_in n outcome.records ++ old n) outcome.slot
    (λ n. sym (ap (λ (ps : List Place). ps ++ old n) (quiet n))) h

-- what is left of each entry has its handle, and there is at most one
abbrev pub LeftsOf : Entry → List Entry → Type 0
LeftsOf e [] = Unit {0}
LeftsOf e (f ∷ []) = f.handle ≡ e.handle
LeftsOf e (f ∷ g ∷ es) = ⊥

only_lefts : (h : ℕ) (e : Entry) (fs : List Entry) → LeftsOf e fs → (e.handle == h) ≡ false
    → IsOnly h fs
only_lefts h e [] lefts is = tt
only_lefts h e (f ∷ []) lefts is =
    (subst (λ (n : ℕ). (n == h) ≡ false) (sym lefts) is, tt)
only_lefts h e (f ∷ g ∷ es) lefts is = absurd lefts

only_after : (h : ℕ) (after : Entry → List Entry) (es : List Entry)
    → ((e : Entry) → LeftsOf e (after e)) → IsOnly h es → IsOnly h (flat_map after es)
only_after h after [] lefts is = tt
only_after h after (e ∷ es) lefts is =
    each_append (λ f. (f.handle == h) ≡ false) (after e) (flat_map after es)
    (only_lefts h e (after e) (lefts e) is.0) (only_after h after es lefts is.1)

all_only_after : (after : Entry → List Entry) (es : List Entry)
    → ((e : Entry) → LeftsOf e (after e)) → AreOnly es → AreOnly (flat_map after es)
all_only_after after [] lefts is = tt
all_only_after after (e ∷ es) lefts is =
    here (after e) (lefts e) (only_after e.handle after es lefts is.0)
    (all_only_after after es lefts is.1)
  where
    here : (fs : List Entry) → LeftsOf e fs → IsOnly e.handle (flat_map after es)
        → AreOnly (flat_map after es) → AreOnly (fs ++ flat_map after es)
    here [] left rest all = all
    here (f ∷ []) left rest all =
        (subst (λ (h : ℕ). IsOnly h (flat_map after es)) (sym left) rest, all)
    here (f ∷ g ∷ fs) left rest all = absurd left

below_lefts : (next : ℕ) (e : Entry) (fs : List Entry) → LeftsOf e fs → e.handle < next
    → Each (λ f. f.handle < next) fs
below_lefts next e [] lefts is = tt
below_lefts next e (f ∷ []) lefts is = (subst (λ (n : ℕ). n < next) (sym lefts) is, tt)
below_lefts next e (f ∷ g ∷ es) lefts is = absurd lefts

-- what is left of an entry has its handle
pub left_lefts : (e : Entry) (left : Option AnyObject) → LeftsOf e (entry_left e left)
left_lefts e None = tt
left_lefts e (Some x) = refl

-- each entry stays, changes or is removed
pub entries_heard : (old : ℕ → List Place) (new : ℕ → List Place) (slot : SlotState)
    (after : Entry → List Entry) → ((e : Entry) → LeftsOf e (after e))
    → ((e : Entry) → In e slot.objects → Covers (old e.handle) e.object
    → Each (λ f. Covers (new f.handle) f.object) (after e))
    → ((h : ℕ) → slot.next ≤ h → new h ≡ []) → ((h : ℕ) → AreDistinct (new h))
    → HeardSlot old slot
    → HeardSlot new (record slot { objects = flat_map after slot.objects })
entries_heard old new slot after lefts covers fresh distinct h = record {
  only = all_only_after after slot.objects lefts h.only;
  below =
      each_flat_map (λ f. f.handle < slot.next) after slot.objects
      (λ e is. below_lefts slot.next e (after e) (lefts e)
      (each_in (λ f. f.handle < slot.next) slot.objects e h.below is));
  fresh = fresh;
  covers =
      each_flat_map (λ f. Covers (new f.handle) f.object) after slot.objects
      (λ e is. covers e is
      (each_in (λ f. Covers (old f.handle) f.object) slot.objects e h.covers is));
  distinct = distinct;
}

-- what is left of an entry knows what was reported to it
pub left_covers : (new : ℕ → List Place) (e : Entry) (left : Option AnyObject)
    → CoversLeft (new e.handle) left → Each (λ f. Covers (new f.handle) f.object)
    (entry_left e left)
left_covers new e None covers = tt
left_covers new e (Some x) covers = (covers, tt)

-- a new object
pub new_heard : (old : ℕ → List Place) (slot : SlotState) (object : AnyObject)
    → ((ps : List Place) → ps ≡ [] → Covers ps object) → HeardSlot old slot
    → HeardSlot old (with_new_object slot object)
new_heard old slot object covers h = record {
  only = only_push slot.objects h.only h.below;
  below =
      each_append (λ e. e.handle < slot.next + 1) slot.objects _
      (each_map (λ e. e.handle < slot.next) (λ e. e.handle < slot.next + 1) slot.objects
      (λ e is. omega (arith, is)) h.below) (omega arith, tt);
  fresh = λ n above. h.fresh n (omega (arith, above));
  covers =
      each_append (λ e. Covers (old e.handle) e.object) slot.objects _ h.covers
      (covers (old slot.next) (h.fresh slot.next (omega arith)), tt);
  distinct = h.distinct;
}
  where
    new : Entry
    new = record { handle = slot.next; object = object }

    only_push : (es : List Entry) → AreOnly es → Each (λ e. e.handle < slot.next) es
        → AreOnly (es ++ new ∷ [])
    only_push [] only below = (tt, tt)
    only_push (e ∷ es) only below = (
      each_append (λ f. (f.handle == e.handle) ≡ false) es (new ∷ []) only.0
          (other below.0, tt),
      only_push es only.1 below.1,
    )
      where
        other : e.handle < slot.next → (slot.next == e.handle) ≡ false
        other less = grind (arith, nat_tests)

-- records with none of an answer
quiet_append : (xs ys : List Content) → IsQuiet xs → IsQuiet ys → IsQuiet (xs ++ ys)
quiet_append xs ys qx qy h =
    told_append h xs ys ∙ rw (qx h, qy h) refl

quiet_flat_map : (f : Entry → List Content) (es : List Entry)
    → ((e : Entry) → In e es → IsQuiet (f e)) → IsQuiet (flat_map f es)
quiet_flat_map f [] quiet h = refl
quiet_flat_map f (e ∷ es) quiet h =
    quiet_append (f e) (flat_map f es) (quiet e (inl refl))
    (quiet_flat_map f es (λ g is. quiet g (inr is))) h

-- a slot with a new object, of which nothing was reported
pub opened_heard : (old : ℕ → List Place) (slot : SlotState) (refusal : Option Refusal)
    (object : AnyObject) (records : List Content) → IsQuiet records
    → ((ps : List Place) → ps ≡ [] → Covers ps object) → HeardSlot old slot
    → HeardSlot (λ h. replied_in h (opened_with refusal slot object records).records ++ old h)
    (opened_with refusal slot object records).slot
opened_heard old slot (Some refusal) object records quiet covers h =
    quiet_outcome old (refused slot refusal) (λ n. refl) h
opened_heard old slot None object records quiet covers h =
    quiet_outcome old (opened_with None slot object records) (λ n. quiet n)
    (new_heard old slot object covers h)

-- at a moment
pub moved_heard : (old : ℕ → List Place) (slot : SlotState) (globals : Globals)
    → HeardSlot old slot
    → HeardSlot (λ h. replied_in h (moved_to slot globals).records ++ old h)
    (moved_to slot globals).slot
moved_heard old slot globals h =
    quiet_outcome old (moved_to slot globals)
    (quiet_flat_map (λ e. (firing_act globals e).records)
    (in_order (filter (is_due globals.now) slot.objects))
    (λ e is. (one e (filter_in (is_due globals.now) slot.objects e
    (order_in e (filter (is_due globals.now) slot.objects) is))).quiet))
    (entries_heard old old slot (after_moment globals) (λ e. lefts e (is_due globals.now e))
    (λ e is covers. stays e covers (is_due globals.now e)) h.fresh h.distinct h)
  where
    one : (e : Entry) → In e slot.objects → QuietAct (old e.handle) (firing_act globals e)
    one e is =
        fires_quiet (old e.handle) e.handle globals e.object
        (each_in (λ f. Covers (old f.handle) f.object) slot.objects e h.covers is)

    lefts : (e : Entry) (b : Bool)
        → LeftsOf e (if b then entry_left e (firing_act globals e).left else e ∷ [])
    lefts e true = left_lefts e (firing_act globals e).left
    lefts e false = refl

    stays : (e : Entry) → Covers (old e.handle) e.object → (b : Bool)
        → Each (λ f. Covers (old f.handle) f.object)
        (if b then entry_left e (firing_act globals e).left else e ∷ [])
    stays e covers true =
        left_covers old e (firing_act globals e).left
        (fires_quiet (old e.handle) e.handle globals e.object covers).covers
    stays e covers false = (covers, tt)

-- one object acts by its handle, without an answer
pub at_handle_heard : (old : ℕ → List Place) (slot : SlotState) (handle : ℕ) (act : AnyObject
    → Act)
    → ((x : AnyObject) → Covers (old handle) x → QuietAct (old handle) (act x))
    → HeardSlot old slot
    → HeardSlot (λ h. replied_in h (at_object slot handle act).records ++ old h)
    (at_object slot handle act).slot
at_handle_heard old slot handle act rule h = found (entry_under handle slot.objects) refl
  where
    found : (o : Option Entry) → entry_under handle slot.objects ≡ o
        → HeardSlot (λ n. replied_in n (at_entry o slot handle act).records ++ old n)
        (at_entry o slot handle act).slot
    found None is = quiet_outcome old (at_entry None slot handle act) (λ n. refl) h
    found (Some e) is =
        let there = find_in handle slot.objects e is in
        let covers : Covers (old handle) e.object =
        subst (λ (n : ℕ). Covers (old n) e.object) there.1
        (each_in (λ f. Covers (old f.handle) f.object) slot.objects e h.covers there.0) in
        let one : QuietAct (old handle) (act e.object) = rule e.object covers in
        quiet_outcome old (at_entry (Some e) slot handle act) one.quiet
        (entries_heard old old slot (left_at handle (act e.object).left)
        (λ f. lefts (act e.object).left f (f.handle == handle))
        (λ f is_f covers_f. stays (act e.object).left one.covers f covers_f
        (f.handle == handle) refl)
        h.fresh h.distinct h)
      where
        lefts : (left : Option AnyObject) (f : Entry) (b : Bool)
            → LeftsOf f (if b then entry_left f left else f ∷ [])
        lefts left f true = left_lefts f left
        lefts left f false = refl

        stays : (left : Option AnyObject) → CoversLeft (old handle) left → (f : Entry)
            → Covers (old f.handle) f.object → (b : Bool) → (f.handle == handle) ≡ b
            → Each (λ g. Covers (old g.handle) g.object) (if b then entry_left f left else f ∷ [])
        stays left covers_left f covers_f true test =
            let same : handle ≡ f.handle = grind (arith, nat_tests) in
            left_covers old f left
            (subst (λ (n : ℕ). CoversLeft (old n) left) same covers_left)
        stays left covers_left f covers_f false test = (covers_f, tt)
