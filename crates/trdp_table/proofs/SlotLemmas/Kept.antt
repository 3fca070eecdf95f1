-- What is true of each slot stays true as objects are added and removed.
-- For `Slot::add`, `remove`, `raise` and `count`, and for all that `TableLemmas` say of slots.
-- By induction on the entries: handles stay below the next one, and each kind within its quota.
use Rattle.std.proofs.Common.{◌≡◌, ℕ, zero, suc, ◌+◌, ◌<◌, ◌≤◌, max, List, []}
use Rattle.std.proofs.Common.{◌∷◌, ◌++◌, length, get_or, Some, None, Bool, true}
use Rattle.std.proofs.Common.{false, cond, not, refl, ◌∙◌, sym, ap, arith}
use Rattle.std.specs.Prelude.{slice_index, slice_get, count_by, filter, ◌==◌}
use Rattle.std.specs.List.{remove}
use Rattle.std.proofs.lemmas.Option.{same_Some, none-some, slice_get_read}
use Rattle.std.proofs.lemmas.Bool.Decides.{nat_tests}
use Rattle.std.proofs.lemmas.List.Sums.{sum_by-cons}
use Rattle.trdp_table.specs.declared.entry.Entry.{Entry}
use Rattle.trdp_model.specs.declared.kind.Kind.{Kind}
use Rattle.trdp_model.specs.declared.kind.Kind.TheVariants.{Publisher, Subscription, Requester}
use Rattle.trdp_model.specs.declared.kind.Kind.TheVariants.{Listener, Caller, Replier}
use Rattle.trdp_model.specs.Kinds.{kind_index, is_same_kind}
use Rattle.trdp_table.specs.Tables.{last_handle, all_quotas}
use Rattle.trdp_table.specs.TableLaws.{AreLimited, object_limit}
use Rattle.trdp_table.specs.Entries.{SlotEntries, opened_entries, entry_of, entries_of, refusal_of}
use Rattle.trdp_table.specs.Entries.{new_entry, with_entry, without_entry, with_next_handle}
use Rattle.trdp_table.specs.Entries.{AreAbove, AreBelow, AreRising, AreSlotEntries}
use Rattle.trdp_table.specs.SlotKept.{IsKeptSlot, IsIndexOfHandle}

abbrev one_if : Bool → ℕ
one_if b = cond b 1 0

-- how many objects count for the quota of that index
abbrev count_at : ℕ → List Entry → ℕ
count_at i entries = count_by (λ entry. kind_index entry.kind == i) entries

pub entries_of-cons : (kind : Kind) (e : Entry) (es : List Entry)
    → entries_of kind (e ∷ es) ≡ one_if (is_same_kind e.kind kind) + entries_of kind es
entries_of-cons kind e es = sum_by-cons (λ x. one_if (is_same_kind x.kind kind)) e es

entries_of-push : (kind : Kind) (es : List Entry) (e : Entry)
    → entries_of kind (es ++ e ∷ []) ≡ entries_of kind es + one_if (is_same_kind e.kind kind)
entries_of-push kind [] e = let one = entries_of-cons kind e [] in omega (arith, one)
entries_of-push kind (x ∷ es) e =
    let rest = entries_of-push kind es e in
    omega (arith, rest, entries_of-cons kind x (es ++ e ∷ []), entries_of-cons kind x es)

-- Handles below the next one.

AreBelow-push : (n : ℕ) (es : List Entry) (e : Entry)
    → AreBelow n es → e.handle ≡ n → AreBelow (n + 1) (es ++ e ∷ [])
AreBelow-push n [] e below is = (omega (arith, is), tt)
AreBelow-push n (x ∷ es) e below is = (omega (arith, below.0), AreBelow-push n es e below.1 is)

AreAbove-push : (h n : ℕ) (es : List Entry) (e : Entry)
    → h < n → AreAbove h es → e.handle ≡ n → AreAbove h (es ++ e ∷ [])
AreAbove-push h n [] e lt above is = (omega (arith, is), tt)
AreAbove-push h n (x ∷ es) e lt above is = (above.0, AreAbove-push h n es e lt above.1 is)

AreRising-push : (n : ℕ) (es : List Entry) (e : Entry)
    → AreBelow n es → AreRising es → e.handle ≡ n → AreRising (es ++ e ∷ [])
AreRising-push n [] e below rising is = (tt, tt)
AreRising-push n (x ∷ es) e below rising is =
    (AreAbove-push x.handle n es e below.0 rising.0 is, AreRising-push n es e below.1 rising.1 is)

AreBelow-more : (n m : ℕ) (es : List Entry) → n ≤ m → AreBelow n es → AreBelow m es
AreBelow-more n m [] le below = tt
AreBelow-more n m (x ∷ es) le below = (omega (arith, below.0), AreBelow-more n m es le below.1)

-- The objects that a test passes.

AreBelow-filter : (p : Entry → Bool) (n : ℕ) (es : List Entry)
    → AreBelow n es → AreBelow n (filter p es)
AreBelow-filter p n [] below = tt
AreBelow-filter p n (x ∷ es) below = either (p x) (AreBelow-filter p n es below.1)
  where
    either : (b : Bool) → AreBelow n (filter p es)
        → AreBelow n (cond b (x ∷ filter p es) (filter p es))
    either true rest = (below.0, rest)
    either false rest = rest

AreAbove-filter : (p : Entry → Bool) (h : ℕ) (es : List Entry)
    → AreAbove h es → AreAbove h (filter p es)
AreAbove-filter p h [] above = tt
AreAbove-filter p h (x ∷ es) above = either (p x) (AreAbove-filter p h es above.1)
  where
    either : (b : Bool) → AreAbove h (filter p es)
        → AreAbove h (cond b (x ∷ filter p es) (filter p es))
    either true rest = (above.0, rest)
    either false rest = rest

AreRising-filter : (p : Entry → Bool) (es : List Entry) → AreRising es → AreRising (filter p es)
AreRising-filter p [] rising = tt
AreRising-filter p (x ∷ es) rising = either (p x) (AreRising-filter p es rising.1)
  where
    either : (b : Bool) → AreRising (filter p es)
        → AreRising (cond b (x ∷ filter p es) (filter p es))
    either true rest = (AreAbove-filter p x.handle es rising.0, rest)
    either false rest = rest

entries_of-filter : (p : Entry → Bool) (kind : Kind) (es : List Entry)
    → entries_of kind (filter p es) ≤ entries_of kind es
entries_of-filter p kind [] = omega arith
entries_of-filter p kind (x ∷ es) = either (p x) (entries_of-filter p kind es)
  where
    either : (b : Bool) → entries_of kind (filter p es) ≤ entries_of kind es
        → entries_of kind (cond b (x ∷ filter p es) (filter p es)) ≤ entries_of kind (x ∷ es)
    either true rest =
        omega (arith, rest, entries_of-cons kind x es, entries_of-cons kind x (filter p es))
    either false rest = omega (arith, rest, entries_of-cons kind x es)

-- What a slot refuses, and what it may hold.

pub below_quota : (slot : SlotEntries) (kind : Kind) → refusal_of slot kind ≡ None
    → entries_of kind slot.entries < slice_index slot.quotas (kind_index kind)
below_quota slot kind none = grind (arith, nat_tests)

pub handles_left : (slot : SlotEntries) (kind : Kind)
    → refusal_of slot kind ≡ None → slot.next ≤ last_handle
handles_left slot kind none = grind (arith, nat_tests)

pub AreSlotEntries-opened : (quotas : List ℕ)
    → AreLimited quotas → AreSlotEntries (opened_entries quotas)
AreSlotEntries-opened quotas limited = record {
  handles = omega arith;
  rising = tt;
  below = tt;
  limited = limited;
  full = λ kind. omega arith;
}

pub AreSlotEntries-add : (slot : SlotEntries) (key : ℕ) (of : Kind)
    → AreSlotEntries slot → refusal_of slot of ≡ None → AreSlotEntries (with_entry of key slot)
AreSlotEntries-add slot key of is none = record {
  limited = is.limited;
  handles = let left = handles_left slot of none in omega (arith, left);
  rising = AreRising-push slot.next slot.entries _ is.below is.rising refl;
  below = AreBelow-push slot.next slot.entries _ is.below refl;
  full = λ kind.
      let added = entries_of-push kind slot.entries (new_entry slot.next of key) in
      let lt = below_quota slot of none in
      let le = is.full kind in
      either kind (is_same_kind of kind) refl added lt le;
}
  where
    either : (kind : Kind) (b : Bool) → is_same_kind of kind ≡ b
        → entries_of kind (slot.entries ++ new_entry slot.next of key ∷ [])
        ≡ entries_of kind slot.entries + one_if (is_same_kind of kind)
        → entries_of of slot.entries < slice_index slot.quotas (kind_index of)
        → entries_of kind slot.entries ≤ slice_index slot.quotas (kind_index kind)
        → entries_of kind (slot.entries ++ new_entry slot.next of key ∷ [])
        ≤ slice_index slot.quotas (kind_index kind)
    either kind false is_b added lt le = let same = rw is_b at added in omega (arith, same, le)
    either kind true is_b added lt le =
        let index : kind_index of ≡ kind_index kind = grind (arith, nat_tests) in
        let counts : entries_of kind slot.entries ≡ entries_of of slot.entries =
        ap (λ i. count_at i slot.entries) (sym index) in
        let more = rw is_b at added in
        let quota : slice_index slot.quotas (kind_index of)
        ≡ slice_index slot.quotas (kind_index kind) = ap (slice_index slot.quotas) index in
        omega (arith, more, counts, quota, lt)

pub AreSlotEntries-without_entry : (handle : ℕ) (slot : SlotEntries)
    → AreSlotEntries slot → AreSlotEntries (without_entry handle slot)
AreSlotEntries-without_entry handle slot is = record {
  limited = is.limited;
  handles = is.handles;
  rising = AreRising-filter (λ entry. not (entry.handle == handle)) slot.entries is.rising;
  below = AreBelow-filter (λ entry. not (entry.handle == handle)) slot.next slot.entries is.below;
  full = λ kind. let le = entries_of-filter (λ entry. not (entry.handle == handle)) kind
      slot.entries in omega (arith, is.full kind, le);
}

pub AreSlotEntries-next : (next : ℕ) (slot : SlotEntries)
    → next ≤ last_handle → AreSlotEntries slot → AreSlotEntries (with_next_handle next slot)
AreSlotEntries-next next slot le is = record {
  limited = is.limited;
  handles = omega (arith, is.handles);
  rising = is.rising;
  below = AreBelow-more slot.next (max slot.next next) slot.entries (omega arith) is.below;
  full = is.full;
}

-- What a slot keeps beside its objects.

length-kinds : (es : List Entry)
    → length es ≡ entries_of Publisher es + entries_of Subscription es + entries_of Requester es
    + entries_of Listener es + entries_of Caller es + entries_of Replier es
length-kinds [] = refl
length-kinds (e ∷ es) =
    let rest = length-kinds es in
    let one = by_kinds e.kind in
    omega (
      arith,
      rest,
      one,
      entries_of-cons Publisher e es,
      entries_of-cons Subscription e es,
      entries_of-cons Requester e es,
      entries_of-cons Listener e es,
      entries_of-cons Caller e es,
      entries_of-cons Replier e es,
    )
  where
    by_kinds : (k : Kind) → one_if (is_same_kind k Publisher) + one_if (is_same_kind k Subscription)
        + one_if (is_same_kind k Requester) + one_if (is_same_kind k Listener)
        + one_if (is_same_kind k Caller) + one_if (is_same_kind k Replier) ≡ 1
    by_kinds Publisher = refl
    by_kinds Subscription = refl
    by_kinds Requester = refl
    by_kinds Listener = refl
    by_kinds Caller = refl
    by_kinds Replier = refl

-- a slot has at most as many objects as all quotas can allow
pub few_objects : (slot : SlotEntries) → AreSlotEntries slot → length slot.entries ≤ object_limit
few_objects slot is =
    let all = length-kinds slot.entries in
    let f = is.full in
    let l = is.limited in
    omega (
      arith,
      all,
      f Publisher,
      f Subscription,
      f Requester,
      f Listener,
      f Caller,
      f Replier,
      l Publisher,
      l Subscription,
      l Requester,
      l Listener,
      l Caller,
      l Replier,
    )

-- a slot has at most as many objects as its quotas allow together
pub within_quotas : (slot : SlotEntries) → AreSlotEntries slot
    → length slot.entries ≤ all_quotas slot.quotas
within_quotas slot is =
    let all = length-kinds slot.entries in
    let f = is.full in
    omega (arith, all, f Publisher, f Subscription, f Requester, f Listener, f Caller, f Replier)

-- a slot that takes an object has fewer
pub under_quotas : (slot : SlotEntries) (of : Kind)
    → AreSlotEntries slot → refusal_of slot of ≡ None → length slot.entries < all_quotas slot.quotas
under_quotas slot of is none =
    let f = is.full in
    split of (below_quota slot of none) (length-kinds slot.entries)
    (f Publisher) (f Subscription) (f Requester) (f Listener) (f Caller) (f Replier)
  where
    split : (k : Kind) → entries_of k slot.entries < slice_index slot.quotas (kind_index k)
        → length slot.entries ≡ entries_of Publisher slot.entries + entries_of Subscription
        slot.entries + entries_of Requester slot.entries + entries_of Listener slot.entries
        + entries_of Caller slot.entries + entries_of Replier slot.entries
        → entries_of Publisher slot.entries ≤ slice_index slot.quotas 0
        → entries_of Subscription slot.entries ≤ slice_index slot.quotas 1
        → entries_of Requester slot.entries ≤ slice_index slot.quotas 2
        → entries_of Listener slot.entries ≤ slice_index slot.quotas 3
        → entries_of Caller slot.entries ≤ slice_index slot.quotas 4
        → entries_of Replier slot.entries ≤ slice_index slot.quotas 5
        → length slot.entries < all_quotas slot.quotas
    split Publisher lt all a b c d e f = omega (arith, lt, all, a, b, c, d, e, f)
    split Subscription lt all a b c d e f = omega (arith, lt, all, a, b, c, d, e, f)
    split Requester lt all a b c d e f = omega (arith, lt, all, a, b, c, d, e, f)
    split Listener lt all a b c d e f = omega (arith, lt, all, a, b, c, d, e, f)
    split Caller lt all a b c d e f = omega (arith, lt, all, a, b, c, d, e, f)
    split Replier lt all a b c d e f = omega (arith, lt, all, a, b, c, d, e, f)

-- and its list has room for it
pub has_room : (slot : SlotEntries) (numbers : List ℕ) (capacity : ℕ) (of : Kind)
    → IsKeptSlot slot numbers capacity → refusal_of slot of ≡ None → length slot.entries < capacity
has_room slot numbers capacity of is none =
    omega (arith, under_quotas slot of is.sound none, is.room)

-- the numbers with one object of a kind more
abbrev pub HasOneMore : Kind → List ℕ → List ℕ → Type 0
HasOneMore kind numbers more = (other : Kind) → slice_index more (kind_index other)
    ≡ slice_index numbers (kind_index other) + one_if (is_same_kind kind other)

pub IsKept-add : (slot : SlotEntries) (numbers more : List ℕ) (capacity key : ℕ) (of : Kind)
    → IsKeptSlot slot numbers capacity → refusal_of slot of ≡ None
    → HasOneMore of numbers more → IsKeptSlot (with_entry of key slot) more capacity
IsKept-add slot numbers more capacity key of is none one = record {
  sound = AreSlotEntries-add slot key of is.sound none;
  counted = λ kind.
      let added = entries_of-push kind slot.entries (new_entry slot.next of key) in
      omega (arith, added, one kind, is.counted kind);
  room = is.room;
}

pub IsKept-next : (slot : SlotEntries) (numbers : List ℕ) (capacity next : ℕ) → next ≤ last_handle
    → IsKeptSlot slot numbers capacity → IsKeptSlot (with_next_handle next slot) numbers capacity
IsKept-next slot numbers capacity next le is = record {
  sound = AreSlotEntries-next next slot le is.sound;
  counted = is.counted;
  room = is.room;
}

-- The object that goes.

pub filter_above : (a h : ℕ) (es : List Entry)
    → h ≤ a → AreAbove a es → filter (λ entry. not (entry.handle == h)) es ≡ es
filter_above a h [] le above = refl
filter_above a h (x ∷ es) le above =
    let other : (x.handle == h) ≡ false =
    (let lt : a < x.handle = above.0 in grind (arith, nat_tests)) in
    rw (other, filter_above a h es le above.1) refl

pub above_get : (h : ℕ) (es : List Entry) (i : ℕ) (e : Entry)
    → AreAbove h es → slice_get es i ≡ Some e → h < e.handle
above_get h [] i e above at = absurd (cc)
above_get h (x ∷ es) zero e above at = let same : x ≡ e = same_Some x e at in let handle :
    x.handle ≡ e.handle = ap (λ (k : Entry). k.handle) same in omega (arith, above.0, handle)
above_get h (x ∷ es) (suc i) e above at = above_get h es i e above.1 at

-- the list without the entry of a handle
pub record Removed (h i : ℕ) (es : List Entry) (e : Entry) : Type 0 where
  pub found : entry_of h es ≡ Some e
  pub rest : remove es i ≡ filter (λ entry. not (entry.handle == h)) es
  pub counts : (kind : Kind)
      → entries_of kind es ≡ entries_of kind (remove es i) + one_if (is_same_kind e.kind kind)

pub removed : (h i : ℕ) (es : List Entry) (e : Entry)
    → AreRising es → slice_get es i ≡ Some e → e.handle ≡ h → Removed h i es e
removed h i [] e rising at is = absurd (cc)
removed h zero (x ∷ es) e rising at is =
    let same : x ≡ e = same_Some x e at in
    let handle : x.handle ≡ h = ap (λ (k : Entry). k.handle) same ∙ is in
    let here : (x.handle == h) ≡ true = grind (arith, nat_tests) in
    record {
      found = rw here at;
      rest = rw (here, filter_above x.handle h es (omega (arith, handle)) rising.0) refl;
      counts = λ kind. let cons = entries_of-cons kind x es in let kinds : x.kind ≡ e.kind =
          ap (λ (k : Entry). k.kind) same in rw (cons, kinds) (omega arith);
    }
removed h (suc i) (x ∷ es) e rising at is =
    let rest = removed h i es e rising.1 at is in
    let lt : x.handle < e.handle = above_get x.handle es i e rising.0 at in
    let other : (x.handle == h) ≡ false = grind (arith, nat_tests) in
    record {
      found = rw other rest.found;
      rest = rw (other, rest.rest) refl;
      counts = λ kind. let inner = rest.counts kind in
          omega (arith, inner, entries_of-cons kind x es, entries_of-cons kind x (remove es i));
    }

pub IsKept-remove : (slot : SlotEntries) (numbers fewer : List ℕ) (capacity h i : ℕ) (e : Entry)
    → IsKeptSlot slot numbers capacity → Removed h i slot.entries e
    → HasOneMore e.kind fewer numbers → IsKeptSlot (without_entry h slot) fewer capacity
IsKept-remove slot numbers fewer capacity h i e is gone one = record {
  sound = AreSlotEntries-without_entry h slot is.sound;
  counted = λ kind.
      let counts = rw gone.rest at gone.counts kind in
      omega (arith, counts, one kind, is.counted kind);
  room = is.room;
}

-- no object has the handle: nothing goes
without_none : (h : ℕ) (es : List Entry) → entry_of h es ≡ None
    → es ≡ filter (λ entry. not (entry.handle == h)) es
without_none h [] none = refl
without_none h (x ∷ es) none = either (x.handle == h) refl none (without_none h es)
  where
    either : (b : Bool) → (x.handle == h) ≡ b → entry_of h (x ∷ es) ≡ None
        → (entry_of h es ≡ None → es ≡ filter (λ entry. not (entry.handle == h)) es)
        → x ∷ es ≡ filter (λ entry. not (entry.handle == h)) (x ∷ es)
    either true is found rest = absurd (none-some x (sym (rw is at found)))
    either false is found rest = rw is (ap (λ (r : List Entry). x ∷ r) (rest (rw is at found)))

pub same_without : (h : ℕ) (slot : SlotEntries)
    → entry_of h slot.entries ≡ None → slot ≡ without_entry h slot
same_without h slot none =
    ap (λ (es : List Entry). record slot { entries = es }) (without_none h slot.entries none)

-- an object that is found has the handle
pub handle_found : (h : ℕ) (es : List Entry) (e : Entry) → entry_of h es ≡ Some e → e.handle ≡ h
handle_found h [] e found = absurd (cc)
handle_found h (x ∷ es) e found = either (x.handle == h) refl found (handle_found h es e)
  where
    either : (b : Bool) → (x.handle == h) ≡ b
        → entry_of h (x ∷ es) ≡ Some e → (entry_of h es ≡ Some e → e.handle ≡ h) → e.handle ≡ h
    either true is found rest =
        let same : x ≡ e = same_Some x e (rw is at found) in
        let handle : x.handle ≡ h = grind (arith, nat_tests) in
        ap (λ (k : Entry). k.handle) (sym same) ∙ handle
    either false is found rest = rest (rw is at found)

-- the object at the index of a handle
pub gone : (h i : ℕ) (es : List Entry) (e : Entry)
    → AreRising es → IsIndexOfHandle h es i → e ≡ get_or es i e → Removed h i es e
gone h i es e rising index is =
    let at : slice_get es i ≡ Some e = slice_get_read es _ i e refl index.within is in
    removed h i es e rising at (handle_found h es e (sym index.found ∙ at))

pub some_of_kind : (slot : SlotEntries) (numbers : List ℕ) (capacity h i : ℕ) (e : Entry)
    → IsKeptSlot slot numbers capacity → Removed h i slot.entries e
    → 0 < slice_index numbers (kind_index e.kind)
some_of_kind slot numbers capacity h i e is gone =
    let counts = gone.counts e.kind in
    let same : is_same_kind e.kind e.kind ≡ true = grind (arith, nat_tests) in
    let more = rw same at counts in
    omega (arith, more, is.counted e.kind)
