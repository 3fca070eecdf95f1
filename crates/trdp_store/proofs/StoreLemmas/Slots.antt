-- The slots of a table: how they are read, and how they change with it.
-- For `Store::act` and `remove`, `object_of`, all other lemmas here, and the node's calls above.
-- By: a change of one slot of the table is a change of that number of its slots.
use Rattle.std.proofs.Common.{◌≡◌, ℕ, zero, suc, ◌+◌, ◌<◌, List, [], ◌∷◌, ◌++◌, length, map, Option}
use Rattle.std.proofs.Common.{Some, None, Bool, true, false, not, refl, ◌∙◌, sym, ap, subst, arith}
use Rattle.std.specs.Prelude.{slice_get, slice_set, option_map, Result}
use Rattle.std.specs.Prelude.{Ok, Err, OnOk, OnErr, filter, ◌==◌}
use Rattle.std.specs.List.{flat_map}
use Rattle.std.proofs.lemmas.List.{length-map, map-append, map-set, set-set, get_or-set_same}
use Rattle.std.proofs.lemmas.List.Concat.{flat_map-cons}
use Rattle.std.proofs.lemmas.Grind.{flat_map-append}
use Rattle.std.proofs.lemmas.Bool.Decides.{nat_tests}
use Rattle.std.proofs.lemmas.Option.{same_Some, slice_get-map, slice_get_within, slice_get-get_or}
use Rattle.trdp_model.specs.declared.any_object.AnyObject.{AnyObject}
use Rattle.trdp_table.specs.Tables.{Keyed, SlotTable, TableState, opened_slot, slot_in}
use Rattle.trdp_table.specs.Tables.{all_objects, by_handle, by_key, new_object}
use Rattle.trdp_table.specs.Tables.{with_object as with_keyed, without_handle, changed_at}
use Rattle.trdp_table.specs.Tables.{exchanged, other_by_handle, with_other_by_handle, Adds}
use Rattle.trdp_table.specs.TableLaws.{AllAbove as AllKeyedAbove}
use Rattle.trdp_table.specs.TableLaws.{HandlesRise as AreKeyedRising, IsTable}
use Rattle.trdp_model.specs.Slots.{Entry, SlotState, entry_under}
use Rattle.trdp_store.specs.TableSlots.{entry_of_keyed, slot_of, slots_of}
use Rattle.trdp_model.specs.Slots.{with_new_object}
use Rattle.trdp_model.specs.Acts.{left_at, acted}
use Rattle.trdp_model.proofs.HandleLemmas.{AllAbove, IsRising}
use Rattle.trdp_store.specs.Acting.{slot_at}

-- How a slot is read.

pub slots_length : (table : TableState) → length (slots_of table) ≡ length table
slots_length table = length-map table slot_of

pub slot_there : (table : TableState) (s : ℕ)
    → s < length table → slice_get (slots_of table) s ≡ Some (slot_at s table)
slot_there table s lt =
    slice_get-map slot_of table s
    ∙ ap (option_map slot_of) (slice_get-get_or table s (opened_slot []) lt)

pub slot_within : (table : TableState) (s : ℕ) (slot : SlotState)
    → slice_get (slots_of table) s ≡ Some slot → s < length table
slot_within table s slot at =
    subst (λ (n : ℕ). s < n) (slots_length table) (slice_get_within (slots_of table) s slot at)

pub slot_is : (table : TableState) (s : ℕ) (slot : SlotState)
    → slice_get (slots_of table) s ≡ Some slot → slot ≡ slot_at s table
slot_is table s slot at =
    same_Some slot (slot_at s table) (sym at ∙ slot_there table s (slot_within table s slot at))

-- the slot of a table of which one slot changed
pub slot_changed : (table : TableState) (s : ℕ) (change : SlotTable → SlotTable)
    → s < length table → slot_at s (changed_at s change table) ≡ slot_of (change (slot_in s table))
slot_changed table s change lt =
    ap slot_of (get_or-set_same table s (change (slot_in s table)) (opened_slot []) lt)

-- the slots of a table of which one slot changed
pub slots_changed : (table : TableState) (s : ℕ) (change : SlotTable → SlotTable)
    → slots_of (changed_at s change table)
    ≡ slice_set (slots_of table) s (slot_of (change (slot_in s table)))
slots_changed table s change = map-set slot_of table s (change (slot_in s table))

-- the same, by the slot that resulted from it
pub slots_of_changed : (table table_then : TableState) (s : ℕ) (change : SlotTable → SlotTable)
    → s < length table → table_then ≡ changed_at s change table
    → slots_of table_then ≡ slice_set (slots_of table) s (slot_at s table_then)
slots_of_changed table table_then s change lt is =
    ap slots_of is
    ∙ slots_changed table s change
    ∙ ap (slice_set (slots_of table) s)
    (sym (slot_changed table s change lt) ∙ sym (ap (slot_at s) is))

-- what is there is put there again
pub kept_slot : {X : Type 0} (xs : List X) (s : ℕ) (x : X)
    → slice_get xs s ≡ Some x → slice_set xs s x ≡ xs
kept_slot [] s x at = absurd (cc)
kept_slot (y ∷ xs) zero x at = ap (λ z. z ∷ xs) (sym (same_Some y x at))
kept_slot (y ∷ xs) (suc s) x at = ap (λ zs. y ∷ zs) (kept_slot xs s x at)

pub slots_kept : (table : TableState) (s : ℕ)
    → s < length table → slice_set (slots_of table) s (slot_at s table) ≡ slots_of table
slots_kept table s lt = kept_slot (slots_of table) s (slot_at s table) (slot_there table s lt)

pub slots_of_kept : (table table_then : TableState) (s : ℕ) → s < length table
    → table_then ≡ table → slots_of table_then ≡ slice_set (slots_of table) s (slot_at s table_then)
slots_of_kept table table_then s lt is =
    ap slots_of is
    ∙ sym (slots_kept table s lt)
    ∙ sym (ap (λ (t : TableState). slice_set (slots_of table) s (slot_at s t)) is)

-- How an object is read.

pub entry_found : (h : ℕ) (objects : List Keyed)
    → entry_under h (map entry_of_keyed objects) ≡ option_map entry_of_keyed (by_handle h objects)
entry_found h [] = refl
entry_found h (k ∷ ks) = either (k.handle == h) refl (entry_found h ks)
  where
    either : (b : Bool) → (k.handle == h) ≡ b → entry_under h (map entry_of_keyed ks)
        ≡ option_map entry_of_keyed (by_handle h ks) → entry_under h (map entry_of_keyed (k ∷ ks))
        ≡ option_map entry_of_keyed (by_handle h (k ∷ ks))
    either true is rest = rw is refl
    either false is rest = rw is rest

AllAbove-keyed : (h : ℕ) (objects : List Keyed)
    → AllKeyedAbove h objects → AllAbove h (map entry_of_keyed objects)
AllAbove-keyed h [] above = tt
AllAbove-keyed h (k ∷ ks) above = (above.0, AllAbove-keyed h ks above.1)

IsRising-keyed : (objects : List Keyed) → AreKeyedRising objects
    → IsRising (map entry_of_keyed objects)
IsRising-keyed [] rising = tt
IsRising-keyed (k ∷ ks) rising = (AllAbove-keyed k.handle ks rising.0, IsRising-keyed ks rising.1)

pub rising : (table : TableState) (s : ℕ) → IsTable table → IsRising (slot_at s table).objects
rising table s is = IsRising-keyed (slot_in s table).objects (is.slots s).rising

-- An object becomes another one.

touched_objects : (h : ℕ) (object : AnyObject) (objects : List Keyed)
    → map entry_of_keyed (map (other_by_handle h object) objects)
    ≡ acted h (Some object) (map entry_of_keyed objects)
touched_objects h object [] = refl
touched_objects h object (k ∷ ks) =
    either (k.handle == h) refl (touched_objects h object ks)
    ∙ sym (flat_map-cons (left_at h (Some object)) (entry_of_keyed k) (map entry_of_keyed ks))
  where
    either : (b : Bool) → (k.handle == h) ≡ b
        → map entry_of_keyed (map (other_by_handle h object) ks)
        ≡ acted h (Some object) (map entry_of_keyed ks)
        → map entry_of_keyed (map (other_by_handle h object) (k ∷ ks)) ≡ left_at h
        (Some object) (entry_of_keyed k) ++ acted h (Some object) (map entry_of_keyed ks)
    either true is rest = rw is (ap (λ (es : List Entry).
        record { handle = k.handle; object = object } ∷ es) rest)
    either false is rest = rw is (ap (λ (es : List Entry). entry_of_keyed k ∷ es) rest)

-- the slot once its object of a handle became another one
pub touched_slot : (h : ℕ) (object : AnyObject) (slot : SlotTable)
    → slot_of (with_other_by_handle h object slot)
    ≡ record (slot_of slot) { objects = acted h (Some object) (slot_of slot).objects }
touched_slot h object slot =
    ap (λ (es : List Entry). let x : SlotState =
    record { quotas = slot.quotas; next = slot.next; objects = es } in x)
    (touched_objects h object slot.objects)

-- the slots once the object of a handle of slot s became another one
pub touched : (table : TableState) (s h : ℕ) (keyed : Keyed) (object : AnyObject)
    → exchanged keyed.key table object ≡ changed_at s (with_other_by_handle h object) table
    → slots_of (exchanged keyed.key table object) ≡ slice_set (slots_of table)
    s (record (slot_at s table) { objects = acted h (Some object) (slot_at s table).objects })
touched table s h keyed object is =
    ap slots_of is
    ∙ (slots_changed table s (with_other_by_handle h object)
    ∙ ap (slice_set (slots_of table) s) (touched_slot h object (slot_in s table)))

-- An object is removed.

removed_objects : (h : ℕ) (objects : List Keyed)
    → map entry_of_keyed (filter (λ keyed. not (keyed.handle == h)) objects)
    ≡ acted h None (map entry_of_keyed objects)
removed_objects h [] = refl
removed_objects h (k ∷ ks) =
    either (k.handle == h) refl (removed_objects h ks)
    ∙ sym (flat_map-cons (left_at h None) (entry_of_keyed k) (map entry_of_keyed ks))
  where
    either : (b : Bool) → (k.handle == h) ≡ b
        → map entry_of_keyed (filter (λ keyed. not (keyed.handle == h)) ks)
        ≡ acted h None (map entry_of_keyed ks)
        → map entry_of_keyed (filter (λ keyed. not (keyed.handle == h)) (k ∷ ks))
        ≡ left_at h None (entry_of_keyed k) ++ acted h None (map entry_of_keyed ks)
    either true is rest = rw is rest
    either false is rest = rw is (ap (λ (es : List Entry). entry_of_keyed k ∷ es) rest)

pub removed_slot : (h : ℕ) (slot : SlotTable) → slot_of (without_handle h slot)
    ≡ record (slot_of slot) { objects = acted h None (slot_of slot).objects }
removed_slot h slot =
    ap (λ (es : List Entry). let x : SlotState =
    record { quotas = slot.quotas; next = slot.next; objects = es } in x)
    (removed_objects h slot.objects)

-- the slots once the object of a handle of slot s is gone
pub removed : (table : TableState) (s h : ℕ)
    → slots_of (changed_at s (without_handle h) table) ≡ slice_set (slots_of table)
    s (record (slot_at s table) { objects = acted h None (slot_at s table).objects })
removed table s h =
    slots_changed table s (without_handle h)
    ∙ ap (slice_set (slots_of table) s) (removed_slot h (slot_in s table))

-- How an object is reached by its handle or its index.

-- the object of a handle is that of its key
abbrev pub KeysGive : TableState → Type 0
KeysGive table =
    (s handle : ℕ) (keyed : Keyed) → by_handle handle (slot_in s table).objects ≡ Some keyed
    → by_key keyed.key (all_objects table) ≡ Some keyed

-- an object that is found has the handle
pub handle_found : (h : ℕ) (objects : List Keyed) (keyed : Keyed)
    → by_handle h objects ≡ Some keyed → keyed.handle ≡ h
handle_found h [] keyed at = absurd (cc)
handle_found h (k ∷ ks) keyed at = either (k.handle == h) refl at (handle_found h ks keyed)
  where
    either : (b : Bool) → (k.handle == h) ≡ b → by_handle h (k ∷ ks) ≡ Some keyed
        → (by_handle h ks ≡ Some keyed → keyed.handle ≡ h) → keyed.handle ≡ h
    either true is at rest =
        let same : k ≡ keyed = same_Some k keyed (rw is at at) in
        let of : k.handle ≡ h = grind (arith, nat_tests) in
        ap (λ (x : Keyed). x.handle) (sym same) ∙ of
    either false is at rest = rest (rw is at at)

-- the object of a handle's key
pub keyed_found : (table : TableState) (s h key : ℕ) → KeysGive table
    → Some key ≡ option_map (λ keyed. keyed.key) (by_handle h (slot_in s table).objects)
    → by_key key (all_objects table) ≡ by_handle h (slot_in s table).objects
keyed_found table s h key found is = either (by_handle h (slot_in s table).objects) refl is
  where
    either : (o : Option Keyed) → by_handle h (slot_in s table).objects ≡ o
        → Some key ≡ option_map (λ keyed. keyed.key) o
        → by_key key (all_objects table) ≡ by_handle h (slot_in s table).objects
    either None at of = absurd (cc)
    either (Some keyed) at of =
        ap (λ (k : ℕ). by_key k (all_objects table)) (same_Some key keyed.key of)
        ∙ (found s h keyed at ∙ sym at)

option_map-map : {A B C : Type 0} (f : A → B) (g : B → C) (o : Option A)
    → option_map g (option_map f o) ≡ option_map (λ x. g (f x)) o
option_map-map f g None = refl
option_map-map f g (Some x) = refl

no_key : {A B : Type 0} (f : A → B) (o : Option A) → None ≡ option_map f o → o ≡ None
no_key f None is = refl
no_key f (Some x) is = absurd (cc)

-- a slot without an object of that handle
pub none_found : (table : TableState) (s h : ℕ)
    → None ≡ option_map (λ keyed. keyed.key) (by_handle h (slot_in s table).objects)
    → entry_under h (slot_at s table).objects ≡ None
none_found table s h is =
    entry_found h (slot_in s table).objects ∙ ap (option_map entry_of_keyed)
    (no_key (λ keyed. keyed.key) (by_handle h (slot_in s table).objects) is)

-- the object of the key of a handle is that of the slot
pub object_found : (table : TableState) (s h key : ℕ) → KeysGive table
    → Some key ≡ option_map (λ keyed. keyed.key) (by_handle h (slot_in s table).objects)
    → option_map (λ keyed. keyed.object) (by_key key (all_objects table))
    ≡ option_map (λ entry. entry.object) (entry_under h (slot_at s table).objects)
object_found table s h key found is =
    ap (option_map (λ keyed. keyed.object)) (keyed_found table s h key found is)
    ∙ (sym (option_map-map entry_of_keyed (λ entry. entry.object)
    (by_handle h (slot_in s table).objects))
    ∙ ap (option_map (λ entry. entry.object)) (sym (entry_found h (slot_in s table).objects)))

-- the slots once an object was added, or refused
pub slots_of_added : {X Y : Type 0} (table table_then : TableState)
    (s : ℕ) (object : AnyObject) (result : Result X Y) → s < length table
    → OnOk result (Adds s object table table_then) → OnErr result (table_then ≡ table)
    → slots_of table_then ≡ slice_set (slots_of table) s (slot_at s table_then)
slots_of_added table table_then s object (Ok x) lt adds kept =
    slots_of_changed table table_then s (with_keyed adds.key object) lt adds.table
slots_of_added table table_then s object (Err y) lt adds kept =
    slots_of_kept table table_then s lt kept

-- the slots once an object was added
pub added : (table table_then : TableState) (s : ℕ) (object : AnyObject)
    → Adds s object table table_then → slots_of table_then
    ≡ slice_set (slots_of table) s (with_new_object (slot_at s table) object)
added table table_then s object adds =
    let slot : SlotTable = slot_in s table in
    ap slots_of adds.table
    ∙ slots_changed table s (with_keyed adds.key object)
    ∙ ap (λ (es : List Entry). let x : SlotState =
    record { quotas = slot.quotas; next = slot.next + 1; objects = es } in
    slice_set (slots_of table) s x)
    (map-append entry_of_keyed slot.objects (new_object slot.next adds.key object ∷ []))

-- How the object of a handle acts.

-- where the object of a handle becomes another one, all other objects stay
abbrev pub ExchangesAlone : TableState → Type 0
ExchangesAlone table =
    (s handle : ℕ) (keyed : Keyed) (object : AnyObject)
    → by_handle handle (slot_in s table).objects ≡ Some keyed
    → exchanged keyed.key table object ≡ changed_at s (with_other_by_handle handle object) table

-- the object of a handle of slot s, under its key
pub record IsReached (table : TableState) (s h key : ℕ) (object : AnyObject) : Type 0 where
  pub keyed : Keyed
  pub found : by_handle h (slot_in s table).objects ≡ Some keyed
  pub key_is : key ≡ keyed.key
  pub object_is : object ≡ keyed.object

pub reached : (table : TableState) (s h key : ℕ) (object : AnyObject) → KeysGive table
    → Some key ≡ option_map (λ keyed. keyed.key) (by_handle h (slot_in s table).objects)
    → Some object ≡ option_map (λ keyed. keyed.object) (by_key key (all_objects table))
    → IsReached table s h key object
reached table s h key object found is got =
    either (by_handle h (slot_in s table).objects)
    refl is (got ∙ ap (option_map (λ keyed. keyed.object)) (keyed_found table s h key found is))
  where
    either : (o : Option Keyed) → by_handle h (slot_in s table).objects ≡ o
        → Some key ≡ option_map (λ keyed. keyed.key) o
        → Some object ≡ option_map (λ keyed. keyed.object) (by_handle h (slot_in s table).objects)
        → IsReached table s h key object
    either None at of got = absurd (cc)
    either (Some keyed) at of got = record {
      keyed = keyed;
      found = at;
      key_is = same_Some key keyed.key of;
      object_is = same_Some object keyed.object (got ∙ ap (option_map (λ keyed. keyed.object)) at);
    }

-- the slot has it under that handle
pub reached_entry : (table : TableState) (s h key : ℕ) (object : AnyObject)
    → (r : IsReached table s h key object)
    → entry_under h (slot_at s table).objects ≡ Some (entry_of_keyed r.keyed)
reached_entry table s h key object r =
    entry_found h (slot_in s table).objects ∙ ap (option_map entry_of_keyed) r.found

-- the slots once it became another one
pub reached_touched : (table : TableState) (s h key : ℕ) (object object_then : AnyObject)
    → ExchangesAlone table → IsReached table s h key object
    → slots_of (exchanged key table object_then) ≡ slice_set (slots_of table)
    s (record (slot_at s table) { objects = acted h (Some object_then) (slot_at s table).objects })
reached_touched table s h key object object_then alone r =
    ap (λ (k : ℕ). slots_of (exchanged k table object_then)) r.key_is
    ∙ touched table s h r.keyed object_then (alone s h r.keyed object_then r.found)

-- what is removed is removed, whatever it was exchanged for before
acted-twice : (h : ℕ) (object : AnyObject) (objects : List Entry)
    → acted h None (acted h (Some object) objects) ≡ acted h None objects
acted-twice h object [] = refl
acted-twice h object (e ∷ es) =
    ap (acted h None) (flat_map-cons (left_at h (Some object)) e es)
    ∙ flat_map-append (left_at h None) (left_at h (Some object) e) (acted h (Some object) es)
    ∙ rw (acted-twice h object es) (either (e.handle == h) refl)
    ∙ sym (flat_map-cons (left_at h None) e es)
  where
    either : (b : Bool) → (e.handle == h) ≡ b
        → flat_map (left_at h None) (left_at h (Some object) e) ++ acted h None es
        ≡ left_at h None e ++ acted h None es
    either true is = rw is (rw is refl)
    either false is = rw is (rw is refl)

-- the slots once it became another one and then was removed
pub reached_removed : (table : TableState) (s h key : ℕ) (object object_then : AnyObject)
    → s < length table → ExchangesAlone table → IsReached table s h key object
    → slots_of (changed_at s (without_handle h) (exchanged key table object_then))
    ≡ slice_set (slots_of table)
    s (record (slot_at s table) { objects = acted h None (slot_at s table).objects })
reached_removed table s h key object object_then lt alone r =
    let change : SlotTable → SlotTable = with_other_by_handle h object_then in
    let is : exchanged key table object_then ≡ changed_at s change table =
    ap (λ (k : ℕ). exchanged k table object_then) r.key_is ∙ alone s h r.keyed object_then r.found
    in
    let slot : SlotState = slot_at s table in
    let slot_then : SlotState = record slot { objects = acted h (Some object_then) slot.objects } in
    let there : slot_at s (changed_at s change table) ≡ slot_then =
    slot_changed table s change lt ∙ touched_slot h object_then (slot_in s table)
    in
    let end : SlotState → SlotState = λ x. record x { objects = acted h None x.objects } in
    let ended : end slot_then ≡ end slot =
    ap (λ (es : List Entry). let x : SlotState = record slot { objects = es } in
    x) (acted-twice h object_then slot.objects)
    in
    ap (λ (t : TableState). slots_of (changed_at s (without_handle h) t)) is
    ∙ removed (changed_at s change table) s h
    ∙ ap (λ (x : SlotState). slice_set (slots_of (changed_at s change table)) s (end x)) there
    ∙ ap (λ (xs : List SlotState). slice_set xs s (end slot_then)) (slots_changed table s change)
    ∙ set-set (slots_of table) s (slot_of (change (slot_in s table))) (end slot_then)
    ∙ ap (slice_set (slots_of table) s) ended

-- where its key has no object the slot has none of that handle
pub none_reached : (table : TableState) (s h key : ℕ) → KeysGive table
    → Some key ≡ option_map (λ keyed. keyed.key) (by_handle h (slot_in s table).objects)
    → None ≡ option_map (λ keyed. keyed.object) (by_key key (all_objects table))
    → entry_under h (slot_at s table).objects ≡ None
none_reached table s h key found is none =
    entry_found h (slot_in s table).objects
    ∙ ap (option_map entry_of_keyed) (sym (keyed_found table s h key found is)
    ∙ no_key (λ keyed. keyed.object) (by_key key (all_objects table)) none)
