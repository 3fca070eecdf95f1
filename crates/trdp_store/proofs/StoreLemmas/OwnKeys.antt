-- No two objects of a table have one key.
-- For `OrderLemmas.Changed` and `Removed`, and for `DueLemmas`.
-- By induction on all objects: the object that is found by a key comes before all others that have
-- it.
use Rattle.std.proofs.Common.{◌≡◌, ◌≢◌, ℕ, zero, suc, ◌<◌, List, [], ◌∷◌, ◌++◌, length, map}
use Rattle.std.proofs.Common.{Some, None, Bool, true, false, refl, ◌∙◌, sym, ap, arith}
use Rattle.std.specs.Prelude.{◌==◌}
use Rattle.std.specs.List.{IsDistinct, AllByRecursion}
use Rattle.std.proofs.lemmas.Option.{same_Some, none-some}
use Rattle.trdp_table.specs.Tables.{Keyed, TableState, slot_in, all_objects, by_handle, by_key}
use Rattle.trdp_table.specs.TableLaws.{IsTable}
use Rattle.trdp_model.proofs.TestLemmas.{same_number, differ_either_way}

-- none of these has the key of one before it
abbrev pub HaveOwnKeys : List Keyed → Type 0
HaveOwnKeys [] = Unit {0}
HaveOwnKeys (e ∷ es) = (by_key e.key es ≡ None) × HaveOwnKeys es

none_of : (k : ℕ) (es : List Keyed)
    → AllByRecursion (λ y. (k == y) ≡ false) (map (λ keyed. keyed.key) es) → by_key k es ≡ None
none_of k [] all = refl
none_of k (e ∷ es) all =
    let other : (e.key == k) ≡ false = differ_either_way k e.key all.0 in
    rw other (none_of k es all.1)

have_own_keys : (es : List Keyed)
    → IsDistinct (λ a b. a == b) (map (λ keyed. keyed.key) es) → HaveOwnKeys es
unfolding IsDistinct
have_own_keys [] distinct = tt
have_own_keys (e ∷ es) distinct = (none_of e.key es distinct.0, have_own_keys es distinct.1)

pub own_keys : (table : TableState) → IsTable table → HaveOwnKeys (all_objects table)
own_keys table sound = have_own_keys (all_objects table) sound.keys

-- a key that none of both lists has
key_append : (k : ℕ) (xs ys : List Keyed) → by_key k (xs ++ ys) ≡ None
    → (by_key k xs ≡ None) × (by_key k ys ≡ None)
key_append k [] ys none = (refl, none)
key_append k (x ∷ xs) ys none = either (x.key == k) refl none (key_append k xs ys)
  where
    either : (b : Bool) → (x.key == k) ≡ b → by_key k (x ∷ xs ++ ys) ≡ None
        → (by_key k (xs ++ ys) ≡ None → (by_key k xs ≡ None) × (by_key k ys ≡ None))
        → (by_key k (x ∷ xs) ≡ None) × (by_key k ys ≡ None)
    either true is none rest = absurd (none-some x (sym (rw is at none)))
    either false is none rest =
        let both = rest (rw is at none) in
        let first : by_key k (x ∷ xs) ≡ None = rw is both.0 in
        (first, both.1)

-- an object that is found by its handle has its key
has_key : (h : ℕ) (es : List Keyed) (keyed : Keyed)
    → by_handle h es ≡ Some keyed → by_key keyed.key es ≢ None
has_key h [] keyed at none = none-some keyed at
has_key h (e ∷ es) keyed at none = either (e.handle == h) refl at (has_key h es keyed)
  where
    either : (b : Bool) → (e.handle == h) ≡ b → by_handle h (e ∷ es) ≡ Some keyed
        → (by_handle h es ≡ Some keyed → by_key keyed.key es ≢ None) → ⊥
    either true is at rest =
        let same : e ≡ keyed = same_Some e keyed (rw is at at) in
        let own : (e.key == keyed.key) ≡ true = ap (λ (k : Keyed). e.key == k.key) (sym same)
        ∙ same_number e.key in
        none-some e (sym (rw own at none))
    either false is at rest = rest (rw is at at) (key_append keyed.key (e ∷ []) es none).1

-- none after a list has the key of an object in it
front_none : (g : ℕ) (xs ys : List Keyed) (a : Keyed)
    → HaveOwnKeys (xs ++ ys) → by_handle g xs ≡ Some a → by_key a.key ys ≡ None
front_none g [] ys a own at = absurd (none-some a at)
front_none g (x ∷ xs) ys a own at = either (x.handle == g) refl at (front_none g xs ys a own.1)
  where
    either : (b : Bool) → (x.handle == g) ≡ b → by_handle g (x ∷ xs) ≡ Some a
        → (by_handle g xs ≡ Some a → by_key a.key ys ≡ None) → by_key a.key ys ≡ None
    either true is at rest =
        let same : x ≡ a = same_Some x a (rw is at at) in
        ap (λ (k : Keyed). by_key k.key ys) (sym same) ∙ (key_append x.key xs ys own.0).1
    either false is at rest = rest (rw is at at)

own_behind : (xs ys : List Keyed) → HaveOwnKeys (xs ++ ys) → HaveOwnKeys ys
own_behind [] ys own = own
own_behind (x ∷ xs) ys own = own_behind xs ys own.1

-- an object of a slot is among all
among : (t h : ℕ) (b : Keyed) (table : TableState)
    → by_handle h (slot_in t table).objects ≡ Some b → by_key b.key (all_objects table) ≢ None
among t h b [] at none = none-some b at
among zero h b (x ∷ xs) at none =
    has_key h x.objects b at (key_append b.key x.objects (all_objects xs) none).0
among (suc t) h b (x ∷ xs) at none =
    among t h b xs at (key_append b.key x.objects (all_objects xs) none).1

-- objects of two slots have two keys
pub slots_apart : (s t g h : ℕ) (a b : Keyed) (table : TableState)
    → HaveOwnKeys (all_objects table) → by_handle g (slot_in s table).objects ≡ Some a
    → by_handle h (slot_in t table).objects ≡ Some b → s ≢ t → a.key ≢ b.key
slots_apart s t g h a b [] own at_a at_b differ same = none-some a at_a
slots_apart zero zero g h a b (x ∷ xs) own at_a at_b differ same = differ refl
slots_apart zero (suc t) g h a b (x ∷ xs) own at_a at_b differ same =
    among t h b xs at_b (ap (λ (k : ℕ). by_key k (all_objects xs)) (sym same)
    ∙ front_none g x.objects (all_objects xs) a own at_a)
slots_apart (suc s) zero g h a b (x ∷ xs) own at_a at_b differ same =
    among s g a xs at_a (ap (λ (k : ℕ). by_key k (all_objects xs)) same
    ∙ front_none h x.objects (all_objects xs) b own at_b)
slots_apart (suc s) (suc t) g h a b (x ∷ xs) own at_a at_b differ same =
    slots_apart s t g h a b xs (own_behind x.objects (all_objects xs) own)
    at_a at_b (λ e. differ (ap suc e)) same

-- a slot that has an object is one of the table
pub slot_filled : (s h : ℕ) (table : TableState) (keyed : Keyed)
    → by_handle h (slot_in s table).objects ≡ Some keyed → s < length table
slot_filled s h [] keyed at = absurd (none-some keyed at)
slot_filled zero h (x ∷ xs) keyed at = omega arith
slot_filled (suc s) h (x ∷ xs) keyed at = omega (arith, slot_filled s h xs keyed at)
