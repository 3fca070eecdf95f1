-- How many of the objects have something, as they are added, change and are removed.
-- For `ComLemmas`, `SessionLemmas.Kept` and `OrderLemmas`, which bound what they list.
-- By induction on the objects: a change at one handle counts there alone.
use Rattle.std.proofs.Common.{◌≡◌, ◌≢◌, ℕ, ◌+◌, ◌<◌, ◌≤◌, List, [], ◌∷◌, ◌++◌, length, map}
use Rattle.std.proofs.Common.{set, filter, not, cond, Option, Some, None, Bool, true, false}
use Rattle.std.proofs.Common.{is_some, sum_by, count_by, refl, ◌∙◌, sym, ap, subst, arith}
use Rattle.std.specs.Prelude.{◌==◌, Result, Ok, Err, OnOk, OnErr}
use Rattle.std.proofs.lemmas.Bool.Decides.{nat_tests}
use Rattle.std.proofs.lemmas.List.{length-append}
use Rattle.std.proofs.lemmas.List.Sums.{sum_by-cons, sum_by-set, count_by-le-length}
use Rattle.std.proofs.lemmas.Option.{same_Some, none-some}
use Rattle.trdp_model.specs.declared.any_object.AnyObject.{AnyObject}
use Rattle.trdp_table.specs.Tables.{Keyed, SlotTable, TableState, opened_slot, slot_in}
use Rattle.trdp_table.specs.Tables.{all_objects, all_quotas, room_of, by_handle, other_by_handle}
use Rattle.trdp_table.specs.Tables.{with_object, Adds}
use Rattle.trdp_table.specs.TableLaws.{AllAbove, HandlesRise}
use Rattle.trdp_store.specs.Indexed.{one_if_some}

-- how many of these objects have it
abbrev pub counted : {X : Type 0} → (AnyObject → Option X) → List Keyed → ℕ
counted f objects = count_by (λ keyed. is_some (f keyed.object)) objects

-- how many of all objects have it
abbrev pub counted_all : {X : Type 0} → (AnyObject → Option X) → TableState → ℕ
counted_all f table = sum_by (λ slot. counted f slot.objects) table

-- those of a handle have it so
abbrev pub AreAs : {X : Type 0} → (AnyObject → Option X) → ℕ → Option X → List Keyed → Type 0
AreAs f h value [] = Unit {0}
AreAs f h value (e ∷ es) = (e.handle ≡ h → f e.object ≡ value) × AreAs f h value es

-- the objects of higher handles stay
pub filter_above : (a h : ℕ) (es : List Keyed)
    → h ≤ a → AllAbove a es → filter (λ keyed. not (keyed.handle == h)) es ≡ es
filter_above a h [] le above = refl
filter_above a h (x ∷ es) le above =
    let lt : a < x.handle = above.0 in
    let other : (x.handle == h) ≡ false = grind (arith, nat_tests) in
    rw (other, filter_above a h es le above.1) refl

-- the room stays once a slot changed, if its quotas stay
pub room-set : (table : TableState) (s : ℕ) (x : SlotTable) → s < length table
    → x.quotas ≡ (slot_in s table).quotas → room_of (set table s x) ≡ room_of table
room-set table s x lt same =
    let sums =
    sum_by-set (λ (slot : SlotTable). all_quotas slot.quotas) table s x (opened_slot []) lt in
    let equal : all_quotas x.quotas ≡ all_quotas (slot_in s table).quotas = ap all_quotas same in
    omega (arith, sums, equal)

-- and once an object is added
pub room_added : {X Y : Type 0} (table table_then : TableState) (s : ℕ) (object : AnyObject)
    (result : Result X Y) → s < length table → OnOk result (Adds s object table table_then)
    → OnErr result (table_then ≡ table) → room_of table_then ≡ room_of table
room_added table table_then s object (Ok x) lt adds kept = ap room_of adds.table
    ∙ room-set table s (with_object adds.key object (slot_in s table)) lt refl
room_added table table_then s object (Err y) lt adds kept = ap room_of kept

-- where no object has the handle none is removed
pub without_none : (h : ℕ) (es : List Keyed) → by_handle h es ≡ None
    → filter (λ keyed. not (keyed.handle == h)) es ≡ es
without_none h [] none = refl
without_none h (e ∷ es) none = either (e.handle == h) refl none (without_none h es)
  where
    either : (b : Bool) → (e.handle == h) ≡ b → by_handle h (e ∷ es) ≡ None
        → (by_handle h es ≡ None → filter (λ keyed. not (keyed.handle == h)) es ≡ es)
        → filter (λ keyed. not (keyed.handle == h)) (e ∷ es) ≡ e ∷ es
    either true at none rest = absurd (none-some e (sym (rw at at none)))
    either false at none rest = rw at (ap (λ (r : List Keyed). e ∷ r) (rest (rw at at none)))

module _ {X : Type 0} (f : AnyObject → Option X) where
  above_apart : (h : ℕ) (value : Option X) (es : List Keyed) → AllAbove h es → AreAs f h value es
  above_apart h value [] above = tt
  above_apart h value (e ∷ es) above =
      (λ same. absurd (omega (arith, same, above.0)), above_apart h value es above.1)

  pub are_as : (h : ℕ) (es : List Keyed) (keyed : Keyed)
      → HandlesRise es → by_handle h es ≡ Some keyed → AreAs f h (f keyed.object) es
  are_as h [] keyed rising found = tt
  are_as h (e ∷ es) keyed rising found =
      either (e.handle == h) refl found (are_as h es keyed rising.1)
    where
      either : (b : Bool) → (e.handle == h) ≡ b → by_handle h (e ∷ es) ≡ Some keyed
          → (by_handle h es ≡ Some keyed → AreAs f h (f keyed.object) es)
          → AreAs f h (f keyed.object) (e ∷ es)
      either true is found rest =
          let same : e ≡ keyed = same_Some e keyed (rw is at found) in
          let of : e.handle ≡ h = grind (arith, nat_tests) in
          let above : AllAbove h es = subst (λ (n : ℕ). AllAbove n es) of rising.0 in
          (λ _. ap (λ (k : Keyed). f k.object) same, above_apart h (f keyed.object) es above)
      either false is found rest =
          let apart : e.handle ≢ h = grind (arith, nat_tests) in
          (λ same. absurd (apart same), rest (rw is at found))

  pub counted-cons : (e : Keyed) (es : List Keyed)
      → counted f (e ∷ es) ≡ one_if_some (f e.object) + counted f es
  counted-cons e es = sum_by-cons (λ (k : Keyed). cond {A = ℕ} (is_some (f k.object)) 1 0) e es
      ∙ ap (λ n. n + counted f es) (one (f e.object))
    where
      one : (o : Option X) → cond {A = ℕ} (is_some o) 1 0 ≡ one_if_some o
      one None = refl
      one (Some x) = refl

  pub counted-push : (es : List Keyed) (e : Keyed)
      → counted f (es ++ e ∷ []) ≡ counted f es + one_if_some (f e.object)
  counted-push [] e = omega (arith, counted-cons e [])
  counted-push (x ∷ es) e =
      omega (arith, counted-cons x (es ++ e ∷ []), counted-cons x es, counted-push es e)

  pub counted-without : (h : ℕ) (es : List Keyed) (keyed : Keyed)
      → HandlesRise es → by_handle h es ≡ Some keyed → counted f es
      ≡ counted f (filter (λ keyed. not (keyed.handle == h)) es) + one_if_some (f keyed.object)
  counted-without h [] keyed rising found = absurd (none-some keyed found)
  counted-without h (e ∷ es) keyed rising found =
      either (e.handle == h) refl found (counted-without h es keyed rising.1)
    where
      either : (b : Bool) → (e.handle == h) ≡ b
          → by_handle h (e ∷ es) ≡ Some keyed → (by_handle h es ≡ Some keyed → counted f es
          ≡ counted f (filter (λ keyed. not (keyed.handle == h)) es) + one_if_some (f keyed.object))
          → counted f (e ∷ es) ≡ counted f (filter (λ keyed. not (keyed.handle == h)) (e ∷ es))
          + one_if_some (f keyed.object)
      either true is found rest =
          let same : e ≡ keyed = same_Some e keyed (rw is at found) in
          let of : e.handle ≡ h = grind (arith, nat_tests) in
          let one : one_if_some (f e.object) ≡ one_if_some (f keyed.object) =
          ap (λ (k : Keyed). one_if_some (f k.object)) same in
          rw (is, filter_above e.handle h es (omega (arith, of)) rising.0)
          (omega (arith, counted-cons e es, one))
      either false is found rest =
          let rec = rest (rw is at found) in
          rw is (omega (
            arith,
            rec,
            counted-cons e es,
            counted-cons e (filter (λ keyed. not (keyed.handle == h)) es),
          ))

  pub counted-other : (h : ℕ) (w : AnyObject) (es : List Keyed)
      → AreAs f h (f w) es → counted f (map (other_by_handle h w) es) ≡ counted f es
  counted-other h w [] are = refl
  counted-other h w (e ∷ es) are = either (e.handle == h) refl (counted-other h w es are.1)
    where
      either : (b : Bool) → (e.handle == h) ≡ b → counted f (map (other_by_handle h w) es)
          ≡ counted f es → counted f (map (other_by_handle h w) (e ∷ es)) ≡ counted f (e ∷ es)
      either true is rest =
          let of : e.handle ≡ h = grind (arith, nat_tests) in
          let one : one_if_some (f e.object) ≡ one_if_some (f w) = ap one_if_some (are.0 of) in
          let k : Keyed = record e { object = w } in
          rw is (omega (
            arith,
            rest,
            one,
            counted-cons e es,
            counted-cons k (map (other_by_handle h w) es),
          ))
      either false is rest = rw is
          (omega (arith, rest, counted-cons e es, counted-cons e (map (other_by_handle h w) es)))

  -- the totals once a slot changed
  pub counted-set : (table : TableState) (s : ℕ) (x : SlotTable)
      → s < length table → counted_all f (set table s x) + counted f (slot_in s table).objects
      ≡ counted_all f table + counted f x.objects
  counted-set table s x lt =
      sum_by-set (λ (slot : SlotTable). counted f slot.objects) table s x (opened_slot []) lt

  -- there are no more of them than objects
  pub counted_few : (table : TableState) → counted_all f table ≤ length (all_objects table)
  counted_few [] = omega arith
  counted_few (x ∷ xs) =
      let here : counted f x.objects ≤ length x.objects =
      count_by-le-length (λ (k : Keyed). is_some (f k.object)) x.objects in
      omega (
        arith,
        here,
        counted_few xs,
        sum_by-cons (λ (slot : SlotTable). counted f slot.objects)
            x xs,
        length-append x.objects (all_objects xs),
      )

  -- a table without objects has none
  pub counted_none : (quotas : List (List ℕ)) → counted_all f (map opened_slot quotas) ≡ 0
  counted_none [] = refl
  counted_none (q ∷ qs) = omega (
    arith,
    sum_by-cons (λ (slot : SlotTable). counted f slot.objects)
        (opened_slot q) (map opened_slot qs),
    counted_none qs,
  )
