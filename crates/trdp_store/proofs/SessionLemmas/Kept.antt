-- The index by session stays the image of the callers and repliers, as they are added, change and
-- are removed.
-- For `Store::new`, `add`, `act` and `remove`, and for `SessionLemmas.Emptied`.
-- By induction on the objects of the one slot that changes; other slots keep their keys.
use Rattle.std.proofs.Common.{◌≡◌, ◌≢◌, ℕ, zero, suc, ◌+◌, ◌<◌, ◌≤◌, List, [], ◌∷◌, ◌++◌}
use Rattle.std.proofs.Common.{length, map, set, filter, not, Option, Some, None, Bool, true}
use Rattle.std.proofs.Common.{false, IfSome, OnSome, refl, ◌∙◌, sym, ap, subst, arith}
use Rattle.std.specs.Prelude.{◌==◌, option_map}
use Rattle.std.proofs.lemmas.Bool.Decides.{nat_tests}
use Rattle.std.proofs.lemmas.List.{get_or-set_same, get_or-set_other}
use Rattle.std.proofs.lemmas.Option.{same_Some, none-some}
use Rattle.trdp_base.specs.declared.session.SessionId.{SessionId}
use Rattle.trdp_model.specs.declared.any_object.AnyObject.{AnyObject}
use Rattle.trdp_table.specs.Tables.{Keyed, SlotTable, TableState, opened_slot, slot_in}
use Rattle.trdp_table.specs.Tables.{all_objects, room_of, by_handle, new_object}
use Rattle.trdp_table.specs.Tables.{with_object, without_handle as without_keyed, changed_at}
use Rattle.trdp_table.specs.Tables.{exchanged, other_by_handle, with_other_by_handle, Adds}
use Rattle.trdp_table.specs.TableLaws.{AllBelow, IsTable}
use Rattle.trdp_index.specs.declared.session_row.Role.{Role}
use Rattle.trdp_index.specs.declared.session_row.SessionRow.{SessionRow}
use Rattle.trdp_index.specs.Ranks.{is_same}
use Rattle.trdp_index.specs.SessionRows.{session_rank, session_key}
use Rattle.trdp_index.specs.SessionIndexes.{SessionIndexState, empty_session_index}
use Rattle.trdp_store.specs.Indexed.{one_if_some}
use Rattle.trdp_store.specs.InSession.{own_session, session_found, session_in, HasPart}
use Rattle.trdp_store.specs.InSession.{AreInSession, IsInSession, key_with, key_without}
use Rattle.trdp_store.proofs.StoreLemmas.Slots.{KeysGive, handle_found, ExchangesAlone, IsReached}
use Rattle.trdp_store.proofs.StoreLemmas.Counts.{counted, counted_all, AreAs, are_as, room-set}
use Rattle.trdp_store.proofs.StoreLemmas.Counts.{without_none, counted-push, counted-without}
use Rattle.trdp_store.proofs.StoreLemmas.Counts.{counted-other, counted-set, counted_few}
use Rattle.trdp_store.proofs.StoreLemmas.Counts.{counted_none}
use Rattle.trdp_store.proofs.StoreLemmas.Found.{at_each, found_last, found_before, found_added}
use Rattle.trdp_store.proofs.StoreLemmas.Found.{found_without}
use Rattle.trdp_store.proofs.StoreLemmas.Found.{none_without, found_other, AreAlone, are_alone}
use Rattle.trdp_store.proofs.ComLemmas.Kept.{added_found}
use Rattle.trdp_store.proofs.SessionLemmas.Keys.{same_own, with_new, with_apart, with_known}
use Rattle.trdp_store.proofs.SessionLemmas.Keys.{without_own}
use Rattle.trdp_store.proofs.SessionLemmas.Keys.{without_apart, without_found, without_other}

-- The objects of one slot.

pub elsewhere : (table : TableState) (rows rows_then : List SessionRow) (s t : ℕ) (x : SlotTable)
    → t ≢ s → ((own : SessionId × Role) → session_key own.0 t own.1 rows_then
    ≡ session_key own.0 t own.1 rows) → AreInSession t (slot_in t table).objects rows
    → AreInSession t (slot_in t (set table s x)).objects rows_then
elsewhere table rows rows_then s t x apart same are =
    let moved : AreInSession t (slot_in t table).objects rows_then = record {
      held = λ handle keyed own at is. same own ∙ are.held handle keyed own at is;
      there = λ key own at. are.there key own (sym (same own) ∙ at);
    } in
    subst (λ (y : SlotTable). AreInSession t y.objects rows_then)
    (sym (get_or-set_other table s t x (opened_slot []) apart)) moved

pub here : (table : TableState) (rows : List SessionRow) (s : ℕ) (x : SlotTable) → s < length table
    → AreInSession s x.objects rows → AreInSession s (slot_in s (set table s x)).objects rows
here table rows s x lt are =
    subst (λ (y : SlotTable). AreInSession s y.objects rows)
    (sym (get_or-set_same table s x (opened_slot []) lt)) are

with_one : (s next key : ℕ) (object : AnyObject) (es : List Keyed)
    (rows rows_then : List SessionRow) → AllBelow next es → AreInSession s es rows
    → IfSome (own_session object) (λ its. session_key its.0 s its.1 rows ≡ None)
    → ((own : SessionId × Role) → session_key own.0 s own.1 rows_then
    ≡ key_with (own_session object) s key own s (session_key own.0 s own.1 rows))
    → AreInSession s (es ++ new_object next key object ∷ []) rows_then
with_one s next key object es rows rows_then below are fresh keys = record {
  held = λ handle keyed own at is.
      keys own
      ∙ found_added handle es new keyed at
      (λ old. with_known (own_session object) s
      key keyed.key own rows fresh (are.held handle keyed own old is))
      (λ same.
      let of : own_session object ≡ Some own = ap (λ (k : Keyed). own_session k.object) same ∙ is in
      ap (λ (o : Option (SessionId × Role)).
      key_with o s key own s (session_key own.0 s own.1 rows)) of
      ∙ (with_new own s key (session_key own.0 s own.1 rows)
      ∙ ap (λ (k : Keyed). let some : Option ℕ = Some k.key in some) same));
  there = λ k own at. found k own (own_session object) refl (sym (keys own) ∙ at);
}
  where
    new : Keyed
    new = new_object next key object

    old : (k : ℕ) (own : SessionId × Role) → session_key own.0 s own.1 rows ≡ Some k
        → HasPart (es ++ new ∷ []) own k
    old k own at =
        let part = are.there k own at in
        record {
          handle = part.handle;
          keyed = part.keyed;
          found = found_before part.handle es new part.keyed part.found;
          session = part.session;
          key_is = part.key_is;
        }

    found : (k : ℕ) (own : SessionId × Role) (o : Option (SessionId × Role))
        → own_session object ≡ o → key_with o s key own s (session_key own.0 s own.1 rows) ≡ Some k
        → HasPart (es ++ new ∷ []) own k
    found k own None of at = old k own at
    found k own (Some its) of at =
        either (is_same (session_rank its.0 s its.1) (session_rank own.0 s own.1)) refl at
      where
        either : (b : Bool) → is_same (session_rank its.0 s its.1) (session_rank own.0 s own.1) ≡ b
            → key_with (Some its) s key own s (session_key own.0 s own.1 rows) ≡ Some k
            → HasPart (es ++ new ∷ []) own k
        either true is at = record {
          handle = next;
          keyed = new;
          found = found_last next es new below refl;
          session = of ∙ ap (λ (o : SessionId × Role).
              let some : Option (SessionId × Role) = Some o in some) (same_own its own s s is);
          key_is = same_Some key k (rw is at at);
        }
        either false is at = old k own (rw is at at)

pub without_one : (s h : ℕ) (es : List Keyed) (rows rows_then : List SessionRow) → AreAlone es
    → AreInSession s es rows → ((own : SessionId × Role) → session_key own.0 s own.1 rows_then
    ≡ key_without (session_found (by_handle h es)) s own s (session_key own.0 s own.1 rows))
    → AreInSession s (filter (λ keyed. not (keyed.handle == h)) es) rows_then
without_one s h es rows rows_then alone are keys = record {
  held = λ handle keyed own at is. keys own ∙ still handle keyed own (handle == h) refl at is;
  there = λ k own at.
      let then : key_without (session_found (by_handle h es))
      s own s (session_key own.0 s own.1 rows) ≡ Some k = sym (keys own) ∙ at in
      let part = are.there k own (without_found (session_found (by_handle h es))
      s s k own (session_key own.0 s own.1 rows) then) in
      record {
        handle = part.handle;
        keyed = part.keyed;
        found = found_without h part.handle es (λ same.
            gone k own part.handle part.keyed part.found part.session same then) ∙ part.found;
        session = part.session;
        key_is = part.key_is;
      };
}
  where
    gone : (k : ℕ) (own : SessionId × Role) (g : ℕ) (keyed : Keyed) → by_handle g es ≡ Some keyed
        → own_session keyed.object ≡ Some own → g ≡ h → key_without (session_found (by_handle h es))
        s own s (session_key own.0 s own.1 rows) ≢ Some k
    gone k own g keyed at is same then =
        let of : session_found (by_handle h es) ≡ Some own =
        ap (λ (n : ℕ). session_found (by_handle n es)) (sym same)
        ∙ (ap session_found at ∙ is) in
        let none = ap (λ (o : Option (SessionId × Role)).
        key_without o s own s (session_key own.0 s own.1 rows)) of
        ∙ without_own own s (session_key own.0 s own.1 rows) in
        none-some k (sym none ∙ then)

    -- another object of the slot isn't in the session of the one that was removed
    apart_from : (g : ℕ) (keyed : Keyed) (own : SessionId × Role) (o : Option Keyed)
        → by_handle h es ≡ o → g ≢ h → by_handle g es ≡ Some keyed
        → own_session keyed.object ≡ Some own → session_found o ≢ Some own
    apart_from g keyed own None there other at is of = none-some own of
    apart_from g keyed own (Some first) there other at is of =
        let key : keyed.key ≡ first.key = same_Some keyed.key
        first.key (sym (are.held g keyed own at is) ∙ are.held h first own there of) in
        let same : keyed ≡ first = alone g h keyed first at there key in
        other (sym (handle_found g es keyed at)
        ∙ (ap (λ (k : Keyed). k.handle) same ∙ handle_found h es first there))

    still : (g : ℕ) (keyed : Keyed) (own : SessionId × Role) (b : Bool)
        → (g == h) ≡ b → by_handle g (filter (λ keyed. not (keyed.handle == h)) es) ≡ Some keyed
        → own_session keyed.object ≡ Some own → key_without (session_found (by_handle h es))
        s own s (session_key own.0 s own.1 rows) ≡ Some keyed.key
    still g keyed own true is at of =
        let same : g ≡ h = grind (arith, nat_tests) in
        let none : by_handle g (filter (λ keyed. not (keyed.handle == h)) es) ≡ None =
        ap (λ (n : ℕ). by_handle n (filter (λ keyed. not (keyed.handle == h)) es)) same
        ∙ none_without h es in
        absurd (none-some keyed (sym none ∙ at))
    still g keyed own false is at of =
        let other : g ≢ h = grind (arith, nat_tests) in
        let before : by_handle g es ≡ Some keyed = sym (found_without h g es other) ∙ at in
        without_other (session_found (by_handle h es))
        s keyed.key own (session_key own.0 s own.1 rows) (apart_from g
        keyed own (by_handle h es) refl other before of) (are.held g keyed own before of)

other_one : (s h : ℕ) (first : Keyed) (w : AnyObject) (es : List Keyed) (rows : List SessionRow)
    → by_handle h es ≡ Some first → own_session w ≡ own_session first.object
    → AreInSession s es rows → AreInSession s (map (other_by_handle h w) es) rows
other_one s h first w es rows there same are = record {
  held = λ handle keyed own at is.
      held handle keyed own (by_handle handle es) refl (sym (found_other h handle w es) ∙ at) is;
  there = λ k own at.
      let part = are.there k own at in
      record {
        handle = part.handle;
        keyed = other_by_handle h w part.keyed;
        found = found_other h part.handle w es ∙ ap (option_map (other_by_handle h w)) part.found;
        session = other_session part.handle part.keyed part.found ∙ part.session;
        key_is = other_key part.keyed ∙ part.key_is;
      };
}
  where
    other_key : (k : Keyed) → (other_by_handle h w k).key ≡ k.key
    other_key k = either (k.handle == h) refl
      where
        either : (b : Bool) → (k.handle == h) ≡ b → (other_by_handle h w k).key ≡ k.key
        either true is = rw is refl
        either false is = rw is refl

    other_session : (g : ℕ) (k : Keyed) → by_handle g es ≡ Some k
        → own_session (other_by_handle h w k).object ≡ own_session k.object
    other_session g k at = either (k.handle == h) refl
      where
        either : (b : Bool) → (k.handle == h) ≡ b
            → own_session (other_by_handle h w k).object ≡ own_session k.object
        either true is =
            let of : k.handle ≡ h = grind (arith, nat_tests) in
            let number : g ≡ h = sym (handle_found g es k at) ∙ of in
            let it : first ≡ k = same_Some first
            k (sym there ∙ (ap (λ (n : ℕ). by_handle n es) (sym number) ∙ at)) in
            let of_its : own_session w ≡ own_session k.object = same
            ∙ ap (λ (x : Keyed). own_session x.object) it in
            rw is of_its
        either false is = rw is refl

    held : (g : ℕ) (keyed : Keyed) (own : SessionId × Role) (o : Option Keyed)
        → by_handle g es ≡ o → option_map (other_by_handle h w) (by_handle g es) ≡ Some keyed
        → own_session keyed.object ≡ Some own → session_key own.0 s own.1 rows ≡ Some keyed.key
    held g keyed own None at got is =
        absurd (none-some keyed (sym (ap (option_map (other_by_handle h w)) at) ∙ got))
    held g keyed own (Some k) at got is =
        let it : other_by_handle h w k ≡ keyed = same_Some (other_by_handle h w k)
        keyed (sym (ap (option_map (other_by_handle h w)) at) ∙ got) in
        let of : own_session k.object ≡ Some own = sym (other_session g k at)
        ∙ (ap (λ (x : Keyed). own_session x.object) it ∙ is) in
        are.held g k own at of
        ∙ ap (λ (n : ℕ). let some : Option ℕ = Some n in some) (sym (other_key k)
        ∙ ap (λ (x : Keyed). x.key) it)

-- The index stays that of the table.

pub session_new : (quotas : List (List ℕ)) (room : ℕ) → room_of (map opened_slot quotas) ≤ room
    → IsInSession (map opened_slot quotas) (empty_session_index room)
session_new quotas room le = record {
  slots = λ s. subst (λ (es : List Keyed). AreInSession s es []) (sym (empty quotas s)) (nobody s);
  count = sym (counted_none own_session quotas);
  room = le;
}
  where
    empty : (qs : List (List ℕ)) (s : ℕ) → (slot_in s (map opened_slot qs)).objects ≡ []
    empty [] s = refl
    empty (q ∷ qs) zero = refl
    empty (q ∷ qs) (suc s) = empty qs s

    nobody : (s : ℕ) → AreInSession s [] []
    nobody s = record {
      held = λ handle keyed own at is. absurd (none-some keyed at);
      there = λ k own at. absurd (none-some k at);
    }

pub session_spare :
    (table : TableState) (index : SessionIndexState) (own : Option (SessionId × Role))
    → IsInSession table index → length (all_objects table) < room_of table
    → OnSome own (length index.rows < index.room)
session_spare table index None is lt = tt
session_spare table index (Some its) is lt =
    omega (arith, lt, counted_few own_session table, is.count, is.room)

pub session_added :
    (table : TableState) (index index_then : SessionIndexState) (s key : ℕ) (object : AnyObject)
    → IsInSession table index → IsTable table → s < length table
    → IfSome (own_session object) (λ its. session_key its.0 s its.1 index.rows ≡ None)
    → ((own : SessionId × Role) (t : ℕ) → session_key own.0 t own.1 index_then.rows
    ≡ key_with (own_session object) s key own t (session_key own.0 t own.1 index.rows))
    → length index_then.rows ≡ length index.rows + one_if_some (own_session object)
    → index_then.room
    ≡ index.room → IsInSession (changed_at s (with_object key object) table) index_then
session_added table index index_then s key object is sound lt fresh keys count room =
    let x = with_object key object (slot_in s table) in
    let P : ℕ → Type 0 = λ t. AreInSession t (slot_in t (set table s x)).objects index_then.rows in
    record {
      slots = at_each P s
          (here table index_then.rows s x lt
          (with_one s (slot_in s table).next key object (slot_in s table).objects index.rows
          index_then.rows (sound.slots s).below (is.slots s) fresh (λ own. keys own s)))
          (λ t apart.
          elsewhere table index.rows index_then.rows s t x apart
          (λ own. keys own t ∙ with_apart (own_session object)
          s t key own (session_key own.0 t own.1 index.rows) (λ same. apart (sym same)))
          (is.slots t));
      count = omega (
        arith,
        count,
        is.count,
        counted-set own_session table s x lt,
        counted-push
            own_session (slot_in s table).objects (new_object (slot_in s table).next key object),
      );
      room = omega (arith, room, is.room, room-set table s x lt refl);
    }

pub session_removed : (table : TableState) (index index_then : SessionIndexState) (s h : ℕ)
    → IsInSession table index → IsTable table → KeysGive table → s < length table
    → ((own : SessionId × Role) (t : ℕ) → session_key own.0 t own.1 index_then.rows
    ≡ key_without (session_in s h table) s own t (session_key own.0 t own.1 index.rows))
    → length index.rows ≡ length index_then.rows + one_if_some (session_in s h table)
    → index_then.room ≡ index.room → IsInSession (changed_at s (without_keyed h) table) index_then
session_removed table index index_then s h is sound gives lt keys count room =
    let x = without_keyed h (slot_in s table) in
    let P : ℕ → Type 0 = λ t. AreInSession t (slot_in t (set table s x)).objects index_then.rows in
    record {
      slots = at_each P s
          (here table index_then.rows s x lt
          (without_one s h (slot_in s table).objects index.rows
          index_then.rows (are_alone table s gives) (is.slots s) (λ own. keys own s)))
          (λ t apart.
          elsewhere table index.rows index_then.rows s t x apart
          (λ own. keys own t ∙ without_apart (session_in s h table)
          s t own (session_key own.0 t own.1 index.rows) (λ same. apart (sym same)))
          (is.slots t));
      count = fewer (by_handle h (slot_in s table).objects)
          refl count (counted-set own_session table s x lt);
      room = omega (arith, room, is.room, room-set table s x lt refl);
    }
  where
    fewer : (o : Option Keyed) → by_handle h (slot_in s table).objects ≡ o
        → length index.rows ≡ length index_then.rows + one_if_some (session_found o)
        → counted_all own_session (set table s (without_keyed h (slot_in s table)))
        + counted own_session (slot_in s table).objects ≡ counted_all own_session table
        + counted own_session (without_keyed h (slot_in s table)).objects
        → length index_then.rows ≡ counted_all own_session (changed_at s (without_keyed h) table)
    fewer None at count sums =
        let same : counted own_session (without_keyed h (slot_in s table)).objects
        ≡ counted own_session (slot_in s table).objects =
        ap (counted own_session) (without_none h (slot_in s table).objects at) in
        omega (arith, count, sums, same, is.count)
    fewer (Some keyed) at count sums =
        omega (
          arith,
          count,
          sums,
          is.count,
          counted-without own_session h (slot_in s table).objects keyed (sound.slots s).rising at,
        )

pub session_exchanged :
    (table : TableState) (index : SessionIndexState) (s h : ℕ) (keyed : Keyed) (w : AnyObject)
    → IsInSession table index → IsTable table → s < length table
    → by_handle h (slot_in s table).objects ≡ Some keyed → own_session w ≡ own_session keyed.object
    → IsInSession (changed_at s (with_other_by_handle h w) table) index
session_exchanged table index s h keyed w is sound lt found same =
    let x = with_other_by_handle h w (slot_in s table) in
    let P : ℕ → Type 0 = λ t. AreInSession t (slot_in t (set table s x)).objects index.rows in
    let are = subst (λ (o : Option (SessionId × Role)).
    AreAs own_session h o (slot_in s table).objects) (sym same)
    (are_as own_session h (slot_in s table).objects keyed (sound.slots s).rising found) in
    record {
      slots = at_each P s
          (here table index.rows s x lt
          (other_one s h keyed w (slot_in s table).objects index.rows found same (is.slots s)))
          (λ t apart. elsewhere table index.rows index.rows s t x apart (λ own. refl) (is.slots t));
      count = omega (
        arith,
        is.count,
        counted-set own_session table s x lt,
        counted-other own_session h w (slot_in s table).objects are,
      );
      room = omega (arith, is.room, room-set table s x lt refl);
    }

-- an object that was reached by its handle becomes another one, in the same session and role
pub session_reached :
    (table : TableState) (index : SessionIndexState) (s h key : ℕ) (object object_then : AnyObject)
    → IsInSession table index → IsTable table → s < length table → ExchangesAlone table
    → IsReached table s h key object → own_session object_then ≡ own_session object
    → IsInSession (exchanged key table object_then) index
session_reached table index s h key object object_then is sound lt exchanges r same =
    let then : exchanged key table object_then
    ≡ changed_at s (with_other_by_handle h object_then) table =
    ap (λ (k : ℕ). exchanged k table object_then) r.key_is
    ∙ exchanges s h r.keyed object_then r.found in
    let P : TableState → Type 0 = λ t. IsInSession t index in
    subst P (sym then) (session_exchanged table
    index s h r.keyed object_then is sound lt r.found (same ∙ ap own_session r.object_is))

-- an object that was added is in the index under its key
pub added_session : (table table_then : TableState) (index index_then : SessionIndexState)
    (s handle key : ℕ) (object : AnyObject) → IsInSession table index → IsTable table
    → s < length table → Adds s object table table_then → handle ≡ (slot_in s table).next
    → Some key ≡ option_map (λ keyed. keyed.key) (by_handle handle (slot_in s table_then).objects)
    → IfSome (own_session object) (λ its. session_key its.0 s its.1 index.rows ≡ None)
    → ((own : SessionId × Role) (t : ℕ) → session_key own.0 t own.1 index_then.rows
    ≡ key_with (own_session object) s key own t (session_key own.0 t own.1 index.rows))
    → length index_then.rows ≡ length index.rows + one_if_some (own_session object)
    → index_then.room ≡ index.room → IsInSession table_then index_then
added_session table table_then index index_then
    s handle key object is sound lt a at found fresh keys count room =
    let there = added_found table table_then s object sound lt a in
    let found_next = rw at at found in
    let key_is : key ≡ a.key =
    same_Some key a.key (found_next ∙ ap (option_map (λ (k : Keyed). k.key)) there) in
    let P : TableState → Type 0 = λ t. IsInSession t index_then in
    subst P (sym a.table)
    (session_added table index index_then s a.key object is sound lt fresh
    (λ own t. keys own t ∙ ap (λ (k : ℕ).
    key_with (own_session object) s k own t (session_key own.0 t own.1 index.rows)) key_is)
    count room)
