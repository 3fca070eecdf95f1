-- The index by session stays the image of the callers and repliers, as a slot loses all of them.
-- For `Store::reset`.
-- By induction on the slot's objects: each that is in a session has one row, which goes; once none
-- is left no row is of the slot.
use Rattle.std.proofs.Common.{◌≡◌, ◌≢◌, ℕ, ◌+◌, ◌<◌, List, [], ◌∷◌, length, set, filter, not}
use Rattle.std.proofs.Common.{Option, Some, None, Bool, true, false, is_some, refl, ◌∙◌, sym, ap}
use Rattle.std.proofs.Common.{subst, arith}
use Rattle.std.specs.Prelude.{◌==◌, option_map, if◌then◌else◌}
use Rattle.std.proofs.lemmas.Bool.Decides.{nat_tests}
use Rattle.std.proofs.lemmas.Option.{none-some}
use Rattle.trdp_base.specs.declared.session.SessionId.{SessionId}
use Rattle.trdp_table.specs.Tables.{Keyed, TableState, slot_in, by_handle}
use Rattle.trdp_table.specs.Tables.{without_objects, changed_at}
use Rattle.trdp_table.specs.TableLaws.{HandlesRise, IsTable}
use Rattle.trdp_index.specs.declared.session_row.Role.{Role}
use Rattle.trdp_index.specs.declared.session_row.SessionRow.{SessionRow}
use Rattle.trdp_index.specs.Ranks.{is_same}
use Rattle.trdp_index.specs.Rows.{IsRising, row_of, has_row, without_rank, without_slot}
use Rattle.trdp_index.specs.SessionRows.{role_number, session_rank, session_row_rank, session_key}
use Rattle.trdp_index.specs.SessionIndexes.{SessionIndexState}
use Rattle.trdp_index.proofs.RowLemmas.{IsRising-filter, row_of-without}
use Rattle.trdp_index.proofs.RowLemmas.{is_some-option_map, option_map-if}
use Rattle.trdp_index.proofs.SearchLemmas.{length-without_rank}
use Rattle.trdp_index.proofs.SlotLemmas.{without_slot-after}
use Rattle.trdp_store.specs.Indexed.{one_if_some}
use Rattle.trdp_store.specs.InSession.{own_session, session_found}
use Rattle.trdp_store.specs.InSession.{AreInSession, IsInSession, key_without}
use Rattle.trdp_store.proofs.StoreLemmas.Slots.{KeysGive}
use Rattle.trdp_store.proofs.StoreLemmas.Counts.{counted, counted-cons, counted-set}
use Rattle.trdp_store.proofs.StoreLemmas.Counts.{filter_above, room-set}
use Rattle.trdp_store.proofs.StoreLemmas.Found.{at_each, found_without, none_without}
use Rattle.trdp_store.proofs.StoreLemmas.Found.{AreAlone, are_alone}
use Rattle.trdp_store.proofs.ComLemmas.Added.{same_self, other_slot}
use Rattle.trdp_store.proofs.SessionLemmas.Kept.{elsewhere, here, without_one}

-- where the slot has no key in any session no row is of it
none_of : (s : ℕ) (rows : List SessionRow)
    → ((own : SessionId × Role) → session_key own.0 s own.1 rows ≡ None)
    → without_slot session_row_rank s rows ≡ rows
none_of s [] none = refl
none_of s (r ∷ rows) none =
    either (r.slot == s) refl (λ apart. none_of s rows (others apart))
  where
    others : r.slot ≢ s → (own : SessionId × Role) → session_key own.0 s own.1 rows ≡ None
    others apart own = rw (other_slot r.session.0
        own.0.0 r.slot s (role_number r.role) (role_number own.1) apart) at (none own)

    either : (b : Bool) → (r.slot == s) ≡ b
        → (r.slot ≢ s → without_slot session_row_rank s rows ≡ rows)
        → without_slot session_row_rank s (r ∷ rows) ≡ r ∷ rows
    either true is rest =
        let of : r.slot ≡ s = grind (arith, nat_tests) in
        let own : is_same (session_row_rank r) (session_rank r.session s r.role) ≡ true =
        subst (λ (n : ℕ). is_same (session_row_rank r) (session_rank r.session n r.role) ≡ true) of
        (same_self r.session.0 r.slot (role_number r.role)) in
        absurd (none-some r.key (sym (rw own at (none (r.session, r.role)))))
    either false is rest =
        let apart : r.slot ≢ s = grind (arith, nat_tests) in
        rw is (ap (λ (l : List SessionRow). r ∷ l) (rest apart))

nobody : (s : ℕ) (rows : List SessionRow) → AreInSession s [] rows
    → (own : SessionId × Role) → session_key own.0 s own.1 rows ≡ None
nobody s rows are own = either (session_key own.0 s own.1 rows) refl
  where
    either : (o : Option ℕ) → session_key own.0 s own.1 rows ≡ o
        → session_key own.0 s own.1 rows ≡ None
    either None at = at
    either (Some k) at =
        let part = are.there k own at in
        absurd (none-some part.keyed part.found)

-- the objects that are left are alone
alone_without : (h : ℕ) (es : List Keyed) → AreAlone es
    → AreAlone (filter (λ keyed. not (keyed.handle == h)) es)
alone_without h es alone f g a b at_a at_b same =
    alone f g a b (was f a at_a) (was g b at_b) same
  where
    was : (g : ℕ) (keyed : Keyed)
        → by_handle g (filter (λ keyed. not (keyed.handle == h)) es) ≡ Some keyed
        → by_handle g es ≡ Some keyed
    was g keyed at = either (g == h) refl
      where
        either : (b : Bool) → (g == h) ≡ b → by_handle g es ≡ Some keyed
        either true is =
            let of : g ≡ h = grind (arith, nat_tests) in
            let none = ap (λ (n : ℕ).
            by_handle n (filter (λ keyed. not (keyed.handle == h)) es)) of ∙ none_without h es in
            absurd (none-some keyed (sym none ∙ at))
        either false is =
            let apart : g ≢ h = grind (arith, nat_tests) in
            sym (found_without h g es apart) ∙ at

-- the rows of the slot are as many as its objects that are in a session
rows_counted : (s : ℕ) (es : List Keyed) (rows : List SessionRow) → HandlesRise es
    → AreAlone es → IsRising session_row_rank rows → AreInSession s es rows
    → length rows ≡ length (without_slot session_row_rank s rows) + counted own_session es
rows_counted s [] rows rising alone sorted are =
    omega (arith, ap length (none_of s rows (nobody s rows are)))
rows_counted s (e ∷ es) rows rising alone sorted are =
    either (own_session e.object) refl (λ rows_then sorted_then are_then.
    rows_counted s es rows_then rising.1 alone_then sorted_then are_then)
  where
    own_handle : (e.handle == e.handle) ≡ true
    own_handle = grind (arith, nat_tests)

    found : by_handle e.handle (e ∷ es) ≡ Some e
    found = rw own_handle refl

    others : filter (λ keyed. not (keyed.handle == e.handle)) (e ∷ es) ≡ es
    others = rw own_handle (filter_above e.handle e.handle es (omega arith) rising.0)

    alone_then : AreAlone es
    alone_then = subst AreAlone others (alone_without e.handle (e ∷ es) alone)

    left : (rows_then : List SessionRow) → ((own : SessionId × Role)
        → session_key own.0 s own.1 rows_then
        ≡ key_without (own_session e.object) s own s (session_key own.0 s own.1 rows))
        → AreInSession s es rows_then
    left rows_then keys = subst (λ (l : List Keyed). AreInSession s l rows_then) others
        (without_one s e.handle (e ∷ es) rows rows_then alone are
        (λ own. keys own ∙ ap (λ (o : Option Keyed).
        key_without (session_found o) s own s (session_key own.0 s own.1 rows)) (sym found)))

    either : (o : Option (SessionId × Role)) → own_session e.object ≡ o
        → ((rows_then : List SessionRow) → IsRising session_row_rank rows_then
        → AreInSession s es rows_then → length rows_then
        ≡ length (without_slot session_row_rank s rows_then) + counted own_session es)
        → length rows
        ≡ length (without_slot session_row_rank s rows) + counted own_session (e ∷ es)
    either None of rest =
        let are_then = left rows (λ own. ap (λ (o : Option (SessionId × Role)).
        key_without o s own s (session_key own.0 s own.1 rows)) (sym of)) in
        omega (
          arith,
          rest rows sorted are_then,
          counted-cons own_session e es,
          ap one_if_some of,
        )
    either (Some its) of rest =
        let gone = session_rank its.0 s its.1 in
        let rows_then : List SessionRow = without_rank session_row_rank gone rows in
        let key_of : SessionRow → ℕ = λ r. r.key in
        let are_then = left rows_then (λ own.
        ap (option_map key_of) (row_of-without session_row_rank
        (session_rank own.0 s own.1) gone rows)
        ∙ (option_map-if key_of (is_same gone (session_rank own.0 s own.1)) None
        (row_of session_row_rank (session_rank own.0 s own.1) rows)
        ∙ ap (λ (o : Option (SessionId × Role)).
        key_without o s own s (session_key own.0 s own.1 rows)) (sym of))) in
        let there : has_row session_row_rank gone rows ≡ true =
        sym (is_some-option_map key_of (row_of session_row_rank gone rows))
        ∙ ap is_some (are.held e.handle e its found of) in
        let sorted_then = IsRising-filter session_row_rank
        (λ row. not (is_same (session_row_rank row) gone)) rows sorted in
        omega (
          arith,
          rest rows_then sorted_then are_then,
          length-without_rank session_row_rank gone rows sorted there,
          ap length (without_slot-after session_row_rank s gone rows refl),
          counted-cons own_session e es,
          ap one_if_some of,
        )

pub session_emptied : (table : TableState) (index index_then : SessionIndexState) (s : ℕ)
    → IsInSession table index → IsTable table → KeysGive table → s < length table
    → IsRising session_row_rank index.rows
    → index_then.rows ≡ without_slot session_row_rank s index.rows
    → ((other : SessionId) (t : ℕ) (its : Role) → session_key other t its index_then.rows
    ≡ (if t == s then None else session_key other t its index.rows))
    → index_then.room ≡ index.room → IsInSession (changed_at s without_objects table) index_then
session_emptied table index index_then s is sound gives lt sorted rows keys room =
    let x = without_objects (slot_in s table) in
    record {
      slots = at_each (λ t. AreInSession t (slot_in t (set table s x)).objects index_then.rows) s
          (here table index_then.rows s x lt empty)
          (λ t apart. elsewhere table index.rows index_then.rows s t x apart
          (λ own. same t apart own) (is.slots t));
      count = omega (
        arith,
        is.count,
        counted-set own_session table s x lt,
        ap length rows,
        rows_counted s (slot_in s table).objects index.rows (sound.slots s).rising
            (are_alone table s gives) sorted (is.slots s),
      );
      room = omega (arith, room, is.room, room-set table s x lt refl);
    }
  where
    same : (t : ℕ) → t ≢ s → (own : SessionId × Role)
        → session_key own.0 t own.1 index_then.rows ≡ session_key own.0 t own.1 index.rows
    same t apart own =
        let other : (t == s) ≡ false = grind (arith, nat_tests) in
        rw other at (keys own.0 t own.1)

    empty : AreInSession s [] index_then.rows
    empty =
        let it : (s == s) ≡ true = grind (arith, nat_tests) in
        record {
          held = λ handle keyed own at of. absurd (none-some keyed at);
          there = λ k own at. absurd (none-some k (sym (rw it at (keys own.0 s own.1)) ∙ at));
        }
