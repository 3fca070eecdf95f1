-- The object whose key the index by session has.
-- For `Store::find_in`.
-- By: the key's owner in the table is the one object of the slot in that session and role.
use Rattle.std.proofs.Common.{◌≡◌, ◌≢◌, ℕ, Option, Some}
use Rattle.std.proofs.Common.{false, is_some, ◌∙◌, sym, ap}
use Rattle.std.specs.Prelude.{slice_get, option_map}
use Rattle.std.proofs.lemmas.Bool.{false≢true}
use Rattle.std.proofs.lemmas.Option.{same_Some}
use Rattle.trdp_base.specs.declared.session.SessionId.{SessionId}
use Rattle.trdp_table.specs.Tables.{Keyed, TableState, slot_in, all_objects, by_handle, by_key}
use Rattle.trdp_index.specs.declared.session_row.Role.{Role}
use Rattle.trdp_index.specs.SessionRows.{session_key}
use Rattle.trdp_index.specs.SessionIndexes.{SessionIndexState}
use Rattle.trdp_store.specs.InSession.{own_session, session_found, session_in, IsInSession}
use Rattle.trdp_store.proofs.StoreLemmas.Slots.{KeysGive, handle_found}
use Rattle.trdp_store.proofs.SessionLemmas.Open.{AreListed}

-- the key of an object in the session is that of the index
pub key_told : (table : TableState) (index : SessionIndexState)
    (s i : ℕ) (own : SessionId × Role) (keyed : Keyed)
    → IsInSession table index → AreListed table → slice_get (slot_in s table).objects i ≡ Some keyed
    → own_session keyed.object ≡ Some own → session_key own.0 s own.1 index.rows ≡ Some keyed.key
key_told table index s i own keyed is listed at of =
    (is.slots s).held keyed.handle keyed own (listed s i keyed at) of

pub owner_told : (table : TableState) (index : SessionIndexState)
    (s i t h key : ℕ) (own : SessionId × Role) (keyed : Keyed) → IsInSession table index
    → AreListed table → KeysGive table → session_key own.0 s own.1 index.rows ≡ Some key
    → by_handle h (slot_in t table).objects ≡ by_key key (all_objects table)
    → slice_get (slot_in s table).objects i ≡ Some keyed
    → own_session keyed.object ≡ Some own → h ≡ keyed.handle
owner_told table index s i t h key own keyed is listed gives got owner at of =
    let same : key ≡ keyed.key =
    same_Some key keyed.key (sym got ∙ key_told table index s i own keyed is listed at of) in
    sym (handle_found h (slot_in t table).objects keyed
    (owner ∙ (ap (λ (k : ℕ). by_key k (all_objects table)) same
    ∙ gives s keyed.handle keyed (listed s i keyed at))))

-- the owner of the key is that of the object which is in the session
part_owner : (table : TableState) (index : SessionIndexState) (s t h key : ℕ)
    (own : SessionId × Role) (is : IsInSession table index) → KeysGive table
    → (got : session_key own.0 s own.1 index.rows ≡ Some key)
    → by_handle h (slot_in t table).objects ≡ by_key key (all_objects table)
    → ((is.slots s).there key own got).handle ≡ h
part_owner table index s t h key own is gives got owner =
    let part = (is.slots s).there key own got in
    let there : by_handle h (slot_in t table).objects ≡ Some part.keyed =
    owner ∙ (ap (λ (k : ℕ). by_key k (all_objects table)) (sym part.key_is)
    ∙ gives s part.handle part.keyed part.found) in
    sym (handle_found part.handle (slot_in s table).objects part.keyed part.found)
    ∙ handle_found h (slot_in t table).objects part.keyed there

-- the owner of the key is in the session
pub owner_there :
    (table : TableState) (index : SessionIndexState) (s t h key : ℕ) (own : SessionId × Role)
    → IsInSession table index → KeysGive table → session_key own.0 s own.1 index.rows ≡ Some key
    → by_handle h (slot_in t table).objects ≡ by_key key (all_objects table)
    → session_in s h table ≡ Some own
owner_there table index s t h key own is gives got owner =
    let part = (is.slots s).there key own got in
    let number = part_owner table index s t h key own is gives got owner in
    ap (λ (n : ℕ). session_in s n table) (sym number) ∙ (ap session_found part.found ∙ part.session)

-- the owner has the key in the slot
pub owner_key :
    (table : TableState) (index : SessionIndexState) (s t h key : ℕ) (own : SessionId × Role)
    → IsInSession table index → KeysGive table → session_key own.0 s own.1 index.rows ≡ Some key
    → by_handle h (slot_in t table).objects ≡ by_key key (all_objects table)
    → Some key ≡ option_map (λ keyed. keyed.key) (by_handle h (slot_in s table).objects)
owner_key table index s t h key own is gives got owner =
    let part = (is.slots s).there key own got in
    let number = part_owner table index s t h key own is gives got owner in
    ap (λ (k : ℕ). let some : Option ℕ = Some k in some) (sym part.key_is)
    ∙ sym (ap (option_map (λ (keyed : Keyed). keyed.key))
    (ap (λ (n : ℕ). by_handle n (slot_in s table).objects) (sym number) ∙ part.found))

pub nobody_told : (table : TableState) (index : SessionIndexState)
    (s i key : ℕ) (own : SessionId × Role) (keyed : Keyed) → IsInSession table index
    → AreListed table → KeysGive table → session_key own.0 s own.1 index.rows ≡ Some key
    → is_some (by_key key (all_objects table)) ≡ false
    → slice_get (slot_in s table).objects i ≡ Some keyed → own_session keyed.object ≢ Some own
nobody_told table index s i key own keyed is listed gives got none at of =
    let same : key ≡ keyed.key =
    same_Some key keyed.key (sym got ∙ key_told table index s i own keyed is listed at of) in
    let there = ap (λ (k : ℕ). by_key k (all_objects table)) same
    ∙ gives s keyed.handle keyed (listed s i keyed at) in
    false≢true (sym none ∙ ap is_some there)
