-- Whether a slot has an object in a session is what the index says.
-- For `has_session`, `Store::session`, `add` and `remove`.
-- By: the key in the index is that of an object in it, and each such object has its key there.
use Rattle.std.proofs.Common.{◌≡◌, ◌≢◌, ℕ, suc, List, [], ◌∷◌, map, Option, Some, None, Bool}
use Rattle.std.proofs.Common.{true, false, is_some, IfSome, refl, ◌∙◌, sym, ap, subst, arith}
use Rattle.std.specs.Prelude.{◌==◌, ◌&&◌, slice_get}
use Rattle.std.proofs.lemmas.Bool.{false≢true}
use Rattle.std.proofs.lemmas.Bool.Decides.{nat_tests}
use Rattle.std.proofs.lemmas.Option.{same_Some, none-some}
use Rattle.trdp_base.specs.declared.session.SessionId.{SessionId}
use Rattle.trdp_model.specs.declared.any_object.AnyObject.{AnyObject}
use Rattle.trdp_model.specs.declared.any_object.AnyObject.TheVariants.{Publisher, Subscription}
use Rattle.trdp_model.specs.declared.any_object.AnyObject.TheVariants.{Requester, Listener}
use Rattle.trdp_model.specs.declared.any_object.AnyObject.TheVariants.{Caller, Replier}
use Rattle.trdp_model.specs.declared.kind.Kind.{Kind}
use Rattle.trdp_model.specs.declared.kind.Kind.TheVariants as kind
use Rattle.trdp_model.specs.Kinds.{kind_of, is_same_kind}
use Rattle.trdp_table.specs.Tables.{Keyed, TableState, slot_in, by_handle}
use Rattle.trdp_index.specs.declared.session_row.Role.{Role}
use Rattle.trdp_index.specs.declared.session_row.Role.TheVariants.{Caller as AsCaller}
use Rattle.trdp_index.specs.declared.session_row.Role.TheVariants.{Replier as AsReplier}
use Rattle.trdp_index.specs.SessionRows.{session_key}
use Rattle.trdp_index.specs.SessionIndexes.{SessionIndexState}
use Rattle.trdp_model.specs.Slots.{Entry}
use Rattle.trdp_store.specs.TableSlots.{entry_of_keyed}
use Rattle.trdp_store.specs.Acting.{slot_at}
use Rattle.trdp_model.specs.Requests.{is_of_session, has_session}
use Rattle.trdp_store.specs.InSession.{own_session, session_found, session_in}
use Rattle.trdp_store.specs.InSession.{kind_as, IsNewInSession, HasPart, IsInSession}
use Rattle.trdp_store.proofs.SessionLemmas.Keys.{same_session}

-- Whether a slot has an object in a session.

-- one of the objects is in the session in the role
record IsThere (own : SessionId × Role) (es : List Keyed) : Type 0 where
  index : ℕ
  keyed : Keyed
  at : slice_get es index ≡ Some keyed
  session : own_session keyed.object ≡ Some own

passes : (own : SessionId × Role) (object : AnyObject) → own_session object ≡ Some own
    → (is_same_kind (kind_of object) (kind_as own.1) && is_of_session own.0 object) ≡ true
passes own (Publisher p) is = absurd (none-some own is)
passes own (Subscription s) is = absurd (none-some own is)
passes own (Requester r) is = absurd (none-some own is)
passes own (Listener l) is = absurd (none-some own is)
passes own (Caller c) is =
    let its : SessionId × Role = (c.terms.session, AsCaller) in
    let self : (c.terms.session.0 == c.terms.session.0) ≡ true = grind (arith, nat_tests) in
    subst (λ (o : SessionId × Role). (is_same_kind kind.Caller (kind_as o.1)
    && is_of_session o.0 (Caller c)) ≡ true) (same_Some its own is) self
passes own (Replier r) is =
    let its : SessionId × Role = (r.session, AsReplier) in
    let self : (r.session.0 == r.session.0) ≡ true = grind (arith, nat_tests) in
    subst (λ (o : SessionId × Role). (is_same_kind kind.Replier (kind_as o.1)
    && is_of_session o.0 (Replier r)) ≡ true) (same_Some its own is) self

passed : (session : SessionId) (role : Role) (object : AnyObject)
    → (is_same_kind (kind_of object) (kind_as role) && is_of_session session object) ≡ true
    → own_session object ≡ Some (session, role)
passed session AsCaller (Publisher p) is = absurd (false≢true is)
passed session AsCaller (Subscription s) is = absurd (false≢true is)
passed session AsCaller (Requester r) is = absurd (false≢true is)
passed session AsCaller (Listener l) is = absurd (false≢true is)
passed session AsCaller (Caller c) is =
    let number : c.terms.session.0 ≡ session.0 = grind (arith, nat_tests) in
    ap (λ (x : SessionId). let some : Option (SessionId × Role) = Some (x, AsCaller) in
    some) (same_session c.terms.session session number)
passed session AsCaller (Replier r) is = absurd (false≢true is)
passed session AsReplier (Publisher p) is = absurd (false≢true is)
passed session AsReplier (Subscription s) is = absurd (false≢true is)
passed session AsReplier (Requester r) is = absurd (false≢true is)
passed session AsReplier (Listener l) is = absurd (false≢true is)
passed session AsReplier (Caller c) is = absurd (false≢true is)
passed session AsReplier (Replier r) is =
    let number : r.session.0 ≡ session.0 = grind (arith, nat_tests) in
    ap (λ (x : SessionId). let some : Option (SessionId × Role) = Some (x, AsReplier) in
    some) (same_session r.session session number)

seen : (own : SessionId × Role) (h : ℕ) (es : List Keyed) (keyed : Keyed)
    → by_handle h es ≡ Some keyed → own_session keyed.object ≡ Some own
    → has_session (kind_as own.1) own.0 (map entry_of_keyed es) ≡ true
seen own h [] keyed at of = absurd (none-some keyed at)
seen own h (e ∷ es) keyed at of =
    either (e.handle == h) refl (is_same_kind (kind_of e.object) (kind_as own.1)
    && is_of_session own.0 e.object) refl at (λ later. seen own h es keyed later of)
  where
    either : (b : Bool) → (e.handle == h) ≡ b → (q : Bool)
        → (is_same_kind (kind_of e.object) (kind_as own.1) && is_of_session own.0 e.object) ≡ q
        → by_handle h (e ∷ es) ≡ Some keyed → (by_handle h es ≡ Some keyed
        → has_session (kind_as own.1) own.0 (map entry_of_keyed es) ≡ true)
        → has_session (kind_as own.1) own.0 (map entry_of_keyed (e ∷ es)) ≡ true
    either b is true its at rest = rw its refl
    either true is false its at rest =
        let same : e ≡ keyed = same_Some e keyed (rw is at at) in
        absurd (false≢true (sym its
        ∙ passes own e.object (ap (λ (k : Keyed). own_session k.object) same ∙ of)))
    either false is false its at rest = rw its (rest (rw is at at))

first_in : (own : SessionId × Role) (es : List Keyed)
    → has_session (kind_as own.1) own.0 (map entry_of_keyed es) ≡ true → IsThere own es
first_in own [] has = absurd (false≢true has)
first_in own (e ∷ es) has =
    either (is_same_kind (kind_of e.object) (kind_as own.1) && is_of_session own.0 e.object)
    refl has (first_in own es)
  where
    either : (q : Bool)
        → (is_same_kind (kind_of e.object) (kind_as own.1) && is_of_session own.0 e.object) ≡ q
        → has_session (kind_as own.1) own.0 (map entry_of_keyed (e ∷ es)) ≡ true
        → (has_session (kind_as own.1) own.0 (map entry_of_keyed es) ≡ true → IsThere own es)
        → IsThere own (e ∷ es)
    either true its has rest =
        record { index = 0; keyed = e; at = refl; session = passed own.0 own.1 e.object its }
    either false its has rest =
        let later = rest (rw its at has) in
        record {
          index = suc later.index;
          keyed = later.keyed;
          at = later.at;
          session = later.session;
        }

-- an object of an index is found by its handle
abbrev pub AreListed : TableState → Type 0
AreListed table =
    (s index : ℕ) (keyed : Keyed) → slice_get (slot_in s table).objects index ≡ Some keyed
    → by_handle keyed.handle (slot_in s table).objects ≡ Some keyed

-- a session is found in the index if an object of the slot is in it
pub looked_up : (table : TableState) (index : SessionIndexState) (s : ℕ) (own : SessionId × Role)
    → IsInSession table index → AreListed table → is_some (session_key own.0 s own.1 index.rows)
    ≡ has_session (kind_as own.1) own.0 (slot_at s table).objects
looked_up table index s own is listed = either (session_key own.0 s own.1 index.rows) refl
  where
    none : (b : Bool) → has_session (kind_as own.1) own.0 (slot_at s table).objects ≡ b
        → session_key own.0 s own.1 index.rows ≡ None → false ≡ b
    none false has at = refl
    none true has at =
        let first = first_in own (slot_in s table).objects has in
        let key = (is.slots s).held first.keyed.handle
        first.keyed own (listed s first.index first.keyed first.at) first.session in
        absurd (none-some first.keyed.key (sym at ∙ key))

    either : (o : Option ℕ) → session_key own.0 s own.1 index.rows ≡ o
        → is_some (session_key own.0 s own.1 index.rows)
        ≡ has_session (kind_as own.1) own.0 (slot_at s table).objects
    either None at = ap is_some at
        ∙ (none (has_session (kind_as own.1) own.0 (slot_at s table).objects) refl at)
    either (Some k) at =
        let part = (is.slots s).there k own at in
        ap is_some at ∙ sym (seen own part.handle
        (slot_in s table).objects part.keyed part.found part.session)

-- what is found is the key of such an object
pub part_there : (table : TableState) (index : SessionIndexState) (s : ℕ) (own : SessionId × Role)
    (found : Option ℕ) → IsInSession table index → session_key own.0 s own.1 index.rows ≡ found
    → IfSome found (λ key. HasPart (slot_in s table).objects own key)
part_there table index s own None is at = tt
part_there table index s own (Some key) is at = (is.slots s).there key own at

-- What a call of the index asks for.

pub session_fresh : (table : TableState) (index : SessionIndexState) (s : ℕ) (object : AnyObject)
    → IsInSession table index → IsNewInSession object (slot_at s table).objects
    → IfSome (own_session object) (λ its. session_key its.0 s its.1 index.rows ≡ None)
session_fresh table index s object is new = either (own_session object) new
  where
    none : (own : SessionId × Role) (o : Option ℕ) → session_key own.0 s own.1 index.rows ≡ o
        → has_session (kind_as own.1) own.0 (slot_at s table).objects ≡ false → o ≡ None
    none own None at new = refl
    none own (Some k) at new =
        let part = (is.slots s).there k own at in
        absurd (false≢true (sym new
        ∙ seen own part.handle (slot_in s table).objects part.keyed part.found part.session))

    either : (o : Option (SessionId × Role))
        → IfSome o (λ own. has_session (kind_as own.1) own.0 (slot_at s table).objects ≡ false)
        → IfSome o (λ its. session_key its.0 s its.1 index.rows ≡ None)
    either None new = tt
    either (Some own) new = none own (session_key own.0 s own.1 index.rows) refl new

pub session_there : (table : TableState) (index : SessionIndexState) (s h : ℕ)
    → IsInSession table index
    → IfSome (session_in s h table) (λ its. is_some (session_key its.0 s its.1 index.rows) ≡ true)
session_there table index s h is = either (by_handle h (slot_in s table).objects) refl
  where
    its : (keyed : Keyed) → by_handle h (slot_in s table).objects ≡ Some keyed
        → (o : Option (SessionId × Role)) → own_session keyed.object ≡ o
        → IfSome o (λ own. is_some (session_key own.0 s own.1 index.rows) ≡ true)
    its keyed at None of = tt
    its keyed at (Some own) of = ap is_some ((is.slots s).held h keyed own at of)

    either : (o : Option Keyed) → by_handle h (slot_in s table).objects ≡ o
        → IfSome (session_found o) (λ own. is_some (session_key own.0 s own.1 index.rows) ≡ true)
    either None at = tt
    either (Some keyed) at = its keyed at (own_session keyed.object) refl

-- Objects of other kinds are in no session.

-- a kind that is neither
apart : (k : Kind) → k ≢ kind.Caller → k ≢ kind.Replier
    → (is_same_kind kind.Caller k ≡ false) × (is_same_kind kind.Replier k ≡ false)
apart kind.Publisher no_caller no_replier = (refl, refl)
apart kind.Subscription no_caller no_replier = (refl, refl)
apart kind.Requester no_caller no_replier = (refl, refl)
apart kind.Listener no_caller no_replier = (refl, refl)
apart kind.Caller no_caller no_replier = absurd (no_caller refl)
apart kind.Replier no_caller no_replier = absurd (no_replier refl)

pub in_none : (k : Kind) (session : SessionId) (objects : List Entry)
    → k ≢ kind.Caller → k ≢ kind.Replier → has_session k session objects ≡ false
in_none k session [] no_caller no_replier = refl
in_none k session (e ∷ es) no_caller no_replier =
    rw (not_it e.object) (in_none k session es no_caller no_replier)
  where
    no_part : (b : Bool) → (b && false) ≡ false
    no_part true = refl
    no_part false = refl

    not_it : (object : AnyObject)
        → (is_same_kind (kind_of object) k && is_of_session session object) ≡ false
    not_it (Publisher p) = no_part (is_same_kind kind.Publisher k)
    not_it (Subscription s) = no_part (is_same_kind kind.Subscription k)
    not_it (Requester r) = no_part (is_same_kind kind.Requester k)
    not_it (Listener l) = no_part (is_same_kind kind.Listener k)
    not_it (Caller c) = rw (apart k no_caller no_replier).0 refl
    not_it (Replier r) = rw (apart k no_caller no_replier).1 refl
