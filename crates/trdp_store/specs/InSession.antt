-- The index by session is the image of the callers and repliers of all slots.
use Rattle.std.specs.Prelude.{◌≡◌, ℕ, ◌≤◌, List, length, count_by, sum_by}
use Rattle.std.specs.Prelude.{Option, Some, None, false, is_some, IfSome, if◌then◌else◌}
use Rattle.trdp_base.specs.declared.session.SessionId.{SessionId}
use Rattle.trdp_model.specs.declared.any_object.AnyObject.{AnyObject}
use Rattle.trdp_model.specs.declared.any_object.AnyObject.TheVariants.{Caller, Replier}
use Rattle.trdp_model.specs.declared.kind.Kind.{Kind}
use Rattle.trdp_model.specs.declared.kind.Kind.TheVariants.{Caller as Calling}
use Rattle.trdp_model.specs.declared.kind.Kind.TheVariants.{Replier as Replying}
use Rattle.trdp_table.specs.Tables.{Keyed, TableState, slot_in, by_handle, room_of}
use Rattle.trdp_index.specs.declared.session_row.Role.{Role}
use Rattle.trdp_index.specs.declared.session_row.Role.TheVariants.{Caller as AsCaller}
use Rattle.trdp_index.specs.declared.session_row.Role.TheVariants.{Replier as AsReplier}
use Rattle.trdp_index.specs.declared.session_row.SessionRow.{SessionRow}
use Rattle.trdp_index.specs.Ranks.{is_same}
use Rattle.trdp_index.specs.SessionRows.{session_rank, session_key}
use Rattle.trdp_index.specs.SessionIndexes.{SessionIndexState}
use Rattle.trdp_model.specs.Slots.{Entry}
use Rattle.trdp_model.specs.Requests.{has_session}

-- the session of a caller or replier, and what it is there
abbrev pub own_session : AnyObject → Option (SessionId × Role)
own_session (Caller c) = Some (c.terms.session, AsCaller)
own_session (Replier r) = Some (r.session, AsReplier)
own_session object = None

-- the same of an object that there may be
abbrev pub session_found : Option Keyed → Option (SessionId × Role)
session_found None = None
session_found (Some keyed) = own_session keyed.object

-- the same of a slot's object of a handle
abbrev pub session_in : ℕ → ℕ → TableState → Option (SessionId × Role)
session_in s handle table = session_found (by_handle handle (slot_in s table).objects)

-- the kind of the objects of a role
abbrev pub kind_as : Role → Kind
kind_as AsCaller = Calling
kind_as AsReplier = Replying

-- none of a slot's objects is in the session of a new object in its role
abbrev pub IsNewInSession : AnyObject → List Entry → Type 0
IsNewInSession object objects =
    IfSome (own_session object) (λ own. has_session (kind_as own.1) own.0 objects ≡ false)

-- how many of these objects are in a session
abbrev pub sessions_in : List Keyed → ℕ
sessions_in objects = count_by (λ keyed. is_some (own_session keyed.object)) objects

-- one of these objects is in the session in the role, and has the key
pub record HasPart (objects : List Keyed) (own : SessionId × Role) (key : ℕ) : Type 0 where
  pub handle : ℕ
  pub keyed : Keyed
  pub found : by_handle handle objects ≡ Some keyed
  pub session : own_session keyed.object ≡ Some own
  pub key_is : keyed.key ≡ key

-- each of these objects of slot s that is in a session has its key in the index, and each key that
-- the index has for the slot is that of such an object
pub record AreInSession (s : ℕ) (objects : List Keyed) (rows : List SessionRow) : Type 0 where
  pub held : (handle : ℕ) (keyed : Keyed) (own : SessionId × Role)
      → by_handle handle objects ≡ Some keyed → own_session keyed.object ≡ Some own
      → session_key own.0 s own.1 rows ≡ Some keyed.key
  pub there : (key : ℕ) (own : SessionId × Role)
      → session_key own.0 s own.1 rows ≡ Some key → HasPart objects own key

-- the keys of the index are those of the slots' callers and repliers; there are no others, and
-- there is room for one of each object
pub record IsInSession (table : TableState) (index : SessionIndexState) : Type 0 where
  pub slots : (s : ℕ) → AreInSession s (slot_in s table).objects index.rows
  pub count : length index.rows ≡ sum_by (λ slot. sessions_in slot.objects) table
  pub room : room_of table ≤ index.room

-- the key that is found for a session and a role in slot t, once an object of slot s was added, if
-- it is in a session
abbrev pub key_with :
    Option (SessionId × Role) → ℕ → ℕ → SessionId × Role → ℕ → Option ℕ → Option ℕ
key_with None s key own t known = known
key_with (Some its) s key own t known =
    if is_same (session_rank its.0 s its.1) (session_rank own.0 t own.1)
    then Some key
    else known

-- the same once an object of slot s is gone
abbrev pub key_without :
    Option (SessionId × Role) → ℕ → SessionId × Role → ℕ → Option ℕ → Option ℕ
key_without None s own t known = known
key_without (Some its) s own t known =
    if is_same (session_rank its.0 s its.1) (session_rank own.0 t own.1) then None else known
