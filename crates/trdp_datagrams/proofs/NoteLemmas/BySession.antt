-- A message of a session is for one object of a slot at most: the one that is in it.
-- For `note_part`, and for `DatagramLemmas.Deeds`, `NoteLemmas.ByCom` and `ListenersAlone`.
-- By cases on the kind of message: the object that awaits it is in its session, in the role that
-- it names.
use Rattle.std.proofs.Common.{◌≡◌, ◌≢◌, ℕ, zero, suc, ◌<◌, List, [], ◌∷◌, map, filter, Option, Some}
use Rattle.std.proofs.Common.{None, Bool, true, false, refl, ◌∙◌, sym, ap, subst, arith}
use Rattle.std.specs.Prelude.{slice_get, ◌==◌, ◌&&◌, option_map}
use Rattle.std.proofs.lemmas.Bool.{false≢true}
use Rattle.std.proofs.lemmas.Bool.Decides.{nat_tests}
use Rattle.std.proofs.lemmas.List.Sums.{sum_by-cons}
use Rattle.std.proofs.lemmas.Option.{same_Some, none-some}
use Rattle.trdp_base.specs.declared.place.Place.{Place}
use Rattle.trdp_base.specs.declared.session.SessionId.{SessionId}
use Rattle.trdp_head.specs.declared.md.MdHead.{MdHead}
use Rattle.trdp_head.specs.declared.md.MdKind.{MdKind}
use Rattle.trdp_head.specs.declared.md.MdKind.TheVariants as message
use Rattle.trdp_filter.specs.declared.globals.Globals.{Globals}
use Rattle.trdp_filter.specs.Telegrams.{TelegramModel, PdIs, MdIs}
use Rattle.trdp_md.specs.declared.caller.Caller.{Caller as AnyCaller}
use Rattle.trdp_md.specs.declared.replier.Replier.{Replier as AnyReplier}
use Rattle.trdp_md.specs.declared.listener.Listener.{Listener as AnyListener}
use Rattle.trdp_md.specs.Callers.{is_answer, is_for_caller}
use Rattle.trdp_md.specs.Repliers.{is_confirm, is_for_replier}
use Rattle.trdp_md.specs.Listeners.{is_unasked, is_for_listener}
use Rattle.trdp_model.specs.declared.any_object.AnyObject.{AnyObject}
use Rattle.trdp_model.specs.declared.any_object.AnyObject.TheVariants.{Publisher, Subscription}
use Rattle.trdp_model.specs.declared.any_object.AnyObject.TheVariants.{Requester, Listener}
use Rattle.trdp_model.specs.declared.any_object.AnyObject.TheVariants.{Caller, Replier}
use Rattle.trdp_model.specs.Kinds.{kind_of}
use Rattle.trdp_model.specs.Objects.{is_addressed}
use Rattle.trdp_table.specs.Tables.{Keyed, TableState, slot_in}
use Rattle.trdp_table.specs.TableLaws.{AllAbove, HandlesRise, IsTable}
use Rattle.trdp_index.specs.declared.session_row.Role.{Role}
use Rattle.trdp_index.specs.declared.session_row.Role.TheVariants.{Caller as AsCaller}
use Rattle.trdp_index.specs.declared.session_row.Role.TheVariants.{Replier as AsReplier}
use Rattle.trdp_model.specs.Slots.{Entry, entry_under}
use Rattle.trdp_store.specs.TableSlots.{entry_of_keyed}
use Rattle.trdp_store.specs.Acting.{slot_at}
use Rattle.trdp_model.specs.Datagrams.{is_for_entry, is_listening, acting}
use Rattle.trdp_datagrams.specs.Noted.{Addressed}
use Rattle.trdp_datagrams.specs.Noted.{noted_as}
use Rattle.trdp_outbox.specs.Rooms.{kind_room, entries_room}
use Rattle.trdp_store.specs.InSession.{own_session}
use Rattle.trdp_datagrams.specs.Sought.{part_as, part_of}
use Rattle.trdp_store.proofs.SessionLemmas.Keys.{same_session}
use Rattle.trdp_datagrams.proofs.NoteLemmas.Noted.{same_room}
use Rattle.trdp_outbox.proofs.RoomLemmas.{entry_rows, entry_bytes}
use Rattle.trdp_model.proofs.UnheardTelegramLemmas.{acting_all}

-- Which object a message of a session is for.

caller_session : (c : AnyCaller) (head : MdHead)
    → is_for_caller c head ≡ true → c.terms.session.0 ≡ head.session.0
unfolding is_for_caller
caller_session c head for = grind (arith, nat_tests)

pub caller_answer : (c : AnyCaller) (head : MdHead)
    → is_for_caller c head ≡ true → is_answer head.kind ≡ true
unfolding is_for_caller
caller_answer c head for = grind (arith, nat_tests)

replier_session : (r : AnyReplier) (src : Place) (head : MdHead)
    → is_for_replier r src head ≡ true → r.session.0 ≡ head.session.0
unfolding is_for_replier
replier_session r src head for = grind (arith, nat_tests)

pub replier_confirm : (r : AnyReplier) (src : Place) (head : MdHead)
    → is_for_replier r src head ≡ true → is_confirm head.kind ≡ true
unfolding is_for_replier
replier_confirm r src head for = grind (arith, nat_tests)

unasked_kind : (l : AnyListener) (src dst : Place) (head : MdHead) (globals : Globals)
    → is_for_listener l src dst head globals ≡ true → is_unasked head.kind ≡ true
unfolding is_for_listener
unasked_kind l src dst head globals for = grind (arith, nat_tests)

answers_caller : (k : MdKind) (session : SessionId) (own : SessionId × Role)
    → part_as k session ≡ Some own → is_answer k ≡ true → own ≡ (session, AsCaller)
unfolding is_answer
answers_caller message.Notify session own part is = absurd (false≢true is)
answers_caller message.Request session own part is = absurd (false≢true is)
answers_caller message.Reply session own part is = sym (same_Some (session, AsCaller) own part)
answers_caller message.Query session own part is = sym (same_Some (session, AsCaller) own part)
answers_caller message.Confirm session own part is = absurd (false≢true is)
answers_caller message.Error session own part is = sym (same_Some (session, AsCaller) own part)

confirms_replier : (k : MdKind) (session : SessionId) (own : SessionId × Role)
    → part_as k session ≡ Some own → is_confirm k ≡ true → own ≡ (session, AsReplier)
unfolding is_confirm
confirms_replier message.Notify session own part is = absurd (false≢true is)
confirms_replier message.Request session own part is = absurd (false≢true is)
confirms_replier message.Reply session own part is = absurd (false≢true is)
confirms_replier message.Query session own part is = absurd (false≢true is)
confirms_replier message.Confirm session own part is = sym (same_Some (session, AsReplier) own part)
confirms_replier message.Error session own part is = absurd (false≢true is)

unasked_alone : (k : MdKind) (session : SessionId) (own : SessionId × Role)
    → part_as k session ≡ Some own → is_unasked k ≢ true
unfolding is_unasked
unasked_alone message.Notify session own part is = absurd (none-some own part)
unasked_alone message.Request session own part is = absurd (none-some own part)
unasked_alone message.Reply session own part is = absurd (false≢true is)
unasked_alone message.Query session own part is = absurd (false≢true is)
unasked_alone message.Confirm session own part is = absurd (false≢true is)
unasked_alone message.Error session own part is = absurd (false≢true is)

-- an object that the message is for is in its session
meant : (object : AnyObject) (telegram : TelegramModel) (globals : Globals) (own : SessionId × Role)
    → part_of telegram ≡ Some own → is_addressed object telegram globals ≡ true
    → own_session object ≡ Some own
meant object (PdIs src dst t) globals own part for = absurd (none-some own part)
meant (Publisher p) (MdIs src dst t) globals own part for = absurd (false≢true for)
meant (Subscription s) (MdIs src dst t) globals own part for = absurd (false≢true for)
meant (Requester r) (MdIs src dst t) globals own part for = absurd (false≢true for)
meant (Listener l) (MdIs src dst t) globals own part for =
    absurd (unasked_alone t.head.kind t.head.session
    own part (unasked_kind l src dst t.head globals for))
meant (Caller c) (MdIs src dst t) globals own part for =
    ap (λ (x : SessionId). let some : Option (SessionId × Role) = Some (x, AsCaller) in
    some) (same_session c.terms.session t.head.session (caller_session c t.head for))
    ∙ ap (λ (o : SessionId × Role). let some : Option (SessionId × Role) = Some o in some)
    (sym (answers_caller t.head.kind t.head.session own part (caller_answer c t.head for)))
meant (Replier r) (MdIs src dst t) globals own part for =
    ap (λ (x : SessionId). let some : Option (SessionId × Role) = Some (x, AsReplier) in
    some) (same_session r.session t.head.session (replier_session r src t.head for))
    ∙ ap (λ (o : SessionId × Role). let some : Option (SessionId × Role) = Some o in some) (sym
    (confirms_replier t.head.kind t.head.session own part (replier_confirm r src t.head for)))

-- no listener hears it
unheard : (telegram : TelegramModel) (globals : Globals) (own : SessionId × Role) → part_of telegram
    ≡ Some own → (e : Entry) → (is_listening e && is_for_entry telegram globals e) ≡ false
unheard telegram globals own part e = by_kind e.object
  where
    by_kind : (object : AnyObject) → (is_listening (record e { object = object })
        && is_addressed object telegram globals) ≡ false
    by_kind (Publisher p) = refl
    by_kind (Subscription s) = refl
    by_kind (Requester r) = refl
    by_kind (Listener l) = either (is_addressed (Listener l) telegram globals) refl
      where
        either : (b : Bool) → is_addressed (Listener l) telegram globals ≡ b → b ≡ false
        either true is = absurd (none-some own (meant (Listener l) telegram globals own part is))
        either false is = refl
    by_kind (Caller c) = refl
    by_kind (Replier r) = refl

-- The one of a handle.

-- a list of the object, if there is one and it passes
abbrev pub passing : (Entry → Bool) → Option Entry → List Entry
passing test None = []
passing test (Some entry) = filter test (entry ∷ [])

-- only an object of that handle passes
abbrev pub PassesAlone : (Entry → Bool) → ℕ → List Keyed → Type 0
PassesAlone test h es =
    (i : ℕ) (k : Keyed) → slice_get es i ≡ Some k → test (entry_of_keyed k) ≡ true → k.handle ≡ h

nobody : (test : Entry → Bool) (es : List Keyed)
    → ((i : ℕ) (k : Keyed) → slice_get es i ≡ Some k → test (entry_of_keyed k) ≢ true)
    → filter test (map entry_of_keyed es) ≡ []
nobody test [] none = refl
nobody test (e ∷ es) none =
    either (test (entry_of_keyed e)) refl (nobody test es (λ i k at. none (suc i) k at))
  where
    either : (b : Bool) → test (entry_of_keyed e) ≡ b
        → filter test (map entry_of_keyed es) ≡ [] → filter test (map entry_of_keyed (e ∷ es)) ≡ []
    either true is rest = absurd (none 0 e refl is)
    either false is rest = rw is rest

above_at : (h i : ℕ) (es : List Keyed) (k : Keyed)
    → AllAbove h es → slice_get es i ≡ Some k → h < k.handle
above_at h i [] k above at = absurd (none-some k at)
above_at h zero (e ∷ es) k above at = subst (λ (x : Keyed). h < x.handle) (same_Some e k at) above.0
above_at h (suc i) (e ∷ es) k above at = above_at h i es k above.1 at

alone : (test : Entry → Bool) (h : ℕ) (es : List Keyed) → HandlesRise es → PassesAlone test h es
    → filter test (map entry_of_keyed es) ≡ passing test (entry_under h (map entry_of_keyed es))
alone test h [] rising only = refl
alone test h (e ∷ es) rising only = either (e.handle == h) refl
    (test (entry_of_keyed e)) refl (alone test h es rising.1 (λ i k at. only (suc i) k at))
  where
    either : (b : Bool) → (e.handle == h) ≡ b → (q : Bool) → test (entry_of_keyed e) ≡ q
        → filter test (map entry_of_keyed es) ≡ passing test (entry_under h (map entry_of_keyed es))
        → filter test (map entry_of_keyed (e ∷ es))
        ≡ passing test (entry_under h (map entry_of_keyed (e ∷ es)))
    either true is q its rest =
        let of : e.handle ≡ h = grind (arith, nat_tests) in
        let none = nobody test es (λ i k at passes.
        let lt : e.handle < k.handle = above_at e.handle i es k rising.0 at in
        let same : k.handle ≡ h = only (suc i) k at passes in
        absurd (omega (arith, of, lt, same))) in
        rw (is, none) refl
    either false is true its rest =
        let apart : e.handle ≢ h = grind (arith, nat_tests) in
        absurd (apart (only 0 e refl its))
    either false is false its rest = rw (is, its) rest

-- What the index finds.

-- each object of the slot that is in the session has that handle
abbrev pub HandleTells : TableState → ℕ → SessionId × Role → Option ℕ → Type 0
HandleTells table s own found =
    (index : ℕ) (keyed : Keyed) → slice_get (slot_in s table).objects index ≡ Some keyed
    → own_session keyed.object ≡ Some own → found ≡ Some keyed.handle

-- Which objects of the slot act.

pub acts_none : (table : TableState) (s : ℕ) (telegram : TelegramModel)
    (globals : Globals) (own : SessionId × Role) → part_of telegram ≡ Some own
    → HandleTells table s own None → acting telegram globals (slot_at s table).objects ≡ []
acts_none table s telegram globals own part tells =
    acting_all telegram globals (unheard telegram globals own part) (slot_at s table).objects
    ∙ nobody (is_for_entry telegram globals) (slot_in s table).objects (λ i k at for.
    none-some k.handle (tells i k at (meant k.object telegram globals own part for)))

pub acts_one : (table : TableState) (s h : ℕ) (telegram : TelegramModel)
    (globals : Globals) (own : SessionId × Role) → IsTable table → part_of telegram ≡ Some own
    → HandleTells table s own (Some h) → acting telegram globals (slot_at s table).objects
    ≡ passing (is_for_entry telegram globals) (entry_under h (slot_at s table).objects)
acts_one table s h telegram globals own sound part tells =
    acting_all telegram globals (unheard telegram globals own part) (slot_at s table).objects
    ∙ alone (is_for_entry telegram globals) h
    (slot_in s table).objects (sound.slots s).rising (λ i k at for.
    sym (same_Some h k.handle (tells i k at (meant k.object telegram globals own part for))))

-- What is noted of it.

no_entry : (o : Option Entry) → None ≡ option_map (λ entry. entry.object) o → o ≡ None
no_entry None is = refl
no_entry (Some e) is = absurd (none-some e.object is)

-- the object is gone
pub acts_gone : (table : TableState) (s h : ℕ)
    (telegram : TelegramModel) (globals : Globals) (own : SessionId × Role)
    → IsTable table → part_of telegram ≡ Some own → HandleTells table s own (Some h)
    → None ≡ option_map (λ entry. entry.object) (entry_under h (slot_at s table).objects)
    → acting telegram globals (slot_at s table).objects ≡ []
acts_gone table s h telegram globals own sound part tells gone =
    acts_one table s h telegram globals own sound part tells
    ∙ ap (passing (is_for_entry telegram globals))
    (no_entry (entry_under h (slot_at s table).objects) gone)

-- the message isn't for it
pub acts_not : (table : TableState) (s h : ℕ)
    (telegram : TelegramModel) (globals : Globals) (own : SessionId × Role) (object : AnyObject)
    → IsTable table → part_of telegram ≡ Some own → HandleTells table s own (Some h)
    → Some object ≡ option_map (λ entry. entry.object) (entry_under h (slot_at s table).objects)
    → is_addressed object telegram globals ≡ false
    → acting telegram globals (slot_at s table).objects ≡ []
acts_not table s h telegram globals own object sound part tells there not =
    acts_one table s h telegram globals own sound part tells
    ∙ either (entry_under h (slot_at s table).objects) there
  where
    either : (o : Option Entry) → Some object ≡ option_map (λ entry. entry.object) o
        → passing (is_for_entry telegram globals) o ≡ []
    either None there = refl
    either (Some e) there =
        let false_for : is_for_entry telegram globals e ≡ false = ap (λ (x : AnyObject).
        is_addressed x telegram globals) (sym (same_Some object e.object there)) ∙ not in
        rw false_for refl

-- these entries are the one object of that handle, of slot s
pub record IsOne (s h : ℕ) (object : AnyObject) (es : List Entry) : Type 0 where
  pub noted : noted_as s es ≡ record { slot = s; handle = h } ∷ []
  pub room : entries_room es ≡ kind_room (kind_of object)

pub one_entry : (s h : ℕ) (object : AnyObject)
    → IsOne s h object (record { handle = h; object = object } ∷ [])
one_entry s h object =
    let e : Entry = record { handle = h; object = object } in
    let rows = sum_by-cons entry_rows e [] in
    let bytes = sum_by-cons entry_bytes e [] in
    record {
      noted = refl;
      room =
          same_room (entries_room (e ∷ [])) (kind_room (kind_of object))
          (omega (arith, rows)) (omega (arith, bytes));
    }

pub handle_is : (h : ℕ) (es : List Entry) (e : Entry) → entry_under h es ≡ Some e → e.handle ≡ h
handle_is h [] e at = absurd (none-some e at)
handle_is h (x ∷ es) e at = either (x.handle == h) refl at (handle_is h es e)
  where
    either : (b : Bool) → (x.handle == h) ≡ b
        → entry_under h (x ∷ es) ≡ Some e → (entry_under h es ≡ Some e → e.handle ≡ h) → e.handle
        ≡ h
    either true is at rest =
        let same : x ≡ e = same_Some x e (rw is at at) in
        let of : x.handle ≡ h = grind (arith, nat_tests) in
        ap (λ (y : Entry). y.handle) (sym same) ∙ of
    either false is at rest = rest (rw is at at)

-- the message is for it
pub acts_it : (table : TableState) (s h : ℕ) (telegram : TelegramModel)
    (globals : Globals) (own : SessionId × Role) (object : AnyObject)
    → IsTable table → part_of telegram ≡ Some own → HandleTells table s own (Some h)
    → Some object ≡ option_map (λ entry. entry.object) (entry_under h (slot_at s table).objects)
    → is_addressed object telegram globals ≡ true
    → IsOne s h object (acting telegram globals (slot_at s table).objects)
acts_it table s h telegram globals own object sound part tells there for =
    subst (IsOne s h object) (sym (acts_one table s h telegram globals own sound part tells))
    (either (entry_under h (slot_at s table).objects) refl there)
  where
    either : (o : Option Entry) → entry_under h (slot_at s table).objects ≡ o
        → Some object ≡ option_map (λ entry. entry.object) o
        → IsOne s h object (passing (is_for_entry telegram globals) o)
    either None at there = absurd (none-some object (sym there))
    either (Some e) at there =
        let same : object ≡ e.object = same_Some object e.object there in
        let true_for : is_for_entry telegram globals e ≡ true =
        ap (λ (x : AnyObject). is_addressed x telegram globals) (sym same) ∙ for in
        let number : e.handle ≡ h = handle_is h (slot_at s table).objects e at in
        let rows = sum_by-cons entry_rows e [] in
        let bytes = sum_by-cons entry_bytes e [] in
        let one : IsOne s h object (e ∷ []) = record {
          noted =
              ap (λ (n : ℕ). let a : Addressed = record { slot = s; handle = n } in a ∷ []) number;
          room =
              same_room (entries_room (e ∷ [])) (kind_room (kind_of e.object))
              (omega (arith, rows)) (omega (arith, bytes))
              ∙ ap (λ (x : AnyObject). kind_room (kind_of x)) (sym same);
        } in
        rw true_for one
