-- What a message of a session costs: it is for the object that the index has for the session.
-- For `note_all` and `note_part`.
-- By cases on the kind of message: that object is one of those that it may be for.
use Rattle.std.proofs.Common.{◌≡◌, ℕ, ◌≤◌, Option}
use Rattle.std.proofs.Common.{Some, None, true, refl, ◌∙◌, sym, ap, subst, arith}
use Rattle.std.specs.Prelude.{◌==◌}
use Rattle.std.proofs.lemmas.Bool.{false≢true}
use Rattle.std.proofs.lemmas.Bool.Decides.{nat_tests}
use Rattle.std.proofs.lemmas.Option.{same_Some, none-some}
use Rattle.trdp_base.specs.declared.session.SessionId.{SessionId}
use Rattle.trdp_head.specs.declared.md.MdKind.{MdKind}
use Rattle.trdp_head.specs.declared.md.MdKind.TheVariants as message
use Rattle.trdp_filter.specs.Telegrams.{TelegramModel, PdIs, MdIs}
use Rattle.trdp_model.specs.declared.any_object.AnyObject.{AnyObject}
use Rattle.trdp_md.specs.Listeners.{is_unasked}
use Rattle.trdp_model.specs.declared.any_object.AnyObject.TheVariants.{Publisher, Subscription}
use Rattle.trdp_model.specs.declared.any_object.AnyObject.TheVariants.{Requester, Listener}
use Rattle.trdp_model.specs.declared.any_object.AnyObject.TheVariants.{Caller, Replier}
use Rattle.trdp_table.specs.Tables.{Keyed, TableState, slot_in}
use Rattle.trdp_table.specs.Tables.{by_handle}
use Rattle.trdp_index.specs.declared.session_row.Role.{Role}
use Rattle.trdp_index.specs.declared.session_row.Role.TheVariants.{Caller as AsCaller}
use Rattle.trdp_index.specs.declared.session_row.Role.TheVariants.{Replier as AsReplier}
use Rattle.trdp_store.specs.Acting.{slot_at}
use Rattle.trdp_model.specs.Requests.{is_of_session}
use Rattle.trdp_store.specs.InSession.{own_session, session_found, session_in}
use Rattle.trdp_datagrams.specs.Sought.{part_as, part_of}
use Rattle.trdp_datagrams.specs.Sought.{comes_unasked}
use Rattle.trdp_datagrams.specs.Meant.{is_meant_as}
use Rattle.trdp_datagrams.specs.Meant.{is_meant, meant_in}
use Rattle.trdp_datagrams.proofs.CostLemmas.Sums.{one_if}
use Rattle.trdp_datagrams.proofs.CostLemmas.Sums.{found_total}
use Rattle.trdp_datagrams.proofs.CostLemmas.Telegrams.{meant_one, meant_in-total}

-- an object that is in a session
of_session : (object : AnyObject) (own : SessionId × Role)
    → own_session object ≡ Some own → is_of_session own.0 object ≡ true
of_session (Publisher p) own is = absurd (none-some own is)
of_session (Subscription s) own is = absurd (none-some own is)
of_session (Requester r) own is = absurd (none-some own is)
of_session (Listener l) own is = absurd (none-some own is)
of_session (Caller c) own is =
    let its : SessionId × Role = (c.terms.session, AsCaller) in
    let self : (c.terms.session.0 == c.terms.session.0) ≡ true = grind (arith, nat_tests) in
    subst (λ (o : SessionId × Role). is_of_session o.0 (Caller c) ≡ true)
    (same_Some its own is) self
of_session (Replier r) own is =
    let its : SessionId × Role = (r.session, AsReplier) in
    let self : (r.session.0 == r.session.0) ≡ true = grind (arith, nat_tests) in
    subst (λ (o : SessionId × Role). is_of_session o.0 (Replier r) ≡ true)
    (same_Some its own is) self

in_session : (object : AnyObject) (session : SessionId) (role : Role) (own : SessionId × Role)
    → Some (session, role) ≡ Some own → own_session object ≡ Some own
    → is_of_session session object ≡ true
in_session object session role own same of =
    let its : SessionId × Role = (session, role) in
    of_session object its (of ∙ sym same)

-- a message that an object of that session awaits may be for it
part_meant : (telegram : TelegramModel) (object : AnyObject) (own : SessionId × Role)
    → part_of telegram ≡ Some own → own_session object ≡ Some own → is_meant telegram object ≡ true
part_meant (PdIs src dst t) object own part of = absurd (none-some own part)
part_meant (MdIs src dst t) object own part of = by_kind t.head.kind part
  where
    by_kind : (k : MdKind) → part_as k t.head.session ≡ Some own
        → is_meant_as k t.head object ≡ true
    by_kind message.Notify part = absurd (none-some own part)
    by_kind message.Request part = absurd (none-some own part)
    by_kind message.Reply part = in_session object t.head.session AsCaller own part of
    by_kind message.Query part = in_session object t.head.session AsCaller own part of
    by_kind message.Confirm part = in_session object t.head.session AsReplier own part of
    by_kind message.Error part = in_session object t.head.session AsCaller own part of

part_one : (telegram : TelegramModel) (object : AnyObject) (own : SessionId × Role)
    → part_of telegram ≡ Some own → own_session object ≡ Some own → meant_one telegram object ≡ 1
unfolding meant_one
part_one telegram object own part of = ap one_if (part_meant telegram object own part of)

-- no object awaits a message that comes unasked
pub part_asked : (telegram : TelegramModel) (own : SessionId × Role)
    → part_of telegram ≡ Some own → comes_unasked telegram ≡ true → ⊥
unfolding is_unasked
part_asked (PdIs src dst t) own part is = none-some own part
part_asked (MdIs src dst t) own part is = by_kind t.head.kind part is
  where
    by_kind : (k : MdKind) → part_as k t.head.session ≡ Some own → is_unasked k ≡ true → ⊥
    by_kind message.Notify part is = none-some own part
    by_kind message.Request part is = none-some own part
    by_kind message.Reply part is = false≢true is
    by_kind message.Query part is = false≢true is
    by_kind message.Confirm part is = false≢true is
    by_kind message.Error part is = false≢true is

-- where the index finds one, it counts
pub part_counted :
    (table : TableState) (s h : ℕ) (telegram : TelegramModel) (own : SessionId × Role)
    → part_of telegram ≡ Some own → session_in s h table ≡ Some own
    → 1 ≤ meant_in telegram (slot_at s table).objects
part_counted table s h telegram own part there =
    either (by_handle h (slot_in s table).objects) refl there
  where
    either : (o : Option Keyed) → by_handle h (slot_in s table).objects ≡ o
        → session_found o ≡ Some own → 1 ≤ meant_in telegram (slot_at s table).objects
    either None at there = absurd (none-some own there)
    either (Some keyed) at there =
        let le = found_total (meant_one telegram) h (slot_in s table).objects keyed at in
        omega (
          arith,
          le,
          part_one telegram keyed.object own part there,
          meant_in-total telegram (slot_in s table).objects,
        )
