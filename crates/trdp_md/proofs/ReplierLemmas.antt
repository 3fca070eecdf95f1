-- What a replier accepts, and what it keeps.
-- For `replier_is_confirmed_by_its_peer`, `replier_keeps` and `session_ends_later`.
-- By cases: a message is the confirmation that it awaits, or leaves the replier as it was.
use Rattle.std.proofs.Common.{◌≡◌, ℕ, ℤ, ◌+◌, ◌<◌, Bool, true, false, refl, ap, arith}
use Rattle.std.specs.Prelude.{◌↔◌, ◌&&◌, ◌==◌}
use Rattle.std.proofs.lemmas.Bool.Decides.{nat_tests}
use Rattle.trdp_base.specs.declared.place.Place.{Place}
use Rattle.trdp_head.specs.MdTelegrams.{MdTelegram}
use Rattle.trdp_head.specs.declared.md.MdHead.{MdHead}
use Rattle.trdp_head.specs.declared.md.MdKind.{MdKind}
use Rattle.trdp_head.specs.declared.md.MdKind.TheVariants.{Notify, Request, Reply, Query, Confirm}
use Rattle.trdp_head.specs.declared.md.MdKind.TheVariants.{Error}
use Rattle.trdp_filter.specs.declared.globals.Globals.{Globals}
use Rattle.trdp_filter.specs.Counts.{topo_valid}
use Rattle.trdp_filter.specs.Telegrams.{TelegramModel, PdIs, MdIs}
use Rattle.trdp_pd.specs.declared.object.Taken.TheVariants.{Nothing as NotTaken, Confirmed}
use Rattle.trdp_pd.specs.Due.{has_come_by}
use Rattle.trdp_pd.specs.PublisherLaws.{nat_le-past}
use Rattle.trdp_md.specs.declared.replier.Stage.{Stage}
use Rattle.trdp_md.specs.declared.replier.Stage.TheVariants.{Asked, AwaitConfirm}
use Rattle.trdp_md.specs.declared.replier.Replier.{Replier}
use Rattle.trdp_md.specs.Waiting.{reply_time, reply_by}
use Rattle.trdp_md.specs.Repliers.{asked_by, queried, awaits_confirm, is_confirm, is_for_replier}
use Rattle.trdp_md.specs.Repliers.{replier_due, replier_taking, replier_firing}
use Rattle.trdp_md.specs.Sessions.{IsOfSameRequest, IsItsConfirmation}
use Rattle.trdp_md.proofs.ConfirmLemmas.{both}

false-true : false ≡ true → ⊥
false-true is = absurd (cc)

-- a received replyTimeout means some time
reply_time-some : (timeout : ℕ) → 0 < reply_time timeout
unfolding reply_time
reply_time-some timeout = either (timeout == 0) refl
  where
    either : (b : Bool) → (timeout == 0) ≡ b → 0 < reply_time timeout
    either true is = rw is (omega arith)
    either false is = rw is (grind (arith, nat_tests))

-- a new replier isn't due by now
pub asked_by-later :
    (peer : Place) (head : MdHead) (now : ℕ)
    → has_come_by now (replier_due (asked_by peer head now)) ≡ false
unfolding reply_by
asked_by-later peer head now =
    let some = reply_time-some head.timeout in
    nat_le-past (now + reply_time head.timeout) now (omega (arith, some))

-- nor is one whose query was sent
pub queried-later :
    (r : Replier) (now timeout : ℕ) → 0 < timeout
    → has_come_by now (replier_due (queried r now timeout)) ≡ false
queried-later r now timeout some = nat_le-past (now + timeout) now (omega (arith, some))

abbrev same : (r : Replier) → IsOfSameRequest r r
same r =
    record { peer = refl; session = refl; topo = refl; source_uri = refl; dest_uri = refl }

pub keeps-taking :
    (r : Replier) (telegram : TelegramModel) (globals : Globals) (fits : Bool)
    → IsOfSameRequest r (replier_taking r telegram globals fits).object
keeps-taking r (PdIs src dst telegram) globals fits = same r
keeps-taking r (MdIs src dst telegram) globals fits =
    either (is_for_replier r src telegram.head) refl
  where
    either :
        (b : Bool) → is_for_replier r src telegram.head ≡ b
        → IsOfSameRequest r (replier_taking r (MdIs src dst telegram) globals fits).object
    either true is =
        rw is
        (record { peer = refl; session = refl; topo = refl; source_uri = refl; dest_uri = refl })
    either false is = rw is (same r)

pub keeps-firing :
    (r : Replier) (globals : Globals) → IsOfSameRequest r (replier_firing r globals).object
keeps-firing r globals =
    record { peer = refl; session = refl; topo = refl; source_uri = refl; dest_uri = refl }

pub keeps-queried :
    (r : Replier) (now timeout : ℕ) → IsOfSameRequest r (queried r now timeout)
keeps-queried r now timeout =
    record { peer = refl; session = refl; topo = refl; source_uri = refl; dest_uri = refl }

stage-awaits_confirm : (stage : Stage) → awaits_confirm stage ≡ true → stage ≡ AwaitConfirm
unfolding awaits_confirm
stage-awaits_confirm Asked is = absurd (false-true is)
stage-awaits_confirm AwaitConfirm is = refl

awaits_confirm-stage : (stage : Stage) → stage ≡ AwaitConfirm → awaits_confirm stage ≡ true
unfolding awaits_confirm
awaits_confirm-stage stage is = rw is refl

kind-is_confirm : (kind : MdKind) → is_confirm kind ≡ true → kind ≡ Confirm
unfolding is_confirm
kind-is_confirm Notify is = absurd (false-true is)
kind-is_confirm Request is = absurd (false-true is)
kind-is_confirm Reply is = absurd (false-true is)
kind-is_confirm Query is = absurd (false-true is)
kind-is_confirm Confirm is = refl
kind-is_confirm Error is = absurd (false-true is)

is_confirm-kind : (kind : MdKind) → kind ≡ Confirm → is_confirm kind ≡ true
unfolding is_confirm
is_confirm-kind kind is = rw is refl

nat-is : (a b : ℕ) → (a == b) ≡ true → a ≡ b
nat-is a b is = grind (arith, nat_tests)

is-nat : (a b : ℕ) → a ≡ b → (a == b) ≡ true
is-nat a b is = grind (arith, nat_tests)

-- what is for a replier is its confirmation
its-is_for :
    (r : Replier) (src dst : Place) (telegram : MdTelegram)
    → is_for_replier r src telegram.head ≡ true
    → IsItsConfirmation r (MdIs src dst telegram) telegram.head.status
unfolding is_for_replier
its-is_for r src dst telegram is =
    let head : MdHead = telegram.head in
    let stage : Bool = awaits_confirm r.stage in
    let kind : Bool = is_confirm head.kind in
    let session : Bool = head.session.0 == r.session.0 in
    let peer : Bool = src.ip.0 == r.peer.ip.0 in
    let topo : Bool = topo_valid head.topo r.topo in
    let to_topo = both (stage && kind && session && peer) topo is in
    let to_peer = both (stage && kind && session) peer to_topo.0 in
    let to_session = both (stage && kind) session to_peer.0 in
    let to_kind = both stage kind to_session.0 in (
      stage-awaits_confirm r.stage to_kind.0,
      kind-is_confirm head.kind to_kind.1,
      nat-is head.session.0 r.session.0 to_session.1,
      nat-is src.ip.0 r.peer.ip.0 to_peer.1,
      to_topo.1,
      refl,
    )

is_for-its :
    (r : Replier) (src dst : Place) (telegram : MdTelegram) (status : ℤ)
    → IsItsConfirmation r (MdIs src dst telegram) status
    → is_for_replier r src telegram.head ≡ true
unfolding is_for_replier
is_for-its r src dst telegram status its =
    rw (
      awaits_confirm-stage r.stage its.0,
      is_confirm-kind telegram.head.kind its.1,
      is-nat telegram.head.session.0 r.session.0 its.2,
      is-nat src.ip.0 r.peer.ip.0 its.3,
      its.4,
    )
    refl

confirmed-its :
    (r : Replier) (telegram : TelegramModel) (globals : Globals) (fits : Bool) (status : ℤ)
    → (replier_taking r telegram globals fits).taken ≡ Confirmed status
    → IsItsConfirmation r telegram status
confirmed-its r (PdIs src dst telegram) globals fits status told =
    let none : NotTaken ≡ Confirmed status = told in absurd (cc)
confirmed-its r (MdIs src dst telegram) globals fits status told =
    either (is_for_replier r src telegram.head) refl
  where
    either :
        (b : Bool) → is_for_replier r src telegram.head ≡ b
        → IsItsConfirmation r (MdIs src dst telegram) status
    either true is =
        let one : Confirmed telegram.head.status ≡ Confirmed status = rw is at told in
        let its = its-is_for r src dst telegram is in
        (its.0, its.1, its.2, its.3, its.4, cc)
    either false is = let none : NotTaken ≡ Confirmed status = rw is at told in absurd (cc)

its-confirmed :
    (r : Replier) (telegram : TelegramModel) (globals : Globals) (fits : Bool) (status : ℤ)
    → IsItsConfirmation r telegram status
    → (replier_taking r telegram globals fits).taken ≡ Confirmed status
its-confirmed r (PdIs src dst telegram) globals fits status its = absurd (its)
its-confirmed r (MdIs src dst telegram) globals fits status its =
    rw (is_for-its r src dst telegram status its) (ap Confirmed its.5)

pub confirmed :
    (r : Replier) (telegram : TelegramModel) (globals : Globals) (fits : Bool) (status : ℤ)
    → ((replier_taking r telegram globals fits).taken ≡ Confirmed status)
    ↔ IsItsConfirmation r telegram status
confirmed r telegram globals fits status =
    (confirmed-its r telegram globals fits status, its-confirmed r telegram globals fits status)
