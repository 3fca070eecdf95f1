-- Whom a request is for: listeners alone.
-- For `requests_are_for_listeners`.
-- By cases on the kind of the object.
use Rattle.std.proofs.Common.{◌≡◌, Bool, true, false, refl}
use Rattle.std.specs.Prelude.{◌==◌, ◌&&◌}
use Rattle.trdp_base.specs.declared.place.Place.{Place}
use Rattle.trdp_head.specs.declared.md.MdHead.{MdHead}
use Rattle.trdp_head.specs.declared.md.MdKind.{MdKind}
use Rattle.trdp_head.specs.declared.md.MdKind.TheVariants.{Notify, Request, Reply}
use Rattle.trdp_head.specs.declared.md.MdKind.TheVariants.{Query, Confirm, Error}
use Rattle.trdp_filter.specs.declared.globals.Globals.{Globals}
use Rattle.trdp_filter.specs.Counts.{topo_valid}
use Rattle.trdp_filter.specs.Telegrams.{TelegramModel, PdIs, MdIs}
use Rattle.trdp_md.specs.declared.caller.Caller.{Caller as AnyCaller}
use Rattle.trdp_md.specs.declared.replier.Replier.{Replier as AnyReplier}
use Rattle.trdp_md.specs.Callers.{is_answer, is_for_caller}
use Rattle.trdp_md.specs.Repliers.{awaits_confirm, is_confirm, is_for_replier}
use Rattle.trdp_model.specs.declared.any_object.AnyObject.{AnyObject}
use Rattle.trdp_model.specs.declared.any_object.AnyObject.TheVariants.{Publisher, Subscription}
use Rattle.trdp_model.specs.declared.any_object.AnyObject.TheVariants.{Requester, Listener}
use Rattle.trdp_model.specs.declared.any_object.AnyObject.TheVariants.{Caller, Replier}
use Rattle.trdp_model.specs.declared.kind.Kind.TheVariants as kind
use Rattle.trdp_model.specs.Kinds.{kind_of}
use Rattle.trdp_model.specs.Objects.{is_addressed}
use Rattle.trdp_model.specs.Datagrams.{is_request_kind, is_request}

answers_none : (k : MdKind) → is_request_kind k ≡ true → is_answer k ≡ false
unfolding is_answer
answers_none Notify asks = refl
answers_none Request asks = refl
answers_none Reply asks = absurd (cc)
answers_none Query asks = absurd (cc)
answers_none Confirm asks = refl
answers_none Error asks = absurd (cc)

confirms_none : (k : MdKind) → is_request_kind k ≡ true → is_confirm k ≡ false
unfolding is_confirm
confirms_none Notify asks = refl
confirms_none Request asks = refl
confirms_none Reply asks = refl
confirms_none Query asks = refl
confirms_none Confirm asks = absurd (cc)
confirms_none Error asks = refl

-- a request answers none
not_for_caller : (c : AnyCaller) (head : MdHead)
    → is_request_kind head.kind ≡ true → is_for_caller c head ≡ false
unfolding is_for_caller
not_for_caller c head asks = rw (answers_none head.kind asks) refl

second_fails : (a b c d e : Bool) → b ≡ false → (a && b && c && d && e) ≡ false
second_fails true b c d e none = rw none refl
second_fails false b c d e none = refl

-- nor confirms it one
not_for_replier : (r : AnyReplier) (src : Place) (head : MdHead)
    → is_request_kind head.kind ≡ true → is_for_replier r src head ≡ false
unfolding is_for_replier
not_for_replier r src head asks =
    second_fails (awaits_confirm r.stage) (is_confirm head.kind) (head.session.0 == r.session.0)
    (src.ip.0 == r.peer.ip.0) (topo_valid head.topo r.topo) (confirms_none head.kind asks)

pub for_listeners : (object : AnyObject) (telegram : TelegramModel) (globals : Globals)
    → is_request telegram ≡ true → is_addressed object telegram globals ≡ true
    → kind_of object ≡ kind.Listener
for_listeners (Publisher p) (PdIs src dst telegram) globals asks is = absurd (cc)
for_listeners (Publisher p) (MdIs src dst telegram) globals asks is = absurd (cc)
for_listeners (Subscription s) (PdIs src dst telegram) globals asks is = absurd (cc)
for_listeners (Subscription s) (MdIs src dst telegram) globals asks is = absurd (cc)
for_listeners (Requester r) (PdIs src dst telegram) globals asks is = absurd (cc)
for_listeners (Requester r) (MdIs src dst telegram) globals asks is = absurd (cc)
for_listeners (Listener l) telegram globals asks is = refl
for_listeners (Caller c) (PdIs src dst telegram) globals asks is = absurd (cc)
for_listeners (Caller c) (MdIs src dst telegram) globals asks is =
    let none = not_for_caller c telegram.head asks in absurd (cc)
for_listeners (Replier r) (PdIs src dst telegram) globals asks is = absurd (cc)
for_listeners (Replier r) (MdIs src dst telegram) globals asks is =
    let none = not_for_replier r src telegram.head asks in absurd (cc)
