-- Objects, calls and moves that send what their fields hold.
-- For the promises that need `AreTypedSteps`; the other modules Typed.. show that moves are so.
-- A record for each kind: the bounds of what its terms contain.
use Rattle.std.specs.Prelude.{◌≡◌, ℕ, ◌<◌, ◌≤◌, ◌^◌, List, length, Some, slice_get, FitsSigned}
use Rattle.std.specs.Int.{w32}
use Rattle.trdp_base.specs.Uris.{IsUri}
use Rattle.trdp_pd.specs.Publishers.{PublisherState}
use Rattle.trdp_pd.specs.Requesters.{RequesterState}
use Rattle.trdp_md.specs.declared.caller.Caller.{Caller as AnyCaller}
use Rattle.trdp_md.specs.declared.replier.Replier.{Replier as AnyReplier}
use Rattle.trdp_model.specs.declared.any_object.AnyObject.{AnyObject}
use Rattle.trdp_model.specs.declared.any_object.AnyObject.TheVariants.{Publisher, Requester}
use Rattle.trdp_model.specs.declared.any_object.AnyObject.TheVariants.{Caller}
use Rattle.trdp_model.specs.declared.any_object.AnyObject.TheVariants.{Replier}
use Rattle.trdp_model.specs.Events.{CallModel, NotifyCall, RequestCall, ReplyCall, QueryCall}
use Rattle.trdp_model.specs.Events.{ReplyErrorCall, ConfirmCall, EventModel, CallIs}
use Rattle.trdp_model.specs.Slots.{Entry, SlotState}
use Rattle.trdp_net.specs.Networks.{Move}
use Rattle.trdp_net.specs.Provenance.{Each}
use Rattle.trdp_net.specs.Typed.{IsTopo, IsNotifyTerms, IsCallerTerms}

-- what a publisher sends
pub record IsPublisher (p : PublisherState) : Type 0 where
  pub counter : p.counter < 2 ^ 32
  pub com_id : p.terms.com_id < 2 ^ 32
  pub topo : IsTopo p.terms.topo

-- what a pull requester sends
pub record IsRequester (r : RequesterState) : Type 0 where
  pub counter : r.counter < 2 ^ 32
  pub com_id : r.terms.com_id < 2 ^ 32
  pub topo : IsTopo r.terms.topo
  pub reply_com_id : r.terms.reply_com_id < 2 ^ 32
  pub reply_ip : r.terms.reply_ip.0 < 2 ^ 32

-- what a caller sends
pub record IsCaller (c : AnyCaller) : Type 0 where
  pub terms : IsCallerTerms c.terms
  pub counter : c.counter < 2 ^ 32
  pub payload : length c.payload ≤ 65388

-- what a replier sends
pub record IsReplier (r : AnyReplier) : Type 0 where
  pub topo : IsTopo r.topo
  pub session : r.session.0 < 2 ^ 128
  pub source_uri : IsUri r.source_uri
  pub dest_uri : IsUri r.dest_uri

-- each number, URI and identifier that the object may send is one that its field holds
abbrev pub IsTypedObject : AnyObject → Type 0
IsTypedObject (Publisher p) = IsPublisher p
IsTypedObject (Requester r) = IsRequester r
IsTypedObject (Caller c) = IsCaller c
IsTypedObject (Replier r) = IsReplier r
IsTypedObject object = Unit {0}

-- the same of what a call may send at once
abbrev pub IsTypedSending : CallModel → Type 0
IsTypedSending (NotifyCall terms payload) = IsNotifyTerms terms
IsTypedSending (RequestCall terms payload) = IsCallerTerms terms
IsTypedSending (ReplyCall handle com_id status payload) = (com_id < 2 ^ 32) × FitsSigned w32 status
IsTypedSending (QueryCall handle com_id status timeout payload) =
    (com_id < 2 ^ 32) × FitsSigned w32 status × (timeout < 2 ^ 32)
IsTypedSending (ReplyErrorCall handle com_id status) = (com_id < 2 ^ 32) × FitsSigned w32 status
IsTypedSending (ConfirmCall handle place status) = FitsSigned w32 status
IsTypedSending call = Unit {0}

-- the same of what an event may send at once
abbrev pub SendsTyped : EventModel → Type 0
SendsTyped (CallIs s call) = IsTypedSending call
SendsTyped event = Unit {0}

-- the same of the object of an entry
abbrev pub IsTypedEntry : Entry → Type 0
IsTypedEntry entry = IsTypedObject entry.object

-- each byte, number, URI and identifier in the node and in the event is one that its field holds
pub record IsTypedMove (m : Move) (past : List Move) : Type 0 where
  pub objects : (s : ℕ) (slot : SlotState) → slice_get m.before.slots s ≡ Some slot
      → Each IsTypedEntry slot.objects
  pub event : SendsTyped m.event
