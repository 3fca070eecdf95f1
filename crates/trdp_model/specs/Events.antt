-- Events, apart from where their bytes are.
use Rattle.std.specs.Prelude.{ℕ, ℤ, List, Bool}
use Rattle.trdp_base.specs.declared.place.Place.{Place}
use Rattle.trdp_base.specs.declared.topo.Topo.{Topo}
use Rattle.trdp_pd.specs.declared.terms.PublisherTerms.{PublisherTerms}
use Rattle.trdp_pd.specs.declared.terms.SubscriptionTerms.{SubscriptionTerms}
use Rattle.trdp_pd.specs.declared.terms.RequesterTerms.{RequesterTerms}
use Rattle.trdp_filter.specs.declared.filters.MdFilter.{MdFilter}
use Rattle.trdp_md.specs.declared.terms.NotifyTerms.{NotifyTerms}
use Rattle.trdp_md.specs.declared.terms.CallerTerms.{CallerTerms}
use Rattle.trdp_model.specs.declared.record.Protocol.{Protocol}
use Rattle.trdp_model.specs.declared.event.Call.{Call as AnyCall}
use Rattle.trdp_model.specs.declared.event.Call.TheVariants.{Publish, Put, Unpublish, Subscribe}
use Rattle.trdp_model.specs.declared.event.Call.TheVariants.{Get, Unsubscribe, OpenPull, Pull}
use Rattle.trdp_model.specs.declared.event.Call.TheVariants.{ClosePull, Listen, Unlisten}
use Rattle.trdp_model.specs.declared.event.Call.TheVariants.{Notify, Request, Reply, Query}
use Rattle.trdp_model.specs.declared.event.Call.TheVariants.{ReplyError, Confirm, Abort, Reset}
use Rattle.trdp_model.specs.declared.event.Event.{Event}
use Rattle.trdp_model.specs.declared.event.Event.TheVariants.{Moment, Topology, Role, Datagram}
use Rattle.trdp_model.specs.declared.event.Event.TheVariants.{Call, AddSlot}

-- a call of the application in a slot
pub data CallModel : Type 0 where
  PublishCall : (terms : PublisherTerms) → CallModel
  PutCall : (handle : ℕ) (bytes : List ℕ) → CallModel
  UnpublishCall : (handle : ℕ) → CallModel
  SubscribeCall : (terms : SubscriptionTerms) → CallModel
  GetCall : (handle : ℕ) → CallModel
  UnsubscribeCall : (handle : ℕ) → CallModel
  OpenPullCall : (terms : RequesterTerms) → CallModel
  PullCall : (handle : ℕ) → CallModel
  ClosePullCall : (handle : ℕ) → CallModel
  ListenCall : (filter : MdFilter) → CallModel
  UnlistenCall : (handle : ℕ) → CallModel
  NotifyCall : (terms : NotifyTerms) (payload : List ℕ) → CallModel
  RequestCall : (terms : CallerTerms) (payload : List ℕ) → CallModel
  ReplyCall : (handle com_id : ℕ) (status : ℤ) (payload : List ℕ) → CallModel
  QueryCall : (handle com_id : ℕ) (status : ℤ) (timeout : ℕ) (payload : List ℕ) → CallModel
  ReplyErrorCall : (handle com_id : ℕ) (status : ℤ) → CallModel
  ConfirmCall : (handle : ℕ) (place : Place) (status : ℤ) → CallModel
  AbortCall : (handle : ℕ) → CallModel
  ResetCall : CallModel

-- one event of a node
pub data EventModel : Type 0 where
  MomentIs : (t : ℕ) → EventModel
  TopologyIs : (topo : Topo) → EventModel
  RoleIs : (group : ℕ) (leader : Bool) → EventModel
  DatagramIs : (protocol : Protocol) (src dst : Place) (bytes : List ℕ) → EventModel
  CallIs : (slot : ℕ) (call : CallModel) → EventModel
  AddSlotIs : (quotas : List ℕ) → EventModel

-- a call, apart from where its bytes are
abbrev pub call_model : AnyCall → CallModel
call_model (Publish terms) = PublishCall terms
call_model (Put handle bytes) = PutCall handle bytes.now
call_model (Unpublish handle) = UnpublishCall handle
call_model (Subscribe terms) = SubscribeCall terms
call_model (Get handle) = GetCall handle
call_model (Unsubscribe handle) = UnsubscribeCall handle
call_model (OpenPull terms) = OpenPullCall terms
call_model (Pull handle) = PullCall handle
call_model (ClosePull handle) = ClosePullCall handle
call_model (Listen filter) = ListenCall filter
call_model (Unlisten handle) = UnlistenCall handle
call_model (Notify terms payload) = NotifyCall terms payload.now
call_model (Request terms payload) = RequestCall terms payload.now
call_model (Reply handle com_id status payload) = ReplyCall handle com_id status payload.now
call_model (Query handle com_id status timeout payload) =
    QueryCall handle com_id status timeout payload.now
call_model (ReplyError handle com_id status) = ReplyErrorCall handle com_id status
call_model (Confirm handle place status) = ConfirmCall handle place status
call_model (Abort handle) = AbortCall handle
call_model Reset = ResetCall

-- an event, apart from where its bytes are
abbrev pub event_model : Event → EventModel
event_model (Moment t) = MomentIs t
event_model (Topology topo) = TopologyIs topo
event_model (Role group leader) = RoleIs group leader
event_model (Datagram protocol src dst bytes) = DatagramIs protocol src dst bytes.now
event_model (Call slot call) = CallIs slot (call_model call)
event_model (AddSlot quotas) = AddSlotIs quotas
