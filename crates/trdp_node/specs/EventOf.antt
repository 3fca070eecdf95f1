-- The event that numbers mean.
use Rattle.std.specs.Prelude.{ℕ, ◌==◌, List, Bool, true, false, Option, Some, None}
use Rattle.std.specs.Prelude.{Result, Ok, Err, if◌then◌else◌, nat_le}
use Rattle.std.specs.List.{list_all}
use Rattle.byteorder.specs.Endian.{big_number}
use Rattle.trdp_base.specs.QuotaLimits.{quota_limit}
use Rattle.trdp_base.specs.Uris.{before_zero}
use Rattle.trdp_base.specs.declared.place.Ip.{Ip}
use Rattle.trdp_base.specs.declared.place.Place.{Place}
use Rattle.trdp_base.specs.declared.topo.Topo.{Topo}
use Rattle.trdp_filter.specs.declared.filters.MdFilter.{MdFilter}
use Rattle.trdp_md.specs.declared.terms.CallerTerms.{CallerTerms}
use Rattle.trdp_md.specs.declared.terms.NotifyTerms.{NotifyTerms}
use Rattle.trdp_pd.specs.declared.terms.Behaviour.TheVariants.{Zero, Keep}
use Rattle.trdp_pd.specs.declared.terms.PublisherTerms.{PublisherTerms}
use Rattle.trdp_pd.specs.declared.terms.RequesterTerms.{RequesterTerms}
use Rattle.trdp_pd.specs.declared.terms.SubscriptionTerms.{SubscriptionTerms}
use Rattle.trdp_model.specs.declared.event.Call.{Call}
use Rattle.trdp_model.specs.declared.event.Event.{Event}
use Rattle.trdp_model.specs.declared.record.Protocol.{Protocol}
use Rattle.trdp_model.specs.declared.record.Protocol.TheVariants.{Pd, Md}
use Rattle.trdp_model.specs.Events.{CallModel, PublishCall, PutCall, UnpublishCall, SubscribeCall}
use Rattle.trdp_model.specs.Events.{GetCall, UnsubscribeCall, OpenPullCall, PullCall}
use Rattle.trdp_model.specs.Events.{ClosePullCall, ListenCall, UnlistenCall, NotifyCall}
use Rattle.trdp_model.specs.Events.{RequestCall, ReplyCall, QueryCall, ReplyErrorCall}
use Rattle.trdp_model.specs.Events.{ConfirmCall, AbortCall, ResetCall}
use Rattle.trdp_model.specs.Events.{EventModel, MomentIs, TopologyIs, RoleIs, DatagramIs, CallIs}
use Rattle.trdp_model.specs.Events.{AddSlotIs, call_model, event_model}
use Rattle.trdp_node.specs.declared.event.EventNumbers.{EventNumbers}

-- what a flag says; the status of one that is neither 0 nor 1
unfoldable pub flag_of : ℕ → Result Bool ℕ
flag_of flag = if flag == 0 then Ok false else (if flag == 1 then Ok true else Err 22)

-- what is made of a value, unless there is a status in its place
abbrev pub made_of : {A B : Type 0} → Result A ℕ → (A → B) → Result B ℕ
made_of (Ok value) make = Ok (make value)
made_of (Err status) make = Err status

-- the address of a number
abbrev pub ip_of : ℕ → Ip
ip_of n = record { 0 = n }

-- the place of an address and a port
abbrev pub address_place : ℕ → ℕ → Place
address_place address port = record { ip = ip_of address; port = port }

-- where it goes
abbrev pub to_of : EventNumbers → Place
to_of n = address_place n.to_address n.to_port

-- the topology counters
abbrev pub topo_of : EventNumbers → Topo
topo_of n = record { etb = n.etb; op_trn = n.op_trn }

-- what a publisher is made from
unfoldable pub publisher_of : EventNumbers → PublisherTerms
publisher_of n = record {
  com_id = n.com_id;
  dataset = n.dataset;
  cycle = n.time;
  group = n.group;
  topo = topo_of n;
  to = to_of n;
}

-- what a subscription is made from, which keeps its value or not
unfoldable pub subscription_meant : EventNumbers → Bool → SubscriptionTerms
subscription_meant n keep = record {
  filter = record {
    com_id = n.com_id;
    low = ip_of n.low;
    high = ip_of n.high;
    dest = ip_of n.destination;
    topo = topo_of n;
  };
  dataset = n.dataset;
  supervision = n.time;
  behaviour = if keep then Keep else Zero;
}

-- what a requester is made from
unfoldable pub requester_of : EventNumbers → RequesterTerms
requester_of n = record {
  com_id = n.com_id;
  reply_com_id = n.reply_com_id;
  reply_ip = ip_of n.reply_address;
  topo = topo_of n;
  to = to_of n;
}

-- what a listener hears: of any comId or not
unfoldable pub listener_of : EventNumbers → Bool → MdFilter
listener_of n any = record {
  com_id = if any then None else Some n.com_id;
  low = ip_of n.low;
  high = ip_of n.high;
  dest = ip_of n.destination;
  uri = before_zero n.destination_uri;
  topo = topo_of n;
}

-- how a notification is sent
unfoldable pub notice_of : EventNumbers → NotifyTerms
notice_of n = record {
  com_id = n.com_id;
  topo = topo_of n;
  to = to_of n;
  source_uri = before_zero n.source_uri;
  dest_uri = before_zero n.destination_uri;
}

-- what a caller is made from
unfoldable pub caller_of : EventNumbers → CallerTerms
caller_of n = record {
  com_id = n.com_id;
  session = record { 0 = big_number 16 n.session };
  expected = n.expected;
  timeout = n.time;
  retries = n.retries;
  topo = topo_of n;
  to = to_of n;
  source_uri = before_zero n.source_uri;
  dest_uri = before_zero n.destination_uri;
}

-- the call that numbers mean, with these bytes; the status of numbers that mean none
unfoldable pub call_meant : EventNumbers → List ℕ → Result CallModel ℕ
call_meant n bytes =
    if n.what == 10 then Ok (PublishCall (publisher_of n)) else
    if n.what == 11 then Ok (PutCall n.handle bytes) else
    if n.what == 12 then Ok (UnpublishCall n.handle) else
    if n.what == 13
    then made_of (flag_of n.keep) (λ keep. SubscribeCall (subscription_meant n keep)) else
    if n.what == 14 then Ok (GetCall n.handle) else
    if n.what == 15 then Ok (UnsubscribeCall n.handle) else
    if n.what == 16 then Ok (OpenPullCall (requester_of n)) else
    if n.what == 17 then Ok (PullCall n.handle) else
    if n.what == 18 then Ok (ClosePullCall n.handle) else
    if n.what == 19
    then made_of (flag_of n.any) (λ any. ListenCall (listener_of n any)) else
    if n.what == 20 then Ok (UnlistenCall n.handle) else
    if n.what == 21 then Ok (NotifyCall (notice_of n) bytes) else
    if n.what == 22 then Ok (RequestCall (caller_of n) bytes) else
    if n.what == 23 then Ok (ReplyCall n.handle n.com_id n.status bytes) else
    if n.what == 24 then Ok (QueryCall n.handle n.com_id n.status n.time bytes) else
    if n.what == 25 then Ok (ReplyErrorCall n.handle n.com_id n.status) else
    if n.what == 26 then Ok (ConfirmCall n.handle (to_of n) n.status) else
    if n.what == 27 then Ok (AbortCall n.handle) else
    if n.what == 28 then Ok ResetCall else Err 21

-- the datagram that numbers mean
unfoldable pub datagram_of : Protocol → EventNumbers → List ℕ → EventModel
datagram_of protocol n bytes =
    DatagramIs protocol (address_place n.from_address n.from_port) (to_of n) bytes

-- the slot that is to be added; the status of quotas of which one is above its limit
unfoldable pub slot_meant : EventNumbers → Result EventModel ℕ
slot_meant n =
    if list_all (λ count. nat_le count quota_limit) n.quotas then Ok (AddSlotIs n.quotas)
    else Err 23

-- the event that numbers mean, with these bytes; the status of numbers that mean none
unfoldable pub event_of : EventNumbers → List ℕ → Result EventModel ℕ
event_of n bytes =
    if n.what == 1 then Ok (MomentIs n.moment) else
    if n.what == 2 then Ok (TopologyIs (topo_of n)) else
    if n.what == 3 then made_of (flag_of n.leader) (λ leader. RoleIs n.group leader) else
    if n.what == 4 then Ok (datagram_of Pd n bytes) else
    if n.what == 5 then Ok (datagram_of Md n bytes) else
    if n.what == 6 then slot_meant n else
    made_of (call_meant n bytes) (λ call. CallIs n.slot call)

-- a call that was read, apart from where its bytes are
abbrev pub call_read : Result Call ℕ → Result CallModel ℕ
call_read (Ok call) = Ok (call_model call)
call_read (Err status) = Err status

-- an event that was read, apart from where its bytes are
abbrev pub event_read : Result Event ℕ → Result EventModel ℕ
event_read (Ok event) = Ok (event_model event)
event_read (Err status) = Err status
