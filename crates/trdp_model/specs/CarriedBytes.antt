-- The bytes that an event carries.
use Rattle.std.specs.Prelude.{List, ℕ, Option, Some, None}
use Rattle.trdp_model.specs.Events.{CallModel, PutCall, NotifyCall, RequestCall, ReplyCall}
use Rattle.trdp_model.specs.Events.{QueryCall, EventModel, MomentIs, TopologyIs, RoleIs}
use Rattle.trdp_model.specs.Events.{DatagramIs, CallIs, AddSlotIs}

-- the bytes of a call that sets a value or sends a payload; no other carries any
abbrev pub call_bytes : CallModel → Option (List ℕ)
call_bytes (PutCall handle bytes) = Some bytes
call_bytes (NotifyCall terms payload) = Some payload
call_bytes (RequestCall terms payload) = Some payload
call_bytes (ReplyCall handle com_id status payload) = Some payload
call_bytes (QueryCall handle com_id status timeout payload) = Some payload
call_bytes _ = None

-- the bytes of a datagram or of such a call; no other event carries any
abbrev pub event_bytes : EventModel → Option (List ℕ)
event_bytes (MomentIs t) = None
event_bytes (TopologyIs topo) = None
event_bytes (RoleIs group leader) = None
event_bytes (DatagramIs protocol src dst bytes) = Some bytes
event_bytes (CallIs slot call) = call_bytes call
event_bytes (AddSlotIs quotas) = None

-- a call with these bytes in place of its own
abbrev pub call_with_bytes : List ℕ → CallModel → CallModel
call_with_bytes b (PutCall handle bytes) = PutCall handle b
call_with_bytes b (NotifyCall terms payload) = NotifyCall terms b
call_with_bytes b (RequestCall terms payload) = RequestCall terms b
call_with_bytes b (ReplyCall handle com_id status payload) = ReplyCall handle com_id status b
call_with_bytes b (QueryCall handle com_id status timeout payload) =
    QueryCall handle com_id status timeout b
call_with_bytes b call = call

-- an event with these bytes in place of its own
abbrev pub event_with_bytes : List ℕ → EventModel → EventModel
event_with_bytes b (DatagramIs protocol src dst bytes) = DatagramIs protocol src dst b
event_with_bytes b (CallIs slot call) = CallIs slot (call_with_bytes b call)
event_with_bytes b event = event
