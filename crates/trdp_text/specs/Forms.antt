-- The forms that a line of a script can have, each with its words, its fields and its event.
use Rattle.std.specs.Prelude.{ℕ, ℤ, ◌^◌, ◌-◌, ◌&&◌, List, [], ◌∷◌, Bool, true, Option, Some, codes}
use Rattle.std.specs.Prelude.{if◌then◌else◌}
use Rattle.std.specs.Option.{option_and_then}
use Rattle.std.specs.Str.{bytes_eq}
use Rattle.trdp_base.specs.declared.place.Ip.{Ip}
use Rattle.trdp_base.specs.declared.place.Place.{Place}
use Rattle.trdp_base.specs.declared.session.SessionId.{SessionId}
use Rattle.trdp_base.specs.QuotaLimits.{quota_limit}
use Rattle.trdp_pd.specs.declared.terms.Behaviour.{Behaviour}
use Rattle.trdp_pd.specs.declared.terms.Behaviour.TheVariants.{Zero, Keep}
use Rattle.trdp_md.specs.declared.terms.NotifyTerms.{NotifyTerms}
use Rattle.trdp_md.specs.declared.terms.CallerTerms.{CallerTerms}
use Rattle.trdp_model.specs.Events.{CallModel, PublishCall, PutCall, UnpublishCall, SubscribeCall}
use Rattle.trdp_model.specs.Events.{GetCall, UnsubscribeCall, OpenPullCall, PullCall}
use Rattle.trdp_model.specs.Events.{ClosePullCall, ListenCall, UnlistenCall, NotifyCall}
use Rattle.trdp_model.specs.Events.{RequestCall, ReplyCall, QueryCall, ReplyErrorCall}
use Rattle.trdp_model.specs.Events.{ConfirmCall, AbortCall, ResetCall}
use Rattle.trdp_model.specs.Events.{EventModel, MomentIs, TopologyIs, RoleIs, DatagramIs, CallIs}
use Rattle.trdp_model.specs.Events.{AddSlotIs}
use Rattle.trdp_model.specs.declared.record.Protocol.{Protocol}
use Rattle.trdp_model.specs.declared.record.Protocol.TheVariants.{Pd, Md}
use Rattle.trdp_text.specs.Words.{first_word, other_words, number_of_word, ip_of_word}
use Rattle.trdp_text.specs.Words.{last_number}
use Rattle.trdp_text.specs.Words.{place_of_word, bytes_of_word, choice_of_word}
use Rattle.trdp_text.specs.Words.{any_or_number, uri_of_word, status_of_word, session_of_word}

-- what one word of a line is to be; the last number of a line may be left out, and is 0 then
pub data Part : Type 0 where
  Keyword : (word : List ℕ) → Part
  NumberField : (max : ℕ) → Part
  LastNumberField : (max : ℕ) → Part
  AnyOrNumberField : (max : ℕ) → Part
  AddressField : Part
  PlaceField : Part
  BytesField : Part
  UriField : Part
  StatusField : Part
  SessionField : Part
  ChoiceField : (first second : List ℕ) → Part

-- what is made from the value of a field: nothing is taken from a keyword
abbrev pub From : Part → Type 0 → Type 0
From (Keyword word) Made = Made
From (NumberField max) Made = ℕ → Made
From (LastNumberField max) Made = ℕ → Made
From (AnyOrNumberField max) Made = Option ℕ → Made
From AddressField Made = Ip → Made
From PlaceField Made = Place → Made
From BytesField Made = List ℕ → Made
From UriField Made = List ℕ → Made
From StatusField Made = ℤ → Made
From SessionField Made = SessionId → Made
From (ChoiceField first second) Made = Bool → Made

-- an event, made from the value of each field in their order
abbrev pub EventFrom : List Part → Type 0
EventFrom [] = EventModel
EventFrom (part ∷ parts) = From part (EventFrom parts)

-- a form: its words from the first to the last, and the event that it means
pub record LineForm : Type 0 where
  pub parts : List Part
  pub event : EventFrom parts

-- numbers of 8, 16, 32 and 64 bits
abbrev pub number_8 : Part
number_8 = NumberField (2 ^ 8 - 1)

abbrev pub number_16 : Part
number_16 = NumberField (2 ^ 16 - 1)

abbrev pub number_32 : Part
number_32 = NumberField (2 ^ 32 - 1)

abbrev pub number_64 : Part
number_64 = NumberField (2 ^ 64 - 1)

-- how many objects of a kind a slot may hold
abbrev pub quota : Part
quota = NumberField quota_limit

-- `any`, or a number of 32 bits
abbrev pub any_or_32 : Part
any_or_32 = AnyOrNumberField (2 ^ 32 - 1)

-- moment T
-- rule: event.moment
abbrev pub moment_form : LineForm
moment_form = record { parts = Keyword (codes "moment") ∷ number_64 ∷ []; event = λ t. MomentIs t }

-- topology ETB OPTRN
-- rule: event.topology
abbrev pub topology_form : LineForm
topology_form = record {
  parts = Keyword (codes "topology") ∷ number_32 ∷ number_32 ∷ [];
  event = λ etb op_trn. TopologyIs (record { etb = etb; op_trn = op_trn });
}

-- role GROUP leader|follower
-- rule: event.role
abbrev pub role_form : LineForm
role_form = record {
  parts = Keyword (codes "role") ∷ number_8 ∷ ChoiceField (codes "leader") (codes "follower") ∷ [];
  event = λ group leader. RoleIs group leader;
}

-- the word of a protocol's datagrams
abbrev pub protocol_word : Protocol → List ℕ
protocol_word Pd = codes "pd"
protocol_word Md = codes "md"

-- the protocol's word, SRC, DST and HEX
abbrev pub datagram_form : Protocol → LineForm
datagram_form protocol = record {
  parts = Keyword (protocol_word protocol) ∷ PlaceField ∷ PlaceField ∷ BytesField ∷ [];
  event = λ src dst bytes. DatagramIs protocol src dst bytes;
}

-- pd SRC DST HEX
-- rule: event.pd
abbrev pub pd_form : LineForm
pd_form = datagram_form Pd

-- md SRC DST HEX
-- rule: event.md
abbrev pub md_form : LineForm
md_form = datagram_form Md

-- the word with which a call begins
abbrev pub call_word : List ℕ
call_word = codes "call"

-- call SLOT, the call's word and its fields
abbrev pub call_form : List ℕ → (fields : List Part) → (ℕ → EventFrom fields) → LineForm
call_form word fields event = record {
  parts = Keyword call_word ∷ number_16 ∷ Keyword word ∷ fields;
  event = event;
}

-- call SLOT, the word of a call of the object with that handle, and HANDLE
abbrev pub handle_form : List ℕ → (ℕ → CallModel) → LineForm
handle_form word call =
    call_form word (number_32 ∷ []) (λ slot handle. CallIs slot (call handle))

-- call SLOT publish COMID DATASET CYCLE GROUP ETB OPTRN TO
-- rule: call.publish
abbrev pub publish_form : LineForm
publish_form =
    call_form (codes "publish")
    (number_32 ∷ number_32 ∷ number_32 ∷ number_8 ∷ number_32 ∷ number_32 ∷ PlaceField ∷ [])
    (λ slot com_id dataset cycle group etb op_trn to. CallIs slot (PublishCall (record {
      com_id = com_id;
      dataset = dataset;
      cycle = cycle;
      group = group;
      topo = record { etb = etb; op_trn = op_trn };
      to = to;
    })))

-- call SLOT put HANDLE HEX
-- rule: call.put
abbrev pub put_form : LineForm
put_form =
    call_form (codes "put") (number_32 ∷ BytesField ∷ [])
    (λ slot handle bytes. CallIs slot (PutCall handle bytes))

-- call SLOT unpublish HANDLE
-- rule: call.unpublish
abbrev pub unpublish_form : LineForm
unpublish_form = handle_form (codes "unpublish") (λ handle. UnpublishCall handle)

-- what a time-out does to the value
abbrev pub behaviour_of : Bool → Behaviour
behaviour_of zero = if zero then Zero else Keep

-- call SLOT subscribe COMID DATASET LOW HIGH DEST ETB OPTRN TIME zero|keep
-- rule: call.subscribe
abbrev pub subscribe_form : LineForm
subscribe_form =
    call_form (codes "subscribe")
    (number_32 ∷ number_32 ∷ AddressField ∷ AddressField ∷ AddressField ∷ number_32 ∷ number_32
    ∷ number_32 ∷ ChoiceField (codes "zero") (codes "keep") ∷ [])
    (λ slot com_id dataset low high dest etb op_trn supervision zero.
    CallIs slot (SubscribeCall (record {
      filter = record {
        com_id = com_id;
        low = low;
        high = high;
        dest = dest;
        topo = record { etb = etb; op_trn = op_trn };
      };
      dataset = dataset;
      supervision = supervision;
      behaviour = behaviour_of zero;
    })))

-- call SLOT get HANDLE
-- rule: call.get
abbrev pub get_form : LineForm
get_form = handle_form (codes "get") (λ handle. GetCall handle)

-- call SLOT unsubscribe HANDLE
-- rule: call.unsubscribe
abbrev pub unsubscribe_form : LineForm
unsubscribe_form = handle_form (codes "unsubscribe") (λ handle. UnsubscribeCall handle)

-- call SLOT openpull COMID REPLYCOMID REPLYIP ETB OPTRN TO
-- rule: call.openpull
abbrev pub open_pull_form : LineForm
open_pull_form =
    call_form (codes "openpull")
    (number_32 ∷ number_32 ∷ AddressField ∷ number_32 ∷ number_32 ∷ PlaceField ∷ [])
    (λ slot com_id reply_com_id reply_ip etb op_trn to. CallIs slot (OpenPullCall (record {
      com_id = com_id;
      reply_com_id = reply_com_id;
      reply_ip = reply_ip;
      topo = record { etb = etb; op_trn = op_trn };
      to = to;
    })))

-- call SLOT pull HANDLE
-- rule: call.pull
abbrev pub pull_form : LineForm
pull_form = handle_form (codes "pull") (λ handle. PullCall handle)

-- call SLOT closepull HANDLE
-- rule: call.closepull
abbrev pub close_pull_form : LineForm
close_pull_form = handle_form (codes "closepull") (λ handle. ClosePullCall handle)

-- call SLOT listen COMID|any LOW HIGH DEST URI ETB OPTRN
-- rule: call.listen
abbrev pub listen_form : LineForm
listen_form =
    call_form (codes "listen")
    (any_or_32 ∷ AddressField ∷ AddressField ∷ AddressField ∷ UriField ∷ number_32 ∷ number_32 ∷ [])
    (λ slot com_id low high dest uri etb op_trn. CallIs slot (ListenCall (record {
      com_id = com_id;
      low = low;
      high = high;
      dest = dest;
      uri = uri;
      topo = record { etb = etb; op_trn = op_trn };
    })))

-- call SLOT unlisten HANDLE
-- rule: call.unlisten
abbrev pub unlisten_form : LineForm
unlisten_form = handle_form (codes "unlisten") (λ handle. UnlistenCall handle)

-- call SLOT notify COMID SOURCEURI DESTURI ETB OPTRN TO HEX
-- rule: call.notify
abbrev pub notify_form : LineForm
notify_form =
    call_form (codes "notify")
    (number_32 ∷ UriField ∷ UriField ∷ number_32 ∷ number_32 ∷ PlaceField ∷ BytesField ∷ [])
    (λ slot com_id source_uri dest_uri etb op_trn to payload. let terms : NotifyTerms = record {
      com_id = com_id;
      topo = record { etb = etb; op_trn = op_trn };
      to = to;
      source_uri = source_uri;
      dest_uri = dest_uri;
    } in CallIs slot (NotifyCall terms payload))

-- call SLOT request COMID SESSION EXPECTED TIME SOURCEURI DESTURI ETB OPTRN TO HEX [RETRIES]
-- rule: call.request
abbrev pub request_form : LineForm
request_form =
    call_form (codes "request")
    (number_32 ∷ SessionField ∷ number_8 ∷ number_32 ∷ UriField ∷ UriField ∷ number_32 ∷ number_32
    ∷ PlaceField ∷ BytesField ∷ LastNumberField (2 ^ 8 - 1) ∷ [])
    (λ slot com_id session expected timeout source_uri dest_uri etb op_trn to payload retries.
    let terms : CallerTerms = record {
      com_id = com_id;
      session = session;
      expected = expected;
      timeout = timeout;
      retries = retries;
      topo = record { etb = etb; op_trn = op_trn };
      to = to;
      source_uri = source_uri;
      dest_uri = dest_uri;
    } in CallIs slot (RequestCall terms payload))

-- call SLOT reply HANDLE COMID STATUS HEX
-- rule: call.reply
abbrev pub reply_form : LineForm
reply_form =
    call_form (codes "reply") (number_32 ∷ number_32 ∷ StatusField ∷ BytesField ∷ [])
    (λ slot handle com_id status payload. CallIs slot (ReplyCall handle com_id status payload))

-- call SLOT query HANDLE COMID STATUS TIME HEX
-- rule: call.query
abbrev pub query_form : LineForm
query_form =
    call_form (codes "query") (number_32 ∷ number_32 ∷ StatusField ∷ number_32 ∷ BytesField ∷ [])
    (λ slot handle com_id status timeout payload.
    CallIs slot (QueryCall handle com_id status timeout payload))

-- call SLOT replyerror HANDLE COMID STATUS
-- rule: call.replyerror
abbrev pub reply_error_form : LineForm
reply_error_form =
    call_form (codes "replyerror") (number_32 ∷ number_32 ∷ StatusField ∷ [])
    (λ slot handle com_id status. CallIs slot (ReplyErrorCall handle com_id status))

-- call SLOT confirm HANDLE PLACE STATUS
-- rule: call.confirm
abbrev pub confirm_form : LineForm
confirm_form =
    call_form (codes "confirm") (number_32 ∷ PlaceField ∷ StatusField ∷ [])
    (λ slot handle place status. CallIs slot (ConfirmCall handle place status))

-- call SLOT abort HANDLE
-- rule: call.abort
abbrev pub abort_form : LineForm
abort_form = handle_form (codes "abort") (λ handle. AbortCall handle)

-- call SLOT reset
-- rule: call.reset
abbrev pub reset_form : LineForm
reset_form = call_form (codes "reset") [] (λ slot. CallIs slot ResetCall)

-- addslot PUBLISHERS SUBSCRIPTIONS REQUESTERS LISTENERS CALLERS REPLIERS
-- rule: event.addslot
abbrev pub add_slot_form : LineForm
add_slot_form = record {
  parts = Keyword (codes "addslot") ∷ quota ∷ quota ∷ quota ∷ quota ∷ quota ∷ quota ∷ [];
  event = λ publishers subscriptions requesters listeners callers repliers. AddSlotIs
      (publishers ∷ subscriptions ∷ requesters ∷ listeners ∷ callers ∷ repliers ∷ []);
}

-- all forms
unfoldable pub forms : List LineForm
forms =
    moment_form ∷ topology_form ∷ role_form ∷ pd_form ∷ md_form ∷ publish_form ∷ put_form
    ∷ unpublish_form ∷ subscribe_form ∷ get_form ∷ unsubscribe_form ∷ open_pull_form ∷ pull_form
    ∷ close_pull_form ∷ listen_form ∷ unlisten_form ∷ notify_form ∷ request_form ∷ reply_form
    ∷ query_form ∷ reply_error_form ∷ confirm_form ∷ abort_form ∷ reset_form ∷ add_slot_form ∷ []

-- whether the keywords are at their places among the words
unfoldable pub has_keywords : List Part → List (List ℕ) → Bool
has_keywords [] words = true
has_keywords (Keyword word ∷ parts) words =
    bytes_eq (first_word words) word && has_keywords parts (other_words words)
has_keywords (_ ∷ parts) words = has_keywords parts (other_words words)

-- the event, where each field's word is the written form of a value in its range
unfoldable pub event_of_words : (parts : List Part) → EventFrom parts → List (List ℕ)
    → Option EventModel
event_of_words [] event words = Some event
event_of_words (Keyword word ∷ parts) event words =
    event_of_words parts event (other_words words)
event_of_words (NumberField max ∷ parts) event words =
    option_and_then (λ number. event_of_words parts (event number) (other_words words))
    (number_of_word max (first_word words))
event_of_words (LastNumberField max ∷ parts) event words =
    option_and_then (λ number. event_of_words parts (event number) (other_words words))
    (last_number max words)
event_of_words (AnyOrNumberField max ∷ parts) event words =
    option_and_then (λ number. event_of_words parts (event number) (other_words words))
    (any_or_number max (first_word words))
event_of_words (AddressField ∷ parts) event words =
    option_and_then (λ ip. event_of_words parts (event ip) (other_words words))
    (ip_of_word (first_word words))
event_of_words (PlaceField ∷ parts) event words =
    option_and_then (λ place. event_of_words parts (event place) (other_words words))
    (place_of_word (first_word words))
event_of_words (BytesField ∷ parts) event words =
    option_and_then (λ bytes. event_of_words parts (event bytes) (other_words words))
    (bytes_of_word (first_word words))
event_of_words (UriField ∷ parts) event words =
    option_and_then (λ uri. event_of_words parts (event uri) (other_words words))
    (uri_of_word (first_word words))
event_of_words (StatusField ∷ parts) event words =
    option_and_then (λ status. event_of_words parts (event status) (other_words words))
    (status_of_word (first_word words))
event_of_words (SessionField ∷ parts) event words =
    option_and_then (λ session. event_of_words parts (event session) (other_words words))
    (session_of_word (first_word words))
event_of_words (ChoiceField first second ∷ parts) event words =
    option_and_then (λ choice. event_of_words parts (event choice) (other_words words))
    (choice_of_word first second (first_word words))

-- the event that words say by a form; none where one of them is bad
abbrev pub event_in : LineForm → List (List ℕ) → Option EventModel
event_in form words = event_of_words form.parts form.event words
