-- What the calls of the example say, and what is sent and reported at them.
use Rattle.std.specs.Prelude.{ℕ, List, [], ◌∷◌, ◌++◌, replicate, pos, None}
use Rattle.std.specs.List.{flat_map}
use Rattle.trdp_base.specs.declared.place.Place.{Place}
use Rattle.trdp_base.specs.declared.session.SessionId.{SessionId}
use Rattle.trdp_base.specs.declared.topo.Topo.{Topo}
use Rattle.trdp_dataset.specs.Configs.{ConfigModel}
use Rattle.trdp_head.specs.Fields.{be_bytes}
use Rattle.trdp_head.specs.declared.md.MdKind.TheVariants.{Query}
use Rattle.trdp_filter.specs.declared.filters.MdFilter.{MdFilter}
use Rattle.trdp_pd.specs.declared.terms.PublisherTerms.{PublisherTerms}
use Rattle.trdp_pd.specs.declared.terms.SubscriptionTerms.{SubscriptionTerms}
use Rattle.trdp_pd.specs.declared.terms.Behaviour.TheVariants.{Keep}
use Rattle.trdp_md.specs.declared.terms.NotifyTerms.{NotifyTerms}
use Rattle.trdp_md.specs.declared.terms.CallerTerms.{CallerTerms}
use Rattle.trdp_model.specs.Records.{MessageModel, ReplyModel}

-- a node of that address: the usual ports and time to live, no datasets, no groups, and one slot,
-- number 0, which may have one object of each kind
abbrev pub node_at : ℕ → ConfigModel
node_at address = record {
  registry = [];
  address = address;
  pd_port = 17224;
  md_port = 17225;
  operator_port = 0;
  spare_control_ports = [];
  control_address = address;
  groups = [];
  ttl = 64;
  slots = record { quotas = replicate 6 1; control_port = 0 } ∷ [];
}

-- node 0 is at 10.0.0.1, node 1 at 10.0.0.2
abbrev pub example_configs : List ConfigModel
example_configs = node_at 0x0a000001 ∷ node_at 0x0a000002 ∷ []

-- their places: of process data at port 17224, of message data at port 17225
abbrev pub data_0 : Place
data_0 = record { ip = record { 0 = 0x0a000001 }; port = 17224 }

abbrev pub data_1 : Place
data_1 = record { ip = record { 0 = 0x0a000002 }; port = 17224 }

abbrev pub messages_0 : Place
messages_0 = record { ip = record { 0 = 0x0a000001 }; port = 17225 }

abbrev pub messages_1 : Place
messages_1 = record { ip = record { 0 = 0x0a000002 }; port = 17225 }

-- topology counters of 0 mean any, and so do addresses of 0 below
abbrev pub any_topo : Topo
any_topo = record { etb = 0; op_trn = 0 }

-- comId 1000 goes to node 1 every millisecond
abbrev pub publisher_terms : PublisherTerms
publisher_terms = record {
  com_id = 1000;
  dataset = 0;
  cycle = 1000;
  group = 0;
  topo = any_topo;
  to = data_1;
}

-- its value
abbrev pub example_value : List ℕ
example_value = 1 ∷ 2 ∷ 3 ∷ 4 ∷ []

-- comId 1000 from any source, without supervision
abbrev pub subscription_terms : SubscriptionTerms
subscription_terms = record {
  filter = record {
    com_id = 1000;
    low = record { 0 = 0 };
    high = record { 0 = 0 };
    dest = record { 0 = 0 };
    topo = any_topo;
  };
  dataset = 0;
  supervision = 0;
  behaviour = Keep;
}

-- any message
abbrev pub any_message : MdFilter
any_message = record {
  com_id = None;
  low = record { 0 = 0 };
  high = record { 0 = 0 };
  dest = record { 0 = 0 };
  uri = [];
  topo = any_topo;
}

-- the URIs "door" and "brake"
abbrev pub door : List ℕ
door = 0x64 ∷ 0x6f ∷ 0x6f ∷ 0x72 ∷ []

abbrev pub brake : List ℕ
brake = 0x62 ∷ 0x72 ∷ 0x61 ∷ 0x6b ∷ 0x65 ∷ []

-- a notification to node 1
abbrev pub notify_terms : NotifyTerms
notify_terms = record {
  com_id = 2000;
  topo = any_topo;
  to = messages_1;
  source_uri = door;
  dest_uri = brake;
}

-- the identifier of the request
abbrev pub example_session : SessionId
example_session = record { 0 = 0x0123456789abcdef0123456789abcdef }

-- a request to node 1 that expects one answer within two seconds
abbrev pub caller_terms : CallerTerms
caller_terms = record {
  com_id = 3000;
  session = example_session;
  expected = 1;
  timeout = 2000000;
  retries = 0;
  topo = any_topo;
  to = messages_1;
  source_uri = door;
  dest_uri = brake;
}

-- what is reported of the notification, of the request, and of the query that answers it
abbrev pub notice_told : MessageModel
notice_told = record {
  src = messages_0;
  com_id = 2000;
  source_uri = door;
  dest_uri = brake;
  payload = 5 ∷ [];
}

abbrev pub request_told : MessageModel
request_told = record {
  src = messages_0;
  com_id = 3000;
  source_uri = door;
  dest_uri = brake;
  payload = 6 ∷ 7 ∷ [];
}

abbrev pub query_told : ReplyModel
query_told = record {
  src = messages_1;
  kind = Query;
  status = pos 0;
  com_id = 3001;
  payload = 8 ∷ 9 ∷ [];
}

-- bytes in big-endian words of 32 bits
abbrev pub from_words : List ℕ → List ℕ
from_words words = flat_map (λ word. be_bytes 4 word) words

-- the fields of "door", of "brake" and of the session
abbrev pub door_words : List ℕ
door_words = 0x646f6f72 ∷ replicate 7 0

abbrev pub brake_words : List ℕ
brake_words = 0x6272616b ∷ 0x65000000 ∷ replicate 6 0

abbrev pub session_words : List ℕ
session_words = 0x01234567 ∷ 0x89abcdef ∷ 0x01234567 ∷ 0x89abcdef ∷ []

-- the telegrams by the standard's layout. The last word of each header is its frame check, with the
-- least significant byte first: zlib's CRC-32 of the bytes before it
abbrev pub value_bytes : List ℕ
value_bytes = from_words
    (0 ∷ 0x01005064 ∷ 1000 ∷ 0 ∷ 0 ∷ 4 ∷ 0 ∷ 0 ∷ 0 ∷ 0x36cdb2bc ∷ 0x01020304 ∷ [])

abbrev pub notice_bytes : List ℕ
notice_bytes = from_words
    (0 ∷ 0x01004d6e ∷ 2000 ∷ 0 ∷ 0 ∷ 1 ∷ 0 ∷ replicate 4 0 ++ 0 ∷ door_words ++ brake_words
    ++ 0x891543b0 ∷ 0x05000000 ∷ [])

abbrev pub request_bytes : List ℕ
request_bytes = from_words
    (0 ∷ 0x01004d72 ∷ 3000 ∷ 0 ∷ 0 ∷ 2 ∷ 0 ∷ session_words ++ 2000000 ∷ door_words ++ brake_words
    ++ 0x7971b45c ∷ 0x06070000 ∷ [])

abbrev pub query_bytes : List ℕ
query_bytes = from_words
    (0 ∷ 0x01004d71 ∷ 3001 ∷ 0 ∷ 0 ∷ 2 ∷ 0 ∷ session_words ++ 1000000 ∷ brake_words ++ door_words
    ++ 0xa8be6c95 ∷ 0x08090000 ∷ [])

abbrev pub confirm_bytes : List ℕ
confirm_bytes = from_words
    (0 ∷ 0x01004d63 ∷ 3000 ∷ 0 ∷ 0 ∷ 0 ∷ 3 ∷ session_words ++ 0 ∷ door_words ++ brake_words
    ++ 0x48550d57 ∷ [])
