-- The numbers that say a record.
use Rattle.std.specs.Prelude.{ℕ, pos, List, length, replicate, Option, Some, None}
use denote.RawPtr.{Ptr}
use Rattle.byteorder.specs.Endian.{big_bytes}
use Rattle.trdp_base.specs.Uris.{uri_field}
use Rattle.trdp_base.specs.declared.place.Place.{Place}
use Rattle.trdp_model.specs.declared.record.Protocol.{Protocol}
use Rattle.trdp_model.specs.declared.record.Protocol.TheVariants.{Pd, Md}
use Rattle.trdp_model.specs.Records.{AnswerModel, HandleIs, DoneIs, ValueIs, RefusedIs, OpenedIs}
use Rattle.trdp_model.specs.Records.{IndicationModel, SilentIs, AliveIs, NotifiedIs, AskedIs}
use Rattle.trdp_model.specs.Records.{OverrunIs, RepliedIs, ConfirmedIs, ClosedIs}
use Rattle.trdp_model.specs.Records.{MessageModel, ReplyModel}
use Rattle.trdp_model.specs.Records.{Content, Answers, Indicates, Sends, RecordModel}
use Rattle.trdp_text.specs.RecordText.{bytes_of}
use Rattle.trdp_node.specs.Codes.{refusal_code, reason_code, value_code, message_code}
use Rattle.trdp_node.specs.declared.record.RecordNumbers.{RecordNumbers}

-- no record, with that address of no bytes
abbrev pub no_numbers : Ptr → RecordNumbers
no_numbers at = record {
  bytes = at;
  len = 0;
  what = 0;
  handle = 0;
  replier = 0;
  code = 0;
  counter = 0;
  com_id = 0;
  address = 0;
  status = pos 0;
  slot = 0;
  port = 0;
  session = replicate 16 0;
  source_uri = replicate 32 0;
  destination_uri = replicate 32 0;
}

-- with an address and its port
abbrev pub with_place : Place → RecordNumbers → RecordNumbers
with_place place n = record n { address = place.ip.0; port = place.port }

-- with a message that came in
unfoldable pub with_message : MessageModel → RecordNumbers → RecordNumbers
with_message m n = record (with_place m.src n) {
  com_id = m.com_id;
  source_uri = uri_field m.source_uri;
  destination_uri = uri_field m.dest_uri;
}

-- with an answer to a request that came in
unfoldable pub with_reply : ReplyModel → RecordNumbers → RecordNumbers
with_reply r n = record (with_place r.src n) {
  code = message_code r.kind;
  status = r.status;
  com_id = r.com_id;
}

-- with an answer
unfoldable pub with_answer : AnswerModel → RecordNumbers → RecordNumbers
with_answer (HandleIs handle) n = record n { what = 1; handle = handle }
with_answer DoneIs n = record n { what = 2 }
with_answer (ValueIs peek) n = record n {
  what = 3;
  code = value_code peek.state;
  counter = peek.counter;
}
with_answer (RefusedIs refusal) n = record n { what = 4; code = refusal_code refusal }
with_answer OpenedIs n = record n { what = 5 }

-- with an indication
unfoldable pub with_indication : IndicationModel → RecordNumbers → RecordNumbers
with_indication (SilentIs handle) n = record n { what = 6; handle = handle }
with_indication (AliveIs handle) n = record n { what = 7; handle = handle }
with_indication (NotifiedIs handle message) n =
    with_message message (record n { what = 8; handle = handle })
with_indication (AskedIs listener replier session message) n =
    with_message message (record n {
      what = 9;
      handle = listener;
      replier = replier;
      session = big_bytes 16 session.0;
    })
with_indication (OverrunIs listener) n = record n { what = 10; handle = listener }
with_indication (RepliedIs handle reply) n =
    with_reply reply (record n { what = 11; handle = handle })
with_indication (ConfirmedIs handle status) n =
    record n { what = 12; handle = handle; status = status }
with_indication (ClosedIs handle reason) n =
    record n { what = 13; handle = handle; code = reason_code reason }

-- the number of a telegram that is to be sent
abbrev pub sending_code : Protocol → ℕ
sending_code Pd = 14
sending_code Md = 15

-- with what a record says
unfoldable pub with_content : Content → RecordNumbers → RecordNumbers
with_content (Answers answer) n = with_answer answer n
with_content (Indicates indication) n = with_indication indication n
with_content (Sends protocol to telegram) n =
    record (with_place to n) { what = sending_code protocol }

-- the numbers of a record whose bytes are at that address, or of none
unfoldable pub record_numbers : Ptr → Option RecordModel → RecordNumbers
record_numbers at None = no_numbers at
record_numbers at (Some r) = with_content r.content
    (record (no_numbers at) { slot = r.slot; len = length (bytes_of r.content) })
