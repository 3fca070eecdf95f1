-- The fields of a message data header.
use Rattle.std.specs.Prelude.{ℕ, ◌^◌, ◌<◌, List, take, drop, FitsSigned}
use Rattle.std.specs.Int.{w32, cast_signed}
use Rattle.trdp_base.specs.Uris.{IsUri, before_zero}
use Rattle.trdp_head.specs.declared.prefix.Prefix.{Prefix}
use Rattle.trdp_head.specs.declared.md.MdKind.{MdKind}
use Rattle.trdp_head.specs.declared.md.MdHead.{MdHead}
use Rattle.trdp_head.specs.Fields.{field}
use Rattle.trdp_head.specs.Prefixes.{prefix_in, IsPrefix}
use Rattle.trdp_head.specs.MdKinds.{md_code_of}

-- the fields that every header begins with
abbrev pub md_prefix : MdHead → Prefix
md_prefix head = record {
  counter = head.counter;
  code = md_code_of head.kind;
  com_id = head.com_id;
  topo = head.topo;
}

-- the URI in the 32 bytes at an offset: what comes before the first zero byte
-- rule: telegram.uri
abbrev pub uri_in : ℕ → List ℕ → List ℕ
uri_in offset bytes = before_zero (take 32 (drop offset bytes))

-- the fields in a header, with this type; the status is in two's complement
abbrev pub md_head_in : List ℕ → MdKind → MdHead
md_head_in bytes kind = record {
  counter = (prefix_in bytes).counter;
  kind = kind;
  com_id = (prefix_in bytes).com_id;
  topo = (prefix_in bytes).topo;
  status = cast_signed w32 (field 24 4 bytes);
  session = record { 0 = field 28 16 bytes };
  timeout = field 44 4 bytes;
  source_uri = uri_in 48 bytes;
  dest_uri = uri_in 80 bytes;
}

-- each field is a number of its bytes, or a text that its field holds
pub record IsMdHead (head : MdHead) : Type 0 where
  pub prefix : IsPrefix (md_prefix head)
  pub status : FitsSigned w32 head.status
  pub session : head.session.0 < 2 ^ 128
  pub timeout : head.timeout < 2 ^ 32
  pub source_uri : IsUri head.source_uri
  pub dest_uri : IsUri head.dest_uri
