-- The fields of a process data header.
use Rattle.std.specs.Prelude.{ℕ, ◌^◌, ◌<◌, List}
use Rattle.trdp_head.specs.declared.prefix.Prefix.{Prefix}
use Rattle.trdp_head.specs.declared.pd.PdKind.{PdKind}
use Rattle.trdp_head.specs.declared.pd.PdHead.{PdHead}
use Rattle.trdp_head.specs.Fields.{field}
use Rattle.trdp_head.specs.Prefixes.{prefix_in, IsPrefix}
use Rattle.trdp_head.specs.PdKinds.{pd_code_of}

-- the fields that every header begins with
abbrev pub pd_prefix : PdHead → Prefix
pd_prefix head = record {
  counter = head.counter;
  code = pd_code_of head.kind;
  com_id = head.com_id;
  topo = head.topo;
}

-- the fields in a header, with this type
abbrev pub head_in : List ℕ → PdKind → PdHead
head_in bytes kind = record {
  counter = (prefix_in bytes).counter;
  kind = kind;
  com_id = (prefix_in bytes).com_id;
  topo = (prefix_in bytes).topo;
  reply_com_id = field 28 4 bytes;
  reply_ip = record { 0 = field 32 4 bytes };
}

-- each field is a number of its bytes
pub record IsPdHead (head : PdHead) : Type 0 where
  pub prefix : IsPrefix (pd_prefix head)
  pub reply_com_id : head.reply_com_id < 2 ^ 32
  pub reply_ip : head.reply_ip.0 < 2 ^ 32
