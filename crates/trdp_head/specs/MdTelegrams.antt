-- A message data telegram as a value.
use Rattle.std.specs.Prelude.{ℕ, List, take, drop, Option, Some, None}
use Rattle.trdp_head.specs.declared.md.MdKind.{MdKind}
use Rattle.trdp_head.specs.declared.md.MdHead.{MdHead}
use Rattle.trdp_head.specs.declared.fault.HeadFault.{HeadFault}
use Rattle.trdp_head.specs.Fields.{field}
use Rattle.trdp_head.specs.MdKinds.{md_kind_of}
use Rattle.trdp_head.specs.MdHeads.{md_head_in}
use Rattle.trdp_head.specs.MdFaults.{md_fault_of}

-- a header with its payload
pub record MdTelegram : Type 0 where
  pub head : MdHead
  pub payload : List ℕ

-- the telegram in the bytes, where they have no fault and their type is known
abbrev pub md_telegram_where : Option HeadFault → Option MdKind → List ℕ → Option MdTelegram
md_telegram_where None (Some kind) bytes = Some (record {
  head = md_head_in bytes kind;
  payload = take (field 20 4 bytes) (drop 116 bytes);
})
md_telegram_where _ _ bytes = None

-- the telegram in the bytes, if they are one
unfoldable pub md_telegram_of : List ℕ → Option MdTelegram
md_telegram_of bytes = md_telegram_where (md_fault_of bytes) (md_kind_of (field 6 2 bytes)) bytes
