-- A process data telegram as a value.
use Rattle.std.specs.Prelude.{ℕ, List, take, drop, Option, Some, None}
use Rattle.trdp_head.specs.declared.pd.PdKind.{PdKind}
use Rattle.trdp_head.specs.declared.pd.PdHead.{PdHead}
use Rattle.trdp_head.specs.declared.fault.HeadFault.{HeadFault}
use Rattle.trdp_head.specs.Fields.{field}
use Rattle.trdp_head.specs.PdKinds.{pd_kind_of}
use Rattle.trdp_head.specs.PdHeads.{head_in}
use Rattle.trdp_head.specs.PdFaults.{pd_fault_of}

-- a header with its payload
pub record PdTelegram : Type 0 where
  pub head : PdHead
  pub payload : List ℕ

-- the telegram in the bytes, where they have no fault and their type is known
abbrev pub telegram_where : Option HeadFault → Option PdKind → List ℕ → Option PdTelegram
telegram_where None (Some kind) bytes = Some (record {
  head = head_in bytes kind;
  payload = take (field 20 4 bytes) (drop 40 bytes);
})
telegram_where _ _ bytes = None

-- the telegram in the bytes, if they are one
unfoldable pub pd_telegram_of : List ℕ → Option PdTelegram
pd_telegram_of bytes = telegram_where (pd_fault_of bytes) (pd_kind_of (field 6 2 bytes)) bytes
