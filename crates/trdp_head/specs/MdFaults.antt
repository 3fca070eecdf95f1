-- What keeps bytes from being a message data telegram.
use Rattle.std.specs.Prelude.{ℕ, List, Option, is_some}
use Rattle.trdp_head.specs.declared.fault.HeadFault.{HeadFault}
use Rattle.trdp_head.specs.Fields.{field}
use Rattle.trdp_head.specs.Faults.{fault_of}
use Rattle.trdp_head.specs.MdKinds.{md_kind_of}
use Rattle.trdp_head.specs.Limits.{md_telegram_limit}

-- the first fault, in the order of fault_of
unfoldable pub md_fault_of : List ℕ → Option HeadFault
md_fault_of bytes = fault_of 116 md_telegram_limit (is_some (md_kind_of (field 6 2 bytes))) bytes
