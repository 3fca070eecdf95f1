-- What keeps bytes from being a process data telegram.
use Rattle.std.specs.Prelude.{ℕ, List, Option, is_some}
use Rattle.trdp_head.specs.declared.fault.HeadFault.{HeadFault}
use Rattle.trdp_head.specs.Fields.{field}
use Rattle.trdp_head.specs.Faults.{fault_of}
use Rattle.trdp_head.specs.PdKinds.{pd_kind_of}
use Rattle.trdp_head.specs.Limits.{pd_telegram_limit}

-- the first fault, in the order of fault_of
unfoldable pub pd_fault_of : List ℕ → Option HeadFault
pd_fault_of bytes = fault_of 40 pd_telegram_limit (is_some (pd_kind_of (field 6 2 bytes))) bytes
