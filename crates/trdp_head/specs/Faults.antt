-- What keeps bytes from being a telegram of process data or message data.
use Rattle.std.specs.Prelude.{ℕ, ◌-◌, ◌==◌, nat_lt, if◌then◌else◌, Bool, List}
use Rattle.std.specs.Prelude.{length, slice_index, Option, Some, None, not}
use Rattle.std.specs.Option.{option_or}
use Rattle.trdp_head.specs.declared.fault.HeadFault.{HeadFault}
use Rattle.trdp_head.specs.declared.fault.HeadFault.TheVariants.{Short, TooLong, Fcs}
use Rattle.trdp_head.specs.declared.fault.HeadFault.TheVariants.{Version, Kind, Length}
use Rattle.trdp_head.specs.Fields.{field}
use Rattle.trdp_head.specs.Checks.{is_checked}

-- the first fault before the type is looked at, for a header of as many bytes as the first number
-- says and telegrams of at most as many as the second
-- rule: telegram.version
unfoldable pub prefix_fault_of : ℕ → ℕ → List ℕ → Option HeadFault
prefix_fault_of size longest bytes =
    if nat_lt (length bytes) size then Some Short else
    if nat_lt longest (length bytes) then Some TooLong else
    if not (is_checked (size - 4) bytes) then Some Fcs else
    if not (slice_index bytes 4 == 1) then Some Version else None

-- the fault of the payload after a header of that many bytes
-- rule: telegram.length
unfoldable pub payload_fault_of : ℕ → List ℕ → Option HeadFault
payload_fault_of size bytes =
    if nat_lt (length bytes - size) (field 20 4 bytes) then Some Length else None

-- the first fault, where the telegram's type is known or not
-- rule: telegram.fault
unfoldable pub fault_of : ℕ → ℕ → Bool → List ℕ → Option HeadFault
fault_of size longest known bytes =
    option_or (prefix_fault_of size longest bytes)
    (option_or (if known then None else Some Kind) (payload_fault_of size bytes))
