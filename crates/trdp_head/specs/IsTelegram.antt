-- What the telegrams of process data and message data have in common.
use Rattle.std.specs.Prelude.{◌≡◌, ℕ, ◌≤◌, ◌+◌, ◌-◌, List, length, take, drop, slice_index, true}
use Rattle.trdp_head.specs.declared.prefix.Prefix.{Prefix}
use Rattle.trdp_head.specs.Fields.{field}
use Rattle.trdp_head.specs.Checks.{is_checked}

-- the bytes are a telegram of at most `longest` bytes, with a header of `size` bytes that begins
-- with these fields and with this payload; what follows the payload is not looked at
-- rule: telegram.tail
pub record IsTelegram (size longest : ℕ) (bytes : List ℕ) (prefix : Prefix) (payload : List ℕ)
    : Type 0 where
  pub long_enough : size ≤ length bytes
  pub short_enough : length bytes ≤ longest
  pub checked : is_checked (size - 4) bytes ≡ true
  pub version : slice_index bytes 4 ≡ 1
  pub code : field 6 2 bytes ≡ prefix.code
  pub counter : field 0 4 bytes ≡ prefix.counter
  pub com_id : field 8 4 bytes ≡ prefix.com_id
  pub etb : field 12 4 bytes ≡ prefix.topo.etb
  pub op_trn : field 16 4 bytes ≡ prefix.topo.op_trn
  pub fits : size + field 20 4 bytes ≤ length bytes
  pub content : payload ≡ take (field 20 4 bytes) (drop size bytes)
