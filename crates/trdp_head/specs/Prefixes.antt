-- What the headers of all telegrams begin with.
use Rattle.std.specs.Prelude.{ℕ, ◌++◌, ◌<◌, ◌^◌, List}
use Rattle.trdp_head.specs.declared.prefix.Prefix.{Prefix}
use Rattle.trdp_head.specs.Fields.{field, be_bytes}

-- the fields in a header
abbrev pub prefix_in : List ℕ → Prefix
prefix_in bytes = record {
  counter = field 0 4 bytes;
  code = field 6 2 bytes;
  com_id = field 8 4 bytes;
  topo = record { etb = field 12 4 bytes; op_trn = field 16 4 bytes };
}

-- the written fields, with n bytes of payload and the version 1.0: 24 bytes
abbrev pub prefix_bytes : Prefix → ℕ → List ℕ
prefix_bytes prefix n =
    be_bytes 4 prefix.counter ++ be_bytes 2 0x0100 ++ be_bytes 2 prefix.code
    ++ be_bytes 4 prefix.com_id ++ be_bytes 4 prefix.topo.etb ++ be_bytes 4 prefix.topo.op_trn
    ++ be_bytes 4 n

-- each field is a number of its bytes
pub record IsPrefix (prefix : Prefix) : Type 0 where
  pub counter : prefix.counter < 2 ^ 32
  pub code : prefix.code < 2 ^ 16
  pub com_id : prefix.com_id < 2 ^ 32
  pub etb : prefix.topo.etb < 2 ^ 32
  pub op_trn : prefix.topo.op_trn < 2 ^ 32
