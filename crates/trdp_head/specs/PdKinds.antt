-- The message types of process data (IEC 61375-2-3:2015, Annex A).
use Rattle.std.specs.Prelude.{ℕ, ◌==◌, if◌then◌else◌, Option, Some, None}
use Rattle.trdp_head.specs.declared.pd.PdKind.{PdKind}
use Rattle.trdp_head.specs.declared.pd.PdKind.TheVariants.{Data, PullReply, PullRequest, Error}

-- the code of a type: its two letters in ASCII
abbrev pub pd_code_of : PdKind → ℕ
pd_code_of Data = 0x5064
pd_code_of PullReply = 0x5070
pd_code_of PullRequest = 0x5072
pd_code_of Error = 0x5065

-- the type of a code, if it is one of process data
abbrev pub pd_kind_of : ℕ → Option PdKind
pd_kind_of code =
    if code == 0x5064 then Some Data else
    if code == 0x5070 then Some PullReply else
    if code == 0x5072 then Some PullRequest else
    if code == 0x5065 then Some Error else None
