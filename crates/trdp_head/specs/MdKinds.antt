-- The message types of message data (IEC 61375-2-3:2015, Annex A).
use Rattle.std.specs.Prelude.{ℕ, ◌==◌, if◌then◌else◌, Option, Some, None}
use Rattle.trdp_head.specs.declared.md.MdKind.{MdKind}
use Rattle.trdp_head.specs.declared.md.MdKind.TheVariants.{Notify, Request, Reply}
use Rattle.trdp_head.specs.declared.md.MdKind.TheVariants.{Query, Confirm, Error}

-- the code of a type: its two letters in ASCII
abbrev pub md_code_of : MdKind → ℕ
md_code_of Notify = 0x4d6e
md_code_of Request = 0x4d72
md_code_of Reply = 0x4d70
md_code_of Query = 0x4d71
md_code_of Confirm = 0x4d63
md_code_of Error = 0x4d65

-- the type of a code, if it is one of message data
abbrev pub md_kind_of : ℕ → Option MdKind
md_kind_of code =
    if code == 0x4d6e then Some Notify else
    if code == 0x4d72 then Some Request else
    if code == 0x4d70 then Some Reply else
    if code == 0x4d71 then Some Query else
    if code == 0x4d63 then Some Confirm else
    if code == 0x4d65 then Some Error else None
