-- Limits that several crates keep, in bytes.
use Rattle.std.specs.Prelude.{ℕ}

-- the most bytes of a line (profile): of a script's line without its end, and of a line at a
-- control connection with it
abbrev pub line_limit : ℕ
line_limit = 140000

-- the most bytes that a message carries (IEC 61375-2-3:2015, Annex A)
-- rule: message.size
abbrev pub md_payload_limit : ℕ
md_payload_limit = 65388
