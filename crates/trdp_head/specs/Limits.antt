-- How long telegrams may be, in bytes (IEC 61375-2-3:2015, Annex A).
use Rattle.std.specs.Prelude.{ℕ}

-- the most bytes that process data carries
abbrev pub pd_payload_limit : ℕ
pd_payload_limit = 1432

-- the longest process data telegram, with its header
abbrev pub pd_telegram_limit : ℕ
pd_telegram_limit = 1472

-- the longest message, with its header
abbrev pub md_telegram_limit : ℕ
md_telegram_limit = 65504
