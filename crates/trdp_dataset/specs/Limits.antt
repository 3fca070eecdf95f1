-- How many bytes values of datasets may have.
use Rattle.std.specs.Prelude.{ℕ}
use Rattle.trdp_base.specs.Limits.{md_payload_limit}

-- the most bytes of a dataset's zero value, and of a value that is sent: what a message carries
-- (IEC 61375-2-3:2015, Annex A)
-- rule: dataset.size
abbrev pub value_limit : ℕ
value_limit = md_payload_limit

-- the most bytes that are counted: a zero value that has more counts as one of that many
abbrev pub size_cap : ℕ
size_cap = 18446744073709551615
