-- Bytes between newlines.
use Rattle.std.specs.Prelude.{ℕ, List, ◌==◌, count_by}
use Rattle.trdp_text.specs.Splits.{Lacks}

-- no newline is among the bytes
abbrev pub IsBare : List ℕ → Type 0
IsBare bytes = Lacks 10 bytes

-- how many lines have their end among the bytes
abbrev pub ended_lines : List ℕ → ℕ
ended_lines bytes = count_by (λ byte. byte == 10) bytes
