-- The lines that are handed in over a run of steps.
-- For `each_line_is_handed_in`.
-- By: induction on the steps; a line that is there stays the first one when more bytes come.
use Rattle.std.proofs.Common.{◌≡◌, ℕ, ◌==◌, ◌||◌, List, [], ◌∷◌, ◌++◌, Bool, true, false}
use Rattle.std.proofs.Common.{if◌then◌else◌, refl, ap, sym, ◌∙◌, append_assoc}
use Rattle.std.proofs.lemmas.Bool.{false≢true}
use Rattle.std.proofs.lemmas.List.{append-nil}
use Rattle.trdp_lines.specs.Lines.{line_end, has_line, first_line, behind_line}
use Rattle.trdp_lines.specs.Lines.{longer_first, lines_in}
use Rattle.trdp_lines.specs.IntakeRuns.{IntakeStep, Filled, Asked, left_after, left_at_end}
use Rattle.trdp_lines.specs.IntakeRuns.{lines_handed_in, all_bytes}

first_step : (ends : Bool) (byte : ℕ) (bytes more : List ℕ)
    → (has_line bytes ≡ true
    → lines_in (bytes ++ more) ≡ first_line bytes ∷ lines_in (behind_line bytes ++ more))
    → (ends || has_line bytes) ≡ true
    → (if ends then [] ∷ lines_in (bytes ++ more)
    else longer_first byte (lines_in (bytes ++ more)))
    ≡ (if ends then [] else byte ∷ first_line bytes)
    ∷ lines_in ((if ends then bytes else behind_line bytes) ++ more)
first_step true byte bytes more later has = refl
first_step false byte bytes more later has = ap (longer_first byte) (later has)

first_stays : (bytes more : List ℕ) → has_line bytes ≡ true
    → lines_in (bytes ++ more) ≡ first_line bytes ∷ lines_in (behind_line bytes ++ more)
first_stays [] more has = absurd (false≢true has)
first_stays (byte ∷ bytes) more has =
    first_step (byte == line_end) byte bytes more (first_stays bytes more) has

asked_step : (has : Bool) (bytes : List ℕ) (steps : List IntakeStep) → has_line bytes ≡ has
    → lines_in (left_after bytes Asked ++ all_bytes steps)
    ≡ lines_handed_in (left_after bytes Asked) steps
    ++ lines_in (left_at_end (left_after bytes Asked) steps)
    → lines_in (bytes ++ all_bytes steps)
    ≡ lines_handed_in bytes (Asked ∷ steps) ++ lines_in (left_at_end bytes (Asked ∷ steps))
asked_step true bytes steps is later =
    let next = rw is at later in
    rw is (first_stays bytes (all_bytes steps) is
    ∙ ap (λ (lines : List (List ℕ)). first_line bytes ∷ lines) next)
asked_step false bytes steps is later =
    let next = rw is at later in
    rw is next

pub each_comes : (steps : List IntakeStep) (bytes : List ℕ)
    → lines_in (bytes ++ all_bytes steps)
    ≡ lines_handed_in bytes steps ++ lines_in (left_at_end bytes steps)
each_comes [] bytes = ap lines_in (append-nil bytes)
each_comes (Filled more ∷ steps) bytes =
    ap lines_in (sym (append_assoc bytes more (all_bytes steps)))
    ∙ each_comes steps (bytes ++ more)
each_comes (Asked ∷ steps) bytes =
    asked_step (has_line bytes) bytes steps refl (each_comes steps (left_after bytes Asked))
