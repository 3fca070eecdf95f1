-- What a connection is known to have said, where one of its lines is handed in.
-- For `Path`.
-- By: whole lines come first, and a line with its end is one of them.
use Rattle.std.proofs.Common.{◌≡◌, ℕ, ◌==◌, ◌++◌, List, [], ◌∷◌, true, false, refl, ap, sym}
use Rattle.std.proofs.Common.{subst, ◌∙◌, append_assoc}
use Rattle.std.proofs.lemmas.Bool.{or_parts, or_right}
use Rattle.std.proofs.lemmas.List.{append_cancel_right, map-append}
use Rattle.trdp_lines.specs.Connections.{ConnectionCall}
use Rattle.trdp_lines.specs.Conversations.{ConversationState}
use Rattle.trdp_lines.specs.Lines.{line_end, has_line, first_line, behind_line, rest_of}
use Rattle.trdp_lines.specs.Lines.{longer_first, lines_in}
use Rattle.trdp_lines.specs.Paths.{IsWhatWasRead}
use Rattle.trdp_lines.specs.Said.{Said, lines_of, said_by}
use Rattle.trdp_lines.specs.Turns.{StaysHeard}
use Rattle.trdp_lines.proofs.ConversationLemmas.{line_in_parts, line_in_whole, rest_behind}
use Rattle.trdp_lines.proofs.ConversationLemmas.{whole_line, whole_rest, whole_split}
use Rattle.trdp_lines.proofs.LineLemmas.{first_unended, lines_stay}

-- bytes without the end of a line are one line with it
one_line : (bytes : List ℕ) → has_line bytes ≡ false
    → lines_in (whole_line bytes) ≡ bytes ∷ []
one_line [] none = refl
one_line (byte ∷ bytes) none =
    let both = or_parts (byte == line_end) (has_line bytes) none in
    rw both.0 (ap (longer_first byte) (one_line bytes both.1))

-- whole lines come first
whole_first : (before bytes : List ℕ) → rest_of before ≡ []
    → lines_in (before ++ bytes) ≡ lines_in before ++ lines_in bytes
whole_first before bytes whole =
    subst (λ (rest : List ℕ). lines_in (before ++ bytes)
    ≡ lines_in before ++ lines_in (rest ++ bytes)) whole (lines_stay before bytes)

-- what a connection says is what was handed in of it, and what is left
lines_heard : (calls : List ConnectionCall) (n : ℕ) (c : ConversationState)
    (was : IsWhatWasRead calls n c)
    → lines_of calls n ≡ said_by n (lines_in was.before) ++ said_by n (lines_in c.bytes)
lines_heard calls n c was =
    ap (λ (bytes : List ℕ). said_by n (lines_in bytes)) was.bytes
    ∙ ap (said_by n) (whole_first was.before c.bytes was.whole)
    ∙ map-append (λ (line : List ℕ). (n, line)) (lines_in was.before) (lines_in c.bytes)

-- the lines of a turn come next
pub heard_next : (calls calls_then : List ConnectionCall) (n : ℕ) (c c_then : ConversationState)
    (lines : List (List ℕ)) (was : IsWhatWasRead calls n c)
    → StaysHeard n calls calls_then c c_then lines was → (before : List Said)
    → lines_of calls n ≡ before ++ said_by n (lines_in c.bytes)
    → lines_of calls_then n ≡ before ++ said_by n lines ++ said_by n (lines_in c_then.bytes)
heard_next calls calls_then n c c_then lines was stays before is =
    let handed : before ≡ said_by n (lines_in was.before) =
    append_cancel_right before (said_by n (lines_in was.before)) (said_by n (lines_in c.bytes))
    (sym is ∙ lines_heard calls n c was) in
    lines_heard calls_then n c_then stays.heard
    ∙ ap (λ (front : List Said). front ++ said_by n (lines_in c_then.bytes))
    (ap (said_by n) stays.more
    ∙ map-append (λ (line : List ℕ). (n, line)) (lines_in was.before) lines
    ∙ ap (λ (front : List Said). front ++ said_by n lines) (sym handed))

-- the first line of a connection is handed in
pub line_handed : (n : ℕ) (calls : List ConnectionCall) (c : ConversationState)
    → has_line c.bytes ≡ true → (was : IsWhatWasRead calls n c)
    → StaysHeard n calls calls c
    (record c { bytes = behind_line c.bytes; spoke = true }) (first_line c.bytes ∷ []) was
line_handed n calls c has was =
    let line = first_line c.bytes in
    let rest = behind_line c.bytes in
    let split : was.before ++ c.bytes ≡ (was.before ++ whole_line line) ++ rest =
    ap (λ (bytes : List ℕ). was.before ++ bytes) (whole_split c.bytes has)
    ∙ sym (append_assoc was.before (whole_line line) rest) in
    record {
      heard = record {
        before = was.before ++ whole_line line;
        bytes = was.bytes ∙ split;
        whole = rest_behind was.before (whole_line line) was.whole ∙ whole_rest line;
        spoke = line_in_parts was.before (whole_line line)
            ∙ or_right (has_line was.before) (has_line (whole_line line)) (line_in_whole line);
        ended = was.ended;
      };
      more = whole_first was.before (whole_line line) was.whole
          ∙ ap (λ (lines : List (List ℕ)). lines_in was.before ++ lines)
          (one_line line (first_unended c.bytes));
    }
