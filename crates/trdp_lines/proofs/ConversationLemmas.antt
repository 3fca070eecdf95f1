-- What a connection says after whole lines, and what is written to it.
-- For `Conversation` and `ControlPath`.
-- By: whole lines stay when more bytes come, and have no rest.
use Rattle.std.proofs.Common.{not, ◌&&◌, ◌≡◌, ◌==◌, ◌||◌, ◌++◌, ℕ, List, [], ◌∷◌, length, nat_le}
use Rattle.std.proofs.Common.{Bool, true, false, Option, Some}
use Rattle.std.proofs.Common.{refl, ap, sym, subst, ◌∙◌, append_assoc}
use Rattle.std.proofs.lemmas.Bool.{and_left, and_right, or_right, or_from, lt-leb}
use Rattle.std.proofs.lemmas.List.{append-nil, map-append}
use Rattle.trdp_lines.specs.Connections.{ConnectionCall}
use Rattle.trdp_lines.specs.Conversations.{ConversationState, HasWritten, is_done, left_by}
use Rattle.trdp_lines.specs.Intakes.{intake_room}
use Rattle.trdp_base.specs.Limits.{line_limit}
use Rattle.trdp_lines.specs.Lines.{line_end, has_line, lines_in, rest_of, first_line}
use Rattle.trdp_lines.specs.Lines.{behind_line}
use Rattle.trdp_lines.specs.Outgoings.{OutgoingState}
use Rattle.trdp_lines.specs.OutgoingRuns.{OutgoingStep, after_step, all_taken, taken_in_step}
use Rattle.trdp_lines.specs.OutgoingRuns.{texts_in}
use Rattle.trdp_lines.specs.Paths.{IsReady, IsWhatWasRead}
use Rattle.trdp_lines.specs.Said.{lives, connection_ended, Said, end_if, is_too_long, said_by}
use Rattle.trdp_lines.proofs.CallLemmas.{says_of, lives_by, or_false}
use Rattle.trdp_lines.proofs.LineLemmas.{rest_unended, none_comes, lines_stay, first_split}

-- of three tests it is all one which are joined first
or_assoc : (x y z : Bool) → (x || (y || z)) ≡ ((x || y) || z)
or_assoc true y z = refl
or_assoc false y z = refl

-- the end of a line is there if it is in one of two parts
pub line_in_parts : (front bytes : List ℕ)
    → has_line (front ++ bytes) ≡ (has_line front || has_line bytes)
line_in_parts [] bytes = refl
line_in_parts (byte ∷ front) bytes =
    ap (λ (b : Bool). byte == line_end || b) (line_in_parts front bytes)
    ∙ or_assoc (byte == line_end) (has_line front) (has_line bytes)

-- one byte more before whole lines
rest_step : (has : Bool) (byte : ℕ) (front bytes : List ℕ) → has_line (byte ∷ front) ≡ has
    → (rest_of front ≡ [] → rest_of (front ++ bytes) ≡ rest_of bytes)
    → rest_of (byte ∷ front) ≡ []
    → rest_of (byte ∷ (front ++ bytes)) ≡ rest_of bytes
rest_step true byte front bytes is later whole =
    let there : has_line (byte ∷ (front ++ bytes)) ≡ true =
    line_in_parts (byte ∷ front) bytes ∙ ap (λ (b : Bool). b || has_line bytes) is in
    rw there (later (rw is at whole))
rest_step false byte front bytes is later whole = let none = rw is at whole in cc

-- the rest of bytes after whole lines is the rest of those bytes
pub rest_behind : (front bytes : List ℕ) → rest_of front ≡ []
    → rest_of (front ++ bytes) ≡ rest_of bytes
rest_behind [] bytes whole = refl
rest_behind (byte ∷ front) bytes whole =
    rest_step (has_line (byte ∷ front)) byte front bytes refl (rest_behind front bytes) whole

-- a line with its end
abbrev pub whole_line : List ℕ → List ℕ
whole_line line = line ++ line_end ∷ []

-- it has a line
pub line_in_whole : (line : List ℕ) → has_line (whole_line line) ≡ true
line_in_whole line = line_in_parts line (line_end ∷ []) ∙ or_right (has_line line) true refl

-- and no rest
pub whole_rest : (line : List ℕ) → rest_of (whole_line line) ≡ []
whole_rest [] = refl
whole_rest (byte ∷ line) =
    let there : has_line (byte ∷ whole_line line) ≡ true = line_in_whole (byte ∷ line) in
    rw there (whole_rest line)

-- bytes are their first line with its end, and those after it
pub whole_split : (bytes : List ℕ) → has_line bytes ≡ true
    → bytes ≡ whole_line (first_line bytes) ++ behind_line bytes
whole_split bytes has = first_split bytes has
    ∙ sym (append_assoc (first_line bytes) (line_end ∷ []) (behind_line bytes))

-- one line of a connection
abbrev saying : ℕ → List ℕ → Said
saying n line = (n, line)

-- what a connection says are its whole lines, and what it says in the bytes after them
pub says_split : (n : ℕ) (front bytes : List ℕ) (ended : Bool) → rest_of front ≡ []
    → says_of n (front ++ bytes) ended ≡ said_by n (lines_in front)
    ++ (said_by n (lines_in bytes)
    ++ end_if n (ended || is_too_long bytes) (has_line front || has_line bytes))
says_split n front bytes ended whole =
    let lines : said_by n (lines_in (front ++ bytes))
    ≡ said_by n (lines_in front) ++ said_by n (lines_in bytes) =
    ap (said_by n) (lines_stay front bytes
    ∙ ap (λ (l : List ℕ). lines_in front ++ lines_in (l ++ bytes)) whole)
    ∙ map-append (saying n) (lines_in front) (lines_in bytes) in
    let both = said_by n (lines_in front) ++ said_by n (lines_in bytes) in
    ap (λ (l : List Said). l ++ end_if n (ended || is_too_long (front ++ bytes))
    (has_line (front ++ bytes))) lines
    ∙ ap (λ (r : List ℕ). both ++ end_if n (ended || nat_le line_limit (length r))
    (has_line (front ++ bytes))) (rest_behind front bytes whole)
    ∙ ap (λ (b : Bool). both ++ end_if n (ended || is_too_long bytes) b)
    (line_in_parts front bytes)
    ∙ append_assoc (said_by n (lines_in front)) (said_by n (lines_in bytes))
    (end_if n (ended || is_too_long bytes) (has_line front || has_line bytes))

-- a connection that goes on is over where there is no room for more of its line
pub done_if_full : (c : ConversationState) (full : Bool) → c.ended ≡ false
    → has_line c.bytes ≡ false → full ≡ nat_le intake_room (length c.bytes) → full ≡ is_done c
done_if_full c full going none is =
    is ∙ ap (λ (r : List ℕ). nat_le line_limit (length r)) (sym (rest_unended c.bytes none))
    ∙ ap (λ (b : Bool). b || is_too_long c.bytes) (sym going)

-- a connection that can be read from goes on
pub ready_goes_on : (c : ConversationState) → IsReady c → is_done c ≡ false
ready_goes_on c ready =
    or_from c.ended (is_too_long c.bytes) ready.going
    (ap (λ (r : List ℕ). nat_le line_limit (length r)) (rest_unended c.bytes ready.unended)
    ∙ lt-leb line_limit (length c.bytes) ready.spare)

-- no line is left, and the connection is not over: nothing is left
pub nothing_left : (n : ℕ) (c : ConversationState) → has_line c.bytes ≡ false
    → is_done c ≡ false → left_by (Some n) c ≡ []
nothing_left n c none going =
    ap (λ (l : List (List ℕ)). said_by n l ++ end_if n (is_done c) (c.spoke || has_line c.bytes))
    (none_comes c.bytes none)
    ∙ ap (λ (b : Bool). end_if n b (c.spoke || has_line c.bytes)) going

-- no line is left: its end is left if it is over and has spoken
pub ended_left : (n : ℕ) (c : ConversationState) → has_line c.bytes ≡ false
    → left_by (Some n) c ≡ end_if n (is_done c) c.spoke
ended_left n c none =
    ap (λ (l : List (List ℕ)). said_by n l ++ end_if n (is_done c) (c.spoke || has_line c.bytes))
    (none_comes c.bytes none)
    ∙ ap (λ (b : Bool). end_if n (is_done c) (c.spoke || b)) none
    ∙ ap (λ (b : Bool). end_if n (is_done c) b) (or_false c.spoke)

-- whether a connection lives is known from what is left of it
pub lives_heard : (calls : List ConnectionCall) (n : ℕ) (c : ConversationState)
    → IsWhatWasRead calls n c
    → lives calls n ≡ ((c.spoke || has_line c.bytes) && not (is_done c))
lives_heard calls n c heard =
    ap (λ (b : List ℕ). lives_by b (connection_ended n calls)) heard.bytes
    ∙ ap (λ (e : Bool). lives_by (heard.before ++ c.bytes) e) heard.ended
    ∙ ap (λ (b : Bool). b && not (c.ended || is_too_long (heard.before ++ c.bytes)))
    (line_in_parts heard.before c.bytes)
    ∙ ap (λ (r : List ℕ). (has_line heard.before || has_line c.bytes)
    && not (c.ended || nat_le line_limit (length r)))
    (rest_behind heard.before c.bytes heard.whole)
    ∙ ap (λ (b : Bool). (b || has_line c.bytes) && not (is_done c)) heard.spoke

-- a connection that is over doesn't live
pub over_past : (c : ConversationState) → is_done c ≡ true
    → ((c.spoke || has_line c.bytes) && not (is_done c)) ≡ false
over_past c done = and_right (c.spoke || has_line c.bytes) (not (is_done c)) (ap not done)

-- nor does one that has said nothing
pub silent_past : (c : ConversationState) → c.spoke ≡ false → has_line c.bytes ≡ false
    → ((c.spoke || has_line c.bytes) && not (is_done c)) ≡ false
silent_past c silent none = and_left (c.spoke || has_line c.bytes) (not (is_done c))
    (or_from c.spoke (has_line c.bytes) silent none)

-- a step by which the other side takes nothing comes before what is written
pub more_written : (n : ℕ) (step : OutgoingStep) (old : ConversationState) (out : OutgoingState)
    (new : ConversationState) (calls calls_then : Option (List ConnectionCall))
    → out ≡ after_step old.outgoing step → taken_in_step old.outgoing step ≡ []
    → ((after_step old.outgoing step).waiting ≡ [] → old.outgoing.waiting ≡ [])
    → HasWritten n [] (record old { outgoing = out }) new calls calls_then
    → HasWritten n (texts_in step) old new calls calls_then
more_written n step old out new calls calls_then is none grows written =
    let later = subst (λ (o : OutgoingState).
    HasWritten n [] (record old { outgoing = o }) new calls calls_then) is written in
    record {
      steps = step ∷ later.steps;
      writings = later.writings;
      texts_are = ap (λ (l : List (List ℕ)). texts_in step ++ l) later.texts_are
          ∙ append-nil (texts_in step);
      told = later.told;
      took = later.took
          ∙ ap (λ (l : List ℕ). l ++ all_taken (after_step old.outgoing step) later.steps)
          (sym none);
      written = later.written;
      tried = λ unwritten. (grows (later.tried unwritten).0, (later.tried unwritten).1);
    }
