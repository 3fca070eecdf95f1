-- What all applications at a path say, and what a turn of the one that speaks adds to it.
-- For `Path`, where an application speaks.
-- By: those before it said what they say, and those after it say nothing.
use Rattle.std.proofs.Common.{◌≡◌, ◌||◌, ◌++◌, ℕ, ◌+◌, ◌<◌, ◌≤◌, List, [], ◌∷◌, Bool, true}
use Rattle.std.proofs.Common.{false, Some, if◌then◌else◌, refl, ap, sym, ◌∙◌, arith}
use Rattle.std.proofs.Common.{append_assoc}
use Rattle.std.proofs.lemmas.List.{append-nil, append_cancel_right, map-append}
use Rattle.std.proofs.lemmas.List.Elements.{All-nil, All-cons, All-weaker}
use Rattle.trdp_lines.specs.declared.connections.Accepted.TheVariants.{Came}
use Rattle.trdp_lines.specs.Connections.{ConnectionCall, Accepts}
use Rattle.trdp_lines.specs.Turns.{HasTurn}
use Rattle.trdp_lines.specs.Conversations.{ConversationState, left_by, is_done}
use Rattle.trdp_lines.specs.Lines.{has_line, lines_in}
use Rattle.trdp_lines.specs.Paths.{IsWhatWasRead, IsSpeaker, IsUnreadFrom}
use Rattle.trdp_lines.specs.Said.{Said, HandsIn, applications_say, application_says, said_by}
use Rattle.trdp_lines.specs.Said.{lives, connection_ended, end_if, said_in_turn}
use Rattle.trdp_lines.proofs.CallLemmas.{says_of, same_in_turn, nothing_in_turn, past_in_turn}
use Rattle.trdp_lines.proofs.CallLemmas.{unheard_say, accept_unheard}
use Rattle.trdp_lines.proofs.ConversationLemmas.{says_split}
use Rattle.trdp_lines.proofs.PathLemmas.{turn_speaker, with_next}

-- what a connection says is what was handed in, and what is left
says_heard : (calls : List ConnectionCall) (n : ℕ) (c : ConversationState)
    (heard : IsWhatWasRead calls n c) → application_says calls n
    ≡ said_by n (lines_in heard.before) ++ left_by (Some n) c
says_heard calls n c heard =
    ap (λ (b : List ℕ). says_of n b (connection_ended n calls)) heard.bytes
    ∙ ap (λ (e : Bool). says_of n (heard.before ++ c.bytes) e) heard.ended
    ∙ says_split n heard.before c.bytes c.ended heard.whole
    ∙ ap (λ (b : Bool). said_by n (lines_in heard.before) ++ (said_by n (lines_in c.bytes)
    ++ end_if n (is_done c) (b || has_line c.bytes))) heard.spoke

-- what those said that came before it, and what it said of which nothing is left
abbrev said_before : (calls : List ConnectionCall) (n : ℕ) (c : ConversationState) (came : ℕ)
    → IsSpeaker calls n c came → List Said
said_before calls n c came speaker = said_in_turn calls speaker.earlier
    ++ said_by n (lines_in speaker.heard.before)

-- nothing is said either way
either_none : (b : Bool) → ◌≡◌ {A = List Said} (if b then [] else []) []
either_none true = refl
either_none false = refl

-- all that applications say is what was said before, and what is left
pub says_speaker : (calls : List ConnectionCall) (n : ℕ) (c : ConversationState) (came : ℕ)
    (speaker : IsSpeaker calls n c came) → applications_say calls
    ≡ said_before calls n c came speaker ++ left_by (Some n) c
says_speaker calls n c came speaker =
    let says = application_says calls in
    let front = said_in_turn calls speaker.earlier in
    let behind : said_in_turn calls speaker.later ≡ [] = nothing_in_turn calls (n + 1)
    speaker.unread speaker.later (All-weaker (λ m. n < m) (λ m. n + 1 ≤ m)
    (λ m above. omega (arith, above)) speaker.later speaker.later_above) in
    ap (said_in_turn calls) speaker.connections
    ∙ past_in_turn calls speaker.earlier (n ∷ speaker.later) speaker.earlier_past
    ∙ ap (λ (l : List Said). front ++ (says n ++ (if lives calls n then [] else l))) behind
    ∙ ap (λ (l : List Said). front ++ (says n ++ l)) (either_none (lives calls n))
    ∙ ap (λ (l : List Said). front ++ l) (append-nil (says n))
    ∙ ap (λ (l : List Said). front ++ l) (says_heard calls n c speaker.heard)
    ∙ sym (append_assoc front (said_by n (lines_in speaker.heard.before)) (left_by (Some n) c))

-- the lines of its turn come next of all that applications say
pub turn_says : (calls calls_then : List ConnectionCall) (n : ℕ) (c c_then : ConversationState)
    (lines : List (List ℕ)) (came : ℕ) → HasTurn n calls calls_then c c_then lines
    → IsSpeaker calls n c came → HandsIn applications_say (Some calls) (Some calls_then)
    (left_by (Some n) c) (left_by (Some n) c_then) (said_by n lines)
unfolding turn_speaker
turn_says calls calls_then n c c_then lines came turn speaker = λ before is.
    let stays = turn.own speaker.heard in
    let front = said_in_turn calls speaker.earlier in
    let left = left_by (Some n) c_then in
    let was : before ≡ said_before calls n c came speaker =
    append_cancel_right before (said_before calls n c came speaker) (left_by (Some n) c)
    (sym is ∙ says_speaker calls n c came speaker) in
    says_speaker calls_then n c_then came
    (turn_speaker calls calls_then n c c_then lines came turn speaker)
    ∙ ap (λ (l : List Said). (l ++ said_by n (lines_in stays.heard.before)) ++ left)
    (same_in_turn calls calls_then (λ m. m < n) (λ m low.
    let unheard = turn.others m (λ same. omega (arith, low, same)) in
    record { bytes = unheard.bytes; ended = unheard.ended }) speaker.earlier speaker.earlier_below)
    ∙ ap (λ (l : List Said). (front ++ l) ++ left) (ap (said_by n) stays.more
    ∙ map-append (λ (line : List ℕ). (n, line)) (lines_in speaker.heard.before) lines)
    ∙ ap (λ (l : List Said). l ++ left) (sym (append_assoc front
    (said_by n (lines_in speaker.heard.before)) (said_by n lines)))
    ∙ ap (λ (l : List Said). (l ++ said_by n lines) ++ left) (sym was)

-- a connection that just came says nothing
pub accept_says : (calls : List ConnectionCall) (came bound : ℕ) → bound ≤ came + 1
    → IsUnreadFrom bound calls → applications_say (with_next calls came) ≡ applications_say calls
accept_says calls came bound above unread =
    unheard_say calls (Accepts (came + 1) Came ∷ []) (accept_unheard (came + 1) Came)
    (nothing_in_turn calls bound unread ((came + 1) ∷ []) (All-cons (λ m. bound ≤ m) (came + 1) []
    above (All-nil (λ m. bound ≤ m))))
