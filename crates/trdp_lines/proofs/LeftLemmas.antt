-- What is handed in, and left to hand in, where one of the seats of a path changes.
-- For `Path`, where operators speak.
-- By: of one connection the lines of its turn come next; of each other one all is as it was.
use Rattle.std.proofs.Common.{◌≡◌, ℕ, ◌==◌, ◌++◌, ◌≢◌, List, [], ◌∷◌, Bool, true, false}
use Rattle.std.proofs.Common.{if◌then◌else◌, Option, Some, None, refl, ap, sym, subst, ◌∙◌}
use Rattle.std.specs.List.{filter}
use Rattle.std.proofs.lemmas.Bool.{eq-eqb, eqb-true, eqb-false}
use Rattle.std.proofs.lemmas.List.{append-nil}
use Rattle.trdp_lines.specs.Connections.{ConnectionCall}
use Rattle.trdp_lines.specs.Conversations.{ConversationState, conversation_of}
use Rattle.trdp_lines.specs.Lines.{IsUnended, lines_in}
use Rattle.trdp_lines.specs.Seats.{is_of, left_at_seat, left_in}
use Rattle.trdp_lines.specs.Paths.{IsWhatWasRead, speaks}
use Rattle.trdp_lines.specs.Said.{Said, HandsIn, bytes_from, lines_of, said_by}
use Rattle.trdp_lines.specs.Seatings.{AreSeated, AreTrueOf, IsHeardIf}
use Rattle.trdp_lines.specs.Turns.{HasTurn}
use Rattle.trdp_lines.proofs.HeardLemmas.{heard_next}
use Rattle.trdp_lines.proofs.SeatedLemmas.{alone}
use Rattle.trdp_lines.proofs.LineLemmas.{none_comes}
use Rattle.trdp_lines.proofs.SeatLemmas.{Changes, heard_back, left_alone, left_same}

-- where no more is said and the same is left nothing is handed in
pub hands_in_same : (n : ℕ) (calls calls_then : List ConnectionCall) (left left_then : List Said)
    → bytes_from n calls_then ≡ bytes_from n calls → left_then ≡ left
    → HandsIn (λ told. lines_of told n) (Some calls) (Some calls_then) left left_then []
hands_in_same n calls calls_then left left_then bytes same = λ before is.
    ap (λ (all : List ℕ). said_by n (lines_in all)) bytes ∙ is
    ∙ ap (λ (rest : List Said). before ++ rest) (sym same)
    ∙ ap (λ (front : List Said). front ++ left_then) (sym (append-nil before))

-- what a seat of the connection has left
own_left : (n : ℕ) (c : ConversationState) → c.number ≡ Some n
    → left_at_seat n c ≡ said_by n (lines_in c.bytes)
own_left n c number =
    let here : is_of n c ≡ true =
    ap (λ (whose : Option ℕ). speaks whose n) number ∙ eq-eqb n n refl in
    rw here refl

-- what a seat of another connection has left
other_left : (k n : ℕ) (c : ConversationState) → c.number ≡ Some n → n == k ≡ false
    → left_at_seat k c ≡ []
other_left k n c number other =
    let here : is_of k c ≡ false = ap (λ (whose : Option ℕ). speaks whose k) number ∙ other in
    rw here refl

-- all texts of a connection are its own
own_texts : (n : ℕ) (lines : List (List ℕ))
    → filter (λ (text : Said). text.0 == n) (said_by n lines) ≡ said_by n lines
own_texts n [] = refl
own_texts n (line ∷ lines) =
    let here : n == n ≡ true = eq-eqb n n refl in
    rw here (ap (λ (texts : List Said). (n, line) ∷ texts) (own_texts n lines))

-- none of them is that of another
other_texts : (k n : ℕ) (lines : List (List ℕ)) → n == k ≡ false
    → filter (λ (text : Said). text.0 == k) (said_by n lines) ≡ []
other_texts k n [] other = refl
other_texts k n (line ∷ lines) other = rw other (other_texts k n lines other)

-- what the connection at the seat that changes is known to have said
pub heard_here : (calls : List ConnectionCall) (seats seats_then : List ConversationState)
    (c c_then : ConversationState) (n came : ℕ) → Changes seats seats_then c c_then
    → c.number ≡ Some n → AreTrueOf calls seats came → IsWhatWasRead calls n c
heard_here calls seats seats_then c c_then n came changes number known =
    let all = heard_back calls changes.front (c ∷ changes.back)
    (rw changes.was at known.heard) in
    subst (λ (whose : Option ℕ). IsHeardIf calls whose c) number all.0

-- the lines of a turn of a connection come next of it
own_turn : (calls calls_then : List ConnectionCall) (seats seats_then : List ConversationState)
    (c c_then : ConversationState) (n came : ℕ) (lines : List (List ℕ))
    → Changes seats seats_then c c_then → c.number ≡ Some n → c_then.number ≡ Some n
    → HasTurn n calls calls_then c c_then lines → AreSeated seats came
    → AreTrueOf calls seats came → HandsIn (λ told. lines_of told n) (Some calls) (Some calls_then)
    (left_in n seats) (left_in n seats_then)
    (filter (λ (text : Said). text.0 == n) (said_by n lines))
own_turn calls calls_then seats seats_then c c_then n came lines changes number number_then turn
    seated known =
    let one = alone seats changes.front changes.back c n came changes.was number seated in
    let was = heard_here calls seats seats_then c c_then n came changes number known in
    let left = left_alone n seats changes.front changes.back c changes.was one.before one.behind
    ∙ own_left n c number in
    let left_then = left_alone n seats_then changes.front changes.back c_then changes.is
    one.before one.behind ∙ own_left n c_then number_then in
    rw (left, left_then, own_texts n lines) (λ before is.
    heard_next calls calls_then n c c_then lines was (turn.own was) before is)

-- of a connection that is that of the turn, or another
turn_step : (is : Bool) (k : ℕ) (calls calls_then : List ConnectionCall)
    (seats seats_then : List ConversationState) (c c_then : ConversationState) (n came : ℕ)
    (lines : List (List ℕ)) → n == k ≡ is
    → Changes seats seats_then c c_then → c.number ≡ Some n → c_then.number ≡ Some n
    → HasTurn n calls calls_then c c_then lines → AreSeated seats came
    → AreTrueOf calls seats came → HandsIn (λ told. lines_of told k) (Some calls) (Some calls_then)
    (left_in k seats) (left_in k seats_then)
    (filter (λ (text : Said). text.0 == k) (said_by n lines))
turn_step true k calls calls_then seats seats_then c c_then n came lines here changes number
    number_then turn seated known =
    subst (λ (m : ℕ). HandsIn (λ told. lines_of told m) (Some calls) (Some calls_then)
    (left_in m seats) (left_in m seats_then)
    (filter (λ (text : Said). text.0 == m) (said_by n lines))) (eqb-true n k here)
    (own_turn calls calls_then seats seats_then c c_then n came lines changes number number_then
    turn seated known)
turn_step false k calls calls_then seats seats_then c c_then n came lines here changes number
    number_then turn seated known =
    let other : k ≢ n = λ same. eqb-false n k here (sym same) in
    let same = left_same k seats seats_then c c_then changes
    (other_left k n c_then number_then here ∙ sym (other_left k n c number here)) in
    rw (other_texts k n lines here) (hands_in_same k calls calls_then (left_in k seats)
    (left_in k seats_then) (turn.others k other).bytes same)

-- of each connection the lines of a turn come next that are its own
pub hands_in_turn : (k : ℕ) (calls calls_then : List ConnectionCall)
    (seats seats_then : List ConversationState) (c c_then : ConversationState) (n came : ℕ)
    (lines : List (List ℕ))
    → Changes seats seats_then c c_then → c.number ≡ Some n → c_then.number ≡ Some n
    → HasTurn n calls calls_then c c_then lines → AreSeated seats came
    → AreTrueOf calls seats came → HandsIn (λ told. lines_of told k) (Some calls) (Some calls_then)
    (left_in k seats) (left_in k seats_then)
    (filter (λ (text : Said). text.0 == k) (said_by n lines))
hands_in_turn k calls calls_then seats seats_then c c_then n came lines =
    turn_step (n == k) k calls calls_then seats seats_then c c_then n came lines refl

-- nothing, whatever a test says
if_none : (b : Bool) (left : List Said) → left ≡ [] → (if b then left else []) ≡ []
if_none true left none = none
if_none false left none = refl

-- nothing is left at a seat without a whole line
pub unended_left : (n : ℕ) (c : ConversationState) → IsUnended c.bytes → left_at_seat n c ≡ []
unended_left n c unended =
    if_none (is_of n c) (said_by n (lines_in c.bytes)) (ap (said_by n) (none_comes c.bytes unended))

-- nothing is left at a free seat
pub free_left : (n : ℕ) (c : ConversationState) → c.number ≡ None → left_at_seat n c ≡ []
free_left n c free =
    let no : is_of n c ≡ false = ap (λ (whose : Option ℕ). speaks whose n) free in rw no refl

-- nothing is left of a connection that just came
pub next_left : (k n : ℕ) → left_at_seat k (conversation_of (Some n)) ≡ []
next_left k n = if_none (n == k) [] refl
