-- The order of a path: who speaks at a control port, who waits; and what is handed in of that.
-- For `Path`.
-- By: cases on the rule; what is known where an application speaks, and that no operator waits.
use Rattle.std.proofs.Common.{◌≡◌, ℕ, ◌+◌, ◌<◌, ◌≤◌, ◌==◌, ◌||◌, ◌&&◌, ◌++◌, not, List, []}
use Rattle.std.proofs.Common.{◌∷◌, Bool, true, false, Option, Some, None, length, set, get_or, refl}
use Rattle.std.proofs.Common.{ap, sym, subst, ◌∙◌, arith, replicate}
use Rattle.std.specs.List.{filter}
use Rattle.std.proofs.lemmas.List.{append-nil}
use Rattle.trdp_lines.specs.declared.connections.Accepted.TheVariants.{Came}
use Rattle.trdp_lines.specs.declared.rule.Rule.{Rule}
use Rattle.trdp_lines.specs.declared.rule.Rule.TheVariants.{Application, Operators}
use Rattle.trdp_base.specs.Reported.{TellsMore}
use Rattle.trdp_lines.specs.Connections.{ConnectionCall, Accepts, Closes, Writes, Writing}
use Rattle.trdp_lines.specs.Conversations.{ConversationState, conversation_of, is_done, left_by}
use Rattle.trdp_lines.specs.Conversations.{left_to_hand_in}
use Rattle.trdp_lines.specs.Lines.{IsUnended, has_line}
use Rattle.trdp_lines.specs.Paths.{IsReady, IsReadyIf, IsTrueIfTold, IsTrueOf}
use Rattle.trdp_lines.specs.Said.{Said, HandsIn, applications_say, end_if, lines_of, said_by}
use Rattle.trdp_lines.specs.Seatings.{AreSeated, AreTrueIfTold, IsInOrder}
use Rattle.trdp_lines.specs.Seats.{HandsInTexts, NothingLeft, left_at_path, left_in, seat_at}
use Rattle.trdp_lines.specs.Seats.{StaysLeft, free_seat, left_at_seat, seats_at}
use Rattle.trdp_lines.specs.Steps.{end_at}
use Rattle.trdp_lines.specs.Turns.{HasTurn, HasTurnIfTold}
use Rattle.trdp_lines.proofs.BetweenLemmas.{known_between, known_then}
use Rattle.trdp_lines.proofs.CallLemmas.{AreQuiet, AreUnheard, accept_unheard, close_quiet}
use Rattle.trdp_lines.proofs.ConversationLemmas.{ended_left, lives_heard, nothing_left}
use Rattle.trdp_lines.proofs.ConversationLemmas.{ready_goes_on}
use Rattle.trdp_lines.proofs.HandingLemmas.{both_handed_in, front_handed_in, none_handed_in}
use Rattle.trdp_lines.proofs.HandingLemmas.{quiet_handed_in}
use Rattle.trdp_lines.proofs.LeftLemmas.{free_left, hands_in_same, hands_in_turn, next_left}
use Rattle.trdp_lines.proofs.LeftLemmas.{unended_left}
use Rattle.trdp_lines.proofs.PathLemmas.{behind_true, closed_true, first_true, next_true}
use Rattle.trdp_lines.proofs.PathLemmas.{quiet_true, speaker_of, turn_true, with_next}
use Rattle.trdp_lines.proofs.ReadLemmas.{first_seat, first_set}
use Rattle.trdp_lines.proofs.SeatLemmas.{changes_at, left_same, silent_all}
use Rattle.trdp_lines.proofs.SpeakerLemmas.{accept_says, turn_says}
use Rattle.trdp_lines.proofs.TurnLemmas.{unheard_by}

-- what is known of a connection with this number
numbered : (calls : List ConnectionCall) (number : Option ℕ) (n : ℕ) (c : ConversationState)
    (waiting : Option ℕ) (came : ℕ) → number ≡ Some n → IsTrueOf calls number c waiting came
    → IsTrueOf calls (Some n) c waiting came
numbered calls number n c waiting came is known =
    subst (λ (o : Option ℕ). IsTrueOf calls o c waiting came) is known

-- and of one whose number is this
unnumbered : (calls : List ConnectionCall) (number : Option ℕ) (n : ℕ) (c : ConversationState)
    (waiting : Option ℕ) (came : ℕ) → number ≡ Some n → IsTrueOf calls (Some n) c waiting came
    → IsTrueOf calls number c waiting came
unnumbered calls number n c waiting came is known =
    subst (λ (o : Option ℕ). IsTrueOf calls o c waiting came) (sym is) known

-- after quiet calls
pub order_quiet : (rule : Rule) (calls calls_then : Option (List ConnectionCall))
    (more : List ConnectionCall) (seats : List ConversationState) (waiting : Option ℕ) (came : ℕ)
    → TellsMore calls calls_then more → AreQuiet more → IsInOrder rule calls seats waiting came
    → IsInOrder rule calls_then seats waiting came
order_quiet Operators calls calls_then more seats waiting came told quiet order = order
order_quiet Application calls calls_then more seats waiting came told quiet order =
    let c = seat_at seats 0 in
    known_then (λ told. IsTrueOf told c.number c waiting came)
    (λ told. IsTrueOf told c.number c waiting came) calls calls_then more told order
    (λ old new is was. subst (λ told. IsTrueOf told c.number c waiting came) (sym is)
    (quiet_true old more c.number c waiting came quiet was))

-- after the turn of the connection at a place
pub order_turn : (rule : Rule) (calls calls_then : Option (List ConnectionCall))
    (seats : List ConversationState) (place : ℕ) (c c_then : ConversationState) (n : ℕ)
    (waiting : Option ℕ) (came : ℕ) (lines : List (List ℕ)) → place < seats_at rule
    → place < length seats → c ≡ get_or seats place c → c.number ≡ Some n
    → c_then.number ≡ c.number → HasTurnIfTold n calls calls_then c c_then lines
    → IsInOrder rule calls seats waiting came
    → IsInOrder rule calls_then (set seats place c_then) waiting came
order_turn Operators calls calls_then seats place c c_then n waiting came lines low within here
    number kept turn order = order
order_turn Application calls calls_then seats place c c_then n waiting came lines low within here
    number kept turn order =
    subst (λ s. IsTrueIfTold calls_then s waiting came)
    (sym (first_set seats place c_then low within))
    (known_between (λ told. IsTrueOf told c.number c waiting came)
    (λ told. IsTrueOf told c_then.number c_then waiting came)
    (λ old new. HasTurn n old new c c_then lines) calls calls_then turn
    (subst (λ s. IsTrueIfTold calls s waiting came) (first_seat seats place c low within here) order)
    (λ old new had was. unnumbered new c_then.number n c_then waiting came (kept ∙ number)
    (turn_true old new n c c_then lines waiting came had
    (numbered old c.number n c waiting came number was))))

-- one is closed that is over, or gives way, and the one that waits speaks
next_kept : (calls calls_then : Option (List ConnectionCall)) (n : ℕ) (c : ConversationState)
    (waiting : Option ℕ) (came : ℕ) → c.number ≡ Some n
    → ((c.spoke || has_line c.bytes) && not (is_done c)) ≡ false
    → TellsMore calls calls_then (Closes n ∷ []) → IsTrueIfTold calls c waiting came
    → IsTrueIfTold calls_then (conversation_of waiting) None came
next_kept calls calls_then n c waiting came number past told known =
    known_then (λ told. IsTrueOf told c.number c waiting came)
    (λ told. IsTrueOf told waiting (conversation_of waiting) None came) calls calls_then
    (Closes n ∷ []) told known (λ old new is was.
    let calls_then = old ++ Closes n ∷ [] in
    let closed = quiet_true old (Closes n ∷ []) (Some n) c waiting came (close_quiet n)
    (numbered old c.number n c waiting came number was) in
    let none = lives_heard calls_then n c (speaker_of calls_then n c waiting came closed).heard
    ∙ past in
    subst (λ told. IsTrueOf told waiting (conversation_of waiting) None came) (sym is)
    (next_true calls_then n c waiting came none closed))

-- where the one that waits has the seat of one that was closed
pub order_ended : (rule : Rule) (calls calls_then : Option (List ConnectionCall))
    (seats : List ConversationState) (place : ℕ) (c : ConversationState) (n : ℕ)
    (waiting : Option ℕ) (came : ℕ) → place < seats_at rule → place < length seats
    → c ≡ get_or seats place c → c.number ≡ Some n
    → ((c.spoke || has_line c.bytes) && not (is_done c)) ≡ false
    → TellsMore calls calls_then (Closes n ∷ []) → IsInOrder rule calls seats waiting came
    → IsInOrder rule calls_then (set seats place (conversation_of waiting)) None came
order_ended Operators calls calls_then seats place c n waiting came low within here number past
    told order = refl
order_ended Application calls calls_then seats place c n waiting came low within here number past
    told order =
    subst (λ s. IsTrueIfTold calls_then s None came)
    (sym (first_set seats place (conversation_of waiting) low within))
    (next_kept calls calls_then n c waiting came number past told
    (subst (λ s. IsTrueIfTold calls s waiting came) (first_seat seats place c low within here)
    order))

-- where the one that waits was refused, beside one that speaks
pub order_refused : (rule : Rule) (calls calls_then : Option (List ConnectionCall))
    (more : List ConnectionCall) (seats : List ConversationState) (place : ℕ)
    (c : ConversationState) (n : ℕ) (waiting : Option ℕ) (came : ℕ) → place < seats_at rule
    → place < length seats → c ≡ get_or seats place c → c.number ≡ Some n
    → TellsMore calls calls_then more → AreQuiet more → IsInOrder rule calls seats waiting came
    → IsInOrder rule calls_then seats None came
order_refused Operators calls calls_then more seats place c n waiting came low within here number
    told quiet order = refl
order_refused Application calls calls_then more seats place c n waiting came low within here number
    told quiet order =
    let first = first_seat seats place c low within here in
    subst (λ s. IsTrueIfTold calls_then s None came) (sym first)
    (known_then (λ told. IsTrueOf told c.number c waiting came)
    (λ told. IsTrueOf told c.number c None came) calls calls_then more told
    (subst (λ s. IsTrueIfTold calls s waiting came) first order)
    (λ old new is was. unnumbered new c.number n c None came number
    (subst (λ told. IsTrueOf told (Some n) c None came) (sym is)
    (closed_true (old ++ more) n c waiting came (quiet_true old more (Some n) c waiting came quiet
    (numbered old c.number n c waiting came number was))))))

-- the next connection came, and none speaks
first_by : (old : List ConnectionCall) (number : Option ℕ) (c : ConversationState)
    (waiting : Option ℕ) (came : ℕ) → number ≡ None → waiting ≡ None
    → IsTrueOf old number c waiting came → IsTrueOf (with_next old came) (Some (came + 1))
    (conversation_of (Some (came + 1))) waiting (came + 1)
first_by old None c None came free unwaited known = first_true old c came known
first_by old None c (Some next) came free unwaited known = absurd known
first_by old (Some n) c waiting came free unwaited known = cc

-- where the next connection came, and got a free seat
pub order_first : (rule : Rule) (calls calls_then : Option (List ConnectionCall))
    (seats : List ConversationState) (place : ℕ) (c : ConversationState) (waiting : Option ℕ)
    (came : ℕ) → place < seats_at rule → place < length seats → c ≡ get_or seats place c
    → c.number ≡ None → waiting ≡ None → TellsMore calls calls_then (Accepts (came + 1) Came ∷ [])
    → IsInOrder rule calls seats waiting came → IsInOrder rule calls_then
    (set seats place (conversation_of (Some (came + 1)))) waiting (came + 1)
order_first Operators calls calls_then seats place c waiting came low within here free unwaited
    told order = order
order_first Application calls calls_then seats place c waiting came low within here free unwaited
    told order =
    let next = conversation_of (Some (came + 1)) in
    subst (λ s. IsTrueIfTold calls_then s waiting (came + 1))
    (sym (first_set seats place next low within))
    (known_then (λ told. IsTrueOf told c.number c waiting came)
    (λ told. IsTrueOf told (Some (came + 1)) next waiting (came + 1)) calls calls_then
    (Accepts (came + 1) Came ∷ []) told
    (subst (λ s. IsTrueIfTold calls s waiting came) (first_seat seats place c low within here) order)
    (λ old new is was. subst (λ told. IsTrueOf told (Some (came + 1)) next waiting (came + 1))
    (sym is) (first_by old c.number c waiting came free unwaited was)))

-- the next connection came, and waits after the one that speaks
behind_by : (old : List ConnectionCall) (number : Option ℕ) (c : ConversationState)
    (waiting : Option ℕ) (came : ℕ) → (number ≡ None → ⊥) → waiting ≡ None
    → IsTrueOf old number c waiting came
    → IsTrueOf (with_next old came) number c (Some (came + 1)) (came + 1)
behind_by old (Some n) c None came taken unwaited known = behind_true old n c came known
behind_by old (Some n) c (Some next) came taken unwaited known = cc
behind_by old None c waiting came taken unwaited known = absurd (taken refl)

-- where the next connection came, and waits for the seat of an application
pub order_behind : (calls calls_then : Option (List ConnectionCall))
    (seats : List ConversationState) (waiting : Option ℕ) (came : ℕ)
    → ((seat_at seats 0).number ≡ None → ⊥) → waiting ≡ None
    → TellsMore calls calls_then (Accepts (came + 1) Came ∷ [])
    → IsInOrder Application calls seats waiting came
    → IsInOrder Application calls_then seats (Some (came + 1)) (came + 1)
order_behind calls calls_then seats waiting came taken unwaited told order =
    let c = seat_at seats 0 in
    known_then (λ told. IsTrueOf told c.number c waiting came)
    (λ told. IsTrueOf told c.number c (Some (came + 1)) (came + 1)) calls calls_then
    (Accepts (came + 1) Came ∷ []) told order
    (λ old new is was. subst (λ told. IsTrueOf told c.number c (Some (came + 1)) (came + 1))
    (sym is) (behind_by old c.number c waiting came taken unwaited was))

-- what is handed in after nothing is what is handed in
pub texts_next : (rule : Rule) (one two three : Option (List ConnectionCall))
    (a b c : List ConversationState) (texts : List Said) → HandsInTexts rule one two a b []
    → HandsInTexts rule two three b c texts → HandsInTexts rule one three a c texts
texts_next Application one two three a b c texts first second = λ n.
    both_handed_in applications_say one two three (left_at_path Application n a)
    (left_at_path Application n b) (left_at_path Application n c) [] texts (first n) (second n)
texts_next Operators one two three a b c texts first second = λ n.
    both_handed_in (λ (told : List ConnectionCall). lines_of told n) one two three (left_in n a)
    (left_in n b) (left_in n c) [] (filter (λ (text : Said). text.0 == n) texts) (first n)
    (second n)

-- at the operator's path nothing is handed in where nothing came from any connection, and the same
-- is left
pub lines_quiet : (calls calls_then : Option (List ConnectionCall))
    (more : List ConnectionCall) (seats seats_then : List ConversationState)
    → TellsMore calls calls_then more → AreUnheard more
    → ((n : ℕ) → left_in n seats_then ≡ left_in n seats)
    → HandsInTexts Operators calls calls_then seats seats_then []
lines_quiet calls None more seats seats_then told unheard same = λ k. tt
lines_quiet None (Some calls_then) more seats seats_then told unheard same = absurd told
lines_quiet (Some calls) (Some calls_then) more seats seats_then told unheard same = λ k.
    hands_in_same k calls calls_then (left_in k seats) (left_in k seats_then)
    (unheard_by calls calls_then more unheard told k).bytes (same k)

-- where nothing came from any connection, none came, and the same is left, nothing is handed in
pub texts_quiet : (rule : Rule) (calls calls_then : Option (List ConnectionCall))
    (more : List ConnectionCall) (seats seats_then : List ConversationState)
    → TellsMore calls calls_then more → AreQuiet more
    → ((n : ℕ) → left_at_path rule n seats_then ≡ left_at_path rule n seats)
    → HandsInTexts rule calls calls_then seats seats_then []
texts_quiet Application calls calls_then more seats seats_then told quiet same = λ n.
    subst (λ (l : List Said).
    HandsIn applications_say calls calls_then (left_at_path Application n seats) l [])
    (sym (same n))
    (quiet_handed_in calls calls_then more (left_at_path Application n seats) quiet told)
texts_quiet Operators calls calls_then more seats seats_then told quiet same =
    lines_quiet calls calls_then more seats seats_then told quiet.unheard same

-- by the next connection nothing is said
accept_by : (old : List ConnectionCall) (number : Option ℕ) (c : ConversationState)
    (waiting : Option ℕ) (came : ℕ) → IsTrueOf old number c waiting came
    → applications_say (with_next old came) ≡ applications_say old
accept_by old None c None came known = accept_says old came (came + 1) (omega arith) known.1
accept_by old None c (Some next) came known = absurd known
accept_by old (Some n) c waiting came known =
    let speaker = speaker_of old n c waiting came known in
    accept_says old came (n + 1) (omega (arith, speaker.within)) speaker.unread

-- where the next connection came nothing is handed in
pub texts_came : (calls calls_then : Option (List ConnectionCall))
    (seats seats_then : List ConversationState) (waiting : Option ℕ) (came : ℕ)
    → TellsMore calls calls_then (Accepts (came + 1) Came ∷ [])
    → left_to_hand_in (seat_at seats_then 0) ≡ left_to_hand_in (seat_at seats 0)
    → IsInOrder Application calls seats waiting came
    → HandsInTexts Application calls calls_then seats seats_then []
texts_came calls None seats seats_then waiting came told same order = λ n. tt
texts_came None (Some calls_then) seats seats_then waiting came told same order = absurd told
texts_came (Some calls) (Some calls_then) seats seats_then waiting came told same order = λ n.
    let c = seat_at seats 0 in
    subst (λ (l : List Said).
    HandsIn applications_say (Some calls) (Some calls_then) (left_to_hand_in c) l []) (sym same)
    (none_handed_in applications_say calls calls_then (left_to_hand_in c)
    (ap applications_say told ∙ accept_by calls c.number c waiting came order))

-- the lines of a turn of the one that speaks, by calls that may not be reported
says_turn : (calls calls_then : Option (List ConnectionCall)) (n : ℕ)
    (c c_then : ConversationState) (waiting : Option ℕ) (came : ℕ) (lines : List (List ℕ))
    → c.number ≡ Some n → HasTurnIfTold n calls calls_then c c_then lines
    → IsTrueIfTold calls c waiting came → HandsIn applications_say calls calls_then
    (left_by (Some n) c) (left_by (Some n) c_then) (said_by n lines)
says_turn calls None n c c_then waiting came lines number turn known = tt
says_turn None (Some calls_then) n c c_then waiting came lines number turn known = absurd turn
says_turn (Some calls) (Some calls_then) n c c_then waiting came lines number turn known =
    turn_says calls calls_then n c c_then lines came turn (speaker_of calls n c waiting came
    (numbered calls c.number n c waiting came number known))

-- what the first seat has left, which is that of the connection of this number
first_left : (seats : List ConversationState) (c : ConversationState) (n : ℕ)
    → seat_at seats 0 ≡ c → c.number ≡ Some n
    → left_to_hand_in (seat_at seats 0) ≡ left_by (Some n) c
first_left seats c n first number =
    ap left_to_hand_in first ∙ ap (λ (o : Option ℕ). left_by o c) number

-- the lines of a turn are handed in
pub texts_turn : (rule : Rule) (calls calls_then : Option (List ConnectionCall))
    (seats : List ConversationState) (place : ℕ) (c c_then : ConversationState) (n : ℕ)
    (waiting : Option ℕ) (came : ℕ) (lines : List (List ℕ)) → place < seats_at rule
    → place < length seats → c ≡ get_or seats place c → c.number ≡ Some n
    → c_then.number ≡ c.number → HasTurnIfTold n calls calls_then c c_then lines
    → AreSeated seats came → AreTrueIfTold calls seats came
    → IsInOrder rule calls seats waiting came
    → HandsInTexts rule calls calls_then seats (set seats place c_then) (said_by n lines)
texts_turn Application calls calls_then seats place c c_then n waiting came lines low within here
    number kept turn seated known order = λ k.
    let first = first_seat seats place c low within here in
    let last = first_set seats place c_then low within in
    subst (λ (l : List Said). HandsIn applications_say calls calls_then l
    (left_to_hand_in (seat_at (set seats place c_then) 0)) (said_by n lines))
    (sym (first_left seats c n first number)) (subst (λ (l : List Said).
    HandsIn applications_say calls calls_then (left_by (Some n) c) l (said_by n lines))
    (sym (first_left (set seats place c_then) c_then n last (kept ∙ number)))
    (says_turn calls calls_then n c c_then waiting came lines number turn
    (subst (λ s. IsTrueIfTold calls s waiting came) first order)))
texts_turn Operators calls None seats place c c_then n waiting came lines low within here number
    kept turn seated known order = λ k. tt
texts_turn Operators None (Some calls_then) seats place c c_then n waiting came lines low within
    here number kept turn seated known order = absurd turn
texts_turn Operators (Some calls) (Some calls_then) seats place c c_then n waiting came lines low
    within here number kept turn seated known order = λ k.
    hands_in_turn k calls calls_then seats (set seats place c_then) c c_then n came lines
    (changes_at seats place c c_then within here) number (kept ∙ number) turn seated known

-- nothing is left of a connection that just came, or of none
pub none_left_of : (waiting : Option ℕ) → left_to_hand_in (conversation_of waiting) ≡ []
none_left_of None = refl
none_left_of (Some next) = refl

-- nothing is left at a seat of a connection that just came, or of none
none_left_at : (k : ℕ) (seats : List ConversationState) (place : ℕ) (c : ConversationState)
    (waiting : Option ℕ) → place < length seats → c ≡ get_or seats place c → IsUnended c.bytes
    → left_in k (set seats place (conversation_of waiting)) ≡ left_in k seats
none_left_at k seats place c None within here unended =
    left_same k seats (set seats place (conversation_of None)) c (conversation_of None)
    (changes_at seats place c (conversation_of None) within here) (sym (unended_left k c unended))
none_left_at k seats place c (Some n) within here unended =
    left_same k seats (set seats place (conversation_of (Some n))) c (conversation_of (Some n))
    (changes_at seats place c (conversation_of (Some n)) within here)
    (next_left k n ∙ sym (unended_left k c unended))

-- the end of the one that speaks is handed in, if it is over and has spoken
end_says : (calls calls_then : Option (List ConnectionCall)) (n : ℕ) (left left_then : List Said)
    (texts : List Said) → left ≡ texts → left_then ≡ [] → TellsMore calls calls_then (Closes n ∷ [])
    → HandsIn applications_say calls calls_then left left_then texts
end_says calls calls_then n left left_then texts all none told =
    let split : left ≡ texts ++ left_then = all ∙ sym (append-nil texts)
    ∙ ap (λ (l : List Said). texts ++ l) (sym none) in
    subst (HandsIn applications_say calls calls_then left left_then) (append-nil texts)
    (both_handed_in applications_say calls calls calls_then left left_then left_then texts []
    (front_handed_in applications_say calls left left_then texts split)
    (quiet_handed_in calls calls_then (Closes n ∷ []) left_then (close_quiet n) told))

-- where ends don't count none is handed in
no_end : (n : ℕ) (over : Bool) → end_if n over false ≡ []
no_end n true = refl
no_end n false = refl

-- where the one that waits has the seat of one that was closed
pub texts_ended : (rule : Rule) (calls calls_then : Option (List ConnectionCall))
    (seats : List ConversationState) (place : ℕ) (c : ConversationState) (n : ℕ)
    (waiting : Option ℕ) → place < seats_at rule → place < length seats → c ≡ get_or seats place c
    → c.number ≡ Some n → IsUnended c.bytes → TellsMore calls calls_then (Closes n ∷ [])
    → HandsInTexts rule calls calls_then seats (set seats place (conversation_of waiting))
    (end_at rule n c)
texts_ended Application calls calls_then seats place c n waiting low within here number unended
    told = λ k.
    let last = first_set seats place (conversation_of waiting) low within in
    end_says calls calls_then n (left_to_hand_in (seat_at seats 0))
    (left_to_hand_in (seat_at (set seats place (conversation_of waiting)) 0))
    (end_at Application n c)
    (first_left seats c n (first_seat seats place c low within here) number
    ∙ ended_left n c unended) (ap left_to_hand_in last ∙ none_left_of waiting) told
texts_ended Operators calls calls_then seats place c n waiting low within here number unended
    told =
    subst (HandsInTexts Operators calls calls_then seats
    (set seats place (conversation_of waiting))) (sym (no_end n (is_done c)))
    (lines_quiet calls calls_then (Closes n ∷ []) seats (set seats place (conversation_of waiting))
    told (close_quiet n).unheard (λ k. none_left_at k seats place c waiting within here unended))

-- nothing is left of one that may be read from
ready_left : (number : Option ℕ) (c : ConversationState) → IsReadyIf number c
    → left_by number c ≡ []
ready_left None c ready = refl
ready_left (Some n) c ready = nothing_left n c ready.unended (ready_goes_on c ready)

-- nor at its seat
ready_lines : (k : ℕ) (c : ConversationState) (number : Option ℕ) → c.number ≡ number
    → IsReadyIf number c → left_at_seat k c ≡ []
ready_lines k c None is ready = free_left k c is
ready_lines k c (Some n) is ready = unended_left k c ready.unended

-- where each may be read from nothing is left
pub ready_nothing : (rule : Rule) (seats : List ConversationState) → length seats ≡ seats_at rule
    → ((k : ℕ) → 0 ≤ k → k < seats_at rule
    → IsReadyIf (seat_at seats k).number (seat_at seats k)) → NothingLeft rule seats
ready_nothing Application seats size ready = λ n.
    ready_left (seat_at seats 0).number (seat_at seats 0) (ready 0 (omega arith) (omega arith))
ready_nothing Operators seats size ready = λ n. silent_all n seats (λ k within.
    ready_lines n (seat_at seats k) (seat_at seats k).number refl
    (ready k (omega arith) (omega (arith, size, within))))

-- where none came yet nothing is left
pub nothing_new : (rule : Rule) → NothingLeft rule (replicate (seats_at rule) free_seat)
nothing_new Application = λ n. refl
nothing_new Operators = λ n. refl

-- one that has a number and may be read from is ready
pub ready_of : (number : Option ℕ) (n : ℕ) (c : ConversationState) → number ≡ Some n
    → IsReadyIf number c → IsReady c
ready_of number n c is ready = subst (λ (o : Option ℕ). IsReadyIf o c) is ready

-- where the next connection came, and the same is left, nothing is handed in
pub texts_accept : (rule : Rule) (calls calls_then : Option (List ConnectionCall))
    (seats seats_then : List ConversationState) (waiting : Option ℕ) (came : ℕ)
    → TellsMore calls calls_then (Accepts (came + 1) Came ∷ [])
    → ((n : ℕ) → left_at_path rule n seats_then ≡ left_at_path rule n seats)
    → IsInOrder rule calls seats waiting came
    → HandsInTexts rule calls calls_then seats seats_then []
texts_accept Application calls calls_then seats seats_then waiting came told same order =
    texts_came calls calls_then seats seats_then waiting came told (same 0) order
texts_accept Operators calls calls_then seats seats_then waiting came told same order =
    lines_quiet calls calls_then (Accepts (came + 1) Came ∷ []) seats seats_then told
    (accept_unheard (came + 1) Came) same

-- the same is left where the next one got a free seat
pub free_same : (rule : Rule) (seats : List ConversationState) (place : ℕ) (c : ConversationState)
    (m : ℕ) → place < seats_at rule → place < length seats → c ≡ get_or seats place c
    → c.number ≡ None → StaysLeft rule seats (set seats place (conversation_of (Some m)))
free_same Application seats place c m low within here free = λ n.
    ap left_to_hand_in (first_set seats place (conversation_of (Some m)) low within)
    ∙ sym (ap left_to_hand_in (first_seat seats place c low within here)
    ∙ ap (λ (o : Option ℕ). left_by o c) free)
free_same Operators seats place c m low within here free = λ n.
    left_same n seats (set seats place (conversation_of (Some m))) c (conversation_of (Some m))
    (changes_at seats place c (conversation_of (Some m)) within here)
    (next_left n m ∙ sym (free_left n c free))

-- where the next one was refused nothing is handed in
pub texts_away : (rule : Rule) (calls calls_then : Option (List ConnectionCall))
    (seats : List ConversationState) (came : ℕ) (writing : Writing) → rule ≡ Operators
    → TellsMore calls calls_then
    (Accepts (came + 1) Came ∷ Writes (came + 1) writing ∷ Closes (came + 1) ∷ [])
    → HandsInTexts rule calls calls_then seats seats []
texts_away Application calls calls_then seats came writing is told = cc
texts_away Operators calls calls_then seats came writing is told =
    lines_quiet calls calls_then
    (Accepts (came + 1) Came ∷ Writes (came + 1) writing ∷ Closes (came + 1) ∷ []) seats seats told
    (record { bytes = λ n. refl; ended = λ n. refl }) (λ n. refl)
