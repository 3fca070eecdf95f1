-- What is known of the connections at the seats of a path, after one of them had its turn, one
-- was closed, and one came.
-- For `Path`.
-- By: a connection has no second seat; calls that read nothing leave all as it was.
use Rattle.std.proofs.Common.{◌≡◌, ℕ, ◌+◌, ◌≤◌, ◌++◌, ◌≢◌, List, [], ◌∷◌}
use Rattle.std.proofs.Common.{Option, Some, refl, sym, subst}
use Rattle.std.proofs.Common.{◌∙◌, arith}
use Rattle.trdp_lines.specs.Closings.{IsUnheard}
use Rattle.trdp_lines.specs.Connections.{ConnectionCall}
use Rattle.trdp_lines.specs.Conversations.{ConversationState, conversation_of}
use Rattle.trdp_lines.specs.Seats.{free_seat}
use Rattle.trdp_lines.specs.Paths.{IsUnreadFrom}
use Rattle.trdp_lines.specs.Seatings.{AreHeard, AreSeated, AreTrueOf, IsHeardIf}
use Rattle.trdp_lines.specs.Turns.{HasTurn}
use Rattle.trdp_lines.proofs.SeatLemmas.{Changes, heard_back, heard_both, heard_front}
use Rattle.trdp_lines.proofs.SeatLemmas.{seats_kept}
use Rattle.trdp_lines.proofs.SeatedLemmas.{alone, seated_other}

-- what is known at the seat that changes, and at the others
heard_around : (calls calls_then : List ConnectionCall)
    (seats seats_then : List ConversationState) (c c_then : ConversationState)
    → Changes seats seats_then c c_then → ((front : List ConversationState)
    → (back : List ConversationState) → seats ≡ front ++ c ∷ back
    → (AreHeard calls front → AreHeard calls_then front)
    × (AreHeard calls back → AreHeard calls_then back))
    → (IsHeardIf calls c.number c → IsHeardIf calls_then c_then.number c_then)
    → AreHeard calls seats → AreHeard calls_then seats_then
heard_around calls calls_then seats seats_then c c_then changes others own heard =
    let all = subst (AreHeard calls) changes.was heard in
    let here = heard_back calls changes.front (c ∷ changes.back) all in
    let kept = others changes.front changes.back changes.was in
    subst (AreHeard calls_then) (sym changes.is)
    (heard_both calls_then changes.front (c_then ∷ changes.back)
    (kept.0 (heard_front calls changes.front (c ∷ changes.back) all))
    (own here.0, kept.1 here.1))

-- after a turn of one of the connections
pub known_turn : (calls calls_then : List ConnectionCall)
    (seats seats_then : List ConversationState) (c c_then : ConversationState) (n came : ℕ)
    (lines : List (List ℕ)) → Changes seats seats_then c c_then → c.number ≡ Some n
    → c_then.number ≡ Some n → HasTurn n calls calls_then c c_then lines
    → AreSeated seats came → AreTrueOf calls seats came → AreTrueOf calls_then seats_then came
known_turn calls calls_then seats seats_then c c_then n came lines changes number number_then
    turn seated known =
    let one = alone seats changes.front changes.back c n came changes.was number seated in
    record {
      unread = λ k above.
          let other : k ≢ n = λ is. absurd (omega (arith, one.within, above, is)) in
          let unheard = turn.others k other in
          let unread = known.unread k above in
          (unheard.bytes ∙ unread.0, unheard.ended ∙ unread.1);
      heard = heard_around calls calls_then seats seats_then c c_then changes
          (λ front back was.
          let around = alone seats front back c n came was number seated in (
            seats_kept calls calls_then front (λ k some.
                turn.others k (seated_other k n front around.before some)),
            seats_kept calls calls_then back (λ k some.
                turn.others k (seated_other k n back around.behind some)),
          ))
          (λ was. subst (λ (whose : Option ℕ). IsHeardIf calls_then whose c_then)
          (sym number_then)
          (turn.own (subst (λ (whose : Option ℕ). IsHeardIf calls whose c) number was)).heard)
          known.heard;
    }

-- calls that read nothing
pub unread_kept : (calls calls_then : List ConnectionCall) (bound bound_then : ℕ)
    → ((k : ℕ) → IsUnheard calls calls_then k) → bound ≤ bound_then
    → IsUnreadFrom bound calls → IsUnreadFrom bound_then calls_then
unread_kept calls calls_then bound bound_then unheard more unread k above =
    let now = unread k (omega arith) in
    ((unheard k).bytes ∙ now.0, (unheard k).ended ∙ now.1)

-- after calls that read nothing, whichever connection came
pub known_quiet : (calls calls_then : List ConnectionCall) (seats : List ConversationState)
    (came came_then : ℕ) → ((k : ℕ) → IsUnheard calls calls_then k) → came ≤ came_then
    → AreTrueOf calls seats came → AreTrueOf calls_then seats came_then
known_quiet calls calls_then seats came came_then unheard more known = record {
  unread = unread_kept calls calls_then (came + 1) (came_then + 1) unheard (omega (arith, more))
      known.unread;
  heard = seats_kept calls calls_then seats (λ k some. unheard k) known.heard;
}

-- after a connection was closed
pub known_closed : (calls calls_then : List ConnectionCall)
    (seats seats_then : List ConversationState) (c : ConversationState) (came : ℕ)
    → Changes seats seats_then c free_seat → ((k : ℕ) → IsUnheard calls calls_then k)
    → AreTrueOf calls seats came → AreTrueOf calls_then seats_then came
known_closed calls calls_then seats seats_then c came changes unheard known = record {
  unread = unread_kept calls calls_then (came + 1) (came + 1) unheard (omega arith) known.unread;
  heard = heard_around calls calls_then seats seats_then c free_seat changes
      (λ front back was. (
        seats_kept calls calls_then front (λ k some. unheard k),
        seats_kept calls calls_then back (λ k some. unheard k),
      ))
      (λ was. tt) known.heard;
}

-- after the next connection got a free seat
pub known_seated : (calls calls_then : List ConnectionCall)
    (seats seats_then : List ConversationState) (c : ConversationState) (came : ℕ)
    → Changes seats seats_then c (conversation_of (Some (came + 1)))
    → ((k : ℕ) → IsUnheard calls calls_then k)
    → AreTrueOf calls seats came → AreTrueOf calls_then seats_then (came + 1)
known_seated calls calls_then seats seats_then c came changes unheard known =
    let next = conversation_of (Some (came + 1)) in
    let unread = known.unread (came + 1) (omega arith) in
    record {
      unread = unread_kept calls calls_then (came + 1) (came + 1 + 1) unheard (omega arith)
          known.unread;
      heard = heard_around calls calls_then seats seats_then c next changes
          (λ front back was. (
            seats_kept calls calls_then front (λ k some. unheard k),
            seats_kept calls calls_then back (λ k some. unheard k),
          ))
          (λ was. record {
            before = [];
            bytes = (unheard (came + 1)).bytes ∙ unread.0;
            whole = refl;
            spoke = refl;
            ended = (unheard (came + 1)).ended ∙ unread.1;
          })
          known.heard;
    }
