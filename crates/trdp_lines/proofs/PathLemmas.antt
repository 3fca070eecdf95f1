-- What is known of the connections at a path, over the calls that it makes.
-- For `Path`, where an application speaks.
-- By: cases on whether a connection speaks and one waits; only a read adds to what was heard.
use Rattle.std.proofs.Common.{false, ◌≡◌, ◌≢◌, ◌++◌, ℕ, ◌+◌, ◌<◌, ◌≤◌, List, [], ◌∷◌}
use Rattle.std.proofs.Common.{Option, Some, None, refl, ap, ◌∙◌, append_assoc}
use Rattle.std.proofs.Common.{arith}
use Rattle.std.specs.Prelude.{All}
use Rattle.std.proofs.lemmas.List.Elements.{All-nil, All-cons, All-append, All-same, All-weaker}
use Rattle.std.proofs.lemmas.List.Elements.{All-pop, All-head, All-tail}
use Rattle.trdp_lines.specs.declared.connections.Accepted.TheVariants.{Came}
use Rattle.trdp_lines.specs.Connections.{ConnectionCall, Accepts}
use Rattle.trdp_lines.specs.Conversations.{ConversationState, conversation_of}
use Rattle.trdp_lines.specs.Paths.{ArePast, HaveCome, IsWhatWasRead, IsSpeaker, IsTrueOf}
use Rattle.trdp_lines.specs.Paths.{IsUnreadFrom}
use Rattle.trdp_lines.specs.Said.{connections_in, lives}
use Rattle.trdp_lines.specs.Turns.{HasTurn}
use Rattle.trdp_lines.specs.Closings.{IsUnheard}
use Rattle.trdp_lines.proofs.CallLemmas.{AreUnheard, AreQuiet, lives_alike}
use Rattle.trdp_lines.proofs.CallLemmas.{unheard_bytes, unheard_end, unheard_past, unread_past}
use Rattle.trdp_lines.proofs.CallLemmas.{come_by, quiet_come, accept_unheard}

-- what was unread is so after calls by which nothing came
unread_more : (calls more : List ConnectionCall) (bound : ℕ) → AreUnheard more
    → IsUnreadFrom bound calls → IsUnreadFrom bound (calls ++ more)
unread_more calls more bound unheard unread = λ m low. (
  unheard_bytes calls more unheard m ∙ (unread m low).0,
  unheard_end calls more unheard m ∙ (unread m low).1,
)

-- what is unread from a number on is unread from a higher one on
unread_above : (calls : List ConnectionCall) (bound higher : ℕ) → bound ≤ higher
    → IsUnreadFrom bound calls → IsUnreadFrom higher calls
unread_above calls bound higher above unread = λ m low. unread m (omega (arith, above, low))

-- no number is beyond the last one, after more connections too
come_more : (calls more : List ConnectionCall) (came came_then : ℕ) → came ≤ came_then
    → HaveCome came calls → HaveCome came_then more → HaveCome came_then (calls ++ more)
come_more calls more came came_then above have later =
    All-same (λ m. m ≤ came_then) (connections_in (calls ++ more))
    (connections_in calls ++ connections_in more) (come_by calls more)
    (All-append (λ m. m ≤ came_then) (connections_in calls) (connections_in more)
    (All-weaker (λ m. m ≤ came) (λ m. m ≤ came_then) (λ m low. omega (arith, above, low))
    (connections_in calls) have) later)

-- nor after quiet calls
quiet_have_come : (calls more : List ConnectionCall) (came : ℕ) → AreQuiet more
    → HaveCome came calls → HaveCome came (calls ++ more)
quiet_have_come calls more came quiet have = All-same (λ m. m ≤ came)
    (connections_in (calls ++ more)) (connections_in calls) (quiet_come calls more quiet) have

-- a connection is known as it was after calls by which nothing came
heard_more : (calls more : List ConnectionCall) (n : ℕ) (c : ConversationState)
    → AreUnheard more → IsWhatWasRead calls n c → IsWhatWasRead (calls ++ more) n c
heard_more calls more n c unheard heard = record {
  before = heard.before;
  bytes = unheard_bytes calls more unheard n ∙ heard.bytes;
  whole = heard.whole;
  spoke = heard.spoke;
  ended = unheard_end calls more unheard n ∙ heard.ended;
}

-- the one that speaks still does after calls by which nothing came, and only later connections
speaker_more : (calls more : List ConnectionCall) (n : ℕ) (c : ConversationState)
    (came came_then : ℕ) → AreUnheard more → All (λ m. n < m) (connections_in more)
    → came ≤ came_then → IsSpeaker calls n c came → IsSpeaker (calls ++ more) n c came_then
speaker_more calls more n c came came_then unheard above higher speaker = record {
  earlier = speaker.earlier;
  later = speaker.later ++ connections_in more;
  connections = come_by calls more
      ∙ ap (λ (l : List ℕ). l ++ connections_in more) speaker.connections
      ∙ append_assoc speaker.earlier (n ∷ speaker.later) (connections_in more);
  earlier_below = speaker.earlier_below;
  earlier_past = unheard_past calls more unheard speaker.earlier speaker.earlier_past;
  later_above = All-append (λ m. n < m) speaker.later (connections_in more)
      speaker.later_above above;
  unread = unread_more calls more (n + 1) unheard speaker.unread;
  heard = heard_more calls more n c unheard speaker.heard;
  within = omega (arith, higher, speaker.within);
}

-- it does after quiet calls
quiet_speaker : (calls more : List ConnectionCall) (n : ℕ) (c : ConversationState) (came : ℕ)
    → AreQuiet more → IsSpeaker calls n c came → IsSpeaker (calls ++ more) n c came
quiet_speaker calls more n c came quiet speaker =
    speaker_more calls more n c came came quiet.unheard
    (All-same (λ m. n < m) (connections_in more) [] quiet.none_came (All-nil (λ m. n < m)))
    (omega arith) speaker

-- calls by which nothing and no connection came change nothing that is known
pub quiet_true : (calls more : List ConnectionCall) (number : Option ℕ) (c : ConversationState)
    (waiting : Option ℕ) (came : ℕ) → AreQuiet more → IsTrueOf calls number c waiting came
    → IsTrueOf (calls ++ more) number c waiting came
quiet_true calls more None c None came quiet is = (
  quiet_have_come calls more came quiet is.0,
  unread_more calls more (came + 1) quiet.unheard is.1,
  All-same (λ m. lives (calls ++ more) m ≡ false) (connections_in (calls ++ more))
      (connections_in calls) (quiet_come calls more quiet)
      (unheard_past calls more quiet.unheard (connections_in calls) is.2),
)
quiet_true calls more None c (Some next) came quiet is = absurd is
quiet_true calls more (Some n) c None came quiet is = (
  quiet_have_come calls more came quiet is.0,
  quiet_speaker calls more n c came quiet is.1,
)
quiet_true calls more (Some n) c (Some next) came quiet is = (
  quiet_have_come calls more came quiet is.0,
  quiet_speaker calls more n c came quiet is.1,
  record {
    earlier = is.2.earlier;
    connections = quiet_come calls more quiet ∙ is.2.connections;
    earlier_below = is.2.earlier_below;
    behind = is.2.behind;
    within = is.2.within;
  },
)

-- from a connection that just came nothing was read
new_heard : (calls : List ConnectionCall) (n bound : ℕ) → bound ≤ n → IsUnreadFrom bound calls
    → IsWhatWasRead calls n (conversation_of (Some n))
new_heard calls n bound above unread = record {
  before = [];
  bytes = (unread n above).0;
  whole = refl;
  spoke = refl;
  ended = (unread n above).1;
}

-- a connection that came last, and from which nothing was read, speaks
last_speaks : (calls : List ConnectionCall) (earlier : List ℕ) (n bound came : ℕ)
    → connections_in calls ≡ earlier ++ n ∷ [] → All (λ m. m < n) earlier → ArePast calls earlier
    → bound ≤ n → n ≤ came → IsUnreadFrom bound calls
    → IsSpeaker calls n (conversation_of (Some n)) came
last_speaks calls earlier n bound came connections below past above within unread = record {
  earlier = earlier;
  later = [];
  connections = connections;
  earlier_below = below;
  earlier_past = past;
  later_above = All-nil (λ m. n < m);
  unread = unread_above calls bound (n + 1) (omega (arith, above)) unread;
  heard = new_heard calls n bound above unread;
  within = within;
}

-- where the one that speaks lives no longer, none that came does
all_past : (calls : List ConnectionCall) (n : ℕ) (c : ConversationState) (came : ℕ)
    → lives calls n ≡ false → IsSpeaker calls n c came → ArePast calls (connections_in calls)
all_past calls n c came none speaker =
    let later : ArePast calls speaker.later = All-weaker (λ m. n < m) (λ m. lives calls m ≡ false)
    (λ m above. unread_past calls m (speaker.unread m (omega (arith, above))).0)
    speaker.later speaker.later_above in
    All-same (λ m. lives calls m ≡ false) (connections_in calls)
    (speaker.earlier ++ n ∷ speaker.later) speaker.connections
    (All-append (λ m. lives calls m ≡ false) speaker.earlier (n ∷ speaker.later)
    speaker.earlier_past (All-cons (λ m. lives calls m ≡ false) n speaker.later none later))

-- where one lives no longer, the one that waits speaks, or none
pub next_true : (calls : List ConnectionCall) (n : ℕ) (c : ConversationState)
    (waiting : Option ℕ) (came : ℕ) → lives calls n ≡ false
    → IsTrueOf calls (Some n) c waiting came
    → IsTrueOf calls waiting (conversation_of waiting) None came
next_true calls n c None came none is = (
  is.0,
  unread_above calls (n + 1) (came + 1) (omega (arith, is.1.within)) is.1.unread,
  all_past calls n c came none is.1,
)
next_true calls n c (Some next) came none is =
    let past = All-pop (λ m. lives calls m ≡ false) (connections_in calls) is.2.earlier (Some next)
    is.2.connections (all_past calls n c came none is.1) in (
      is.0,
      last_speaks calls is.2.earlier next (n + 1) came is.2.connections is.2.earlier_below past.0
          (omega (arith, is.2.behind)) is.2.within is.1.unread,
    )

-- the one that waits may be closed
pub closed_true : (calls : List ConnectionCall) (n : ℕ) (c : ConversationState)
    (waiting : Option ℕ) (came : ℕ) → IsTrueOf calls (Some n) c waiting came
    → IsTrueOf calls (Some n) c None came
closed_true calls n c None came is = is
closed_true calls n c (Some next) came is = (is.0, is.1)

-- the next connection came
abbrev pub with_next : List ConnectionCall → ℕ → List ConnectionCall
with_next calls came = calls ++ Accepts (came + 1) Came ∷ []

-- the next connection has the next number
next_have_come : (calls : List ConnectionCall) (came : ℕ) → HaveCome came calls
    → HaveCome (came + 1) (with_next calls came)
next_have_come calls came have = come_more calls (Accepts (came + 1) Came ∷ []) came (came + 1)
    (omega arith) have (All-cons (λ m. m ≤ came + 1) (came + 1) [] (omega arith)
    (All-nil (λ m. m ≤ came + 1)))

-- all that came before it have lower ones
come_below : (calls : List ConnectionCall) (came : ℕ) → HaveCome came calls
    → All (λ m. m < came + 1) (connections_in calls)
come_below calls came have = All-weaker (λ m. m ≤ came) (λ m. m < came + 1)
    (λ m low. omega (arith, low)) (connections_in calls) have

-- where no connection speaks, it does
pub first_true : (calls : List ConnectionCall) (c : ConversationState) (came : ℕ)
    → IsTrueOf calls None c None came → IsTrueOf (with_next calls came) (Some (came + 1))
    (conversation_of (Some (came + 1))) None (came + 1)
first_true calls c came is = (
  next_have_come calls came is.0,
  last_speaks (with_next calls came) (connections_in calls) (came + 1) (came + 1) (came + 1)
      (come_by calls (Accepts (came + 1) Came ∷ [])) (come_below calls came is.0)
      (unheard_past calls (Accepts (came + 1) Came ∷ []) (accept_unheard (came + 1) Came)
      (connections_in calls) is.2) (omega arith) (omega arith)
      (unread_more calls (Accepts (came + 1) Came ∷ []) (came + 1)
      (accept_unheard (came + 1) Came) is.1),
)

-- where one speaks it waits
pub behind_true : (calls : List ConnectionCall) (n : ℕ) (c : ConversationState) (came : ℕ)
    → IsTrueOf calls (Some n) c None came
    → IsTrueOf (with_next calls came) (Some n) c (Some (came + 1)) (came + 1)
behind_true calls n c came is =
    let above : n < came + 1 = omega (arith, is.1.within) in (
      next_have_come calls came is.0,
      speaker_more calls (Accepts (came + 1) Came ∷ []) n c came (came + 1)
          (accept_unheard (came + 1) Came)
          (All-cons (λ m. n < m) (came + 1) [] above (All-nil (λ m. n < m)))
          (omega arith) is.1,
      record {
        earlier = connections_in calls;
        connections = come_by calls (Accepts (came + 1) Came ∷ []);
        earlier_below = come_below calls came is.0;
        behind = above;
        within = omega arith;
      },
    )

-- what is known of the one that speaks
pub speaker_of : (calls : List ConnectionCall) (n : ℕ) (c : ConversationState)
    (waiting : Option ℕ) (came : ℕ) → IsTrueOf calls (Some n) c waiting came
    → IsSpeaker calls n c came
speaker_of calls n c None came is = is.1
speaker_of calls n c (Some next) came is = is.1

-- those that didn't live don't live after a turn of another
pub turn_past : (calls calls_then : List ConnectionCall) (n : ℕ) (ns : List ℕ)
    → ((k : ℕ) → k ≢ n → IsUnheard calls calls_then k) → All (λ m. m < n) ns
    → ArePast calls ns → ArePast calls_then ns
turn_past calls calls_then n [] others below past = All-nil (λ m. lives calls_then m ≡ false)
turn_past calls calls_then n (m ∷ ns) others below past =
    let low = All-head (λ m. m < n) m ns below in
    let unheard = others m (λ same. omega (arith, low, same)) in
    All-cons (λ m. lives calls_then m ≡ false) m ns
    (lives_alike calls calls_then m unheard.bytes unheard.ended
    ∙ All-head (λ m. lives calls m ≡ false) m ns past)
    (turn_past calls calls_then n ns others (All-tail (λ m. m < n) m ns below)
    (All-tail (λ m. lives calls m ≡ false) m ns past))

-- the one that speaks still does after its turn
unfoldable pub turn_speaker : (calls calls_then : List ConnectionCall) (n : ℕ) (c c_then : ConversationState)
    (lines : List (List ℕ)) (came : ℕ) → HasTurn n calls calls_then c c_then lines
    → IsSpeaker calls n c came → IsSpeaker calls_then n c_then came
turn_speaker calls calls_then n c c_then lines came turn speaker = record {
  earlier = speaker.earlier;
  later = speaker.later;
  connections = turn.come ∙ speaker.connections;
  earlier_below = speaker.earlier_below;
  earlier_past = turn_past calls calls_then n speaker.earlier turn.others speaker.earlier_below
      speaker.earlier_past;
  later_above = speaker.later_above;
  unread = λ m low.
      let unheard = turn.others m (λ same. omega (arith, low, same)) in (
        unheard.bytes ∙ (speaker.unread m low).0,
        unheard.ended ∙ (speaker.unread m low).1,
      );
  heard = (turn.own speaker.heard).heard;
  within = speaker.within;
}

-- so all that is known is known after it
pub turn_true : (calls calls_then : List ConnectionCall) (n : ℕ) (c c_then : ConversationState)
    (lines : List (List ℕ)) (waiting : Option ℕ) (came : ℕ)
    → HasTurn n calls calls_then c c_then lines → IsTrueOf calls (Some n) c waiting came
    → IsTrueOf calls_then (Some n) c_then waiting came
turn_true calls calls_then n c c_then lines None came turn is = (
  All-same (λ m. m ≤ came) (connections_in calls_then) (connections_in calls) turn.come is.0,
  turn_speaker calls calls_then n c c_then lines came turn is.1,
)
turn_true calls calls_then n c c_then lines (Some next) came turn is = (
  All-same (λ m. m ≤ came) (connections_in calls_then) (connections_in calls) turn.come is.0,
  turn_speaker calls calls_then n c c_then lines came turn is.1,
  record {
    earlier = is.2.earlier;
    connections = turn.come ∙ is.2.connections;
    earlier_below = is.2.earlier_below;
    behind = is.2.behind;
    within = is.2.within;
  },
)
