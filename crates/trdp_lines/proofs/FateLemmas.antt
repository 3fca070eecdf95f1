-- Why a connection at a path is closed, and what becomes of the others.
-- For `Path`.
-- By: what is known of the one that has the seat, and of the one that waits.
use Rattle.std.proofs.Common.{◌≡◌, ℕ, ◌<◌, ◌||◌, ◌&&◌, ◌++◌, ◌⊎◌, not, List, [], ◌∷◌}
use Rattle.std.proofs.Common.{true, false, Option, Some, None, set, refl, ap}
use Rattle.std.proofs.Common.{sym, subst, ◌∙◌, inl, inr}
use Rattle.std.specs.Prelude.{is_some}
use Rattle.std.proofs.lemmas.Bool.{and_from, or_from, or_left, or_parts, or_right}
use Rattle.std.proofs.lemmas.List.Folds.{list_any-append}
use Rattle.trdp_lines.specs.declared.rule.Rule.{Rule}
use Rattle.trdp_lines.specs.declared.rule.Rule.TheVariants.{Application, Operators}
use Rattle.trdp_lines.specs.Closings.{FindsNothing, FoundNothing}
use Rattle.trdp_base.specs.Reported.{TellsMore}
use Rattle.trdp_lines.specs.Connections.{Between, ConnectionCall, Closes, Writes}
use Rattle.trdp_lines.specs.Conversations.{ConversationState, conversation_of, is_done}
use Rattle.trdp_lines.specs.Fates.{GoesOn, HasGone, IsBesideLiving}
use Rattle.trdp_lines.specs.Lines.{IsUnended, has_line}
use Rattle.trdp_lines.specs.Paths.{IsWhatWasRead, IsTrueOf}
use Rattle.trdp_lines.specs.Seatings.{IsPath}
use Rattle.trdp_lines.specs.Seats.{free_seat, has_seat, is_of, seat_at, with_waiting}
use Rattle.trdp_lines.specs.Turns.{IsRefused}
use Rattle.trdp_lines.proofs.CallLemmas.{close_quiet, refuse_quiet}
use Rattle.trdp_lines.proofs.ConversationLemmas.{line_in_parts, lives_heard, over_past, silent_past}
use Rattle.trdp_lines.proofs.GoingOnLemmas.{going_ended, going_moved}
use Rattle.trdp_lines.proofs.HadLemmas.{done_over, gone_seat, seat_among}
use Rattle.trdp_lines.proofs.KeptLemmas.{AtPlace}
use Rattle.trdp_lines.proofs.LeftLemmas.{heard_here}
use Rattle.trdp_lines.proofs.PlacesLemmas.{place_changes, place_moves, waiting_changes}
use Rattle.trdp_lines.proofs.ReadLemmas.{first_seat}
use Rattle.trdp_lines.proofs.SeatLemmas.{Changes}
use Rattle.trdp_lines.proofs.SeatedLemmas.{of_seat}
use Rattle.trdp_lines.proofs.TurnLemmas.{unheard_by}

-- why the connection at a seat is closed: it is over; or one waits, and it has said no line, and a
-- read has just found nothing
abbrev pub Why : Option (List ConnectionCall) → (n : ℕ) → ConversationState → (waiting : Option ℕ)
    → Type 0
Why calls n c waiting = (is_done c ≡ true)
    ⊎ ((is_some waiting ≡ true) × (c.spoke ≡ false) × FindsNothing n calls)

-- the connection at the seat that changes has a seat
pub has_here : (n : ℕ) (a b : List ConversationState) (c c_then : ConversationState)
    → Changes a b c c_then → c.number ≡ Some n → has_seat n a ≡ true
has_here n a b c c_then changes number =
    seat_among n a changes.front changes.back c changes.was
    ∙ or_right (has_seat n changes.front) (is_of n c || has_seat n changes.back)
    (or_left (is_of n c) (has_seat n changes.back) (of_seat n c number))

-- the one that waits
waits_of : (waiting : Option ℕ) → is_some waiting ≡ true → (next : ℕ) × (waiting ≡ Some next)
waits_of (Some next) some = (next, refl)
waits_of None some = cc

-- the one that waits came after the one that speaks
waits_behind : (calls : List ConnectionCall) (number : Option ℕ) (n next : ℕ)
    (c : ConversationState) (waiting : Option ℕ) (came : ℕ) → number ≡ Some n
    → waiting ≡ Some next → IsTrueOf calls number c waiting came → n < next
waits_behind calls None n next c waiting came number waits known = cc
waits_behind calls (Some m) n next c None came number waits known = cc
waits_behind calls (Some m) n next c (Some k) came number waits known =
    let mine : m ≡ n = cc in
    let same : k ≡ next = cc in
    subst (λ (j : ℕ). j < next) mine (subst (λ (j : ℕ). m < j) same known.2.behind)

-- the same at a place of a path
behind_at : (calls : List ConnectionCall) (seats : List ConversationState) (place : ℕ)
    (c : ConversationState) (n next : ℕ) (waiting : Option ℕ) (came : ℕ)
    → AtPlace Application seats place c (Some n) → waiting ≡ Some next
    → IsPath Application (Some calls) seats waiting came → n < next
behind_at calls seats place c n next waiting came at waits path =
    let first = first_seat seats place c at.low at.within at.here in
    waits_behind calls (seat_at seats 0).number n next (seat_at seats 0) waiting came
    (ap (λ (s : ConversationState). s.number) first ∙ at.number) waits path.order

-- what is known of the connection at a place
heard_at_place : (rule : Rule) (calls : List ConnectionCall) (seats : List ConversationState)
    (place : ℕ) (c : ConversationState) (n : ℕ) (waiting : Option ℕ) (came : ℕ)
    → AtPlace rule seats place c (Some n) → IsPath rule (Some calls) seats waiting came
    → IsWhatWasRead calls n c
heard_at_place rule calls seats place c n waiting came at path =
    heard_here calls (with_waiting seats waiting) (with_waiting (set seats place free_seat) waiting)
    c free_seat n came (place_changes seats place c free_seat waiting at.within at.here) at.number
    path.places.known

-- the one that waits has a place
waits_placed : (next : ℕ) (seats : List ConversationState) (waiting : Option ℕ)
    → waiting ≡ Some next → has_seat next (with_waiting seats waiting) ≡ true
waits_placed next seats waiting waits =
    has_here next (with_waiting seats waiting) (with_waiting seats None) (conversation_of waiting)
    free_seat (waiting_changes seats waiting None) waits

-- the connection at a place that was closed has left, or gave way
gone_ended : (rule : Rule) (calls calls_then : List ConnectionCall)
    (seats : List ConversationState) (place : ℕ) (c : ConversationState) (n : ℕ)
    (waiting : Option ℕ) (came : ℕ) → AtPlace rule seats place c (Some n) → IsUnended c.bytes
    → Why (Some calls) n c waiting → calls_then ≡ calls ++ Closes n ∷ []
    → IsPath rule (Some calls) seats waiting came → HasGone rule n calls_then
gone_ended Operators calls calls_then seats place c n waiting came at unended why told path =
    elim why [
      | inl done ↦ record {
        before = calls;
        behind = [];
        over = done_over calls n c
            (heard_at_place Operators calls seats place c n waiting came at path) done;
        told = told;
        unread = unheard_by calls calls_then (Closes n ∷ []) (close_quiet n).unheard told n;
      }
      | inr waits ↦
          let some = waits_of waiting waits.0 in
          let never : None ≡ Some some.0 = sym path.order ∙ some.1 in
          cc
    ]
gone_ended Application calls calls_then seats place c n waiting came at unended why told path =
    let heard = heard_at_place Application calls seats place c n waiting came at path in
    elim why [
      | inl done ↦ inl (record {
        before = calls;
        behind = [];
        over = done_over calls n c heard done;
        told = told;
        unread = unheard_by calls calls_then (Closes n ∷ []) (close_quiet n).unheard told n;
      })
      | inr waits ↦
          let some = waits_of waiting waits.0 in
          inr (inl (record {
            before = calls;
            behind = [];
            silent = ap has_line heard.bytes ∙ line_in_parts heard.before c.bytes
                ∙ or_from (has_line heard.before) (has_line c.bytes) (heard.spoke ∙ waits.1) unended;
            asked = waits.2;
            successor = some.0;
            later = behind_at calls seats place c n some.0 waiting came at some.1 path;
            there = path.places.present.there some.0 (waits_placed some.0 seats waiting some.1);
            told = told;
            unread = unheard_by calls calls_then (Closes n ∷ []) (close_quiet n).unheard told n;
          }))
    ]

-- all goes on where the one that waits has the seat of one that was closed
pub fates_ended : (rule : Rule) (calls calls_then : Option (List ConnectionCall))
    (seats : List ConversationState) (place : ℕ) (c : ConversationState) (n : ℕ)
    (waiting : Option ℕ) (came : ℕ) → AtPlace rule seats place c (Some n) → IsUnended c.bytes
    → Why calls n c waiting → TellsMore calls calls_then (Closes n ∷ [])
    → IsPath rule calls seats waiting came → Between (λ old new. GoesOn rule old new
    (with_waiting seats waiting) (with_waiting (set seats place (conversation_of waiting)) None))
    calls calls_then
fates_ended rule calls None seats place c n waiting came at unended why told path = tt
fates_ended rule None (Some calls_then) seats place c n waiting came at unended why told path =
    absurd told
fates_ended rule (Some calls) (Some calls_then) seats place c n waiting came at unended why told
    path =
    going_moved rule calls calls_then (with_waiting seats waiting)
    (with_waiting (set seats place free_seat) waiting)
    (with_waiting (set seats place (conversation_of waiting)) None)
    (place_moves seats place waiting at.within)
    (going_ended rule calls calls_then (Closes n ∷ []) (with_waiting seats waiting)
    (with_waiting (set seats place free_seat) waiting) c n told (close_quiet n)
    (place_changes seats place c free_seat waiting at.within at.here) at.number
    (gone_ended rule calls calls_then seats place c n waiting came at unended why told path))

-- the connection at a place lives, beside the one that waits
beside_living : (calls : List ConnectionCall) (seats : List ConversationState) (place : ℕ)
    (c : ConversationState) (n next came : ℕ) → AtPlace Application seats place c (Some n)
    → c.spoke ≡ true → is_done c ≡ false → FoundNothing n calls
    → IsPath Application (Some calls) seats (Some next) came → IsBesideLiving next calls
beside_living calls seats place c n next came at spoke going asked path = record {
  speaker = n;
  earlier = behind_at calls seats place c n next (Some next) came at refl path;
  living = lives_heard calls n c
      (heard_at_place Application calls seats place c n (Some next) came at path)
      ∙ and_from (c.spoke || has_line c.bytes) (not (is_done c))
      (or_left c.spoke (has_line c.bytes) spoke) (ap not going);
  there = path.places.present.there n (has_here n (with_waiting seats (Some next))
      (with_waiting (set seats place free_seat) (Some next)) c free_seat
      (place_changes seats place c free_seat (Some next) at.within at.here) at.number);
  asked = asked;
}

-- the one that waited was refused, beside an application that lives
gone_refused : (rule : Rule) (calls calls_then : List ConnectionCall)
    (seats : List ConversationState) (place : ℕ) (c : ConversationState) (n next came : ℕ)
    → AtPlace rule seats place c (Some n) → c.spoke ≡ true → is_done c ≡ false
    → FoundNothing n calls → IsRefused next (Some calls) (Some calls_then)
    → IsPath rule (Some calls) seats (Some next) came → HasGone rule next calls_then
gone_refused Operators calls calls_then seats place c n next came at spoke going asked refused path =
    let never : None ≡ Some next = sym path.order in
    cc
gone_refused Application calls calls_then seats place c n next came at spoke going asked refused
    path = inr (inr (record {
      refused = record {
        before = calls;
        behind = [];
        writing = refused.writing;
        busy = refused.busy;
        told = refused.told;
      };
      beside = beside_living calls seats place c n next came at spoke going asked path;
    }))

-- all goes on where it was refused
pub fates_refused : (rule : Rule) (calls calls_then : Option (List ConnectionCall))
    (seats : List ConversationState) (place : ℕ) (c : ConversationState) (n next came : ℕ)
    → AtPlace rule seats place c (Some n) → c.spoke ≡ true → is_done c ≡ false
    → FindsNothing n calls → IsRefused next calls calls_then
    → IsPath rule calls seats (Some next) came → Between (λ old new. GoesOn rule old new
    (with_waiting seats (Some next)) (with_waiting seats None)) calls calls_then
fates_refused rule calls None seats place c n next came at spoke going asked refused path = tt
fates_refused rule None (Some calls_then) seats place c n next came at spoke going asked refused
    path = absurd refused.told
fates_refused rule (Some calls) (Some calls_then) seats place c n next came at spoke going asked
    refused path =
    going_ended rule calls calls_then (Writes next refused.writing ∷ Closes next ∷ [])
    (with_waiting seats (Some next)) (with_waiting seats None) (conversation_of (Some next)) next
    refused.told (refuse_quiet next refused.writing) (waiting_changes seats (Some next) None) refl
    (gone_refused rule calls calls_then seats place c n next came at spoke going asked refused path)

-- one that is closed doesn't live
pub why_past : (calls : Option (List ConnectionCall)) (n : ℕ) (c : ConversationState)
    (waiting : Option ℕ) → IsUnended c.bytes → Why calls n c waiting
    → ((c.spoke || has_line c.bytes) && not (is_done c)) ≡ false
why_past calls n c waiting unended why = elim why [
  | inl done ↦ over_past c done
  | inr waits ↦ silent_past c waits.1 unended
]

-- it has no seat then
pub no_seat_then : (rule : Rule) (calls : Option (List ConnectionCall))
    (seats : List ConversationState) (place : ℕ) (c : ConversationState) (n : ℕ)
    (waiting : Option ℕ) (came : ℕ) → AtPlace rule seats place c (Some n)
    → IsPath rule calls seats waiting came
    → has_seat n (set seats place (conversation_of waiting)) ≡ false
no_seat_then rule calls seats place c n waiting came at path =
    let then = set seats place (conversation_of waiting) in
    let gone = gone_seat (with_waiting seats waiting) (with_waiting (set seats place free_seat) waiting)
    c n came (place_changes seats place c free_seat waiting at.within at.here) at.number
    path.places.seated in
    let parts = or_parts (has_seat n then) (has_seat n (free_seat ∷ []))
    (sym (list_any-append (is_of n) then (free_seat ∷ []))
    ∙ (place_moves seats place waiting at.within).has n ∙ gone) in
    parts.0
