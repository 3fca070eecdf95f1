-- What a path does by its steps, one after another.
-- For `Path`.
-- By: what each step hands in, what becomes of the connections, and what is heard.
use Rattle.std.proofs.Common.{◌≡◌, ℕ, ◌≤◌, ◌||◌, ◌&&◌, ◌++◌, List, [], ◌∷◌, Bool, true, false}
use Rattle.std.proofs.Common.{Option, Some, None, set, take, map, refl, ap, sym, subst, ◌∙◌, arith}
use Rattle.std.proofs.Math.Bool.{or_assoc}
use Rattle.std.proofs.lemmas.List.{length-set}
use Rattle.std.proofs.lemmas.List.Folds.{list_any-append}
use Rattle.trdp_lines.specs.declared.rule.Rule.{Rule}
use Rattle.trdp_base.specs.Reported.{TellsMore}
use Rattle.trdp_lines.specs.Connections.{Between, ConnectionCall, Closes, Writes}
use Rattle.trdp_lines.specs.Conversations.{ConversationState, HasWritten, conversation_of, is_done}
use Rattle.trdp_lines.specs.Closings.{FindsNothing}
use Rattle.trdp_lines.specs.Fates.{GoesOn}
use Rattle.trdp_lines.specs.Hearings.{brings, has_brought}
use Rattle.trdp_lines.specs.Lines.{IsUnended, behind_line, first_line, has_line}
use Rattle.trdp_lines.specs.Paths.{HandsEnd}
use Rattle.trdp_lines.specs.Said.{Said, end_if, reset_line, said_by}
use Rattle.trdp_lines.specs.Seatings.{AreSeated, AreTrueIfTold, IsPath}
use Rattle.trdp_lines.specs.Seats.{PathState, counts_ends, has_seat, places_of, with_waiting}
use Rattle.trdp_lines.specs.Steps.{Finds, FindsIf, Goes, end_at}
use Rattle.trdp_lines.specs.Turns.{HasTurn, HasTurnIfTold, IsRefused}
use Rattle.trdp_lines.proofs.BetweenLemmas.{between_next, between_then}
use Rattle.trdp_lines.proofs.BetweenLemmas.{tells_nothing, told_next}
use Rattle.trdp_lines.proofs.CallLemmas.{or_false, refuse_quiet}
use Rattle.trdp_lines.proofs.FateLemmas.{Why, fates_ended, fates_refused}
use Rattle.trdp_lines.proofs.GoingOnLemmas.{going_next, going_none, going_turn}
use Rattle.trdp_lines.proofs.GiveLemmas.{seat_there}
use Rattle.trdp_lines.proofs.HadLemmas.{never_both}
use Rattle.trdp_lines.proofs.HearingLemmas.{writes_hear}
use Rattle.trdp_lines.proofs.KeptLemmas.{AtPlace}
use Rattle.trdp_lines.proofs.SeatedLemmas.{number_low}
use Rattle.trdp_lines.proofs.OrderLemmas.{texts_ended, texts_next, texts_quiet, texts_turn}
use Rattle.trdp_lines.proofs.PlacesLemmas.{place_changes}
use Rattle.trdp_lines.proofs.ReadLemmas.{seat_set}
use Rattle.trdp_lines.proofs.SeatLemmas.{heard_front, seats_of-append}
use Rattle.trdp_lines.proofs.TurnLemmas.{line_turn, written_turn}

-- all goes on between the same calls
none_between : (rule : Rule) (calls : Option (List ConnectionCall))
    (places : List ConversationState) → Between (λ old new. GoesOn rule old new places places)
    calls calls
none_between rule None places = tt
none_between rule (Some calls) places = going_none rule calls places

-- each connection has one of the seats at most, beside the one that waits
pub seated_front : (seats : List ConversationState) (waiting : Option ℕ) (came : ℕ)
    → AreSeated (with_waiting seats waiting) came → AreSeated seats came
seated_front seats waiting came seated =
    let last = conversation_of waiting ∷ [] in
    record {
      once = λ n.
          let one = subst (λ (m : ℕ). m ≤ 1) (seats_of-append n seats last) (seated.once n) in
          omega (arith, one);
      below = λ n above.
          let none = sym (seats_of-append n seats last) ∙ seated.below n above in
          omega (arith, none);
    }

-- what is known of them, too
pub known_front : (calls : Option (List ConnectionCall)) (seats : List ConversationState)
    (waiting : Option ℕ) (came : ℕ) → AreTrueIfTold calls (with_waiting seats waiting) came
    → AreTrueIfTold calls seats came
known_front None seats waiting came known = tt
known_front (Some calls) seats waiting came known = record {
  unread = known.unread;
  heard = heard_front calls seats (conversation_of waiting ∷ []) known.heard;
}

-- nothing was asked
pub goes_none : {C : Type 0} (rule : Rule) (calls_of : C → Option (List ConnectionCall))
    (path : PathState C) → Goes rule calls_of path path []
goes_none rule calls_of path =
    let calls = calls_of path.connections in
    record {
      more = [];
      told = tells_nothing calls;
      handed_in = texts_quiet rule calls calls [] path.seats path.seats (tells_nothing calls)
          (record {
            unheard = record { bytes = λ n. refl; ended = λ n. refl };
            none_came = refl;
          }) (λ n. refl);
      fates = none_between rule calls (places_of path);
      came = refl;
      hears = sym (or_false path.heard);
    }

-- one step after another
pub goes_next : {C : Type 0} (rule : Rule) (calls_of : C → Option (List ConnectionCall))
    (a b c : PathState C) (texts : List Said) → Goes rule calls_of a b []
    → Goes rule calls_of b c texts → Goes rule calls_of a c texts
goes_next rule calls_of a b c texts first second =
    let one = calls_of a.connections in
    let two = calls_of b.connections in
    let three = calls_of c.connections in
    record {
      more = first.more ++ second.more;
      told = told_next one two three first.more second.more first.told second.told;
      handed_in = texts_next rule one two three a.seats b.seats c.seats texts first.handed_in
          second.handed_in;
      fates = between_next (λ old new. GoesOn rule old new (places_of a) (places_of b))
          (λ old new. GoesOn rule old new (places_of b) (places_of c))
          (λ old new. GoesOn rule old new (places_of a) (places_of c)) one two three first.fates
          second.fates (λ x y z before behind. going_next rule x y z (places_of a) (places_of b)
          (places_of c) before behind);
      came = second.came ∙ first.came;
      hears = second.hears ∙ ap (λ (b : Bool). b || has_brought second.more) first.hears
          ∙ or_assoc a.heard (has_brought first.more) (has_brought second.more)
          ∙ ap (λ (b : Bool). a.heard || b)
          (sym (list_any-append brings first.more second.more));
    }

-- what is found after a step that hands in nothing
pub finds_next : {C : Type 0} (rule : Rule) (calls_of : C → Option (List ConnectionCall))
    (a b c : PathState C) (room : ℕ) (found : Option (ℕ × ℕ)) (room_then : List ℕ)
    → Goes rule calls_of a b [] → FindsIf rule calls_of b c room found room_then
    → FindsIf rule calls_of a c room found room_then
finds_next rule calls_of a b c room None room_then first second =
    goes_next rule calls_of a b c [] first second
finds_next rule calls_of a b c room (Some found) room_then first second = record {
  text = second.text;
  goes = goes_next rule calls_of a b c ((found.0, second.text) ∷ []) first second.goes;
  bytes = second.bytes;
  gone = second.gone;
  low = second.low;
}

-- the turn of the connection at a place
pub goes_turn : {C : Type 0} (rule : Rule) (calls_of : C → Option (List ConnectionCall))
    (path : PathState C) (then : C) (place : ℕ) (c c_then : ConversationState) (n : ℕ)
    (lines : List (List ℕ)) (more : List ConnectionCall) (heard_then : Bool)
    → AtPlace rule path.seats place c (Some n) → c_then.number ≡ c.number
    → HasTurnIfTold n (calls_of path.connections) (calls_of then) c c_then lines
    → TellsMore (calls_of path.connections) (calls_of then) more
    → heard_then ≡ (path.heard || has_brought more)
    → IsPath rule (calls_of path.connections) path.seats path.waiting path.came
    → Goes rule calls_of path (record path {
      connections = then;
      seats = set path.seats place c_then;
      heard = heard_then;
    }) (said_by n lines)
goes_turn rule calls_of path then place c c_then n lines more heard_then at kept turn told hears
    holds =
    let old = calls_of path.connections in
    let new = calls_of then in
    record {
      more = more;
      told = told;
      handed_in = texts_turn rule old new path.seats place c c_then n path.waiting path.came lines
          at.low at.within at.here at.number kept turn (seated_front path.seats path.waiting
          path.came holds.places.seated) (known_front old path.seats path.waiting path.came
          holds.places.known) holds.order;
      fates = between_then (λ told told_then. HasTurn n told told_then c c_then lines)
          (λ told told_then. GoesOn rule told told_then (with_waiting path.seats path.waiting)
          (with_waiting (set path.seats place c_then) path.waiting)) old new turn
          (λ told told_then had. going_turn rule told told_then
          (with_waiting path.seats path.waiting)
          (with_waiting (set path.seats place c_then) path.waiting) c c_then n lines
          (place_changes path.seats place c c_then path.waiting at.within at.here) at.number kept
          had);
      came = refl;
      hears = hears;
    }

-- the connection at a place is closed, and the one that waits has its seat
pub goes_ended : {C : Type 0} (rule : Rule) (calls_of : C → Option (List ConnectionCall))
    (path : PathState C) (then : C) (place : ℕ) (c : ConversationState) (n : ℕ)
    → AtPlace rule path.seats place c (Some n) → IsUnended c.bytes
    → Why (calls_of path.connections) n c path.waiting
    → TellsMore (calls_of path.connections) (calls_of then) (Closes n ∷ [])
    → IsPath rule (calls_of path.connections) path.seats path.waiting path.came
    → Goes rule calls_of path (record path {
      connections = then;
      seats = set path.seats place (conversation_of path.waiting);
      waiting = None;
    }) (end_at rule n c)
goes_ended rule calls_of path then place c n at unended why told holds =
    let old = calls_of path.connections in
    let new = calls_of then in
    record {
      more = Closes n ∷ [];
      told = told;
      handed_in = texts_ended rule old new path.seats place c n path.waiting at.low at.within at.here
          at.number unended told;
      fates = fates_ended rule old new path.seats place c n path.waiting path.came at unended why told
          holds;
      came = refl;
      hears = sym (or_false path.heard);
    }

-- the one that waits is refused, beside the connection at a place
pub goes_refused : {C : Type 0} (rule : Rule) (calls_of : C → Option (List ConnectionCall))
    (path : PathState C) (then : C) (place : ℕ) (c : ConversationState) (n next : ℕ)
    → AtPlace rule path.seats place c (Some n) → path.waiting ≡ Some next → c.spoke ≡ true
    → is_done c ≡ false → FindsNothing n (calls_of path.connections)
    → IsRefused next (calls_of path.connections) (calls_of then)
    → IsPath rule (calls_of path.connections) path.seats path.waiting path.came
    → Goes rule calls_of path (record path { connections = then; waiting = None }) []
goes_refused rule calls_of path then place c n next at waits spoke going asked refused holds =
    let old = calls_of path.connections in
    let new = calls_of then in
    let more = Writes next refused.writing ∷ Closes next ∷ [] in
    record {
      more = more;
      told = refused.told;
      handed_in = texts_quiet rule old new more path.seats path.seats refused.told
          (refuse_quiet next refused.writing) (λ k. refl);
      fates = subst (λ (o : Option ℕ). Between (λ told told_then. GoesOn rule told told_then
          (with_waiting path.seats o) (with_waiting path.seats None)) old new) (sym waits)
          (fates_refused rule old new path.seats place c n next path.came at spoke going asked
          refused (subst (λ (o : Option ℕ). IsPath rule old path.seats o path.came) waits holds));
      came = refl;
      hears = sym (or_false path.heard);
    }

-- where ends don't count, or the connection has said no line, none is handed in
end_none : (n : ℕ) (over counts : Bool) → counts ≡ false → end_if n over counts ≡ []
end_none n true false is = refl
end_none n false false is = refl
end_none n over true is = cc

-- the end of one that was closed is found, if it counts
pub end_finds : {C : Type 0} (rule : Rule) (calls_of : C → Option (List ConnectionCall))
    (path path_then : PathState C) (n : ℕ) (c : ConversationState) (room : ℕ)
    (found : Option (ℕ × ℕ)) (room_then : List ℕ) → Goes rule calls_of path path_then (end_at rule n c)
    → is_done c ≡ true → HandsEnd n (counts_ends rule && c.spoke) room found room_then
    → n ≤ path_then.came → FindsIf rule calls_of path path_then room found room_then
end_finds rule calls_of path path_then n c room None room_then goes done told low =
    subst (Goes rule calls_of path path_then) (end_none n (is_done c) (counts_ends rule && c.spoke) told)
    goes
end_finds rule calls_of path path_then n c room (Some found) room_then goes done told low =
    let text : end_at rule n c ≡ (found.0, reset_line) ∷ [] =
    ap (λ (b : Bool). end_if n b (counts_ends rule && c.spoke)) done
    ∙ ap (λ (b : Bool). end_if n true b) told.0
    ∙ ap (λ (m : ℕ). (m, reset_line) ∷ []) (sym told.1) in
    record {
      text = reset_line;
      goes = subst (Goes rule calls_of path path_then) text goes;
      bytes = told.2;
      gone = λ none. told.2;
      low = subst (λ (m : ℕ). m ≤ path_then.came) (sym told.1) low;
    }

-- the connection at a place came
pub low_of : (rule : Rule) (calls : Option (List ConnectionCall)) (seats : List ConversationState)
    (place : ℕ) (c : ConversationState) (n : ℕ) (waiting : Option ℕ) (came : ℕ)
    → AtPlace rule seats place c (Some n) → IsPath rule calls seats waiting came → n ≤ came
low_of rule calls seats place c n waiting came at holds =
    number_low seats place c (Some n) came at.within at.here at.number
    (seated_front seats waiting came holds.places.seated)

-- the next line of the connection at a place is found
pub line_finds : {C : Type 0} (rule : Rule) (calls_of : C → Option (List ConnectionCall))
    (path : PathState C) (place : ℕ) (c c_then : ConversationState) (n : ℕ) (room count : ℕ)
    (room_then : List ℕ) → AtPlace rule path.seats place c (Some n) → has_line c.bytes ≡ true
    → take count room_then ≡ take room (first_line c.bytes)
    → c_then ≡ record c { bytes = behind_line c.bytes; spoke = true }
    → IsPath rule (calls_of path.connections) path.seats path.waiting path.came
    → Finds rule calls_of path (record path { seats = set path.seats place c_then }) room (n, count)
    room_then
line_finds rule calls_of path place c c_then n room count room_then at has bytes is holds =
    let calls = calls_of path.connections in
    let kept = ap (λ (s : ConversationState). s.number) is in
    record {
      text = first_line c.bytes;
      goes = goes_turn rule calls_of path path.connections place c c_then n (first_line c.bytes ∷ []) []
          path.heard at kept (line_turn n calls c c_then has is) (tells_nothing calls)
          (sym (or_false path.heard)) holds;
      bytes = bytes;
      gone = λ none. never_both (has_seat n (set path.seats place c_then))
          (seat_there (set path.seats place c_then) place n
          (rw (length-set path.seats place c_then) at.within)
          (ap (λ (s : ConversationState). s.number) (seat_set path.seats place c_then at.within)
          ∙ kept ∙ at.number)) none;
      low = low_of rule calls path.seats place c n path.waiting path.came at holds;
    }

-- a turn of writes to the connection at a place
pub goes_written : {C : Type 0} (rule : Rule) (calls_of : C → Option (List ConnectionCall))
    (path : PathState C) (then : C) (place : ℕ) (c c_then : ConversationState) (n : ℕ)
    (texts : List (List ℕ)) → AtPlace rule path.seats place c (Some n)
    → HasWritten n texts c c_then (calls_of path.connections) (calls_of then)
    → IsPath rule (calls_of path.connections) path.seats path.waiting path.came
    → Goes rule calls_of path (record path {
      connections = then;
      seats = set path.seats place c_then;
    }) []
goes_written rule calls_of path then place c c_then n texts at written holds =
    let kept = ap (λ (s : ConversationState). s.number) written.written in
    goes_turn rule calls_of path then place c c_then n [] (map (Writes n) written.writings)
    path.heard at kept
    (written_turn n (calls_of path.connections) (calls_of then) c c_then texts written) written.told
    (writes_hear n written.writings path.heard) holds

-- one that goes on has no end
pub going_no_end : (rule : Rule) (n : ℕ) (c : ConversationState) → is_done c ≡ false
    → end_at rule n c ≡ []
going_no_end rule n c going =
    ap (λ (b : Bool). end_if n b (counts_ends rule && c.spoke)) going
