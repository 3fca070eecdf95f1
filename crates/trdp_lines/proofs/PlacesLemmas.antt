-- The places of a path, after one of its seats changes.
-- For `Path`.
-- By: what is around the seat; the one that waits has a place as if it had a seat.
use Rattle.std.proofs.Common.{◌≡◌, ℕ, suc, ◌+◌, ◌<◌, ◌≤◌, ◌==◌, ◌≢◌, ◌||◌, ◌++◌, ◌⊎◌, List, []}
use Rattle.std.proofs.Common.{◌∷◌, Bool, true, false, Option, Some, None, length, set, get_or}
use Rattle.std.proofs.Common.{take, drop, if◌then◌else◌, refl, ap, sym, subst, ◌∙◌, append_assoc}
use Rattle.std.proofs.Common.{arith, inl, inr}
use Rattle.std.proofs.lemmas.Bool.{cases_lt, eqb-true}
use Rattle.std.proofs.lemmas.List.{set_split}
use Rattle.std.proofs.lemmas.List.Folds.{list_any-append}
use Rattle.trdp_lines.specs.declared.connections.Accepted.TheVariants.{Came}
use Rattle.trdp_lines.specs.Closings.{AreOpen, was_closed}
use Rattle.trdp_base.specs.Reported.{TellsMore}
use Rattle.trdp_lines.specs.Connections.{ConnectionCall, Accepts}
use Rattle.trdp_lines.specs.Conversations.{ConversationState, conversation_of}
use Rattle.trdp_lines.specs.Seatings.{AreHeard, ArePlaces, AreSeated, AreTrueOf}
use Rattle.trdp_lines.specs.Seats.{free_seat, has_seat, is_of, seats_of, with_waiting}
use Rattle.trdp_lines.specs.Turns.{HasTurn, HasTurnIfTold}
use Rattle.trdp_lines.proofs.BetweenLemmas.{known_between, known_then}
use Rattle.trdp_lines.proofs.CallLemmas.{AreUnheard, accept_unheard}
use Rattle.trdp_lines.proofs.ClosingLemmas.{open_kept, open_next}
use Rattle.trdp_lines.proofs.HadLemmas.{gone_seat, had_seat, never_both, same_seats, unseated}
use Rattle.trdp_lines.proofs.KnownLemmas.{known_closed, known_quiet, known_seated, known_turn}
use Rattle.trdp_lines.proofs.SeatLemmas.{Changes, changes_at, heard_back, heard_both, heard_front}
use Rattle.trdp_lines.proofs.SeatLemmas.{seats_of-append}
use Rattle.trdp_lines.proofs.SeatedLemmas.{alone, seated_closed, seated_more, seated_next}
use Rattle.trdp_lines.proofs.SeatedLemmas.{seated_turn}
use Rattle.trdp_lines.proofs.TurnLemmas.{unheard_by}

-- two seats were exchanged: the same connections have seats, and the same is known of them
pub record Moves (a b : List ConversationState) : Type 0 where
  pub has : (n : ℕ) → has_seat n b ≡ has_seat n a
  pub count : (n : ℕ) → seats_of n b ≡ seats_of n a
  pub heard : (calls : List ConnectionCall) → AreHeard calls a → AreHeard calls b

-- of four tests two are exchanged
or_moves : (f x b y : Bool)
    → (f || (y || (b || (x || false)))) ≡ (f || (x || (b || (y || false))))
or_moves true x b y = refl
or_moves false true true true = refl
or_moves false true true false = refl
or_moves false true false true = refl
or_moves false true false false = refl
or_moves false false true true = refl
or_moves false false true false = refl
or_moves false false false true = refl
or_moves false false false false = refl

-- the seats of a connection around two
seats_of_both : (n : ℕ) (front back : List ConversationState) (x y : ConversationState)
    → seats_of n (front ++ x ∷ (back ++ y ∷ []))
    ≡ seats_of n front + ((if is_of n x then 1 else 0) + (seats_of n back
    + ((if is_of n y then 1 else 0) + 0)))
seats_of_both n front back x y =
    seats_of-append n front (x ∷ (back ++ y ∷ []))
    ∙ ap (λ (m : ℕ). seats_of n front + ((if is_of n x then 1 else 0) + m))
    (seats_of-append n back (y ∷ []))

-- sums of four of which two are exchanged
sum_moves : (f x b y : ℕ) → f + (y + (b + (x + 0))) ≡ f + (x + (b + (y + 0)))
sum_moves f x b y = omega arith

-- two seats with others before and between them
moves : (front back : List ConversationState) (x y : ConversationState)
    → Moves (front ++ x ∷ (back ++ y ∷ [])) (front ++ y ∷ (back ++ x ∷ []))
moves front back x y = record {
  has = λ n.
      let around : (a b : ConversationState) → has_seat n (front ++ a ∷ (back ++ b ∷ []))
      ≡ (has_seat n front || (is_of n a || (has_seat n back || (is_of n b || false)))) = λ a b.
      list_any-append (is_of n) front (a ∷ (back ++ b ∷ []))
      ∙ ap (λ (t : Bool). has_seat n front || (is_of n a || t))
      (list_any-append (is_of n) back (b ∷ [])) in
      around y x ∙ or_moves (has_seat n front) (is_of n x) (has_seat n back) (is_of n y)
      ∙ sym (around x y);
  count = λ n. seats_of_both n front back y x
      ∙ sum_moves (seats_of n front) (if is_of n x then 1 else 0) (seats_of n back)
      (if is_of n y then 1 else 0)
      ∙ sym (seats_of_both n front back x y);
  heard = λ calls heard.
      let behind = heard_back calls front (x ∷ (back ++ y ∷ [])) heard in
      let last = heard_back calls back (y ∷ []) behind.1 in
      heard_both calls front (y ∷ (back ++ x ∷ []))
      (heard_front calls front (x ∷ (back ++ y ∷ [])) heard) (
        last.0,
        heard_both calls back (x ∷ []) (heard_front calls back (y ∷ []) behind.1)
            (behind.0, tt),
      );
}

-- a seat at a place changes among the places
pub place_changes : (seats : List ConversationState) (place : ℕ) (c c_then : ConversationState)
    (waiting : Option ℕ) → place < length seats → c ≡ get_or seats place c
    → Changes (with_waiting seats waiting) (with_waiting (set seats place c_then) waiting) c c_then
place_changes seats place c c_then waiting within here =
    let changes = changes_at seats place c c_then within here in
    let last = conversation_of waiting ∷ [] in
    record {
      front = changes.front;
      back = changes.back ++ last;
      was = ap (λ (l : List ConversationState). l ++ last) changes.was
          ∙ append_assoc changes.front (c ∷ changes.back) last;
      is = ap (λ (l : List ConversationState). l ++ last) changes.is
          ∙ append_assoc changes.front (c_then ∷ changes.back) last;
    }

-- the one that waits changes
pub waiting_changes : (seats : List ConversationState) (waiting waiting_then : Option ℕ)
    → Changes (with_waiting seats waiting) (with_waiting seats waiting_then)
    (conversation_of waiting) (conversation_of waiting_then)
waiting_changes seats waiting waiting_then = record {
  front = seats;
  back = [];
  was = refl;
  is = refl;
}

-- the one that waits has a seat then that was free
pub place_moves : (seats : List ConversationState) (place : ℕ) (waiting : Option ℕ)
    → place < length seats
    → Moves (with_waiting (set seats place free_seat) waiting)
    (with_waiting (set seats place (conversation_of waiting)) None)
place_moves seats place waiting within =
    let front = take place seats in
    let back = drop (suc place) seats in
    let next = conversation_of waiting in
    let split : (x y : ConversationState)
    → set seats place x ++ y ∷ [] ≡ front ++ x ∷ (back ++ y ∷ []) = λ x y.
    ap (λ (l : List ConversationState). l ++ y ∷ []) (set_split seats place x within)
    ∙ append_assoc front (x ∷ back) (y ∷ []) in
    subst (λ (a : List ConversationState). Moves a (with_waiting (set seats place next) None))
    (sym (split free_seat next)) (subst (λ (b : List ConversationState).
    Moves (front ++ free_seat ∷ (back ++ next ∷ [])) b) (sym (split next free_seat))
    (moves front back free_seat next))

-- after a turn of one of the connections
pub places_turn : (calls calls_then : Option (List ConnectionCall))
    (places places_then : List ConversationState) (c c_then : ConversationState) (n came : ℕ)
    (lines : List (List ℕ)) → Changes places places_then c c_then → c.number ≡ Some n
    → c_then.number ≡ c.number → HasTurnIfTold n calls calls_then c c_then lines
    → ArePlaces calls places came → ArePlaces calls_then places_then came
places_turn calls calls_then places places_then c c_then n came lines changes number kept turn all =
    record {
      seated = seated_turn places places_then c c_then came changes kept all.seated;
      present = known_between (λ told. AreOpen told (λ k. has_seat k places) came)
          (λ told. AreOpen told (λ k. has_seat k places_then) came)
          (λ old new. HasTurn n old new c c_then lines) calls calls_then turn all.present
          (λ old new had was. open_kept (Some old) (Some new) had.more (λ k. has_seat k places)
          (λ k. has_seat k places_then) came came had.told (omega arith)
          (λ k some. (
            had.unclosed k,
            sym (same_seats k places places_then c c_then changes kept) ∙ some,
          )) (λ k above. had.unclosed k) was);
      known = known_between (λ told. AreTrueOf told places came)
          (λ told. AreTrueOf told places_then came)
          (λ old new. HasTurn n old new c c_then lines) calls calls_then turn all.known
          (λ old new had was. known_turn old new places places_then c c_then n came lines changes
          number (kept ∙ number) had all.seated was);
    }

-- one that has a place after another one was closed had one
other_closed : (k n : ℕ) (places places_then : List ConversationState) (c : ConversationState)
    (came : ℕ) → Changes places places_then c free_seat → c.number ≡ Some n
    → AreSeated places came → has_seat k places_then ≡ true → (k ≢ n) × (has_seat k places ≡ true)
other_closed k n places places_then c came changes number seated some = (
  λ same. never_both (has_seat k places_then) some
      (subst (λ (m : ℕ). has_seat m places_then ≡ false) (sym same)
      (gone_seat places places_then c n came changes number seated)),
  had_seat k places places_then c free_seat changes refl some,
)

-- after one of the connections was closed
pub places_ended : (calls calls_then : Option (List ConnectionCall)) (more : List ConnectionCall)
    (places places_then : List ConversationState) (c : ConversationState) (n came : ℕ)
    → TellsMore calls calls_then more → AreUnheard more
    → ((k : ℕ) → k ≢ n → was_closed k more ≡ false) → Changes places places_then c free_seat
    → c.number ≡ Some n → ArePlaces calls places came → ArePlaces calls_then places_then came
places_ended calls calls_then more places places_then c n came told unheard others changes number
    all =
    let one = alone places changes.front changes.back c n came changes.was number all.seated in
    record {
      seated = seated_closed places places_then c came changes all.seated;
      present = open_kept calls calls_then more (λ k. has_seat k places)
          (λ k. has_seat k places_then) came came told (omega arith) (λ k some.
          let other = other_closed k n places places_then c came changes number all.seated some in
          (others k other.0, other.1)) (λ k above. others k (λ same.
          omega (arith, one.within, above, same))) all.present;
      known = known_then (λ calls. AreTrueOf calls places came)
          (λ calls. AreTrueOf calls places_then came) calls calls_then more told all.known
          (λ old new is was. known_closed old new places places_then c came changes
          (unheard_by old new more unheard is) was);
    }

-- after two of them were exchanged
pub places_moved : (calls : Option (List ConnectionCall)) (a b : List ConversationState)
    (came : ℕ) → Moves a b → ArePlaces calls a came → ArePlaces calls b came
places_moved None a b came moved all = record {
  seated = record {
    once = λ n. subst (λ (m : ℕ). m ≤ 1) (sym (moved.count n)) (all.seated.once n);
    below = λ n above. moved.count n ∙ all.seated.below n above;
  };
  present = tt;
  known = tt;
}
places_moved (Some calls) a b came moved all = record {
  seated = record {
    once = λ n. subst (λ (m : ℕ). m ≤ 1) (sym (moved.count n)) (all.seated.once n);
    below = λ n above. moved.count n ∙ all.seated.below n above;
  };
  present = record {
    there = λ n some. all.present.there n (sym (moved.has n) ∙ some);
    later = all.present.later;
  };
  known = record {
    unread = all.known.unread;
    heard = moved.heard calls all.known.heard;
  };
}

-- one that has a place after the next connection got one is that connection, or had one
placed_next : (is : Bool) (k : ℕ) (places places_then : List ConversationState)
    (c : ConversationState) (came : ℕ)
    → Changes places places_then c (conversation_of (Some (came + 1))) → came + 1 == k ≡ is
    → has_seat k places_then ≡ true → (has_seat k places ≡ true) ⊎ (came + 1 ≡ k)
placed_next true k places places_then c came changes is some = inr (eqb-true (came + 1) k is)
placed_next false k places places_then c came changes is some =
    inl (had_seat k places places_then c (conversation_of (Some (came + 1))) changes is some)

-- after the next connection got a free place
pub places_next : (calls calls_then : Option (List ConnectionCall))
    (places places_then : List ConversationState) (c : ConversationState) (came : ℕ)
    → TellsMore calls calls_then (Accepts (came + 1) Came ∷ [])
    → Changes places places_then c (conversation_of (Some (came + 1))) → c.number ≡ None
    → ArePlaces calls places came → ArePlaces calls_then places_then (came + 1)
places_next calls calls_then places places_then c came told changes free all = record {
  seated = seated_next places places_then c came changes free all.seated;
  present = open_next calls calls_then (λ k. has_seat k places) (λ k. has_seat k places_then) came
      told (λ k some. placed_next (came + 1 == k) k places places_then c came changes refl some)
      all.present;
  known = known_then (λ calls. AreTrueOf calls places came)
      (λ calls. AreTrueOf calls places_then (came + 1)) calls calls_then
      (Accepts (came + 1) Came ∷ []) told all.known (λ old new is was.
      known_seated old new places places_then c came changes
      (unheard_by old new (Accepts (came + 1) Came ∷ []) (accept_unheard (came + 1) Came) is) was);
}

-- a connection that has a place came
pub seat_low : (k : ℕ) (places : List ConversationState) (came : ℕ) → AreSeated places came
    → has_seat k places ≡ true → k ≤ came
seat_low k places came seated some = elim (cases_lt came k) [
  | inl above ↦ never_both (has_seat k places) some (unseated k places (seated.below k above))
  | inr within ↦ within
]

-- where the places stay, whichever connection came, and whichever was closed that has none
pub places_quiet : (calls calls_then : Option (List ConnectionCall)) (more : List ConnectionCall)
    (places : List ConversationState) (came came_then : ℕ) → TellsMore calls calls_then more
    → AreUnheard more → came ≤ came_then
    → ((k : ℕ) → ((k ≤ came) ⊎ (came_then < k)) → was_closed k more ≡ false)
    → ArePlaces calls places came → ArePlaces calls_then places came_then
places_quiet calls calls_then more places came came_then told unheard le unclosed all = record {
  seated = seated_more places came came_then le all.seated;
  present = open_kept calls calls_then more (λ k. has_seat k places) (λ k. has_seat k places) came
      came_then told le (λ k some. (
        unclosed k (inl (seat_low k places came all.seated some)),
        some,
      )) (λ k above. unclosed k (inr above)) all.present;
  known = known_then (λ calls. AreTrueOf calls places came)
      (λ calls. AreTrueOf calls places came_then) calls calls_then more told all.known
      (λ old new is was. known_quiet old new places came came_then
      (unheard_by old new more unheard is) le was);
}
