-- In which order the seats of a path are asked.
-- For `Path::take` and its steps.
-- By: those that come before the one that is found were asked, and nothing was found there.
use Rattle.std.proofs.Common.{◌≡◌, ℕ, ◌<◌, ◌≤◌, ◌≢◌, ◌++◌, List, [], ◌∷◌, Bool, Option, Some, None}
use Rattle.std.proofs.Common.{inl, inr, ap, sym, subst, ◌∙◌, arith}
use Rattle.std.proofs.lemmas.Bool.{cases_lt}
use Rattle.std.specs.Prelude.{IfSome}
use Rattle.trdp_lines.specs.declared.rule.Rule.{Rule}
use Rattle.trdp_lines.specs.declared.rule.Rule.TheVariants.{Operators}
use Rattle.trdp_lines.specs.Askings.{AsksPlaces}
use Rattle.trdp_lines.specs.Connections.{ConnectionCall}
use Rattle.trdp_base.specs.Reported.{TellsMore}
use Rattle.trdp_lines.specs.Conversations.{ConversationState}
use Rattle.trdp_lines.specs.Orders.{ComesBefore, FindsAt, FindsInRound, IsInTurn, Passes}
use Rattle.trdp_lines.specs.Paths.{IsReadyIf}
use Rattle.trdp_lines.specs.Said.{Said}
use Rattle.trdp_lines.specs.Seats.{PathState, seats_at}
use Rattle.trdp_lines.specs.Steps.{Finds, FindsIf, Goes}
use Rattle.trdp_lines.specs.Turns.{KeepsOthers}
use Rattle.trdp_lines.proofs.AskingLemmas.{had_behind, had_more, turn_of}
use Rattle.trdp_lines.proofs.BetweenLemmas.{told_next}

-- what a step does is the same whichever seat is asked next
pub goes_turned : {C : Type 0} (rule : Rule) (calls_of : C → Option (List ConnectionCall))
    (path path_then : PathState C) (next : ℕ) (texts : List Said)
    → Goes rule calls_of (record path { next = next }) path_then texts
    → Goes rule calls_of path path_then texts
goes_turned rule calls_of path path_then next texts goes = record {
  more = goes.more;
  told = goes.told;
  handed_in = goes.handed_in;
  fates = goes.fates;
  came = goes.came;
  hears = goes.hears;
}

-- and so is what is found
pub finds_turned : {C : Type 0} (rule : Rule) (calls_of : C → Option (List ConnectionCall))
    (path path_then : PathState C) (next room : ℕ) (found : ℕ × ℕ) (room_then : List ℕ)
    → Finds rule calls_of (record path { next = next }) path_then room found room_then
    → Finds rule calls_of path path_then room found room_then
finds_turned rule calls_of path path_then next room found room_then finds = record {
  text = finds.text;
  goes = goes_turned rule calls_of path path_then next ((found.0, finds.text) ∷ []) finds.goes;
  bytes = finds.bytes;
  gone = finds.gone;
  low = finds.low;
}

-- the seats that were asked before one are passed
pub passes_asked : (first place : ℕ) (one two three : Option (List ConnectionCall))
    (seats mid seats_then : List ConversationState) (waiting : Option ℕ)
    (more : List ConnectionCall) → AsksPlaces first place one two seats mid waiting
    → TellsMore two three more → KeepsOthers place mid seats_then
    → Passes (λ k. (first ≤ k) × (k < place)) one three seats_then waiting
passes_asked first place one two three seats mid seats_then waiting more asked told others =
    let other : (k : ℕ) → k < place → k ≢ place = λ k low same. absurd (omega (arith, low, same)) in
    record {
      more = asked.more ++ more;
      told = told_next one two three asked.more more asked.told told;
      reads = λ k n within some. had_more n waiting asked.more more (asked.reads k n within.0 within.1
          (ap (λ (c : ConversationState). c.number) (sym (others k (other k within.1))) ∙ some));
      ready = λ k within. subst (λ (c : ConversationState). IsReadyIf c.number c)
          (sym (others k (other k within.1))) (asked.ready k within.0 within.1);
    }

-- one that is asked in the first part of a round is behind where it begins
late_before : (first k place : ℕ) → first ≤ place → ComesBefore first k place
    → (first ≤ k) × (k < place)
late_before first k place late before = elim before [
  | inl within ↦ within
  | inr around ↦ absurd (omega (arith, late, around.0))
]

-- one that is asked in the last part is before it
early_before : (first k place : ℕ) → k < first → ComesBefore first k place → k < place
early_before first k place early before = elim before [
  | inl within ↦ absurd (omega (arith, early, within.0))
  | inr around ↦ elim around.1 [
    | inl late ↦ absurd (omega (arith, early, late))
    | inr low ↦ low
  ]
]

-- a text was found in the first part of a round
pub finds_late : (first most : ℕ) (one two : Option (List ConnectionCall))
    (seats seats_then : List ConversationState) (waiting : Option ℕ) (n next : ℕ)
    → FindsAt first most one two seats seats_then waiting n next
    → FindsInRound first most one two seats_then waiting n next
finds_late first most one two seats seats_then waiting n next finds = record {
  place = finds.place;
  within = finds.high;
  whose = finds.whose;
  passes = record {
    more = finds.passes.more;
    told = finds.passes.told;
    reads = λ k m before some.
        finds.passes.reads k m (late_before first k finds.place finds.low before.1) some;
    ready = λ k before. finds.passes.ready k (late_before first k finds.place finds.low before.1);
  };
  next_is = finds.next_is;
}

-- or in the last one, where none was found in the first
pub finds_early : (first most : ℕ) (one two three : Option (List ConnectionCall))
    (seats mid seats_then : List ConversationState) (waiting mid_waiting : Option ℕ)
    (found : Option (ℕ × ℕ)) (next : ℕ) → first ≤ most
    → (waiting ≡ None → mid_waiting ≡ None)
    → AsksPlaces first most one two seats mid waiting
    → IfSome found (λ f. FindsAt 0 first two three mid seats_then mid_waiting f.0 next)
    → IfSome found (λ f. FindsInRound first most one three seats_then waiting f.0 next)
finds_early first most one two three seats mid seats_then waiting mid_waiting None next order kept
    before finds = tt
finds_early first most one two three seats mid seats_then waiting mid_waiting (Some found) next order
    kept before finds = record {
      place = finds.place;
      within = omega (arith, finds.high, order);
      whose = finds.whose;
      passes = record {
        more = before.more ++ finds.passes.more;
        told = told_next one two three before.more finds.passes.more before.told finds.passes.told;
        reads = λ k n within some. elim (cases_lt k first) [
          | inl early ↦ had_behind n waiting mid_waiting before.more finds.passes.more kept
              (finds.passes.reads k n
              (omega arith, early_before first k finds.place early within.1) some)
          | inr late ↦ had_more n waiting before.more finds.passes.more
              (before.reads k n late within.0
              (ap (λ (c : ConversationState). c.number) (sym (finds.others k (inr late))) ∙ some))
        ];
        ready = λ k within. elim (cases_lt k first) [
          | inl early ↦ finds.passes.ready k
              (omega arith, early_before first k finds.place early within.1)
          | inr late ↦ subst (λ (c : ConversationState). IsReadyIf c.number c)
              (sym (finds.others k (inr late))) (before.ready k late within.0)
        ];
      };
      next_is = finds.next_is;
    }

-- what was found in a round was next in turn
pub in_turn : {C : Type 0} (rule : Rule) (calls_of : C → Option (List ConnectionCall))
    (a c d : PathState C) (front : List ConnectionCall) (n : ℕ) (heard : Bool)
    → TellsMore (calls_of a.connections) (calls_of c.connections) front → c.next ≡ a.next
    → (rule ≡ Operators → c.waiting ≡ None)
    → FindsInRound c.next (seats_at rule) (calls_of c.connections) (calls_of d.connections) d.seats
    c.waiting n d.next
    → IsInTurn rule calls_of a (record d { heard = heard }) n
in_turn rule calls_of a c d front n heard told same alone finds =
    let one = calls_of a.connections in
    let two = calls_of c.connections in
    let three = calls_of d.connections in
    let more = finds.passes.more in
    record {
      place = finds.place;
      within = finds.within;
      whose = finds.whose;
      more = front ++ more;
      told = told_next one two three front more told finds.passes.told;
      reads = λ k m low before some. turn_of rule m c.waiting (front ++ more) alone
          (had_behind m c.waiting c.waiting front more (λ none. none) (finds.passes.reads k m
          (low, subst (λ (f : ℕ). ComesBefore f k finds.place) (sym same) before) some));
      ready = λ k low before. finds.passes.ready k
          (low, subst (λ (f : ℕ). ComesBefore f k finds.place) (sym same) before);
      next_is = finds.next_is;
    }
