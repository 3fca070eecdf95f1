-- Which connections come at a path, and that each of them is served.
-- For `Path::take`.
-- By: the next one gets a place, or is refused; what is served stays so while all goes on.
use Rattle.std.proofs.Common.{◌≡◌, ℕ, ◌+◌, ◌++◌, ◌⊎◌, List, [], ◌∷◌}
use Rattle.std.proofs.Common.{Option, Some, None, refl, ap, sym, subst, ◌∙◌}
use Rattle.std.proofs.Common.{inl, inr, arith}
use Rattle.std.proofs.lemmas.List.{append-nil}
use Rattle.trdp_lines.specs.declared.rule.Rule.{Rule}
use Rattle.trdp_lines.specs.declared.rule.Rule.TheVariants.{Application, Operators}
use Rattle.trdp_lines.specs.Comings.{AcceptsAtMostOne, HaveCome}
use Rattle.trdp_base.specs.Reported.{TellsMore}
use Rattle.trdp_lines.specs.Connections.{Between, ConnectionCall, IfTold}
use Rattle.trdp_lines.specs.Conversations.{ConversationState, conversation_of}
use Rattle.trdp_lines.specs.Fates.{AreTaken, GoesOn, IsServed, Serves, WasTurnedAway}
use Rattle.trdp_lines.specs.Paths.{speaks}
use Rattle.trdp_lines.specs.Said.{Said, connections_in}
use Rattle.trdp_lines.specs.Seats.{PathState, places_of}
use Rattle.trdp_lines.specs.Steps.{AreServed, Goes}
use Rattle.trdp_lines.specs.Turns.{IsRefused}
use Rattle.trdp_lines.proofs.BetweenLemmas.{known_between}
use Rattle.trdp_lines.proofs.CallLemmas.{come_by}
use Rattle.trdp_lines.proofs.FateLemmas.{has_here}
use Rattle.trdp_lines.proofs.GoingOnLemmas.{refused_then, served_then}
use Rattle.trdp_lines.proofs.HadLemmas.{had_seat}
use Rattle.trdp_lines.proofs.SeatLemmas.{Changes}

-- the connections that came by calls that are reported
pub have_come : (calls calls_then : Option (List ConnectionCall)) (more : List ConnectionCall)
    → TellsMore calls calls_then more → HaveCome calls calls_then (connections_in more)
have_come None None more told = tt
have_come None (Some calls_then) more told = absurd told
have_come (Some calls) None more told = tt
have_come (Some calls) (Some calls_then) more told =
    ap connections_in told ∙ come_by calls more

-- those that came before calls by which none did
have_come_next : (one two three : Option (List ConnectionCall)) (numbers : List ℕ)
    → HaveCome one two numbers → HaveCome two three [] → HaveCome one three numbers
have_come_next one two None numbers first second = tt
have_come_next one None (Some three) numbers first second = absurd second
have_come_next None (Some two) (Some three) numbers first second = absurd first
have_come_next (Some one) (Some two) (Some three) numbers first second =
    second ∙ append-nil (connections_in two) ∙ first

-- none comes by a step
none_come : (rule : Rule) (calls calls_then : Option (List ConnectionCall))
    (places places_then : List ConversationState)
    → Between (λ old new. GoesOn rule old new places places_then) calls calls_then
    → HaveCome calls calls_then []
none_come rule None None places places_then goes = tt
none_come rule None (Some calls_then) places places_then goes = absurd goes
none_come rule (Some calls) None places places_then goes = tt
none_come rule (Some calls) (Some calls_then) places places_then goes =
    goes.come ∙ sym (append-nil (connections_in calls))

-- none came where nothing was asked
pub none_comes_next : (calls : Option (List ConnectionCall)) (came : ℕ)
    → AcceptsAtMostOne calls calls came came
none_comes_next None came = inl (tt, refl)
none_comes_next (Some calls) came = inl (sym (append-nil (connections_in calls)), refl)

-- the connections that came, and after that a step
pub comes_then : {C : Type 0} (rule : Rule) (calls_of : C → Option (List ConnectionCall))
    (one : Option (List ConnectionCall)) (came : ℕ) (b c : PathState C) (texts : List Said)
    → AcceptsAtMostOne one (calls_of b.connections) came b.came → Goes rule calls_of b c texts
    → AcceptsAtMostOne one (calls_of c.connections) came c.came
comes_then rule calls_of one came b c texts comes goes =
    let two = calls_of b.connections in
    let three = calls_of c.connections in
    let none = none_come rule two three (places_of b) (places_of c) goes.fates in
    elim comes [
      | inl h ↦ inl (have_come_next one two three [] h.0 none, goes.came ∙ h.1)
      | inr h ↦ inr (
        have_come_next one two three ((came + 1) ∷ []) h.0 none,
        goes.came ∙ h.1,
        rw goes.came h.2,
      )
    ]

-- one that was turned away stays so
away_then : (rule : Rule) (seats : List ConversationState) (n : ℕ)
    (calls calls_then more : List ConnectionCall) → calls_then ≡ calls ++ more
    → WasTurnedAway rule seats n calls → WasTurnedAway rule seats n calls_then
away_then Application seats n calls calls_then more told away = absurd away
away_then Operators seats n calls calls_then more told away =
    (away.0, refused_then n calls calls_then more told away.1)

-- each that is served is served after calls by which all goes on
serves_then : (rule : Rule) (calls calls_then : List ConnectionCall)
    (seats a b c : List ConversationState) (came came_then last : ℕ) → last ≡ came_then
    → GoesOn rule calls calls_then b c → Serves rule calls seats a b came came_then
    → Serves rule calls_then seats a c came last
serves_then rule calls calls_then seats a b c came came_then last same goes served = record {
  placed = λ n some. served_then rule n calls calls_then b c goes (served.placed n some);
  next = λ n more low. elim (served.next n more (rw (← same) low)) [
    | inl here ↦ inl (served_then rule n calls calls_then b c goes here)
    | inr away ↦ inr (away_then rule seats n calls calls_then goes.more goes.told away)
  ];
}

-- the same after a step of a path
pub served_step : {C : Type 0} (rule : Rule) (calls_of : C → Option (List ConnectionCall))
    (a b c : PathState C) (texts : List Said) → AreServed rule calls_of a b
    → Goes rule calls_of b c texts → AreServed rule calls_of a c
served_step rule calls_of a b c texts served goes =
    known_between (λ told. Serves rule told a.seats (places_of a) (places_of b) a.came b.came)
    (λ told. Serves rule told a.seats (places_of a) (places_of c) a.came c.came)
    (λ old new. GoesOn rule old new (places_of b) (places_of c)) (calls_of b.connections)
    (calls_of c.connections) goes.fates served (λ old new going was.
    serves_then rule old new a.seats (places_of a) (places_of b) (places_of c) a.came b.came c.came
    goes.came going was)

-- where none came, and all keep their places
pub serves_same : (rule : Rule) (calls : Option (List ConnectionCall))
    (seats places : List ConversationState) (came : ℕ)
    → IfTold (λ told. Serves rule told seats places places came came) calls
serves_same rule None seats places came = tt
serves_same rule (Some calls) seats places came = record {
  placed = λ n some. inl some;
  next = λ n more low. absurd (omega (arith, more, low));
}

-- where the next one got a free place
pub serves_next : (rule : Rule) (calls : Option (List ConnectionCall))
    (seats places places_then : List ConversationState) (c : ConversationState) (came : ℕ)
    → Changes places places_then c (conversation_of (Some (came + 1))) → c.number ≡ None
    → IfTold (λ told. Serves rule told seats places places_then came (came + 1)) calls
serves_next rule None seats places places_then c came changes free = tt
serves_next rule (Some calls) seats places places_then c came changes free =
    let back : Changes places_then places (conversation_of (Some (came + 1))) c = record {
      front = changes.front;
      back = changes.back;
      was = changes.is;
      is = changes.was;
    } in
    record {
      placed = λ n some. inl (had_seat n places_then places
          (conversation_of (Some (came + 1))) c back
          (ap (λ (whose : Option ℕ). speaks whose n) free) some);
      next = λ n more low.
          let same : came + 1 ≡ n = omega (arith, more, low) in
          inl (inl (has_here n places_then places (conversation_of (Some (came + 1))) c back
          (ap Some same)));
    }

-- where the next one was refused
pub serves_away : (rule : Rule) (calls calls_then : Option (List ConnectionCall))
    (seats places : List ConversationState) (came : ℕ) → rule ≡ Operators → AreTaken seats
    → IsRefused (came + 1) calls calls_then
    → IfTold (λ told. Serves rule told seats places places came (came + 1)) calls_then
serves_away rule calls None seats places came is taken refused = tt
serves_away rule None (Some calls_then) seats places came is taken refused = absurd refused.told
serves_away Application (Some calls) (Some calls_then) seats places came is taken refused = cc
serves_away Operators (Some calls) (Some calls_then) seats places came is taken refused = record {
  placed = λ n some. inl some;
  next = λ n more low.
      let same : came + 1 ≡ n = omega (arith, more, low) in
      subst (λ (m : ℕ). IsServed Operators m calls_then places
      ⊎ WasTurnedAway Operators seats m calls_then) same (inr (
        taken,
        record {
          before = calls;
          behind = [];
          writing = refused.writing;
          busy = refused.busy;
          told = refused.told;
        },
      ));
}
