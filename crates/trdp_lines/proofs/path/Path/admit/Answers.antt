use Rattle.std.proofs.Common.{◌∙◌, ◌+◌, ◌≤◌, [], ◌∷◌, None, Some, false, true, refl, sym, arith}
use Rattle.std.proofs.Common.{set}
use Rattle.std.proofs.Math.Bool.{or-true}
use Rattle.trdp_lines.specs.declared.connections.Accepted.TheVariants.{Came, Nothing, Failed}
use Rattle.trdp_lines.specs.Connections.{Accepts}
use Rattle.trdp_lines.specs.Conversations.{conversation_of}
use Rattle.trdp_lines.specs.Fates.{AreTaken}
use Rattle.trdp_lines.specs.Paths.{last_connection_number}
use Rattle.trdp_lines.specs.Seats.{seat_at, with_waiting}
use Rattle.trdp_lines.specs.Turns.{HasNoPlace, IsPlaceOf}
use Rattle.trdp_lines.proofs.AskingLemmas.{asks_accept}
use Rattle.trdp_lines.proofs.BetweenLemmas.{told_next}
use Rattle.trdp_lines.proofs.CallLemmas.{failed_quiet, nothing_quiet}
use Rattle.trdp_lines.proofs.ComingLemmas.{serves_away, serves_next, serves_same}
use Rattle.trdp_lines.proofs.HearingLemmas.{hears_call, hears_next, hears_refused}
use Rattle.trdp_lines.proofs.KeptLemmas.{at_found, path_away, path_behind, path_first, path_quiet}
use Rattle.trdp_lines.proofs.OrderLemmas.{free_same, texts_accept, texts_away}
use Rattle.trdp_lines.proofs.OrderLemmas.{texts_quiet}
use Rattle.trdp_lines.proofs.PlacesLemmas.{place_changes, waiting_changes}
use Rattle.trdp_lines.proofs.ReadLemmas.{seat_here, taken_kept}
use Rattle.trdp_lines.proofs.TakeLemmas.{none_of}
use Rattle.trdp_lines.proofs.path.Path.admit.Goals as goal

pub invariant_of-self : goal.invariant_of-self
invariant_of-self g c = record {
  path = path_quiet g.P.Policy.rule _ _ (Accepts (c.self.inside.came + 1) Nothing ∷ []) _ _ _
      (rw c.in-Nothing.is at c.accept.ensures.told) (nothing_quiet (c.self.inside.came + 1))
      (λ k out. refl) c.self.invariant.path;
  first = c.self.invariant.first;
}

pub invariant_of-self-in-Failed : goal.invariant_of-self-in-Failed
invariant_of-self-in-Failed g c = record {
  path = path_quiet g.P.Policy.rule _ _ (Accepts (c.self.inside.came + 1) Failed ∷ []) _ _ _
      (rw c.in-Failed.is at c.accept.ensures.told) (failed_quiet (c.self.inside.came + 1))
      (λ k out. refl) c.self.invariant.path;
  first = c.self.invariant.first;
}

pub invariant_of-self-in-Some : goal.invariant_of-self-in-Some
invariant_of-self-in-Some g c =
    let inside = c.self.inside in
    let holds = c.self.invariant.path in
    let found : IsPlaceOf None c.deref.result.now c.in-Some.place = c.in-Some.ensures in
    let there = rw c.deref.ensures.value at found in
    let at = at_found g.P.Policy.rule inside.seats.items c.in-Some.place
    (seat_at inside.seats.items c.in-Some.place) None holds.size there
    (seat_here inside.seats.items c.in-Some.place there.within) in
    let last : inside.came + 1 ≤ last_connection_number = omega arith in
    record {
      path = rw c.begin.ensures (path_first g.P.Policy.rule _ _ inside.seats.items c.in-Some.place _
          inside.waiting inside.came at
          (none_of inside.waiting (sym c.is_some.ensures ∙ c.if-is_some.false))
          (rw c.in-Came.is at c.accept.ensures.told) last holds);
      first = c.self.invariant.first;
    }

pub invariant_of-self-in-Application : goal.invariant_of-self-in-Application
invariant_of-self-in-Application g c =
    let inside = c.self.inside in
    let nowhere : HasNoPlace None c.deref.result.now = c.in-None.ensures in
    let taken : AreTaken inside.seats.items = rw c.deref.ensures.value at nowhere in
    let last : inside.came + 1 ≤ last_connection_number = omega arith in
    record {
      path = path_behind g.P.Policy.rule _ _ inside.seats.items inside.waiting inside.came
          (sym c.rule.ensures ∙ c.in-Application.is) taken
          (none_of inside.waiting (sym c.is_some.ensures ∙ c.if-is_some.false))
          (rw c.in-Came.is at c.accept.ensures.told) last c.self.invariant.path;
      first = c.self.invariant.first;
    }

pub invariant_of-self-in-Operators : goal.invariant_of-self-in-Operators
invariant_of-self-in-Operators g c =
    let inside = c.self.inside in
    let refused = c.refuse.ensures.refused in
    let last : inside.came + 1 ≤ last_connection_number = omega arith in
    record {
      path = path_away g.P.Policy.rule _ _ inside.seats.items inside.waiting inside.came
          refused.writing (sym c.rule.ensures ∙ c.in-Operators.is)
          (told_next _ _ _ (Accepts (inside.came + 1) Came ∷ []) _
          (rw c.in-Came.is at c.accept.ensures.told) refused.told) last c.self.invariant.path;
      first = c.self.invariant.first;
    }

pub returns-in-Nothing-clause-hands_in : goal.returns-in-Nothing-clause-hands_in
returns-in-Nothing-clause-hands_in g c = rw (← c.self.view_is) (texts_quiet g.P.Policy.rule _ _
    (Accepts (c.self.inside.came + 1) Nothing ∷ []) _ _
    (rw c.in-Nothing.is at c.accept.ensures.told) (nothing_quiet (c.self.inside.came + 1))
    (λ n. refl))

pub returns-in-Failed-clause-hands_in : goal.returns-in-Failed-clause-hands_in
returns-in-Failed-clause-hands_in g c = rw (← c.self.view_is) (texts_quiet g.P.Policy.rule _ _
    (Accepts (c.self.inside.came + 1) Failed ∷ []) _ _
    (rw c.in-Failed.is at c.accept.ensures.told) (failed_quiet (c.self.inside.came + 1))
    (λ n. refl))

pub returns-in-Some-clause-hands_in : goal.returns-in-Some-clause-hands_in
returns-in-Some-clause-hands_in g c =
    let inside = c.self.inside in
    let holds = c.self.invariant.path in
    let found : IsPlaceOf None c.deref.result.now c.in-Some.place = c.in-Some.ensures in
    let there = rw c.deref.ensures.value at found in
    let at = at_found g.P.Policy.rule inside.seats.items c.in-Some.place
    (seat_at inside.seats.items c.in-Some.place) None holds.size there
    (seat_here inside.seats.items c.in-Some.place there.within) in
    rw (← c.self.view_is, c.begin.ensures) (texts_accept g.P.Policy.rule _ _ inside.seats.items
    (set inside.seats.items c.in-Some.place (conversation_of (Some (inside.came + 1))))
    inside.waiting inside.came (rw c.in-Came.is at c.accept.ensures.told)
    (free_same g.P.Policy.rule inside.seats.items c.in-Some.place _ (inside.came + 1) at.low
    at.within at.here at.number) holds.order)

pub returns-in-Application-clause-hands_in : goal.returns-in-Application-clause-hands_in
returns-in-Application-clause-hands_in g c =
    let inside = c.self.inside in
    rw (← c.self.view_is) (texts_accept g.P.Policy.rule _ _ inside.seats.items inside.seats.items
    inside.waiting inside.came (rw c.in-Came.is at c.accept.ensures.told) (λ n. refl)
    c.self.invariant.path.order)

pub returns-in-Operators-clause-hands_in : goal.returns-in-Operators-clause-hands_in
returns-in-Operators-clause-hands_in g c =
    let inside = c.self.inside in
    let refused = c.refuse.ensures.refused in
    rw (← c.self.view_is) (texts_away g.P.Policy.rule _ _ inside.seats.items inside.came
    refused.writing (sym c.rule.ensures ∙ c.in-Operators.is)
    (told_next _ _ _ (Accepts (inside.came + 1) Came ∷ []) _
    (rw c.in-Came.is at c.accept.ensures.told) refused.told))

pub returns-in-Nothing-clause-served : goal.returns-in-Nothing-clause-served
returns-in-Nothing-clause-served g c =
    rw (← c.self.view_is) (serves_same g.P.Policy.rule _ _ _ c.self.inside.came)

pub returns-in-Failed-clause-served : goal.returns-in-Failed-clause-served
returns-in-Failed-clause-served g c =
    rw (← c.self.view_is) (serves_same g.P.Policy.rule _ _ _ c.self.inside.came)

pub returns-in-Some-clause-served : goal.returns-in-Some-clause-served
returns-in-Some-clause-served g c =
    let inside = c.self.inside in
    let found : IsPlaceOf None c.deref.result.now c.in-Some.place = c.in-Some.ensures in
    let there = rw c.deref.ensures.value at found in
    rw (← c.self.view_is, c.begin.ensures) (serves_next g.P.Policy.rule _ inside.seats.items
    (with_waiting inside.seats.items inside.waiting) _ _ inside.came
    (place_changes inside.seats.items c.in-Some.place
    (seat_at inside.seats.items c.in-Some.place) (conversation_of (Some (inside.came + 1)))
    inside.waiting there.within (seat_here inside.seats.items c.in-Some.place there.within))
    there.number)

pub returns-in-Application-clause-served : goal.returns-in-Application-clause-served
returns-in-Application-clause-served g c =
    let inside = c.self.inside in
    rw (← c.self.view_is) (serves_next g.P.Policy.rule _ inside.seats.items
    (with_waiting inside.seats.items inside.waiting)
    (with_waiting inside.seats.items (Some (inside.came + 1))) (conversation_of inside.waiting)
    inside.came (waiting_changes inside.seats.items inside.waiting (Some (inside.came + 1)))
    (none_of inside.waiting (sym c.is_some.ensures ∙ c.if-is_some.false)))

pub returns-in-Operators-clause-served : goal.returns-in-Operators-clause-served
returns-in-Operators-clause-served g c =
    let inside = c.self.inside in
    let nowhere : HasNoPlace None c.deref.result.now = c.in-None.ensures in
    let taken : AreTaken inside.seats.items = rw c.deref.ensures.value at nowhere in
    rw (← c.self.view_is) (serves_away g.P.Policy.rule _ _ inside.seats.items _ inside.came
    (sym c.rule.ensures ∙ c.in-Operators.is) taken c.refuse.ensures.refused)

pub returns-in-Some-clause-taken : goal.returns-in-Some-clause-taken
returns-in-Some-clause-taken g c =
    let found : IsPlaceOf None c.deref.result.now c.in-Some.place = c.in-Some.ensures in
    let there = rw c.deref.ensures.value at found in
    rw (← c.self.view_is) (taken_kept c.self.inside.seats.items c.in-Some.place c.begin.new.self
    there.number)

pub returns-in-Operators-clause-asked : goal.returns-in-Operators-clause-asked
returns-in-Operators-clause-asked g c =
    let inside = c.self.inside in
    rw (← c.self.view_is) (asks_accept _ _ _ inside.came Came false _
    (told_next _ _ _ (Accepts (inside.came + 1) Came ∷ []) _
    (rw c.in-Came.is at c.accept.ensures.told) c.refuse.ensures.refused.told) refl refl)

pub returns-in-Operators-clause-heard : goal.returns-in-Operators-clause-heard
returns-in-Operators-clause-heard g c =
    let inside = c.self.inside in
    rw (← c.self.view_is) (hears_next _ _ _ inside.heard true true
    (hears_call _ _ (Accepts (inside.came + 1) Came) inside.heard true
    (rw c.in-Came.is at c.accept.ensures.told) (sym (or-true inside.heard)))
    (hears_refused (inside.came + 1) _ _ true c.refuse.ensures.refused))
