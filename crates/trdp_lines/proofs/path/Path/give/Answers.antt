use Rattle.std.proofs.Common.{◌≡◌, [], Some, ap, sym, ◌∙◌, is_ok}
use Rattle.trdp_lines.specs.Conversations.{ConversationState}
use Rattle.trdp_lines.specs.Outgoings.{lost_told, takes_text}
use Rattle.trdp_lines.specs.Turns.{HasNoPlace, IsPlaceOf}
use Rattle.trdp_lines.proofs.GiveLemmas.{left_written, says_nowhere, says_there}
use Rattle.trdp_lines.proofs.KeptLemmas.{at_found, path_turn}
use Rattle.trdp_lines.proofs.OrderLemmas.{texts_turn}
use Rattle.trdp_lines.proofs.StepLemmas.{goes_none, known_front, seated_front}
use Rattle.trdp_lines.proofs.TurnLemmas.{written_turn}
use Rattle.trdp_lines.proofs.path.Path.give.Goals as goal
use Rattle.trdp_lines.proofs.path.Path.give.Goals.{then-say, else-say}

pub returns-in_default-clause-says : goal.returns-in_default-clause-says
returns-in_default-clause-says g c =
    let nowhere : HasNoPlace (Some c.args.number) c.deref.result.now = c.in_default.ensures in
    rw (← c.self.view_is) (says_nowhere _ c.self.inside.seats.items c.args.number _
    (rw c.deref.ensures.value at nowhere))

pub returns-in_default-clause-hands_in : goal.returns-in_default-clause-hands_in
returns-in_default-clause-hands_in g c =
    (goes_none g.P.Policy.rule g.C.Connections.calls c.args.self.now).handed_in

pub invariant_of-self : goal.invariant_of-self
invariant_of-self g c =
    let inside = c.self.inside in
    let holds = c.self.invariant.path in
    let found : IsPlaceOf (Some c.args.number) c.deref.result.now c.in-Some.place =
    c.in-Some.ensures in
    let at = at_found g.P.Policy.rule inside.seats.items c.in-Some.place c.index_mut-seat.result.now
    (Some c.args.number) holds.size (rw c.deref.ensures.value at found)
    c.index_mut-seat.ensures.value in
    record {
      path = path_turn g.P.Policy.rule _ _ inside.seats.items c.in-Some.place
          c.index_mut-seat.result.now c.say.new.self c.args.number inside.waiting inside.came [] at
          (ap (λ (seat : ConversationState). seat.number) c.say.ensures.said.written)
          (written_turn _ _ _ _ _ _ c.say.ensures.said) holds;
      first = c.self.invariant.first;
    }

pub returns-clause-says : goal.returns-clause-says
returns-clause-says g c =
    let seats = c.self.inside.seats.items in
    let found : IsPlaceOf (Some c.args.number) c.deref.result.now c.in-Some.place =
    c.in-Some.ensures in
    let there = rw c.deref.ensures.value at found in
    let answer : is_ok c.if-say.result
    ≡ takes_text (lost_told c.index_mut-seat.result.now.outgoing) c.args.text.now =
    elim c.if-say.branch [
      | then-say w ↦ rw w.result-is (sym w.if-say.true ∙ c.say.ensures.answer)
      | else-say w ↦ rw w.result-is (sym w.if-say.false ∙ c.say.ensures.answer)
    ] in
    rw (← c.self.view_is) (says_there _ _ seats c.in-Some.place c.args.number _ _ _ _
    there.within c.index_mut-seat.ensures.value there.number c.say.ensures.said answer)

pub returns-clause-hands_in : goal.returns-clause-hands_in
returns-clause-hands_in g c =
    let inside = c.self.inside in
    let holds = c.self.invariant.path in
    let found : IsPlaceOf (Some c.args.number) c.deref.result.now c.in-Some.place =
    c.in-Some.ensures in
    let at = at_found g.P.Policy.rule inside.seats.items c.in-Some.place c.index_mut-seat.result.now
    (Some c.args.number) holds.size (rw c.deref.ensures.value at found)
    c.index_mut-seat.ensures.value in
    rw (← c.self.view_is) (texts_turn g.P.Policy.rule _ _ inside.seats.items c.in-Some.place
    c.index_mut-seat.result.now c.say.new.self c.args.number inside.waiting inside.came [] at.low
    at.within at.here at.number
    (ap (λ (seat : ConversationState). seat.number) c.say.ensures.said.written)
    (written_turn _ _ _ _ _ _ c.say.ensures.said)
    (seated_front inside.seats.items inside.waiting inside.came holds.places.seated)
    (known_front _ inside.seats.items inside.waiting inside.came holds.places.known) holds.order)

pub returns-clause-left : goal.returns-clause-left
returns-clause-left g c =
    let inside = c.self.inside in
    let found : IsPlaceOf (Some c.args.number) c.deref.result.now c.in-Some.place =
    c.in-Some.ensures in
    let at = at_found g.P.Policy.rule inside.seats.items c.in-Some.place c.index_mut-seat.result.now
    (Some c.args.number) c.self.invariant.path.size (rw c.deref.ensures.value at found)
    c.index_mut-seat.ensures.value in
    rw (← c.self.view_is) (left_written g.P.Policy.rule _ _ inside.seats.items c.in-Some.place
    c.args.number _ c.index_mut-seat.result.now c.say.new.self at.low at.within at.here
    c.say.ensures.said)
