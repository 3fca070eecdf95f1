use Rattle.std.proofs.Common.{◌≡◌, ◌∙◌, Some, true, ap, sym}
use Rattle.trdp_lines.specs.Conversations.{ConversationState, is_done}
use Rattle.trdp_lines.proofs.KeptLemmas.{at_read, path_turn}
use Rattle.trdp_lines.proofs.ReadLemmas.{seat_read, set_read}
use Rattle.trdp_lines.proofs.StepLemmas.{end_finds, goes_none, line_finds, low_of}
use Rattle.trdp_lines.proofs.TurnLemmas.{line_turn}
use Rattle.trdp_lines.proofs.path.Path.next_text.Goals as goal

pub invariant_of-self-in-Some : goal.invariant_of-self-in-Some
invariant_of-self-in-Some g c =
    let inside = c.self.inside in
    let holds = c.self.invariant.path in
    let n = c.in_ok-number.number in
    let at = at_read g.P.Policy.rule inside.seats.items c.args.place c.index_mut-seat.result.now
    (Some n) holds.size c.requires c.index_mut-seat.ensures.value
    (sym c.number.ensures ∙ c.in_ok-number.was) in
    record {
      path = path_turn g.P.Policy.rule _ _ inside.seats.items c.args.place
          c.index_mut-seat.result.now c.next_line.new.self n inside.waiting inside.came _ at
          (ap (λ (s : ConversationState). s.number) c.in-Some.ensures.rest)
          (line_turn n _ c.index_mut-seat.result.now c.next_line.new.self c.in-Some.ensures.some
          c.in-Some.ensures.rest) holds;
      first = c.self.invariant.first;
    }

pub returns-in_err-number-clause-finds : goal.returns-in_err-number-clause-finds
returns-in_err-number-clause-finds g c =
    let inside = c.self.inside in
    rw (
      c.from_residual.ensures,
      ← c.self.view_is,
      set_read inside.seats.items c.args.place
          c.index_mut-seat.result.now c.index_mut-seat.ensures.value,
    )
    (goes_none g.P.Policy.rule g.C.Connections.calls _)

pub returns-in-Some-clause-finds : goal.returns-in-Some-clause-finds
returns-in-Some-clause-finds g c =
    let inside = c.self.inside in
    let holds = c.self.invariant.path in
    let n = c.in_ok-number.number in
    let at = at_read g.P.Policy.rule inside.seats.items c.args.place c.index_mut-seat.result.now
    (Some n) holds.size c.requires c.index_mut-seat.ensures.value
    (sym c.number.ensures ∙ c.in_ok-number.was) in
    rw (← c.self.view_is) (line_finds g.P.Policy.rule g.C.Connections.calls _ c.args.place
    c.index_mut-seat.result.now c.next_line.new.self n _ _ _ at c.in-Some.ensures.some
    c.in-Some.ensures.line c.in-Some.ensures.rest holds)

pub returns-then-not-is_done-clause-finds : goal.returns-then-not-is_done-clause-finds
returns-then-not-is_done-clause-finds g c =
    let inside = c.self.inside in
    rw (
      ← c.self.view_is,
      c.in_default.ensures.kept,
      set_read inside.seats.items c.args.place
          c.index_mut-seat.result.now c.index_mut-seat.ensures.value,
    )
    (goes_none g.P.Policy.rule g.C.Connections.calls _)

pub returns-clause-finds : goal.returns-clause-finds
returns-clause-finds g c =
    let inside = c.self.inside in
    let holds = c.self.invariant.path in
    let n = c.in_ok-number.number in
    let seat = c.index_mut-seat.result.now in
    let at = at_read g.P.Policy.rule inside.seats.items c.args.place seat (Some n) holds.size
    c.requires c.index_mut-seat.ensures.value (sym c.number.ensures ∙ c.in_ok-number.was) in
    let read = seat_read inside.seats.items c.args.place seat at.within at.here in
    let done : is_done seat ≡ true = ap is_done (sym c.in_default.ensures.kept)
    ∙ sym c.is_done.ensures.done ∙ c.if-not-is_done.false in
    let spoke = c.spoke-spoke.ensures
    ∙ ap (λ (s : ConversationState). s.spoke) c.in_default.ensures.kept in
    let goes = rw (
      c.in_default.ensures.kept,
      set_read inside.seats.items c.args.place seat
          c.index_mut-seat.ensures.value,
      read,
    ) at c.succeed.ensures.goes in
    rw (← c.self.view_is, ← c.in_default.ensures.length) (end_finds g.P.Policy.rule
    g.C.Connections.calls _ c.succeed.new.self n seat _ c.end_line.result c.end_line.new.room goes
    done (rw (c.counts_end.ensures, c.rule.ensures, spoke) at c.end_line.ensures.line)
    (rw goes.came (low_of g.P.Policy.rule _ inside.seats.items c.args.place seat n inside.waiting
    inside.came at holds)))
