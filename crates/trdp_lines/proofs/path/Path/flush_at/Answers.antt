use Rattle.std.proofs.Common.{◌∙◌, [], Some, ap, sym}
use Rattle.trdp_lines.specs.Conversations.{ConversationState}
use Rattle.trdp_lines.proofs.AskingLemmas.{none_fails, tries_none, tries_written, written_fails}
use Rattle.trdp_lines.proofs.KeptLemmas.{at_read, path_turn}
use Rattle.trdp_lines.proofs.ReadLemmas.{seat_read, set_read}
use Rattle.trdp_lines.proofs.StepLemmas.{goes_none, goes_written}
use Rattle.trdp_lines.proofs.TurnLemmas.{written_turn}
use Rattle.trdp_lines.proofs.path.Path.flush_at.Goals as goal

pub invariant_of-self : goal.invariant_of-self
invariant_of-self g c =
    let inside = c.self.inside in
    let holds = c.self.invariant.path in
    let n = c.in-Some.number in
    let seat = c.index_mut-seat.result.now in
    let written = c.flush.ensures.written in
    let at = at_read g.P.Policy.rule inside.seats.items c.args.place seat (Some n) holds.size
    c.requires c.index_mut-seat.ensures.value (sym c.number.ensures ∙ c.in-Some.is) in
    record {
      path = path_turn g.P.Policy.rule _ _ inside.seats.items c.args.place seat c.flush.new.self n
          inside.waiting inside.came [] at
          (ap (λ (s : ConversationState). s.number) written.written)
          (written_turn n _ _ seat c.flush.new.self [] written) holds;
      first = c.self.invariant.first;
    }

pub returns-in-Some-clause-goes : goal.returns-in-Some-clause-goes
returns-in-Some-clause-goes g c =
    let inside = c.self.inside in
    let holds = c.self.invariant.path in
    let n = c.in-Some.number in
    let seat = c.index_mut-seat.result.now in
    let at = at_read g.P.Policy.rule inside.seats.items c.args.place seat (Some n) holds.size
    c.requires c.index_mut-seat.ensures.value (sym c.number.ensures ∙ c.in-Some.is) in
    rw (← c.self.view_is) (goes_written g.P.Policy.rule g.C.Connections.calls _ _ c.args.place seat
    c.flush.new.self n [] at c.flush.ensures.written holds)

pub returns-in-Some-clause-tried : goal.returns-in-Some-clause-tried
returns-in-Some-clause-tried g c =
    let inside = c.self.inside in
    let holds = c.self.invariant.path in
    let n = c.in-Some.number in
    let seat = c.index_mut-seat.result.now in
    let at = at_read g.P.Policy.rule inside.seats.items c.args.place seat (Some n) holds.size
    c.requires c.index_mut-seat.ensures.value (sym c.number.ensures ∙ c.in-Some.is) in
    rw (← c.self.view_is, seat_read inside.seats.items c.args.place seat at.within at.here)
    (tries_written n [] seat c.flush.new.self _ _ at.number c.flush.ensures.written)

pub returns-in-Some-clause-unfailed : goal.returns-in-Some-clause-unfailed
returns-in-Some-clause-unfailed g c = rw (← c.self.view_is)
    (written_fails c.in-Some.number [] _ _ _ _ c.flush.ensures.written)

pub returns-in_default-clause-goes : goal.returns-in_default-clause-goes
returns-in_default-clause-goes g c =
    let inside = c.self.inside in
    rw (
      ← c.self.view_is,
      set_read inside.seats.items c.args.place c.index_mut-seat.result.now
          c.index_mut-seat.ensures.value,
    ) (goes_none g.P.Policy.rule g.C.Connections.calls _)

pub returns-in_default-clause-tried : goal.returns-in_default-clause-tried
returns-in_default-clause-tried g c =
    let inside = c.self.inside in
    let seat = c.index_mut-seat.result.now in
    let at = at_read g.P.Policy.rule inside.seats.items c.args.place seat _
    c.self.invariant.path.size c.requires c.index_mut-seat.ensures.value (sym c.number.ensures) in
    rw (← c.self.view_is, seat_read inside.seats.items c.args.place seat at.within at.here)
    (tries_none _ seat (sym c.number.ensures ∙ c.in_default.is))

pub returns-in_default-clause-unfailed : goal.returns-in_default-clause-unfailed
returns-in_default-clause-unfailed g c = rw (← c.self.view_is) (none_fails _)
