use Rattle.std.proofs.Common.{◌∙◌, [], Some, true, ap, sym}
use Rattle.trdp_lines.specs.Conversations.{ConversationState}
use Rattle.trdp_lines.proofs.AskingLemmas.{listens_none, listens_read, listens_then}
use Rattle.trdp_lines.proofs.DecidingLemmas.{decides_free, decides_heard, decides_next, decides_none}
use Rattle.trdp_lines.proofs.HearingLemmas.{new_heard, nothing_of, still_heard}
use Rattle.trdp_lines.proofs.KeptLemmas.{at_read, path_turn}
use Rattle.trdp_lines.proofs.ReadLemmas.{seat_read, seat_set, set_read}
use Rattle.trdp_lines.proofs.StepLemmas.{goes_next, goes_none, goes_turn}
use Rattle.trdp_lines.proofs.TurnLemmas.{heard_turn}
use Rattle.trdp_lines.proofs.path.Path.listen.Goals as goal

pub invariant_of-self-else-has_come : goal.invariant_of-self-else-has_come
invariant_of-self-else-has_come g c =
    let inside = c.self.inside in
    let holds = c.self.invariant.path in
    let n = c.in-Some.number in
    let seat = c.index_mut-seat.result.now in
    let read = c.listen-came.ensures.read in
    let at = at_read g.P.Policy.rule inside.seats.items c.args.place seat (Some n) holds.size
    c.requires.within c.index_mut-seat.ensures.value (sym c.number.ensures ∙ c.in-Some.is) in
    record {
      path = path_turn g.P.Policy.rule _ _ inside.seats.items c.args.place seat c.listen-came.new.self n
          inside.waiting inside.came [] at (ap (λ (s : ConversationState). s.number) read.read)
          (heard_turn n _ _ seat c.listen-came.new.self read) holds;
      first = c.self.invariant.first;
    }

pub invariant_of-self-then-has_come : goal.invariant_of-self-then-has_come
invariant_of-self-then-has_come g c =
    let inside = c.self.inside in
    let holds = c.self.invariant.path in
    let n = c.in-Some.number in
    let seat = c.index_mut-seat.result.now in
    let read = c.listen-came.ensures.read in
    let at = at_read g.P.Policy.rule inside.seats.items c.args.place seat (Some n) holds.size
    c.requires.within c.index_mut-seat.ensures.value (sym c.number.ensures ∙ c.in-Some.is) in
    record {
      path = path_turn g.P.Policy.rule _ _ inside.seats.items c.args.place seat c.listen-came.new.self n
          inside.waiting inside.came [] at (ap (λ (s : ConversationState). s.number) read.read)
          (heard_turn n _ _ seat c.listen-came.new.self read) holds;
      first = c.self.invariant.first;
    }

pub decide-requires-clause-number : goal.decide-requires-clause-number
decide-requires-clause-number g c =
    let inside = c.self.inside in
    let seat = c.index_mut-seat.result.now in
    let at = at_read g.P.Policy.rule inside.seats.items c.args.place seat _
    c.self.invariant.path.size c.requires.within c.index_mut-seat.ensures.value
    (sym c.number.ensures ∙ c.in-Some.is) in
    rw (seat_set inside.seats.items c.args.place c.listen-came.new.self at.within)
    (ap (λ (s : ConversationState). s.number) c.listen-came.ensures.read.read ∙ at.number)

pub decide-requires-clause-ready : goal.decide-requires-clause-ready
decide-requires-clause-ready g c =
    let inside = c.self.inside in
    let seat = c.index_mut-seat.result.now in
    let at = at_read g.P.Policy.rule inside.seats.items c.args.place seat _
    c.self.invariant.path.size c.requires.within c.index_mut-seat.ensures.value
    (sym c.number.ensures ∙ c.in-Some.is) in
    let read = seat_read inside.seats.items c.args.place seat at.within at.here in
    rw (
      seat_set inside.seats.items c.args.place c.listen-came.new.self at.within,
      c.listen-came.ensures.nothing (nothing_of c.listen-came.result
          (sym c.has_come.ensures ∙ c.if-has_come.false)),
    )
    (rw read at (rw (← c.self.view_is) at c.requires.ready))

pub returns-else-has_come-clause-goes : goal.returns-else-has_come-clause-goes
returns-else-has_come-clause-goes g c =
    let inside = c.self.inside in
    let holds = c.self.invariant.path in
    let n = c.in-Some.number in
    let seat = c.index_mut-seat.result.now in
    let read = c.listen-came.ensures.read in
    let heard = c.listen-came.ensures.heard in
    let none = sym c.has_come.ensures ∙ c.if-has_come.false in
    let at = at_read g.P.Policy.rule inside.seats.items c.args.place seat (Some n) holds.size
    c.requires.within c.index_mut-seat.ensures.value (sym c.number.ensures ∙ c.in-Some.is) in
    rw (← c.self.view_is) (goes_next g.P.Policy.rule g.C.Connections.calls _ _ c.decide.new.self []
    (goes_turn g.P.Policy.rule g.C.Connections.calls _ c.listen-came.new.from c.args.place seat
    c.listen-came.new.self n [] heard.more inside.heard at
    (ap (λ (s : ConversationState). s.number) read.read)
    (heard_turn n _ _ seat c.listen-came.new.self read) heard.told
    (still_heard inside.heard _ (sym none ∙ heard.hears)) holds) c.decide.ensures.goes)

pub returns-then-has_come-clause-goes : goal.returns-then-has_come-clause-goes
returns-then-has_come-clause-goes g c =
    let inside = c.self.inside in
    let holds = c.self.invariant.path in
    let n = c.in-Some.number in
    let seat = c.index_mut-seat.result.now in
    let read = c.listen-came.ensures.read in
    let heard = c.listen-came.ensures.heard in
    let some = sym c.has_come.ensures ∙ c.if-has_come.true in
    let at = at_read g.P.Policy.rule inside.seats.items c.args.place seat (Some n) holds.size
    c.requires.within c.index_mut-seat.ensures.value (sym c.number.ensures ∙ c.in-Some.is) in
    rw (← c.self.view_is) (goes_turn g.P.Policy.rule g.C.Connections.calls _ c.listen-came.new.from
    c.args.place seat c.listen-came.new.self n [] heard.more true at
    (ap (λ (s : ConversationState). s.number) read.read)
    (heard_turn n _ _ seat c.listen-came.new.self read) heard.told
    (new_heard inside.heard _ (sym some ∙ heard.hears)) holds)

pub returns-else-has_come-clause-asked : goal.returns-else-has_come-clause-asked
returns-else-has_come-clause-asked g c =
    let inside = c.self.inside in
    let n = c.in-Some.number in
    let seat = c.index_mut-seat.result.now in
    let at = at_read g.P.Policy.rule inside.seats.items c.args.place seat (Some n)
    c.self.invariant.path.size c.requires.within c.index_mut-seat.ensures.value
    (sym c.number.ensures ∙ c.in-Some.is) in
    let follows = rw (seat_set inside.seats.items c.args.place c.listen-came.new.self at.within) at
    c.decide.ensures.follows in
    rw (← c.self.view_is) (listens_then _ _ _ inside.waiting inside.waiting
    c.listen-came.new.self.number _ (λ none. none)
    (listens_read n seat c.listen-came.new.self _ _ inside.waiting at.number c.listen-came.ensures.read)
    follows)

pub returns-then-has_come-clause-asked : goal.returns-then-has_come-clause-asked
returns-then-has_come-clause-asked g c =
    let inside = c.self.inside in
    let n = c.in-Some.number in
    let seat = c.index_mut-seat.result.now in
    let at = at_read g.P.Policy.rule inside.seats.items c.args.place seat (Some n)
    c.self.invariant.path.size c.requires.within c.index_mut-seat.ensures.value
    (sym c.number.ensures ∙ c.in-Some.is) in
    rw (← c.self.view_is, seat_set inside.seats.items c.args.place c.listen-came.new.self at.within)
    (listens_read n seat c.listen-came.new.self _ _ inside.waiting at.number c.listen-came.ensures.read)

pub returns-in_default-clause-goes : goal.returns-in_default-clause-goes
returns-in_default-clause-goes g c =
    let inside = c.self.inside in
    rw (
      ← c.self.view_is,
      set_read inside.seats.items c.args.place c.index_mut-seat.result.now
          c.index_mut-seat.ensures.value,
    ) (goes_none g.P.Policy.rule g.C.Connections.calls _)

pub returns-in_default-clause-asked : goal.returns-in_default-clause-asked
returns-in_default-clause-asked g c =
    let inside = c.self.inside in
    let seat = c.index_mut-seat.result.now in
    let at = at_read g.P.Policy.rule inside.seats.items c.args.place seat _
    c.self.invariant.path.size c.requires.within c.index_mut-seat.ensures.value
    (sym c.number.ensures) in
    rw (← c.self.view_is, seat_set inside.seats.items c.args.place seat at.within)
    (listens_none _ inside.waiting seat.number (sym c.number.ensures ∙ c.in_default.is))

pub decide-requires-clause-asked : goal.decide-requires-clause-asked
decide-requires-clause-asked g c = c.listen-came.ensures.asked (nothing_of c.listen-came.result
    (sym c.has_come.ensures ∙ c.if-has_come.false))

pub returns-else-has_come-clause-decided : goal.returns-else-has_come-clause-decided
returns-else-has_come-clause-decided g c =
    let goes = c.decide.ensures.goes in
    let heard = c.listen-came.ensures.heard in
    rw (← c.self.view_is) (decides_next _ _ _ heard.more _ heard.told
    (decides_none _ _ goes.more _ goes.told c.decide.ensures.decided))

pub returns-then-has_come-clause-decided : goal.returns-then-has_come-clause-decided
returns-then-has_come-clause-decided g c =
    let some = sym c.has_come.ensures ∙ c.if-has_come.true in
    rw (← c.self.view_is) (decides_heard _ _ _ (rw some at c.listen-came.ensures.heard))

pub returns-in_default-clause-decided : goal.returns-in_default-clause-decided
returns-in_default-clause-decided g c =
    let inside = c.self.inside in
    let seat = c.index_mut-seat.result.now in
    let at = at_read g.P.Policy.rule inside.seats.items c.args.place seat _
    c.self.invariant.path.size c.requires.within c.index_mut-seat.ensures.value
    (sym c.number.ensures) in
    let free = ap (λ (s : ConversationState). s.number)
    (seat_read inside.seats.items c.args.place seat at.within at.here) ∙ at.number in
    rw (← c.self.view_is) (decides_free g.P.Policy.rule _ inside.seats.items inside.waiting
    inside.came c.args.place c.self.invariant.path c.requires.within (free ∙ c.in_default.is))
