use Rattle.std.proofs.Common.{◌≡◌, length, ap, arith}
use Rattle.trdp_lines.specs.Seats.{PathState, seats_at}
use Rattle.trdp_lines.proofs.AskingLemmas.{asks_round, if_none_then}
use Rattle.trdp_lines.proofs.DecidingLemmas.{decides_round}
use Rattle.trdp_lines.proofs.RoundLemmas.{finds_early, finds_late}
use Rattle.trdp_lines.proofs.StepLemmas.{finds_next}
use Rattle.trdp_lines.proofs.path.Path.next_of_all.Goals as goal

pub returns-clause-finds : goal.returns-clause-finds
returns-clause-finds g c =
    let same : length c.next_from.new.room ≡ length c.args.room.now = omega arith in
    rw (← same) (finds_next g.P.Policy.rule g.C.Connections.calls _ c.next_from.new.self
    c.next_from-2.new.self _ c.next_from-2.result c.next_from-2.new.room
    c.in_default.ensures.finds c.next_from-2.ensures.finds)

pub returns-clause-asked : goal.returns-clause-asked
returns-clause-asked g c = if_none_then c.next_from-2.result (asks_round c.self.inside.next
    (seats_at g.P.Policy.rule) _ _ _ _ c.next_from.new.self.seats c.next_from-2.new.self.seats _
    c.next_from.new.self.waiting c.self.invariant.first c.next_from.ensures.unwaited
    (rw (c.seats.ensures, c.rule.ensures) at c.in_default.ensures.asked))
    c.next_from-2.ensures.asked

pub returns-clause-decided : goal.returns-clause-decided
returns-clause-decided g c = decides_round g.P.Policy.rule c.next_from-2.result c.self.inside.next
    _ _ _ _ c.next_from.new.self.seats c.next_from-2.new.self.seats _
    c.next_from.new.self.waiting c.next_from-2.new.self.waiting
    (rw (c.seats.ensures, c.rule.ensures) at c.in_default.ensures.asked)
    (rw (c.seats.ensures, c.rule.ensures) at c.in_default.ensures.decided)
    c.next_from-2.ensures.asked c.next_from-2.ensures.decided c.next_from-2.ensures.unwaited

pub returns-in-Some-clause-found : goal.returns-in-Some-clause-found
returns-in-Some-clause-found g c =
    let same : c.self.inside.next ≡ c.args.self.now.next
    = ap (λ (p : PathState _). p.next) c.self.view_is in
    rw (← same) (finds_late c.self.inside.next (seats_at g.P.Policy.rule) _ _
    c.args.self.now.seats c.next_from.new.self.seats _ _ _
    (rw (c.seats.ensures, c.rule.ensures) at c.in-Some.ensures.found))

pub returns-clause-found : goal.returns-clause-found
returns-clause-found g c =
    let same : c.self.inside.next ≡ c.args.self.now.next
    = ap (λ (p : PathState _). p.next) c.self.view_is in
    rw (← same) (finds_early c.self.inside.next (seats_at g.P.Policy.rule) _ _ _ _
    c.next_from.new.self.seats c.next_from-2.new.self.seats _ c.next_from.new.self.waiting
    c.next_from-2.result _ c.self.invariant.first c.next_from.ensures.unwaited
    (rw (c.seats.ensures, c.rule.ensures) at c.in_default.ensures.asked)
    c.next_from-2.ensures.found)
