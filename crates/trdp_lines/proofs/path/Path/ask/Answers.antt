use Rattle.std.proofs.Common.{◌≡◌, ◌+◌, ◌∙◌, [], length, arith}
use Rattle.trdp_lines.specs.Seats.{PathState}
use Rattle.trdp_lines.proofs.AskingLemmas.{asks_one, if_none, if_none_then}
use Rattle.trdp_lines.proofs.DecidingLemmas.{decides_before, decides_next}
use Rattle.trdp_lines.proofs.RoundLemmas.{finds_turned, goes_turned}
use Rattle.trdp_lines.proofs.StepLemmas.{finds_next, goes_next}
use Rattle.trdp_lines.proofs.path.Path.ask.Goals as goal

pub returns-clause-finds : goal.returns-clause-finds
returns-clause-finds g c =
    let rule = g.P.Policy.rule in
    let calls = g.C.Connections.calls in
    let inside = c.self.inside in
    let path : PathState _ = record {
      connections = inside.connections;
      seats = inside.seats.items;
      waiting = inside.waiting;
      came = inside.came;
      next = inside.next;
      heard = inside.heard;
    } in
    let same : length c.next_text.new.room ≡ length c.args.room.now = omega arith in
    let first = goes_turned rule calls path c.next_text.new.self (c.args.place + 1) []
    c.in_default.ensures.finds in
    rw (← c.self.view_is, ← same) (finds_next rule calls path
    c.listen.new.self c.next_text-2.new.self _ c.next_text-2.result c.next_text-2.new.room
    (goes_next rule calls path c.next_text.new.self c.listen.new.self []
    first c.listen.ensures.goes) c.next_text-2.ensures.finds)

pub returns-in-Some-clause-finds : goal.returns-in-Some-clause-finds
returns-in-Some-clause-finds g c =
    let inside = c.self.inside in
    let path : PathState _ = record {
      connections = inside.connections;
      seats = inside.seats.items;
      waiting = inside.waiting;
      came = inside.came;
      next = inside.next;
      heard = inside.heard;
    } in
    rw (← c.self.view_is) (finds_turned g.P.Policy.rule g.C.Connections.calls path
    c.next_text.new.self (c.args.place + 1) _ c.in-Some.found c.next_text.new.room
    c.in-Some.ensures.finds)

pub returns-clause-others : goal.returns-clause-others
returns-clause-others g c = rw (← c.self.view_is) (λ k other.
    c.next_text-2.ensures.others k other ∙ c.listen.ensures.others k other
    ∙ c.next_text.ensures.others k other)

pub returns-clause-asked : goal.returns-clause-asked
returns-clause-asked g c = rw (← c.self.view_is) (if_none_then c.next_text-2.result
    (λ ready. asks_one c.args.place _ _ _ _ _ c.next_text.new.self.seats c.listen.new.self.seats
    c.next_text-2.new.self.seats _ c.next_text.new.self.waiting c.listen.new.self.waiting _
    c.next_text.ensures.follows c.next_text.ensures.unwaited c.listen.ensures.unwaited
    c.listen.ensures.asked c.next_text-2.ensures.follows ready c.next_text.ensures.others
    c.listen.ensures.others c.next_text-2.ensures.others) c.next_text-2.ensures.ready)

pub returns-clause-decided : goal.returns-clause-decided
returns-clause-decided g c =
    let first = c.next_text.ensures.follows in
    let last = c.next_text-2.ensures.follows in
    rw (← c.self.view_is) (if_none c.next_text-2.result (decides_before _ _ _ last.more _ _
    (decides_next _ _ _ first.more _ first.told c.listen.ensures.decided) last.told
    c.next_text-2.ensures.unwaited))
