use Rattle.std.proofs.Common.{Some}
use Rattle.trdp_lines.specs.Seats.{seat_at}
use Rattle.trdp_lines.proofs.FateLemmas.{no_seat_then, why_past}
use Rattle.trdp_lines.proofs.KeptLemmas.{at_place, path_ended}
use Rattle.trdp_lines.proofs.StepLemmas.{goes_ended}
use Rattle.trdp_lines.proofs.path.Path.succeed.Goals as goal

pub invariant_of-self : goal.invariant_of-self
invariant_of-self g c =
    let inside = c.self.inside in
    let holds = c.self.invariant.path in
    let rule = g.P.Policy.rule in
    let seat = seat_at inside.seats.items c.args.place in
    let unended = rw (← c.self.view_is) at c.requires.unended in
    let why = rw (← c.self.view_is) at c.requires.why in
    let at = at_place rule inside.seats.items c.args.place (Some c.args.number) holds.size
    c.requires.within (rw (← c.self.view_is) at c.requires.number) in
    record {
      path = rw (c.begin.ensures, c.take-next.ensures.value, c.take-next.ensures.after)
          (path_ended rule _ _ inside.seats.items c.args.place seat c.args.number inside.waiting
          inside.came at (why_past _ c.args.number seat inside.waiting unended why)
          c.close.ensures.told holds);
      first = c.self.invariant.first;
    }

pub returns-clause-goes : goal.returns-clause-goes
returns-clause-goes g c =
    let inside = c.self.inside in
    let holds = c.self.invariant.path in
    let at = at_place g.P.Policy.rule inside.seats.items c.args.place (Some c.args.number)
    holds.size c.requires.within (rw (← c.self.view_is) at c.requires.number) in
    let unended = rw (← c.self.view_is) at c.requires.unended in
    let why = rw (← c.self.view_is) at c.requires.why in
    rw (← c.self.view_is, c.begin.ensures, c.take-next.ensures.value, c.take-next.ensures.after)
    (goes_ended g.P.Policy.rule g.C.Connections.calls _ _ c.args.place
    (seat_at inside.seats.items c.args.place) c.args.number at unended why c.close.ensures.told holds)

pub returns-clause-gone : goal.returns-clause-gone
returns-clause-gone g c =
    let inside = c.self.inside in
    let holds = c.self.invariant.path in
    let at = at_place g.P.Policy.rule inside.seats.items c.args.place (Some c.args.number)
    holds.size c.requires.within (rw (← c.self.view_is) at c.requires.number) in
    rw (c.begin.ensures, c.take-next.ensures.value) (no_seat_then g.P.Policy.rule _
    inside.seats.items c.args.place (seat_at inside.seats.items c.args.place) c.args.number
    inside.waiting inside.came at holds)
