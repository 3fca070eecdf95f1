use Rattle.std.proofs.Common.{◌≡◌, ◌∙◌, ℕ, [], ap, arith, refl, subst}
use Rattle.trdp_lines.specs.Askings.{TriesAll}
use Rattle.trdp_lines.specs.Seats.{seats_at}
use Rattle.trdp_lines.proofs.AskingLemmas.{none_fails, none_fails_next, tries_first, tries_more}
use Rattle.trdp_lines.proofs.StepLemmas.{goes_next, goes_none}
use Rattle.trdp_lines.proofs.path.Path.flush.Goals as goal

pub loop-place-init : goal.loop-place-init
loop-place-init g c = record {
  goes = goes_none g.P.Policy.rule g.C.Connections.calls _;
  tried = tries_first _ _;
  unfailed = none_fails _;
  rest = λ k more. refl;
  waiting = refl;
  next = refl;
  kept = refl;
}

pub loop-place-preserved : goal.loop-place-preserved
loop-place-preserved g c =
    let before = c.loop-place.invariant in
    let flushed = c.flush_at.ensures in
    record {
      goes = goes_next g.P.Policy.rule g.C.Connections.calls c.args.self.now c.loop-place.self
          c.flush_at.new.self [] before.goes flushed.goes;
      tried = tries_more c.loop-place.place _ _ _ c.args.self.now.seats c.loop-place.self.seats
          before.tried before.rest flushed.tried;
      unfailed = none_fails_next _ _ _ before.unfailed flushed.unfailed;
      rest = λ k more. flushed.others k (λ same. omega (arith, more, same))
          ∙ before.rest k (omega (arith, more));
      waiting = flushed.waiting ∙ before.waiting;
      next = flushed.next ∙ before.next;
      kept = flushed.kept ∙ before.kept;
    }

pub returns-clause-tried : goal.returns-clause-tried
returns-clause-tried g c =
    let all : c.loop-place.place ≡ c.seats-place-end.result = omega arith in
    subst (λ (n : ℕ). TriesAll n (g.C.Connections.calls c.args.self.now.connections)
    (g.C.Connections.calls c.loop-place.self.connections) c.args.self.now.seats)
    (all ∙ c.seats-place-end.ensures ∙ ap seats_at c.rule.ensures) c.loop-place.invariant.tried
