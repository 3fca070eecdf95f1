use Rattle.std.proofs.Common.{◌≡◌, ◌≢◌, ◌∙◌, [], Some, inl, inr, arith, length, refl}
use Rattle.trdp_lines.proofs.AskingLemmas.{asks_more, asks_none, asks_within}
use Rattle.trdp_lines.proofs.DecidingLemmas.{decides_next}
use Rattle.trdp_lines.proofs.RoundLemmas.{passes_asked}
use Rattle.trdp_lines.proofs.StepLemmas.{finds_next, goes_next, goes_none}
use Rattle.trdp_lines.proofs.path.Path.next_from.Goals as goal

pub loop-place-init : goal.loop-place-init
loop-place-init g c = record {
  goes = goes_none g.P.Policy.rule g.C.Connections.calls _;
  asked = asks_none c.args.first _ _ _;
  unwaited = λ none. none;
  decided = λ some. absurd (omega (arith, some));
  kept = refl;
  order = inl (omega arith);
}

pub loop-place-preserved : goal.loop-place-preserved
loop-place-preserved g c =
    let before = c.loop-place.invariant in
    let asked = c.in_default.ensures in
    record {
      goes = goes_next g.P.Policy.rule g.C.Connections.calls c.args.self.now c.loop-place.self
          c.ask.new.self [] before.goes asked.finds;
      asked = asks_more c.args.first c.loop-place.place _ _ _ c.args.self.now.seats
          c.loop-place.self.seats c.ask.new.self.seats c.args.self.now.waiting
          c.loop-place.self.waiting (omega arith) before.unwaited before.asked asked.asked;
      unwaited = λ none. asked.unwaited (before.unwaited none);
      decided = λ some. decides_next _ _ _ before.goes.more _ before.goes.told asked.decided;
      kept = asked.kept ∙ before.kept;
      order = inr (omega arith);
    }

pub returns-in-Some-clause-finds : goal.returns-in-Some-clause-finds
returns-in-Some-clause-finds g c =
    let same : length c.loop-place.room ≡ length c.args.room.now = omega arith in
    rw (← same) (finds_next g.P.Policy.rule g.C.Connections.calls c.args.self.now
    c.loop-place.self c.ask.new.self (length c.loop-place.room) (Some c.in-Some.found)
    c.ask.new.room c.loop-place.invariant.goes c.in-Some.ensures.finds)

pub returns-clause-asked : goal.returns-clause-asked
returns-clause-asked g c = asks_within c.args.first c.loop-place.place c.args.end _ _
    c.args.self.now.seats c.loop-place.self.seats c.args.self.now.waiting (omega arith)
    (elim c.loop-place.invariant.order [
      | inl empty ↦ inr empty
      | inr some ↦ inl (omega (arith, some))
    ]) c.loop-place.invariant.asked

pub returns-clause-decided : goal.returns-clause-decided
returns-clause-decided g c = λ some. c.loop-place.invariant.decided (omega (arith, some))

pub returns-in-Some-clause-found : goal.returns-in-Some-clause-found
returns-in-Some-clause-found g c =
    let before = c.loop-place.invariant in
    let goes = c.in-Some.ensures.finds.goes in
    record {
      place = c.loop-place.place;
      low = omega arith;
      high = omega arith;
      whose = c.in-Some.ensures.whose;
      passes = passes_asked c.args.first c.loop-place.place _ _ _ c.args.self.now.seats
          c.loop-place.self.seats c.ask.new.self.seats c.args.self.now.waiting goes.more before.asked
          goes.told c.ask.ensures.others;
      others = λ k out.
          let other : k ≢ c.loop-place.place = λ same. elim out [
            | inl low ↦ absurd (omega (arith, low, same))
            | inr high ↦ absurd (omega (arith, high, same))
          ] in
          c.ask.ensures.others k other ∙ before.asked.others k (elim out [
            | inl low ↦ inl low
            | inr high ↦ inr (omega (arith, high))
          ]);
      next_is = c.ask.ensures.next;
    }
