use Rattle.std.proofs.Common.{◌≡◌, ◌<◌, ◌≤◌, ◌^◌, ◌-◌, arith, inl, inr, refl, false, nat_le}
use Rattle.std.proofs.lemmas.Bool.Decides.{nat_tests}
use Rattle.trdp_daemon.proofs.RestLemmas.{attended_none, attended_more, served_until}
use Rattle.trdp_daemon.proofs.daemon.Daemon.attend.Goals as goal

pub loop-turn-init : goal.loop-turn-init
loop-turn-init g c = attended_none _ _ _ _ c.args.until c.args.self.now

pub loop-turn-preserved : goal.loop-turn-preserved
loop-turn-preserved g c =
    let late : nat_le c.args.until c.timed_turn-reading.result ≡ false =
    grind (arith, nat_tests) in
    let early : c.timed_turn-reading.result < c.args.until = grind (arith, nat_tests) in
    attended_more c.loop-turn.invariant c.timed_turn-reading.ensures late early c.rest.ensures

pub returns-then-until-reading-clause-turns : goal.returns-then-until-reading-clause-turns
returns-then-until-reading-clause-turns g c =
    let come : c.args.until ≤ c.timed_turn-reading.result = grind (arith, nat_tests) in
    record {
      before = c.loop-turn._turn;
      then_at = c.loop-turn.self;
      early = c.loop-turn.invariant.early;
      rested = c.loop-turn.invariant.rested;
      last = inl (record { come = come; takes = c.timed_turn-reading.ensures });
    }

pub returns-then-until-reading-clause-served : goal.returns-then-until-reading-clause-served
returns-then-until-reading-clause-served g c = λ config lease wire clock n before.
    served_until before (returns-then-until-reading-clause-turns g c)

pub returns-clause-turns : goal.returns-clause-turns
returns-clause-turns g c =
    let all : c.loop-turn._turn ≡ 2 ^ 64 - 1 =
    omega (arith, c.loop-turn-test.false, c.loop-turn.auto._turn-end) in
    record {
      before = c.loop-turn._turn;
      then_at = c.loop-turn.self;
      early = c.loop-turn.invariant.early;
      rested = c.loop-turn.invariant.rested;
      last = inr (all, refl, c.loop-turn.invariant.reading_is);
    }

pub returns-clause-served : goal.returns-clause-served
returns-clause-served g c = λ config lease wire clock n before.
    served_until before (returns-clause-turns g c)
