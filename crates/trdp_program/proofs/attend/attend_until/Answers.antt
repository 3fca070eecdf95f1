use Rattle.std.proofs.Common.{◌≡◌, ◌≤◌, ◌<◌, ◌-◌, ◌^◌, arith, zero, suc, refl}
use Rattle.trdp_program.proofs.LookLemmas.{looks_none, looks_more, looks_end, looks_all}
use Rattle.trdp_program.proofs.LookLemmas.{text_none, text_both}
use Rattle.trdp_program.proofs.attend.attend_until.Goals as goal

pub loop-look-init : goal.loop-look-init
loop-look-init g c = (
  λ config lease wire clock n before. looks_none c.args.due 0 before,
  text_none (g.E.Write.contents c.args.errors.now),
  zero,
  (refl, refl, refl),
)

pub returns-then-due-reading-clause-served : goal.returns-then-due-reading-clause-served
returns-then-due-reading-clause-served g c = λ config lease wire clock n before.
    let so_far = c.loop-look.invariant.0 config lease wire clock n before in
    let on = c.attend-reading.ensures.served config lease wire clock so_far.n so_far.served in
    let within : c.min.result ≤ c.args.due = omega (arith, c.min.ensures) in
    let late : c.args.due ≤ c.attend-reading.result = omega (arith, c.if-due-reading.true) in
    looks_end so_far on within late

pub returns-then-due-reading-clause-losses : goal.returns-then-due-reading-clause-losses
returns-then-due-reading-clause-losses g c =
    text_both (g.E.Write.contents c.args.errors.now) (g.E.Write.contents c.loop-look.errors)
    (g.E.Write.contents c.look.new.errors) c.loop-look.invariant.1 c.look.ensures.appends

pub returns-then-due-reading-clause-looked : goal.returns-then-due-reading-clause-looked
returns-then-due-reading-clause-looked g c = (
  suc c.loop-look.invariant.2,
  (
    c.loop-look.daemon,
    c.loop-look.reports,
    g.E.Write.contents c.loop-look.errors,
    c.loop-look.invariant.3,
    record {
      reading = c.attend-reading.result;
      attends = rw (c.min.ensures, c.due.ensures) at c.attend-reading.ensures.turns;
      looks = record {
        due = c.look.ensures.due;
        quiet = c.look.ensures.quiet;
        told = c.look.ensures.told;
      };
    },
  ),
)

pub loop-look-preserved : goal.loop-look-preserved
loop-look-preserved g c =
    let within : c.min.result ≤ c.args.due = omega (arith, c.min.ensures) in
    let sooner : c.attend-reading.result < c.args.due = omega (arith, c.if-due-reading.false) in (
      λ config lease wire clock n before.
          let so_far = c.loop-look.invariant.0 config lease wire clock n before in
          let on = c.attend-reading.ensures.served config lease wire clock so_far.n so_far.served in
          looks_more so_far on within sooner,
      text_both (g.E.Write.contents c.args.errors.now) (g.E.Write.contents c.loop-look.errors)
          (g.E.Write.contents c.look.new.errors) c.loop-look.invariant.1 c.look.ensures.appends,
      suc c.loop-look.invariant.2,
      (
        c.loop-look.daemon,
        c.loop-look.reports,
        g.E.Write.contents c.loop-look.errors,
        c.loop-look.invariant.3,
        record {
          reading = c.attend-reading.result;
          attends = rw (c.min.ensures, c.due.ensures) at c.attend-reading.ensures.turns;
          looks = record {
            due = c.look.ensures.due;
            quiet = c.look.ensures.quiet;
            told = c.look.ensures.told;
          };
        },
      ),
    )

pub returns-clause-served : goal.returns-clause-served
returns-clause-served g c = λ config lease wire clock n before.
    let all : c.loop-look._look ≡ 2 ^ 64 - 1 =
    omega (arith, c.loop-look-test.false, c.loop-look.auto._look-end) in
    looks_all all (c.loop-look.invariant.0 config lease wire clock n before)

pub returns-clause-looked : goal.returns-clause-looked
returns-clause-looked g c = (c.loop-look.invariant.2, c.loop-look.invariant.3)
