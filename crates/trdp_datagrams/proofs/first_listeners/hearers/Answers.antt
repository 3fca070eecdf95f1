use Rattle.std.proofs.Common.{◌∙◌, sym, arith}
use Rattle.trdp_store.specs.Acting.{slot_at}
use Rattle.trdp_store.proofs.StoreLemmas.Keys.{KeysTell}
use Rattle.trdp_datagrams.proofs.NoteLemmas.ByCom.{nobody_hears}
use Rattle.trdp_datagrams.proofs.NoteLemmas.HeardByRuns.{none_noted, heard_by_both}
use Rattle.trdp_datagrams.proofs.first_listeners.hearers.Goals as goal

pub returns-in-Md-clause-heard : goal.returns-in-Md-clause-heard
returns-in-Md-clause-heard c = λ s lt.
    let tell : KeysTell c.args.store.now =
    record { found = c.sound.ensures.found; listed = c.sound.ensures.listed } in
    let first = rw c.in-Md.is at c.hear_run.ensures.heard s in
    let second = rw c.in-Md.is at c.hear_run-in-Md.ensures.heard s in
    rw c.in-Md.is
    (heard_by_both c.args.store.now s c.in-Md.src
    c.in-Md.dst _ c.args.globals.now tell (c.sound.ensures.sound.slots s).rising
    c.none-heard.result c.hear_run.new.heard c.hear_run-in-Md.new.heard
    (rw c.none-heard.ensures (none_noted 16 s)) first second)

pub returns-in_default-clause-heard : goal.returns-in_default-clause-heard
returns-in_default-clause-heard c = λ s lt.
    rw (c.in_default.is, c.none-heard.ensures) (none_noted 16 s
    ∙ sym (nobody_hears _ _ _ c.args.globals.now (slot_at s c.args.store.now).objects))

pub returns-in-Md-clause-comparisons : goal.returns-in-Md-clause-comparisons
returns-in-Md-clause-comparisons c = λ b lt.
    omega (arith, c.hear_run.ensures.comparisons b lt, c.hear_run-in-Md.ensures.comparisons b lt)

pub returns-in-Md-clause-tests : goal.returns-in-Md-clause-tests
returns-in-Md-clause-tests c =
    rw c.in-Md.is (omega (arith, c.hear_run.ensures.tests, c.hear_run-in-Md.ensures.tests))
