use Rattle.std.proofs.Common.{◌∙◌, sym}
use Rattle.trdp_model.proofs.StepLemmas.{quotas_more}
use Rattle.trdp_engine.proofs.start.quotas_of.Goals as goal

pub loop-s-preserved : goal.loop-s-preserved
loop-s-preserved c =
    let more = quotas_more c.args.config.now.slots
    c.loop-s.s c.unwrap.result (sym c.unwrap.ensures ∙ c.quotas.ensures.value) in
    rw (c.in_ok-push.ensures.items, c.loop-s.invariant) (sym more)
