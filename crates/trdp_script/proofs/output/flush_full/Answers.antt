use Rattle.trdp_script.proofs.PlayLemmas.Written.{passes_nothing}
use Rattle.trdp_script.proofs.output.flush_full.Goals as goal

pub returns-then-len-lt-OUTPUT_FULL-clause-ok : goal.returns-then-len-lt-OUTPUT_FULL-clause-ok
returns-then-len-lt-OUTPUT_FULL-clause-ok g c =
    passes_nothing (g.W.Write.contents c.args.writer.now) c.args.output.now.items
