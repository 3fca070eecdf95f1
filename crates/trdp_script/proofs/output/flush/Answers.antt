use Rattle.std.proofs.Common.{rules}
use Rattle.trdp_script.proofs.PlayLemmas.Written.{passes_front}
use Rattle.trdp_script.proofs.output.flush.Goals as goal

pub returns-in_err-write_whole-clause-err : goal.returns-in_err-write_whole-clause-err
returns-in_err-write_whole-clause-err g c = let passed =
    passes_front c.in_err-write_whole.ensures.err in search rules
