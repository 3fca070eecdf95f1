use Rattle.std.proofs.Common.{rules}
use Rattle.trdp_md.specs.Waiting.{reply_time}
use Rattle.trdp_md.proofs.waiting.reply_time.Goals as goal

pub returns-then-timeout-eq0 : goal.returns-then-timeout-eq0
unfolding reply_time
returns-then-timeout-eq0 c = search rules
