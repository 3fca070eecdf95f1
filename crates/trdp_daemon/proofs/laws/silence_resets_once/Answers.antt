use Rattle.trdp_daemon.proofs.SilenceLemmas.{turns_once}
use Rattle.trdp_daemon.proofs.laws.silence_resets_once.Goals as goal

pub returns : goal.returns
returns c = λ service slot turns lineless. turns_once slot service turns lineless
