use Rattle.std.proofs.Common.{refl, rules}
use Rattle.std.proofs.lemmas.Bool.{false≢true}
use Rattle.trdp_base.specs.SessionText.{session_of}
use Rattle.trdp_base.proofs.SessionLemmas.{unread}
use Rattle.trdp_base.proofs.session.read_session.Goals as goal

pub returns-in-Err-clause-bad : goal.returns-in-Err-clause-bad
returns-in-Err-clause-bad c =
    (refl, unread c.args.text.now (λ found. false≢true (c.in-Err.ensures.ok.1 found)))

pub returns-in-Ok-clause-value : goal.returns-in-Ok-clause-value
unfolding session_of
returns-in-Ok-clause-value c = search rules
