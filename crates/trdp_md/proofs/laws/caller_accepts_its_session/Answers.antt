use Rattle.trdp_md.proofs.AnswerLemmas.{accepts_session, accepts_kind}
use Rattle.trdp_md.proofs.laws.caller_accepts_its_session.Goals as goal

pub returns-clause-session : goal.returns-clause-session
returns-clause-session c = accepts_session

pub returns-clause-kind : goal.returns-clause-kind
returns-clause-kind c = accepts_kind
