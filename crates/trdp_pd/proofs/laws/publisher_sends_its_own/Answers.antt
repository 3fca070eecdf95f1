use Rattle.trdp_pd.proofs.PublisherLemmas.{sent-com_id, sent-value, pulled-com_id, pulled-value}
use Rattle.trdp_pd.proofs.laws.publisher_sends_its_own.Goals as goal

pub returns-clause-pulled_com_id : goal.returns-clause-pulled_com_id
returns-clause-pulled_com_id c = pulled-com_id

pub returns-clause-pulled_value : goal.returns-clause-pulled_value
returns-clause-pulled_value c = pulled-value

pub returns-clause-fired_com_id : goal.returns-clause-fired_com_id
returns-clause-fired_com_id c = sent-com_id

pub returns-clause-fired_value : goal.returns-clause-fired_value
returns-clause-fired_value c = sent-value
