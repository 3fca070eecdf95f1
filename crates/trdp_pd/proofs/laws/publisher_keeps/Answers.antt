use Rattle.trdp_pd.specs.PublisherLaws.{terms-firing}
use Rattle.trdp_pd.proofs.PublisherLemmas.{value-firing, terms-taking, value-taking, due-taking}
use Rattle.trdp_pd.proofs.laws.publisher_keeps.Goals as goal

pub returns-clause-taken_terms : goal.returns-clause-taken_terms
returns-clause-taken_terms c = terms-taking

pub returns-clause-taken_value : goal.returns-clause-taken_value
returns-clause-taken_value c = value-taking

pub returns-clause-taken_due : goal.returns-clause-taken_due
returns-clause-taken_due c = due-taking

pub returns-clause-fired_terms : goal.returns-clause-fired_terms
returns-clause-fired_terms c = terms-firing

pub returns-clause-fired_value : goal.returns-clause-fired_value
returns-clause-fired_value c = value-firing
