use Rattle.ibc_laws.proofs.steps.Moments.{lemma_each_moment}
use Rattle.ibc_laws.proofs.lemma_each_event_has_its_moment.Goals as goal

pub returns : goal.returns
returns c = lemma_each_moment
