use Rattle.ibc_chain_replay.proofs.DealtPasses.{still_own}
use Rattle.ibc_chain_replay.proofs.publishing.Publisher.published.Goals as goal

pub invariant_of-self : goal.invariant_of-self
invariant_of-self c = still_own c.self.inside.table.value c.self.inside.pass c.published.new.pass c.published.ensures.pass c.self.invariant
