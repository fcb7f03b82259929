use Rattle.ibc_chain_replay.proofs.DealtPasses.{still_own}
use Rattle.ibc_chain_replay.proofs.publishing.Publisher.publish.Goals as goal

pub invariant_of-self : goal.invariant_of-self
invariant_of-self c = still_own c.self.inside.table.value c.self.inside.pass c.publish.new.pass c.publish.ensures.pass c.self.invariant
