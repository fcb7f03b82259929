use Rattle.ibc_handle.proofs.OneWorld.{others_are}
use Rattle.ibc_handle.proofs.ledgers.WorldLedgers.take_first.Goals as goal

pub invariant_of-self : goal.invariant_of-self
invariant_of-self c = others_are c.self.inside.ledgers.items c.remove.new.self.items c.remove.ensures.by_index.2 c.self.invariant
