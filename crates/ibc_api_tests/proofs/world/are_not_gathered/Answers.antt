-- Fewer ledgers of one world are of one.
use Rattle.ibc_world_core.proofs.OneWorld.{fewer_are}
use Rattle.ibc_api_tests.proofs.world.are_not_gathered.Goals as goal

pub audit-one-requires : goal.audit-one-requires
audit-one-requires c = fewer_are _ _ _ c.into_ledgers-ledgers.ensures.world c.pop-last.ensures.items
