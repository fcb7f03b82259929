-- The ledger has no entries in the beginning.
use Rattle.ibc_chain_replay.specs.ChainReplays.{heights_in}
use Rattle.ibc_chain_replay.proofs.ChainSteps.{begins}
use Rattle.ibc_chain_replay.proofs.replaying.replay_from.Goals as goal

pub replay_entries-requires : goal.replay_entries-requires
replay_entries-requires c = begins (heights_in c.args.published.now) c.args.ledger.ledger c.requires c.lemma_is_its_history.ensures.is
