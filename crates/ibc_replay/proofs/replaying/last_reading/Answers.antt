use Rattle.ibc_replay.proofs.StoredSteps.{last_of_history}
use Rattle.ibc_replay.proofs.replaying.last_reading.Goals as goal

pub returns-in-Some : goal.returns-in-Some
returns-in-Some c = last_of_history c.args.world.now c.args.chain c.in-Some.ledger.now.ledger c.history.result.now c.last_in.result c.in-Some.ensures c.history.ensures c.last_in.ensures
