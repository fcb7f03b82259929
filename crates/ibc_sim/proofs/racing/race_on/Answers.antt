-- The chains were asked nothing before.
use Rattle.ibc_sim.proofs.racing.race_on.Goals as goal

pub returns-in-Ok : goal.returns-in-Ok
returns-in-Ok g c = c.take_all-raced.ensures c.in-Ok.ensures.new
