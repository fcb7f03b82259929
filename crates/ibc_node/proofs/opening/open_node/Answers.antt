-- The node begins where its start left the connection.
use Rattle.ibc_node.proofs.opening.open_node.Goals as goal

pub returns-clause-restarted : goal.returns-clause-restarted
returns-clause-restarted g c text items rest clean = c.in_ok-start.ensures.restarted text items rest clean

pub returns-clause-rest : goal.returns-clause-rest
returns-clause-rest g c text items rest clean = c.in_ok-start.ensures.rest text items rest clean

pub returns-clause-begun : goal.returns-clause-begun
returns-clause-begun g c none = c.in_ok-start.ensures.begun none

pub returns-clause-new : goal.returns-clause-new
returns-clause-new g c none clean = c.in_ok-start.ensures.new none clean

pub returns-clause-marked : goal.returns-clause-marked
returns-clause-marked g c text items rest clean = c.in_ok-start.ensures.marked text items rest clean

pub returns-clause-unmarked : goal.returns-clause-unmarked
returns-clause-unmarked g c none = c.in_ok-start.ensures.unmarked none

pub returns-clause-asked : goal.returns-clause-asked
returns-clause-asked g c text items rest clean = c.in_ok-start.ensures.asked text items rest clean

pub returns-clause-given : goal.returns-clause-given
returns-clause-given g c none = c.in_ok-start.ensures.given none

pub returns-clause-genesis : goal.returns-clause-genesis
returns-clause-genesis g c text items rest clean = c.in_ok-start.ensures.genesis text items rest clean
