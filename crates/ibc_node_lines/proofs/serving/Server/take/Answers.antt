use Rattle.ibc_node_lines.proofs.serving.Server.take.Goals as goal

pub returns-clause-answers : goal.returns-clause-answers
returns-clause-answers g c = c.in_ok-take.ensures.tells

pub returns-clause-asked : goal.returns-clause-asked
returns-clause-asked g c = c.in_ok-take.ensures.asked
