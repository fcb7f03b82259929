-- Where there is no line, nothing is done.
use Rattle.sqlite.specs.Held.{state}
use Rattle.ibc_node.proofs.Staying.{keeps_same}
use Rattle.ibc_node.proofs.Told.{tells_same}
use Rattle.ibc_node_lines.specs.Told.{answers_in}
use Rattle.ibc_node_lines.proofs.serving.Server.answer_next.Goals as goal

pub returns-then-not-branch-clause-tells : goal.returns-then-not-branch-clause-tells
returns-then-not-branch-clause-tells g c =
    let shows = state g.S.Store in
    let was = c.args.self.now in
    tells_same shows was.desk.node was.desk.node (answers_in was.told.items) (keeps_same shows was.desk.node)

pub returns-clause-tells : goal.returns-clause-tells
returns-clause-tells g c = c.in_ok-answer.ensures.tells

pub returns-clause-line : goal.returns-clause-line
returns-clause-line g c = c.in_ok-answer.ensures.line
