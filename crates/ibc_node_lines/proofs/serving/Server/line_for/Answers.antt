-- A line that asks for nothing tells of no event.
use Rattle.sqlite.specs.Held.{state}
use Rattle.ibc_node.proofs.Staying.{keeps_same}
use Rattle.std.proofs.lemmas.Result.{IfOk-weaker}
use Rattle.ibc_node_lines.proofs.Served.{mistaken_fair, tells_nothing}
use Rattle.ibc_node_lines.proofs.serving.Server.line_for.Goals as goal

pub returns-in-Err-clause-answers : goal.returns-in-Err-clause-answers
returns-in-Err-clause-answers g c =
    let shows = state g.S.Store in
    let node = c.args.self.now.desk.node in
    tells_nothing shows node node c.other.result (keeps_same shows node) c.other.ensures.none

pub returns-in-Err-clause-fair : goal.returns-in-Err-clause-fair
returns-in-Err-clause-fair g c =
    IfOk-weaker c.other.result _ _ (λ told is. mistaken_fair c.args.self.now.number c.in-Err.why told is) c.other.ensures.text
