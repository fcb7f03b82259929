-- A question tells of no event.
use Rattle.std.proofs.Common.{◌≡◌, inr, string_bytes, sym, subst}
use Rattle.sqlite.specs.Held.{state}
use Rattle.ibc_node.proofs.Opened.{rests_on}
use Rattle.ibc_node.specs.Nodes.{node_end, node_world}
use Rattle.ibc_node_lines.specs.declared.lines.NodeLine.TheVariants as line
use Rattle.ibc_node_lines.specs.OtherLines.{IsMistakenLine}
use Rattle.ibc_node_lines.specs.QuestionAnswers.{AnswersQuestion}
use Rattle.ibc_node_lines.specs.Sessions.{IsFairLine}
use Rattle.ibc_node_lines.proofs.Served.{fair_other, mistaken_fair, tells_nothing}
use Rattle.ibc_node_lines.proofs.serving.Server.tell.Goals as goal

pub returns-clause-answers : goal.returns-clause-answers
returns-clause-answers g c = tells_nothing (state g.S.Store) c.args.self.now.desk.node c.tell.new.desk.node c.other.result c.in_ok-text.ensures.read.beside c.other.ensures.none

pub returns-clause-read : goal.returns-clause-read
returns-clause-read g c = rests_on c.other.result c.in_ok-text.ensures.read

pub returns-clause-fair : goal.returns-clause-fair
returns-clause-fair g c =
    let was = c.args.self.now in
    let node = was.desk.node in
    fair_other c.in_ok-text.text c.other.result (λ it. AnswersQuestion node c.args.question (string_bytes it)) (λ it told. told ≡ line.Other it) (λ why told. IsMistakenLine was.number why told) c.in_ok-text.ensures.answers
    (λ it told answers is. let fair : IsFairLine (line.Other it) = inr (node_world node, (node_end node).place, c.args.question, answers) in subst IsFairLine (sym is) fair)
    (λ why told is. mistaken_fair was.number why told is) c.other.ensures.text
