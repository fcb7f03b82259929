-- Line by line.
use Rattle.sqlite.specs.Held.{state}
use Rattle.ibc_node_lines.proofs.Served.{serves_next, serves_same, serves_on}
use Rattle.ibc_node_lines.proofs.serving.Server.serve_each.Goals as goal

pub lines-init : goal.lines-init
lines-init g c = serves_same (state g.S.Store) c.args.self.now.desk.node c.args.self.now.told.items (g.W.Write.contents c.args.output.now)

pub lines-preserved : goal.lines-preserved
lines-preserved g c =
    let shows = state g.S.Store in
    let was = c.args.self.now in
    let at = c.lines in
    let mid = c.answer_next.new.self in
    let now = c.settle_if_due.new.self in
    let before = g.W.Write.contents c.args.output.now in
    let out = g.W.Write.contents at.output in
    let after = g.W.Write.contents c.settle_if_due.new.output in
    let next = c.in_ok-answer_next in
    let answered = serves_next shows next.field-0 at.self.desk.node mid.desk.node at.self.told.items mid.told.items out next.ensures.line next.ensures.tells in
    let one = serves_on shows was.desk.node at.self.desk.node mid.desk.node was.told.items at.self.told.items mid.told.items before out out at.invariant answered in
    serves_on shows was.desk.node mid.desk.node now.desk.node was.told.items mid.told.items now.told.items before out after one c.in_ok-settle_if_due.ensures.serves

pub returns-then-not-branch : goal.returns-then-not-branch
returns-then-not-branch g c =
    let shows = state g.S.Store in
    let was = c.args.self.now in
    let at = c.lines in
    let mid = c.answer_next.new.self in
    let before = g.W.Write.contents c.args.output.now in
    let out = g.W.Write.contents at.output in
    let next = c.in_ok-answer_next in
    let answered = serves_next shows next.field-0 at.self.desk.node mid.desk.node at.self.told.items mid.told.items out next.ensures.line next.ensures.tells in
    serves_on shows was.desk.node at.self.desk.node mid.desk.node was.told.items at.self.told.items mid.told.items before out out at.invariant answered

pub returns : goal.returns
returns g c = c.lines.invariant
