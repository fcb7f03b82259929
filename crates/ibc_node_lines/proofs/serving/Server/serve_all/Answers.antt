-- The first line, then all others, and at the end what waits.
use Rattle.sqlite.specs.Held.{state}
use Rattle.ibc_node_lines.proofs.Served.{has_told, on_both, serves_on}
use Rattle.ibc_node_lines.proofs.serving.Server.serve_all.Goals as goal

pub returns-clause-told : goal.returns-clause-told
returns-clause-told g c =
    let shows = state g.S.Store in
    let was = c.args.self.now in
    let mid = c.serve_each.new.self in
    let now = c.settle.new.self in
    let before = g.W.Write.contents c.args.output.now in
    let first = g.W.Write.contents c.resume.new.output in
    let out = g.W.Write.contents c.serve_each.new.output in
    let after = g.W.Write.contents c.settle.new.output in
    on_both c.settle.result
    (λ served left none. has_told shows was.desk.node now.desk.node was.told.items now.told.items before first after c.in_ok-resume.ensures none
    (serves_on shows was.desk.node mid.desk.node now.desk.node was.told.items mid.told.items now.told.items first out after c.in_ok-serve_each.ensures served) left)
    c.settle.ensures.serves c.settle.ensures.cleared
