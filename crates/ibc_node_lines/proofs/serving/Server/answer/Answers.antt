-- The answer to a line waits.
use Rattle.std.proofs.Common.{◌++◌, ◌∷◌, [], ap, ◌∙◌}
use Rattle.sqlite.specs.Held.{state}
use Rattle.ibc_node_lines.proofs.Served.{waits_more}
use Rattle.ibc_node_lines.proofs.serving.Server.answer.Goals as goal

pub returns-clause-line : goal.returns-clause-line
returns-clause-line g c =
    let line = c.in_ok-told.told in
    (line, c.in_ok-told.ensures.fair, c.in_ok-push.ensures.items ∙ ap (λ l. l ++ line ∷ []) c.line_for.ensures.told)

pub returns-clause-tells : goal.returns-clause-tells
returns-clause-tells g c =
    let was = c.args.self.now in
    let line = c.in_ok-told.told in
    waits_more (state g.S.Store) was.desk.node c.line_for.new.self.desk.node was.told.items c.push.new.self.items line (c.in_ok-push.ensures.items ∙ ap (λ l. l ++ line ∷ []) c.line_for.ensures.told)
    c.in_ok-told.ensures.answers
