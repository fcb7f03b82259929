-- All that was told is given.
use Rattle.std.proofs.Common.{◌++◌, ap, ◌∙◌}
use Rattle.ibc_node_lines.proofs.desk.Desk.taken.Goals as goal

pub returns-clause-told : goal.returns-clause-told
returns-clause-told g c = c.in_ok-append.ensures.items ∙ ap (λ front. front ++ c.args.self.now.told.items) c.new-told.ensures.items
