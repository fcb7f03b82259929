-- The root is told, or that there is none.
use Rattle.std.proofs.Common.{None, Some}
use Rattle.std.proofs.lemmas.Result.{IfOk-weaker}
use Rattle.ibc_node_lines.proofs.questions.tell_root.Goals as goal

pub returns-in-Some : goal.returns-in-Some
returns-in-Some g c = IfOk-weaker c.root_found.result _ _ (λ text is. (Some c.in-Some.block.root, is)) c.root_found.ensures

pub returns-in-None : goal.returns-in-None
returns-in-None g c = IfOk-weaker c.no_root.result _ _ (λ text is. (None, is)) c.no_root.ensures
