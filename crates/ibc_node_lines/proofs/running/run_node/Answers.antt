-- The node is opened, and serves.
use Rattle.std.proofs.Common.{option_copied}
use Rattle.sqlite.specs.Files.{file_state}
use Rattle.ibc_node_lines.proofs.NodeRuns.{has_served}
use Rattle.ibc_node_lines.proofs.running.run_node.Goals as goal

pub returns-in-Ok : goal.returns-in-Ok
returns-in-Ok g c text items holds =
    has_served file_state (option_copied c.args.genesis) text items c.in-Ok.node c.serve.result (g.W.Write.contents c.args.output.now) (g.W.Write.contents c.serve.new.output)
    (c.in-Ok.ensures.restarted text items holds) (c.in-Ok.ensures.asked text items holds) (c.in-Ok.ensures.genesis text items holds) c.in-Ok.ensures.none
    (λ rest kept. c.serve.ensures.all text items rest kept) c.serve.ensures.told
