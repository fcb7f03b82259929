-- The node's world has it.
use Rattle.std.proofs.Common.{◌∙◌, ap, slice_get}
use Rattle.ibc_refinement.specs.World.{WorldState}
use Rattle.ibc_node_lines.proofs.desk.Desk.ledger.Goals as goal

pub returns : goal.returns
returns g c = c.ledger.ensures ∙ ap (λ (w : WorldState). slice_get w.ledgers c.args.chain) c.world.ensures
