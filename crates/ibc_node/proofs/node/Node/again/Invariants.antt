use Rattle.std.proofs.Common.{[]}
use Rattle.sqlite.specs.Held.{state}
use Rattle.ibc_node.specs.Nodes.{TellsOn}
use Rattle.ibc_node.proofs.node.Node.again.Given as goal

abbrev pub invariant-loop-place : goal.invariant-loop-place
invariant-loop-place g l = TellsOn (state g.S.Store) l.fn.self [] l.self l.told.items
