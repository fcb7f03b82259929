use Rattle.sqlite.specs.Held.{state}
use Rattle.ibc_node_lines.specs.Sessions.{ServesOn}
use Rattle.ibc_node_lines.proofs.serving.Server.serve_each.Given as goal

abbrev pub invariant-lines : goal.invariant-lines
invariant-lines g l =
    ServesOn (state g.S.Store) l.fn.self.desk.node l.fn.self.told.items (g.W.Write.contents l.fn.output) l.self.desk.node l.self.told.items (g.W.Write.contents l.output)
