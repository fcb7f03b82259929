-- What was served is beside its journal, nothing waits, and what was told is of what the world keeps.
use Rattle.std.proofs.Common.{sym, subst}
use Rattle.sqlite.specs.Held.{state}
use Rattle.sqlite.specs.State.{HasCleanDisk}
use Rattle.ibc_journal.proofs.Restarted.{lasts_at_rest}
use Rattle.ibc_node.specs.Nodes.{HasAll, StaysBeside, node_connection, node_journal}
use Rattle.ibc_node.proofs.Staying.{has_all}
use Rattle.ibc_node_lines.specs.Sessions.{HasTold}
use Rattle.ibc_node_lines.proofs.serving.serve.Goals as goal

pub returns-clause-all : goal.returns-clause-all
returns-clause-all g c text items rest kept clean =
    let shows = state g.S.Store in
    let after = c.serve_all.new.self.desk.node in
    let told = c.in_ok-serve_all.ensures.told c.in_ok-server.ensures.none in
    let stays = subst (λ n. StaysBeside shows n after) c.in_ok-server.ensures.node told.tells.stays in
    let all = has_all shows c.args.node after text items stays c.in_ok-serve_all.ensures.none (λ its here. lasts_at_rest g.S.Store g.met.S.Store.settled (node_connection after) text its here) rest kept (subst (λ n. HasCleanDisk (node_journal shows n)) c.into_node.ensures clean) in
    subst (HasAll shows text items) (sym c.into_node.ensures) all

pub returns-clause-told : goal.returns-clause-told
returns-clause-told g c =
    let shows = state g.S.Store in
    let before = g.W.Write.contents c.args.output.now in
    let after = g.W.Write.contents c.serve_all.new.output in
    let now = c.serve_all.new.self.desk.node in
    let told = subst (λ n. HasTold shows n before now after) c.in_ok-server.ensures.node (c.in_ok-serve_all.ensures.told c.in_ok-server.ensures.none) in
    subst (λ n. HasTold shows c.args.node before n after) (sym c.into_node.ensures) told
