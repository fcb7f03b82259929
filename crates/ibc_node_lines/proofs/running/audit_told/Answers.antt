-- What is told well is a lawful run.
use Rattle.std.proofs.Common.{option_copied}
use Rattle.sqlite.specs.Held.{state}
use Rattle.ibc_node.proofs.Opened.{rests_on}
use Rattle.ibc_node_lines.proofs.NodeRuns.{has_audited}
use Rattle.ibc_node_lines.proofs.running.audit_told.Goals as goal

pub returns-clause-audited : goal.returns-clause-audited
returns-clause-audited g c text items rest clean =
    has_audited (option_copied c.args.genesis) text items (state g.S.Store c.audit_journal.new.conn) (g.W.Write.contents c.args.output.now) (g.W.Write.contents c.tell_audit-told.new.output) c.in_ok-found.found
    c.tell_audit-told.result (c.in_ok-found.ensures.asked text items rest.journal clean) (c.in_ok-found.ensures.audited text items rest.journal clean) (c.in_ok-found.ensures.rest text items rest clean)
    c.tell_audit-told.ensures.lawful c.tell_audit-told.ensures.told

pub returns-clause-which : goal.returns-clause-which
returns-clause-which g c = rests_on c.tell_audit-told.result c.in_ok-found.ensures.which
