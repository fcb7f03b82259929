-- Where the audit ends well, the files have the tables, so the journal is the one that they hold.
use Rattle.sqlite.specs.View.{doubt}
use Rattle.sqlite.specs.State.{HasCleanDisk}
use Rattle.sqlite.specs.Files.{file_state}
use Rattle.ibc_node.proofs.Opened.{calm_before}
use Rattle.ibc_node_lines.proofs.running.run_audit.Goals as goal

pub returns : goal.returns
returns g c text items holds clean =
    let conn = file_state c.in_ok-conn.conn in
    let calm : HasCleanDisk conn = calm_before (doubt conn.is_clean) (doubt (file_state c.audit_told.new.conn).is_clean) c.audit_told.ensures.crash.clean clean in
    let rest = c.in_ok-conn.ensures.found calm text items (record { db = holds.db.trees; holds = holds.holds; rows = holds.journal.rows }) c.in_ok-audit_told.ensures.which in
    c.in_ok-audit_told.ensures.audited text items rest clean
