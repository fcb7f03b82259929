-- What the files hold of a journal is what the connection is over, and so the world is its replay.
use Rattle.std.proofs.Common.{◌≡◌, ◌⊎◌, Some, option_copied}
use Rattle.sqlite.specs.View.{doubt}
use Rattle.sqlite.specs.WalFiles.{image_at}
use Rattle.sqlite.specs.State.{HasCleanDisk}
use Rattle.sqlite.specs.Files.{file_state}
use Rattle.ibc_journal.specs.Tables.{no_schema, journal_schema}
use Rattle.ibc_journal.specs.Restarts.{IsAtRest}
use Rattle.ibc_journal.proofs.Restarted.{finds_journal}
use Rattle.ibc_node.specs.Nodes.{IsGiven, IsRestarted, IsBegun}
use Rattle.ibc_node.specs.Marks.{IsMarked}
use Rattle.ibc_node.proofs.Opened.{calm_ok, ok_both, one_known, both_known, either_ok, found_at_rest}
use Rattle.ibc_node.proofs.opening.open_at.Goals as goal

pub returns-clause-restarted : goal.returns-clause-restarted
returns-clause-restarted g c text items holds =
    let conn = file_state c.in_ok-conn.conn in
    both_known c.open_node.result ((conn.now.schema ≡ journal_schema) ⊎ (conn.now.schema ≡ no_schema)) (IsAtRest conn text items) (HasCleanDisk conn) (λ node. HasCleanDisk (file_state node.conn))
    (λ node. IsRestarted text items node.world node.end) (λ node. IsAtRest (file_state node.conn) text items) c.open_node.ensures.which
    (calm_ok c.open_node.result (doubt conn.is_clean) (λ node. doubt (file_state node.conn).is_clean) c.open_node.ensures.calm)
    (λ clean which. let opened = c.in_ok-conn.ensures.opened clean in found_at_rest (image_at g.S.Start) conn text items opened.0 opened.1 (c.in_ok-conn.ensures.found clean) holds which)
    (λ rest. c.open_node.ensures.restarted text items rest) (λ rest. c.open_node.ensures.rest text items rest)

pub returns-clause-rows : goal.returns-clause-rows
returns-clause-rows g c text items holds =
    let conn = file_state c.in_ok-conn.conn in
    either_ok c.open_node.result (conn.now.schema ≡ journal_schema) (conn.now.schema ≡ no_schema) (IsAtRest conn text items) (HasCleanDisk conn) (λ node. HasCleanDisk (file_state node.conn))
    (λ node. IsRestarted text items node.world node.end) (λ node. IsBegun node.genesis.items node.world node.end × (option_copied c.args.genesis ≡ Some node.genesis.items)) c.open_node.ensures.which
    (calm_ok c.open_node.result (doubt conn.is_clean) (λ node. doubt (file_state node.conn).is_clean) c.open_node.ensures.calm)
    (λ clean schema. finds_journal (image_at g.S.Start) conn (c.in_ok-conn.ensures.opened clean).0 (c.in_ok-conn.ensures.found clean) text items holds schema)
    (λ rest. c.open_node.ensures.restarted text items rest)
    (λ none. ok_both c.open_node.result (λ node. IsBegun node.genesis.items node.world node.end) (λ node. option_copied c.args.genesis ≡ Some node.genesis.items) (c.open_node.ensures.begun none) (c.open_node.ensures.given none))

pub returns-clause-marked : goal.returns-clause-marked
returns-clause-marked g c text items holds =
    let conn = file_state c.in_ok-conn.conn in
    one_known c.open_node.result ((conn.now.schema ≡ journal_schema) ⊎ (conn.now.schema ≡ no_schema)) (IsAtRest conn text items) (HasCleanDisk conn) (λ node. HasCleanDisk (file_state node.conn))
    (IsMarked items) c.open_node.ensures.which
    (calm_ok c.open_node.result (doubt conn.is_clean) (λ node. doubt (file_state node.conn).is_clean) c.open_node.ensures.calm)
    (λ clean which. let opened = c.in_ok-conn.ensures.opened clean in found_at_rest (image_at g.S.Start) conn text items opened.0 opened.1 (c.in_ok-conn.ensures.found clean) holds which)
    (λ rest. c.open_node.ensures.marked text items rest)

pub returns-clause-asked : goal.returns-clause-asked
returns-clause-asked g c text items holds =
    let conn = file_state c.in_ok-conn.conn in
    one_known c.open_node.result ((conn.now.schema ≡ journal_schema) ⊎ (conn.now.schema ≡ no_schema)) (IsAtRest conn text items) (HasCleanDisk conn) (λ node. HasCleanDisk (file_state node.conn))
    (λ node. IsGiven (option_copied c.args.genesis) text) c.open_node.ensures.which
    (calm_ok c.open_node.result (doubt conn.is_clean) (λ node. doubt (file_state node.conn).is_clean) c.open_node.ensures.calm)
    (λ clean which. let opened = c.in_ok-conn.ensures.opened clean in found_at_rest (image_at g.S.Start) conn text items opened.0 opened.1 (c.in_ok-conn.ensures.found clean) holds which)
    (λ rest. c.open_node.ensures.asked text items rest)

pub returns-clause-genesis : goal.returns-clause-genesis
returns-clause-genesis g c text items holds =
    let conn = file_state c.in_ok-conn.conn in
    one_known c.open_node.result ((conn.now.schema ≡ journal_schema) ⊎ (conn.now.schema ≡ no_schema)) (IsAtRest conn text items) (HasCleanDisk conn) (λ node. HasCleanDisk (file_state node.conn))
    (λ node. node.genesis.items ≡ text) c.open_node.ensures.which
    (calm_ok c.open_node.result (doubt conn.is_clean) (λ node. doubt (file_state node.conn).is_clean) c.open_node.ensures.calm)
    (λ clean which. let opened = c.in_ok-conn.ensures.opened clean in found_at_rest (image_at g.S.Start) conn text items opened.0 opened.1 (c.in_ok-conn.ensures.found clean) holds which)
    (λ rest. c.open_node.ensures.genesis text items rest)

pub returns-clause-none : goal.returns-clause-none
returns-clause-none g c = c.open_node.ensures.none
