-- A height that the ledger doesn't keep has no proof.
use Rattle.std.proofs.Common.{◌∙◌, Err, ap}
use Rattle.ibc_script_worlds.proofs.WorldLooks.{not_proved, proved}
use Rattle.ibc_node_lines.proofs.desk.ledger_proof.Goals as goal

pub returns-in-Ok : goal.returns-in-Ok
returns-in-Ok c = proved c.args.height c.args.key.now c.args.ledger.now.ledger c.in-Ok.proof c.in-Ok.ensures.ok

pub returns-in-Err-NoConsensus : goal.returns-in-Err-NoConsensus
returns-in-Err-NoConsensus c = not_proved c.args.height c.args.key.now c.args.ledger.now.ledger (c.query_proof.ensures.unknown.0 (c.in-Err-NoConsensus.is ∙ ap Err c.in-Err-NoConsensus.field-0-is))
