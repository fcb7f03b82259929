-- A height is known where the client holds a consensus state of it.
use Rattle.std.proofs.Common.{ap, ◌∙◌, is_some, Some, None}
use Rattle.ibc_records.proofs.ShownClaims.{knows_by}
use Rattle.ibc_records.proofs.proof_check.knows.Goals as goal

pub returns-in-Some : goal.returns-in-Some
returns-in-Some c =
    c.is_some.ensures ∙ ap is_some c.consensus_state.ensures ∙ knows_by c.args.records.now c.args.client.now c.args.height (Some c.in-Some.found.now) c.in-Some.ensures

pub returns-in-None : goal.returns-in-None
returns-in-None c = knows_by c.args.records.now c.args.client.now c.args.height None c.in-None.ensures
