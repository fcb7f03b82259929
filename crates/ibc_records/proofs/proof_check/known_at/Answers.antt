-- What the client knows decides, or that it isn't there.
use Rattle.ibc_records.proofs.ShownClaims.{no_client, no_height, root_known}
use Rattle.ibc_records.proofs.proof_check.known_at.Goals as goal

pub returns-in-Some-consensus_state : goal.returns-in-Some-consensus_state
returns-in-Some-consensus_state c =
    root_known c.args.records.now c.args.client.now c.args.height c.in-Some.found.now c.in-Some.ensures c.in-Some-consensus_state.known c.in-Some-consensus_state.ensures

pub returns-in-None-consensus_state : goal.returns-in-None-consensus_state
returns-in-None-consensus_state c =
    no_height c.args.records.now c.args.client.now c.args.height c.in-Some.found.now c.in-Some.ensures c.in-None-consensus_state.ensures

pub returns-in-None : goal.returns-in-None
returns-in-None c = no_client c.args.records.now c.args.client.now c.args.height c.in-None.ensures
