-- The end that is built is the one that the peer must have.
use Rattle.std.proofs.Common.{None, subst}
use Rattle.ibc_wire.specs.declared.records.ConnectionState.TheVariants.{Init}
use Rattle.ibc_machine.specs.ics03.Connections.{connection_end, has_connection}
use Rattle.ibc_records.specs.ProofVerdicts.{IsShown}
use Rattle.ibc_connection.proofs.opening_try.check_begun.Goals as goal

pub returns : goal.returns
returns c =
    subst (λ end. IsShown c.args.records.now c.args.message.now.client c.args.message.now.height (has_connection c.args.message.now.peer_connection end) c.args.proof.now c.check_connection.result)
    (λ i. connection_end Init (c.in_ok-clone.ensures.cases i) (c.in_ok-clone-2.ensures.cases i) None) c.check_connection.ensures
