-- Each check of the code is the definition's, behind those before it.
use Rattle.std.proofs.Common.{sym, subst, inl, None}
use Rattle.std.specs.Prelude.{IfOk}
use Rattle.ibc_wire.specs.declared.records.ConnectionState.TheVariants.{Init}
use Rattle.ibc_machine.specs.ics03.Connections.{connection_end}
use Rattle.ibc_machine.proofs.PassedChecks.{pass, fail}
use Rattle.ibc_connection.specs.ConnectionHandshake.{init_end}
use Rattle.ibc_connection.proofs.Handshake.{refused_message, init_checks}
use Rattle.ibc_connection.proofs.Opened.{IsAdded, begun_taken}
use Rattle.ibc_connection.proofs.opening_init.open_init.Goals as goal

pub returns-in_err-check_client-clause-answer : goal.returns-in_err-check_client-clause-answer
returns-in_err-check_client-clause-answer c = λ chain chains seen state knows. refused_message _ c.args.records.now c.from_residual.result c.from_residual.ensures.1 (inl (fail _ (sym c.in_err-check_client.ensures) (init_checks _ _ _ _)))

pub returns-in_err-check_number-clause-answer : goal.returns-in_err-check_number-clause-answer
returns-in_err-check_number-clause-answer c = λ chain chains seen state knows.
    refused_message _ c.args.records.now c.from_residual-in_err-check_number.result c.from_residual-in_err-check_number.ensures.1 (inl (fail _ (sym c.in_err-check_number.ensures.checked) (pass (sym c.in_ok-check_client.ensures) (init_checks _ _ _ _))))

pub add_connection-requires : goal.add_connection-requires
add_connection-requires c = c.in_ok-check_number.ensures.free

pub returns-clause-answer : goal.returns-clause-answer
returns-clause-answer c = λ chain chains seen state knows.
    begun_taken _ c.args.records.now c.add_connection.new.records (init_end c.args.message.now) c.add_connection.result
    (pass (sym c.in_ok-check_number.ensures.checked) (pass (sym c.in_ok-check_client.ensures) (init_checks _ _ _ _)))
    (subst (λ end. IfOk c.add_connection.result (IsAdded end c.args.records.now c.add_connection.new.records)) (λ i. connection_end Init (c.in_ok-clone.ensures.cases i) (c.in_ok-clone-2.ensures.cases i) None) c.add_connection.ensures.ok)
    c.add_connection.ensures.err c.add_connection.ensures.unchanged
