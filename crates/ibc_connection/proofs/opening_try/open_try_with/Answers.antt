-- What the checks say is what becomes of the message.
use Rattle.std.proofs.Common.{Some, Err, ap, subst}
use Rattle.std.specs.Prelude.{IfOk}
use Rattle.ibc_wire.specs.declared.records.ConnectionState.TheVariants.{TryOpen}
use Rattle.ibc_machine.specs.ics03.Connections.{connection_end}
use Rattle.ibc_records.proofs.Judging.{stops, unread}
use Rattle.ibc_connection.specs.ConnectionHandshake.{try_end}
use Rattle.ibc_connection.proofs.Handshake.{refused_message, try_checks}
use Rattle.ibc_connection.proofs.Opened.{IsAdded, begun_taken}
use Rattle.ibc_connection.proofs.opening_try.open_try_with.Goals as goal

pub returns-in_err-proofs-clause-answer : goal.returns-in_err-proofs-clause-answer
returns-in_err-proofs-clause-answer c = λ chains seen state knows.
    refused_message _ c.args.records.now c.from_residual.result c.from_residual.ensures.1 (stops _ (unread (λ is. c.in_err-proofs.ensures.bad (ap Err is)) c.in_err-proofs.ensures.err) (try_checks _ _ _ _))

pub returns-in_err-checked-clause-answer : goal.returns-in_err-checked-clause-answer
returns-in_err-checked-clause-answer c = λ chains seen state knows. refused_message _ c.args.records.now c.from_residual-in_err-checked.result c.from_residual-in_err-checked.ensures.1 (c.in_err-checked.ensures.judged chains seen state knows)

pub add_connection-requires : goal.add_connection-requires
add_connection-requires c = c.in_ok-checked.ensures.free

pub returns-clause-answer : goal.returns-clause-answer
returns-clause-answer c = λ chains seen state knows.
    begun_taken _ c.args.records.now c.add_connection.new.records (try_end c.args.message.now) c.add_connection.result (c.in_ok-checked.ensures.judged chains seen state knows)
    (subst (λ end. IfOk c.add_connection.result (IsAdded end c.args.records.now c.add_connection.new.records))
    (λ i. connection_end TryOpen (c.in_ok-clone.ensures.cases i) (c.in_ok-clone-2.ensures.cases i) (Some (c.in_ok-clone-3.ensures.cases i))) c.add_connection.ensures.ok)
    c.add_connection.ensures.err c.add_connection.ensures.unchanged
