-- The connection that is asked is the end's own.
use Rattle.std.proofs.Common.{◌≡◌, Some, Ok, Err, subst}
use Rattle.std.specs.Prelude.{IfOk, IfErr}
use Rattle.ibc_wire.specs.declared.records.ChannelEnd.{ChannelEnd}
use Rattle.ibc_machine.specs.ics04.Channels.{client_of}
use Rattle.ibc_machine.specs.ics24.Evidence.{require_known}
use Rattle.ibc_machine.specs.chain.Records.{connection_at}
use Rattle.ibc_records.specs.RecordsModel.{core_of}
use Rattle.ibc_records.proofs.ends.known_over.Goals as goal

pub returns-clause-there : goal.returns-clause-there
returns-clause-there c =
    subst (λ (end : ChannelEnd). IfOk c.known_connection.result (λ connection. connection_at (core_of c.args.records.now) end.connection ≡ Some connection.now)) c.end.ensures c.known_connection.ensures.there

pub returns-clause-passed : goal.returns-clause-passed
returns-clause-passed c =
    subst (λ (end : ChannelEnd). IfOk c.known_connection.result (λ _. require_known (core_of c.args.records.now) (client_of (core_of c.args.records.now) end.connection) c.args.height ≡ Ok tt)) c.end.ensures c.known_connection.ensures.passed

pub returns-clause-failed : goal.returns-clause-failed
returns-clause-failed c =
    subst (λ (end : ChannelEnd). IfErr c.known_connection.result (λ refusal. require_known (core_of c.args.records.now) (client_of (core_of c.args.records.now) end.connection) c.args.height ≡ Err refusal)) c.end.ensures c.known_connection.ensures.failed
