use Rattle.ibc_records.specs.RecordsModel.{core_of}
use Rattle.ibc_channel.proofs.FoundRecords.{connection_there, connection_gone}
use Rattle.ibc_channel.proofs.checks.check_connection.Goals as goal

pub returns-in-Some : goal.returns-in-Some
returns-in-Some c = connection_there (core_of c.args.records.now) c.args.connection.now c.in-Some.field-0.now c.in-Some.ensures

pub returns-in-None : goal.returns-in-None
returns-in-None c = connection_gone (core_of c.args.records.now) c.args.connection.now c.in-None.ensures
