-- Where there is no connection, no client has the empty name.
use Rattle.std.proofs.Common.{sym}
use Rattle.ibc_records.specs.RecordsModel.{core_of}
use Rattle.ibc_records.proofs.FoundConnections.{known_nowhere}
use Rattle.ibc_records.proofs.evidence.known_connection.Goals as goal

pub returns-in_default-clause-failed : goal.returns-in_default-clause-failed
returns-in_default-clause-failed c =
    known_nowhere (core_of c.args.records.now) c.args.connection.now c.lemma_names_have_form.ensures c.args.height (sym c.in_default.ensures)
