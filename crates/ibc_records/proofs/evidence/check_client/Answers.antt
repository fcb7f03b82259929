use Rattle.ibc_records.proofs.Judging.{client_there, client_gone}
use Rattle.ibc_records.proofs.evidence.check_client.Goals as goal

pub returns-in-Some : goal.returns-in-Some
returns-in-Some c = client_there c.args.records.now c.args.client.now c.in-Some.field-0.now c.in-Some.ensures

pub returns-in-None : goal.returns-in-None
returns-in-None c = client_gone c.args.records.now c.args.client.now c.in-None.ensures
