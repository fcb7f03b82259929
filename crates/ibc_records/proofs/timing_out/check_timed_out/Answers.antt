-- A height that the client knows has a time.
use Rattle.ibc_records.proofs.Limits.{time_there}
use Rattle.ibc_records.proofs.timing_out.check_timed_out.Goals as goal

pub returns-in_default-2 : goal.returns-in_default-2
returns-in_default-2 c = absurd (time_there c.args.records.now c.args.client.now c.args.height c.requires c.in_default.ensures)
