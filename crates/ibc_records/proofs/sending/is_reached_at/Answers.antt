-- The time that the client knows is the one that the ledger's state says.
use Rattle.std.proofs.Common.{◌∙◌}
use Rattle.ibc_records.proofs.Limits.{reached_known, reached_unknown}
use Rattle.ibc_records.proofs.sending.is_reached_at.Goals as goal

pub returns-in-Some : goal.returns-in-Some
returns-in-Some c = λ seen state knows.
    c.is_reached.ensures ∙ reached_known c.args.records.now state seen knows c.args.client.now c.args.height c.args.limit c.in-Some.time c.in-Some.ensures

pub returns-in-None : goal.returns-in-None
returns-in-None c = λ seen state knows.
    reached_unknown c.args.records.now state seen knows c.args.client.now c.args.height c.args.limit c.in-None.ensures
