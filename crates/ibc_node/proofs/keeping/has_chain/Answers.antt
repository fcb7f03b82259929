use Rattle.std.proofs.Common.{sym, ap, ◌∙◌}
use Rattle.std.specs.Prelude.{is_some}
use Rattle.ibc_replay.proofs.StoredSteps.{there_or_none, some_mapped}
use Rattle.ibc_node.proofs.keeping.has_chain.Goals as goal

pub returns : goal.returns
returns c = there_or_none c.args.world.now.ledgers c.args.chain c.is_some.result (c.is_some.ensures ∙ sym (some_mapped _ c.ledger.result) ∙ ap is_some c.ledger.ensures)
