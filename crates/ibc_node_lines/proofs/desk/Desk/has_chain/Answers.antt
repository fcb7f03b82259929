-- A chain is there where its ledger is.
use Rattle.std.proofs.Common.{Bor, sym, ap, ◌∙◌}
use Rattle.std.specs.Prelude.{is_some}
use Rattle.ibc_ledger.specs.LedgerModel.{LedgerModel}
use Rattle.ibc_replay.proofs.StoredSteps.{some_mapped}
use Rattle.ibc_node_lines.proofs.desk.Desk.has_chain.Goals as goal

pub returns : goal.returns
returns g c = c.is_some.ensures ∙ sym (some_mapped (λ (l : Bor LedgerModel). l.now.ledger) c.ledger.result) ∙ ap is_some c.ledger.ensures
