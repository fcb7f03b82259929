-- The plans of the two ledgers are answered.
use Rattle.std.proofs.Common.{◌≡◌, Bor, IfOk, Option, option_map, slice_get, subst}
use Rattle.ibc_machine.specs.ledger.Ledgers.{Ledger}
use Rattle.ibc_ledger.specs.LedgerModel.{LedgerModel}
use Rattle.ibc_script_worlds.specs.WorldChains.{plans_of}
use Rattle.ibc_node.specs.Nodes.{node_world}
use Rattle.ibc_node_lines.proofs.desk.DeskChains.plans.Goals as goal

pub returns : goal.returns
returns g c =
    let Plans : Option Ledger → Option Ledger → Type 0 =
    λ a b. IfOk c.plans_if_there.result (λ plans. (plans.0.items, plans.1.items) ≡ plans_of a b) in
    let ledgers = (node_world c.args.self.now.node).ledgers in
    subst (λ (b : Option Ledger). Plans (slice_get ledgers c.args.first) b) c.ledger-second.ensures
    (subst (λ (a : Option Ledger). Plans a (option_map (λ (l : Bor LedgerModel). l.now.ledger) c.ledger-second.result)) c.ledger-first.ensures c.plans_if_there.ensures)
