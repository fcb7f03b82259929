-- What the ledger holds is answered.
use Rattle.std.proofs.Common.{◌∙◌, Bor, [], map, ap, option_map, sym}
use Rattle.ibc_ledger.specs.LedgerModel.{LedgerModel}
use Rattle.ibc_world_core.specs.WorldAudits.{balances_of}
use Rattle.ibc_script_cli.specs.Balances.{holding_of}
use Rattle.ibc_script_worlds.proofs.WorldLooks.{list_of_no_one, told_balances}
use Rattle.ibc_node.specs.Nodes.{node_world}
use Rattle.ibc_node_lines.proofs.desk.DeskHoldings.balances.Goals as goal

pub returns-in-Some : goal.returns-in-Some
returns-in-Some g c =
    let there = sym (ap (option_map (λ (l : Bor LedgerModel). l.now.ledger)) c.in-Some.is) ∙ c.ledger.ensures in
    told_balances c.balances.result (node_world c.args.self.now.node).ledgers c.args.chain c.in-Some.ledger.now.ledger there c.balances.ensures.ok

pub returns-in-None : goal.returns-in-None
returns-in-None g c =
    let there = sym (ap (option_map (λ (l : Bor LedgerModel). l.now.ledger)) c.in-None.is) ∙ c.ledger.ensures in
    ap (map holding_of) c.new.ensures.items ∙ list_of_no_one balances_of [] (node_world c.args.self.now.node).ledgers c.args.chain there
