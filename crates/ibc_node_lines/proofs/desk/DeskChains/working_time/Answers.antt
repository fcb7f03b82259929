-- The time of the ledger's working block is answered.
use Rattle.std.proofs.Common.{◌∙◌, Bor, ℕ, ap, option_map, sym}
use Rattle.ibc_machine.specs.ledger.Ledgers.{Ledger, state_of}
use Rattle.ibc_ledger.specs.LedgerModel.{LedgerModel}
use Rattle.ibc_script_worlds.proofs.WorldLooks.{list_of_no_one, list_of_one}
use Rattle.ibc_node.specs.Nodes.{node_world}
use Rattle.ibc_node_lines.proofs.desk.DeskChains.working_time.Goals as goal

abbrev time_of : Ledger → ℕ
time_of ledger = (state_of ledger).chain.time

pub returns-in-Some : goal.returns-in-Some
returns-in-Some g c =
    let there = sym (ap (option_map (λ (l : Bor LedgerModel). l.now.ledger)) c.in-Some.is) ∙ c.ledger.ensures in
    list_of_one time_of 0 (node_world c.args.self.now.node).ledgers c.args.chain c.in-Some.ledger.now.ledger c.ledger_time.result there c.ledger_time.ensures

pub returns-in-None : goal.returns-in-None
returns-in-None g c =
    let there = sym (ap (option_map (λ (l : Bor LedgerModel). l.now.ledger)) c.in-None.is) ∙ c.ledger.ensures in
    list_of_no_one time_of 0 (node_world c.args.self.now.node).ledgers c.args.chain there
