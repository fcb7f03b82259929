-- What the ledger sent is answered.
use Rattle.std.proofs.Common.{◌∙◌, Bor, ap, option_map, sym}
use Rattle.ibc_ledger.specs.LedgerModel.{LedgerModel}
use Rattle.ibc_machine.specs.ledger.Ledgers.{Ledger}
use Rattle.ibc_ledger.specs.SentPackets.{packet_on}
use Rattle.ibc_script_worlds.proofs.WorldLooks.{of_no_one, of_one}
use Rattle.ibc_node.specs.Nodes.{node_world}
use Rattle.ibc_node_lines.proofs.desk.DeskChains.packet.Goals as goal

pub returns-in-Some : goal.returns-in-Some
returns-in-Some g c =
    let there = sym (ap (option_map (λ (l : Bor LedgerModel). l.now.ledger)) c.in-Some.is) ∙ c.ledger.ensures in
    of_one (λ (l : Ledger). packet_on l c.args.port.now c.args.channel.now c.args.sequence) (node_world c.args.self.now.node).ledgers c.args.chain c.in-Some.ledger.now.ledger c.packet.result there c.packet.ensures.ok

pub returns-in-None : goal.returns-in-None
returns-in-None g c =
    let there = sym (ap (option_map (λ (l : Bor LedgerModel). l.now.ledger)) c.in-None.is) ∙ c.ledger.ensures in
    of_no_one (λ (l : Ledger). packet_on l c.args.port.now c.args.channel.now c.args.sequence) (node_world c.args.self.now.node).ledgers c.args.chain there
