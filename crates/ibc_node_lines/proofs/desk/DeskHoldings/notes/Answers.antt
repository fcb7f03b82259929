-- The notes that came over are answered.
use Rattle.std.proofs.Common.{◌∙◌, Bor, [], map, ap, option_map, sym}
use Rattle.ibc_ledger.specs.LedgerModel.{LedgerModel}
use Rattle.ibc_world_core.specs.WorldAudits.{notes_of}
use Rattle.ibc_script_cli.specs.Balances.{notes_of as shown_notes}
use Rattle.ibc_script_worlds.proofs.WorldLooks.{list_of_no_one, told_notes}
use Rattle.ibc_node.specs.Nodes.{node_world}
use Rattle.ibc_node_lines.proofs.desk.DeskHoldings.notes.Goals as goal

pub returns-in-Some : goal.returns-in-Some
returns-in-Some g c =
    let there = sym (ap (option_map (λ (l : Bor LedgerModel). l.now.ledger)) c.in-Some.is) ∙ c.ledger.ensures in
    told_notes c.all_notes.result (node_world c.args.self.now.node).ledgers c.args.chain c.in-Some.ledger.now.ledger there c.all_notes.ensures.ok

pub returns-in-None : goal.returns-in-None
returns-in-None g c =
    let there = sym (ap (option_map (λ (l : Bor LedgerModel). l.now.ledger)) c.in-None.is) ∙ c.ledger.ensures in
    ap (map shown_notes) c.new.ensures.items ∙ list_of_no_one notes_of [] (node_world c.args.self.now.node).ledgers c.args.chain there
