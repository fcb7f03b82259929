use Rattle.std.proofs.Common.{◌≡◌, ◌∙◌, Bor, IfOk, None, ap, option_map, subst, sym}
use Rattle.ibc_ledger.specs.LedgerModel.{LedgerModel}
use Rattle.ibc_refinement.specs.World.{WorldState}
use Rattle.ibc_machine.specs.ledger.Ledgers.{Ledger}
use Rattle.ibc_ledger.specs.SentPackets.{packet_on}
use Rattle.ibc_script_worlds.specs.WorldChains.{by_ledger}
use Rattle.ibc_script_worlds.proofs.WorldLooks.{of_no_one, of_one}
use Rattle.ibc_script_worlds.proofs.worlds.ScriptWorldChains.packet.Goals as goal

pub returns-in-Some : goal.returns-in-Some
returns-in-Some c =
    let there = sym (ap (option_map (λ (l : Bor LedgerModel). l.now.ledger)) c.in-Some.is) ∙ c.ledger.ensures in
    subst (λ (w : WorldState). IfOk c.packet.result (λ found. found ≡ by_ledger (λ (l : Ledger). packet_on l c.args.port.now c.args.channel.now c.args.sequence) w c.args.chain)) c.self.view_is
    (of_one (λ (l : Ledger). packet_on l c.args.port.now c.args.channel.now c.args.sequence) c.self.inside.world.ledgers c.args.chain c.in-Some.ledger.now.ledger c.packet.result there c.packet.ensures.ok)

pub returns-in-None : goal.returns-in-None
returns-in-None c =
    let there = sym (ap (option_map (λ (l : Bor LedgerModel). l.now.ledger)) c.in-None.is) ∙ c.ledger.ensures in
    subst (λ (w : WorldState). None ≡ by_ledger (λ (l : Ledger). packet_on l c.args.port.now c.args.channel.now c.args.sequence) w c.args.chain) c.self.view_is (of_no_one (λ (l : Ledger). packet_on l c.args.port.now c.args.channel.now c.args.sequence) c.self.inside.world.ledgers c.args.chain there)
