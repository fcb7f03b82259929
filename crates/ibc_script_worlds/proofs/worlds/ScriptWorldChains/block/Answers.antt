use Rattle.std.proofs.Common.{◌≡◌, ◌∙◌, Bor, None, ap, option_map, subst, sym}
use Rattle.ibc_ledger.specs.LedgerModel.{LedgerModel}
use Rattle.ibc_refinement.specs.World.{WorldState}
use Rattle.ibc_machine.specs.chain.Genesis.{GenesisState}
use Rattle.ibc_script_worlds.specs.WorldChains.{AreStartsOf, block_in, by_ledger}
use Rattle.ibc_script_worlds.proofs.WorldLooks.{of_no_one, of_this}
use Rattle.ibc_script_worlds.proofs.worlds.ScriptWorldChains.block.Goals as goal

pub ledger_block-requires : goal.ledger_block-requires
ledger_block-requires c =
    let there = sym (ap (option_map (λ (l : Bor LedgerModel). l.now.ledger)) c.in-Some.is) ∙ c.ledger.ensures in
    let its = c.self.invariant.1.each c.args.chain c.in-Some.ledger.now.ledger (sym there) in
    subst (λ (g : GenesisState). AreStartsOf g c.self.inside.starts) (sym its.0) c.self.invariant.0

pub returns-in-Some : goal.returns-in-Some
returns-in-Some c =
    let there = sym (ap (option_map (λ (l : Bor LedgerModel). l.now.ledger)) c.in-Some.is) ∙ c.ledger.ensures in
    subst (λ (w : WorldState). c.ledger_block.result ≡ by_ledger (block_in c.args.height) w c.args.chain) c.self.view_is
    (of_this (block_in c.args.height) c.self.inside.world.ledgers c.args.chain c.in-Some.ledger.now.ledger c.ledger_block.result there c.ledger_block.ensures)

pub returns-in-None : goal.returns-in-None
returns-in-None c =
    let there = sym (ap (option_map (λ (l : Bor LedgerModel). l.now.ledger)) c.in-None.is) ∙ c.ledger.ensures in
    subst (λ (w : WorldState). None ≡ by_ledger (block_in c.args.height) w c.args.chain) c.self.view_is
    (of_no_one (block_in c.args.height) c.self.inside.world.ledgers c.args.chain there)
