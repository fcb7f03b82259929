use Rattle.std.proofs.Common.{◌≡◌, ◌∙◌, Bor, IfOk, None, ap, option_map, subst, sym}
use Rattle.ibc_ledger.specs.LedgerModel.{LedgerModel}
use Rattle.ibc_refinement.specs.World.{WorldState}
use Rattle.ibc_script_worlds.specs.WorldChains.{by_ledger, value_in}
use Rattle.ibc_script_worlds.proofs.WorldLooks.{of_no_one, of_one}
use Rattle.ibc_script_worlds.proofs.worlds.ScriptWorldChains.value.Goals as goal

pub returns-in-Some : goal.returns-in-Some
returns-in-Some c =
    let there = sym (ap (option_map (λ (l : Bor LedgerModel). l.now.ledger)) c.in-Some.is) ∙ c.ledger.ensures in
    subst (λ (w : WorldState). IfOk c.query.result (λ found. found ≡ by_ledger (value_in c.args.key.now) w c.args.chain)) c.self.view_is
    (of_one (value_in c.args.key.now) c.self.inside.world.ledgers c.args.chain c.in-Some.ledger.now.ledger c.query.result there c.query.ensures.ok)

pub returns-in-None : goal.returns-in-None
returns-in-None c =
    let there = sym (ap (option_map (λ (l : Bor LedgerModel). l.now.ledger)) c.in-None.is) ∙ c.ledger.ensures in
    subst (λ (w : WorldState). None ≡ by_ledger (value_in c.args.key.now) w c.args.chain) c.self.view_is (of_no_one (value_in c.args.key.now) c.self.inside.world.ledgers c.args.chain there)
