use Rattle.std.proofs.Common.{◌≡◌, ◌∙◌, Bor, IfOk, [], map, slice_get, ap, option_map, subst, sym}
use Rattle.ibc_ledger.specs.LedgerModel.{LedgerModel}
use Rattle.ibc_refinement.specs.World.{WorldState}
use Rattle.std.specs.Option.{option_map_or}
use Rattle.ibc_script_cli.specs.Balances.{holding_of}
use Rattle.ibc_world_core.specs.WorldAudits.{balances_of}
use Rattle.ibc_script_worlds.proofs.WorldLooks.{list_of_no_one, told_balances}
use Rattle.ibc_script_worlds.proofs.worlds.ScriptWorldHoldings.balances.Goals as goal

pub returns-in-Some : goal.returns-in-Some
returns-in-Some c =
    let there = sym (ap (option_map (λ (l : Bor LedgerModel). l.now.ledger)) c.in-Some.is) ∙ c.ledger.ensures in
    subst (λ (w : WorldState). IfOk c.balances.result (λ list. map holding_of list.items ≡ option_map_or balances_of (slice_get w.ledgers c.args.chain) [])) c.self.view_is
    (told_balances c.balances.result c.self.inside.world.ledgers c.args.chain c.in-Some.ledger.now.ledger there c.balances.ensures.ok)

pub returns-in-None : goal.returns-in-None
returns-in-None c =
    let there = sym (ap (option_map (λ (l : Bor LedgerModel). l.now.ledger)) c.in-None.is) ∙ c.ledger.ensures in
    ap (map holding_of) c.new.ensures.items
    ∙ subst (λ (w : WorldState). [] ≡ option_map_or balances_of (slice_get w.ledgers c.args.chain) []) c.self.view_is
    (list_of_no_one balances_of [] c.self.inside.world.ledgers c.args.chain there)
