use Rattle.std.proofs.Common.{◌≡◌, ◌∙◌, Bor, IfOk, ℕ, ap, option_map, subst, sym}
use Rattle.ibc_ledger.specs.LedgerModel.{LedgerModel}
use Rattle.ibc_refinement.specs.World.{WorldState}
use Rattle.std.specs.Option.{option_map_or}
use Rattle.std.specs.Prelude.{slice_get}
use Rattle.ibc_machine.specs.ledger.Ledgers.{Ledger, state_of}
use Rattle.ibc_script_worlds.proofs.WorldLooks.{list_of_no_one, list_of_one}
use Rattle.ibc_script_worlds.proofs.worlds.ScriptWorldChains.working_time.Goals as goal

abbrev time_of : Ledger → ℕ
time_of ledger = (state_of ledger).chain.time

pub returns-in-Some : goal.returns-in-Some
returns-in-Some c =
    let there = sym (ap (option_map (λ (l : Bor LedgerModel). l.now.ledger)) c.in-Some.is) ∙ c.ledger.ensures in
    subst (λ (w : WorldState). IfOk c.ledger_time.result (λ time. time ≡ option_map_or time_of (slice_get w.ledgers c.args.chain) 0)) c.self.view_is
    (list_of_one time_of 0 c.self.inside.world.ledgers c.args.chain c.in-Some.ledger.now.ledger c.ledger_time.result there c.ledger_time.ensures)

pub returns-in-None : goal.returns-in-None
returns-in-None c =
    let there = sym (ap (option_map (λ (l : Bor LedgerModel). l.now.ledger)) c.in-None.is) ∙ c.ledger.ensures in
    subst (λ (w : WorldState). 0 ≡ option_map_or time_of (slice_get w.ledgers c.args.chain) 0) c.self.view_is
    (list_of_no_one time_of 0 c.self.inside.world.ledgers c.args.chain there)
