use Rattle.std.proofs.Common.{◌≡◌, ◌∙◌, Bor, IfOk, [], map, slice_get, ap, option_map, subst, sym}
use Rattle.ibc_ledger.specs.LedgerModel.{LedgerModel}
use Rattle.ibc_refinement.specs.World.{WorldState}
use Rattle.std.specs.Option.{option_map_or}
use Rattle.ibc_script_cli.specs.Balances.{notes_of as shown_notes}
use Rattle.ibc_world_core.specs.WorldAudits.{notes_of}
use Rattle.ibc_script_worlds.proofs.WorldLooks.{list_of_no_one, told_notes}
use Rattle.ibc_script_worlds.proofs.worlds.ScriptWorldHoldings.notes.Goals as goal

pub returns-in-Some : goal.returns-in-Some
returns-in-Some c =
    let there = sym (ap (option_map (λ (l : Bor LedgerModel). l.now.ledger)) c.in-Some.is) ∙ c.ledger.ensures in
    subst (λ (w : WorldState). IfOk c.all_notes.result (λ list. map shown_notes list.items ≡ option_map_or notes_of (slice_get w.ledgers c.args.chain) [])) c.self.view_is
    (told_notes c.all_notes.result c.self.inside.world.ledgers c.args.chain c.in-Some.ledger.now.ledger there c.all_notes.ensures.ok)

pub returns-in-None : goal.returns-in-None
returns-in-None c =
    let there = sym (ap (option_map (λ (l : Bor LedgerModel). l.now.ledger)) c.in-None.is) ∙ c.ledger.ensures in
    ap (map shown_notes) c.new.ensures.items
    ∙ subst (λ (w : WorldState). [] ≡ option_map_or notes_of (slice_get w.ledgers c.args.chain) []) c.self.view_is
    (list_of_no_one notes_of [] c.self.inside.world.ledgers c.args.chain there)
