-- The totals of lawful states balance.
use Rattle.std.proofs.Common.{◌≡◌, ℕ, ◌+◌, true, refl, sym, ap, ◌∙◌, List, Option, Some, None, Ok, option_map, slice_get, map}
use Rattle.std.specs.List.{list_all}
use Rattle.std.proofs.lemmas.Option.{slice_get-map}
use Rattle.ibc_ids.specs.Texts.{Text}
use Rattle.ibc_ids.specs.Names.{is_denom}
use Rattle.ibc_machine.specs.declared.totals.Totals.{Totals}
use Rattle.ibc_machine.specs.chain.Records.{MachineChain}
use Rattle.ibc_machine.specs.promises.Totals.{totals}
use Rattle.std.proofs.lemmas.Result.{IfOk-weaker}
use Rattle.ibc_machine.specs.ledger.Ledgers.{Ledger, state_of}
use Rattle.ibc_laws.proofs.tokens.BalancedTotals.{HoldDenominations, totals_balance}
use Rattle.ibc_world_core.specs.Totals.{AllHold, abstract_totals}
use Rattle.ibc_world_core.specs.EveryWorld.{states_of}
use Rattle.ibc_world_core.proofs.fungibility.balanced_totals.Goals as goal

hold : (ledgers : List Ledger) → AllHold ledgers
    → HoldDenominations (map (λ (ledger : Ledger). (state_of ledger).chain) ledgers)
hold ledgers each k chain there = go (slice_get ledgers k) refl (sym (slice_get-map (λ (ledger : Ledger). (state_of ledger).chain) ledgers k) ∙ there)
  where
    go : (o : Option Ledger) → slice_get ledgers k ≡ o → option_map (λ (ledger : Ledger). (state_of ledger).chain) o ≡ Some chain
        → list_all (λ (entry : (Text × Text) × ℕ). is_denom entry.0.1) chain.records.apps.balances ≡ true
    go (Some ledger) at is =
        let same : (state_of ledger).chain ≡ chain = cc (is) in
        ap (λ (c : MachineChain). list_all (λ (entry : (Text × Text) × ℕ). is_denom entry.0.1) c.records.apps.balances) (sym same) ∙ each k ledger at
    go None at is = absurd (cc is)

pub returns-clause-balanced : goal.returns-clause-balanced
returns-clause-balanced c = λ clash.
    let world = c.args.world.now in
    let lawful = c.lemma_what_every_world_keeps.ensures clash in
    IfOk-weaker c.totals.result (λ (t : Totals). totals (states_of world) c.args.chain c.args.channel.now c.args.denom.now ≡ Ok (abstract_totals t)) (λ (t : Totals). t.escrow ≡ t.vouchers + t.out + t.back)
    (λ t is. totals_balance (states_of world) lawful.one_peer lawful.conserved (hold world.ledgers c.lemma_holds_denominations.ensures) c.args.chain c.args.channel.now c.args.denom.now (abstract_totals t) is)
    c.totals.ensures.ok
