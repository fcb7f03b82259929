-- The account that is asked is the escrow account of the channel of this name.
use Rattle.std.proofs.Common.{inl, refl, ap, ◌∙◌}
use Rattle.ibc_ids.specs.Texts.{Text}
use Rattle.ibc_machine.specs.ics20.Bank.{balance, escrow}
use Rattle.ibc_machine.specs.ledger.Ledgers.{state_of}
use Rattle.ibc_calls.proofs.reads.escrow_of.Goals as goal

pub returns : goal.returns
returns c =
    let names = c.in_ok-channel.ensures.ok in
    let held = (state_of c.args.ledger.now.ledger).chain.records.apps.balances in
    inl (refl, names.2, c.parts_of.ensures ∙ c.balance.ensures ∙ ap (λ (x : Text × Text). balance held (escrow x.0) x.1) (λ i. (names.0 i, names.1 i)))
