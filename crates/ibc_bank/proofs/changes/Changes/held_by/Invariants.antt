-- The amount is the one after the changes so far.
use Rattle.std.proofs.Common.{◌≡◌, take}
use Rattle.ibc_ids.specs.Texts.{pair_cmp}
use Rattle.ibc_machine.specs.ics20.Bank.{balance}
use Rattle.ibc_bank.specs.Amounts.{with_amounts}
use Rattle.ibc_bank.specs.Parties.{party_text}
use Rattle.ibc_bank.proofs.changes.Changes.held_by.Given as goal

abbrev pub invariant-loop-holder : goal.invariant-loop-holder
invariant-loop-holder l =
    l.amount ≡ balance (with_amounts pair_cmp (take l.holder-index l.holder-items) l.books.held.pairs) (party_text l.party) l.denom
