-- The entries so far are of denominations.
use Rattle.std.proofs.Common.{◌≡◌, true, take}
use Rattle.std.specs.List.{list_all}
use Rattle.ibc_ids.specs.Names.{is_denom}
use Rattle.ibc_bank.proofs.bank.Bank.lemma_holds_denominations.Given as goal

abbrev pub invariant-loop-entry : goal.invariant-loop-entry
invariant-loop-entry l = list_all (λ entry. is_denom entry.0.1) (take l.entry-index l.self.balances) ≡ true
