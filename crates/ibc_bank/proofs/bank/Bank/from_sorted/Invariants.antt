-- The balances so far are those of the holdings before the place, and the books fit together.
use Rattle.std.proofs.Common.{◌≡◌, [], map, take}
use Rattle.ibc_machine.specs.chain.Genesis.{starting_balances}
use Rattle.ibc_bank.specs.BankModel.{IsBalanced, no_amount, state_of}
use Rattle.ibc_bank.specs.SortedStarts.{shown}
use Rattle.ibc_bank.proofs.bank.Bank.from_sorted.Given as goal

abbrev pub invariant-loop-holding : goal.invariant-loop-holding
invariant-loop-holding l = record {
  held : l.books.held.pairs ≡ starting_balances (take l.holding-index (map shown l.sorted));
  unburnt : l.books.burnt.pairs ≡ [];
  balanced : IsBalanced no_amount (state_of l.books) l.books.totals.pairs;
}
