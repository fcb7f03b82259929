-- The balances so far are those of the holdings before the place, and the books fit together.
use Rattle.std.proofs.Common.{◌≡◌, [], take}
use Rattle.ibc_machine.specs.chain.Genesis.{starting_balances}
use Rattle.ibc_bank.specs.BankModel.{IsBalanced, no_amount, state_of}
use Rattle.ibc_bank.proofs.bank.Bank.from_listed.Given as goal

abbrev pub invariant-loop-user : goal.invariant-loop-user
invariant-loop-user l = record {
  held : l.books.held.pairs ≡ starting_balances (take l.user-index l.holdings);
  unburnt : l.books.burnt.pairs ≡ [];
  balanced : IsBalanced no_amount (state_of l.books) l.books.totals.pairs;
}
