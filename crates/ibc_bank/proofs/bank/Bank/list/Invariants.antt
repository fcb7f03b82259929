-- What is listed so far are the entries before the place.
use Rattle.std.proofs.Common.{◌≡◌, map, take}
use Rattle.ibc_bank.specs.ListedHoldings.{abstract_holding}
use Rattle.ibc_bank.proofs.bank.Bank.list.Given as goal

abbrev pub invariant-loop-holder : goal.invariant-loop-holder
invariant-loop-holder l = record {
  listed : map abstract_holding l.list.items ≡ take l.holder-index l.entries;
  all : l.entries ≡ l.self.balances;
}
