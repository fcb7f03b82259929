-- One of the first holdings is unfair, or a denomination is no base one.
use Rattle.std.proofs.Common.{◌≡◌, ◌∙◌, sym, subst, false}
use Rattle.std.specs.List.{list_all}
use Rattle.ibc_machine.specs.chain.Genesis.{is_fair}
use Rattle.ibc_ledger.specs.SortedHoldings.{are_base}
use Rattle.ibc_ledger.proofs.SortedRows.{not_base, unfair_first}
use Rattle.ibc_ledger.proofs.genesis.is_fair_start.Goals.{then-are_fair, else-are_fair}
use Rattle.ibc_ledger.proofs.genesis.is_fair_start.Goals as goal

pub returns-else-are_base : goal.returns-else-are_base
returns-else-are_base c =
    let slice = c.as_slice-holdings.result.now in
    let same = c.as_slice-holdings.ensures.value in
    elim c.if-are_fair.branch [
      | then-are_fair w ↦
          let other = subst (λ xs. are_base xs ≡ false) same (sym w.are_base.ensures ∙ sym w.value-is ∙ c.if-are_base.false) in
          c.if-are_base.false ∙ sym (not_base c.args.start.now.balances.items other)
      | else-are_fair w ↦
          let unfair = unfair_first slice c.first_few.result.now c.first_few.ensures.first (sym c.are_fair.ensures ∙ w.if-are_fair.false) in
          c.if-are_base.false ∙ sym (subst (λ xs. list_all (is_fair xs) xs ≡ false) same unfair)
    ]
