-- What falls of what was burnt falls of the total.
use Rattle.std.proofs.Common.{◌≤◌, ap, sym, ◌∙◌, arith}
use Rattle.ibc_ids.specs.Texts.{text_cmp}
use Rattle.ibc_bank.specs.Amounts.{amount_at}
use Rattle.ibc_bank.specs.Moves.{burnt_of}
use Rattle.ibc_bank.proofs.Tallies.{settled_tally}
use Rattle.ibc_bank.proofs.bank.Bank.settle.Goals as goal

pub invariant_of-self : goal.invariant_of-self
invariant_of-self c =
    let books = c.self.inside.books in
    let burnt = c.burnt.ensures ∙ ap (λ bank. burnt_of bank c.args.denom.now) (sym c.self.view_is) in
    let least = c.min-settled.ensures in
    let enough : c.min-settled.result ≤ amount_at text_cmp c.args.denom.now c.self.inside.books.burnt.pairs = omega arith in
    settled_tally c.args.denom.now c.min-settled.result books.held.pairs books.burnt.pairs books.totals.pairs c.lower.new.self.pairs c.lower-2.new.self.pairs
    c.self.invariant enough c.lower.ensures c.lower-2.ensures
