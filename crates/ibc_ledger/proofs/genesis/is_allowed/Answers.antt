-- The tests that were passed on the way, and `all` over the chains.
use Rattle.ibc_ledger.proofs.Common.{sym, ◌∙◌, rules, tests, arith, leb-true, false≢true, YieldsList-from_slice}
use Rattle.std.proofs.lemmas.Iterator.Search.{all_from_yields_List}
use Rattle.ibc_ledger.proofs.Totals.{allowed, is_fair_start}
use Rattle.ibc_ledger.proofs.genesis.is_allowed.Goals.{then-len-ge2, else-len-ge2, then-len-le8, else-len-le8}
use Rattle.ibc_ledger.proofs.genesis.is_allowed.Goals as goal

pub returns-then-has_limits : goal.returns-then-has_limits
returns-then-has_limits c =
    elim c.if-len-le8.branch [
      | then-len-le8 w ↦ elim c.if-len-ge2.branch [
        | then-len-ge2 y ↦
            let eight = leb-true y.len-then-len-ge2.result 8 (sym y.value-is ∙ w.if-len-le8.true) in
            allowed c.args.genesis.now c.all.result (omega (arith, y.if-len-ge2.true, c.len.ensures, c.args.genesis.now.chains.ok.0)) (omega (arith, eight, y.len-then-len-ge2.ensures, c.args.genesis.now.chains.ok.0))
            (sym w.has_limits.ensures ∙ sym w.value-is ∙ c.if-has_limits.true)
            (all_from_yields_List is_fair_start _ _ c.all.result c.all.ensures.ran (YieldsList-from_slice c.args.genesis.now.chains.items cc) (λ x b q k. search (rules, tests)))
        | else-len-ge2 y ↦ let two = leb-true 2 c.len.result (sym y.value-is ∙ w.if-len-le8.true) in absurd (omega (arith, two, y.if-len-ge2.false))
      ]
      | else-len-le8 w ↦ absurd (false≢true (sym w.if-len-le8.false ∙ sym w.value-is ∙ c.if-has_limits.true))
    ]
