-- The filter keeps the holdings that are the same.
use Rattle.ibc_ledger.proofs.Common.{◌∙◌, rules, tests, YieldsList-from_slice, length-filter, is_same_holding}
use Rattle.std.proofs.lemmas.Iterator.Consumers.{YieldsList-at, YieldsList-from_filter, count_from_yields_List}
use Rattle.ibc_ledger.proofs.Totals.{same_holding}
use Rattle.ibc_ledger.proofs.genesis.count_of.Goals as goal

pub returns : goal.returns
returns c =
    let xs = c.args.holdings.now in
    count_from_yields_List c.filter.result c.count.result c.count.ensures.ran
    (YieldsList-from_filter _ (is_same_holding c.args.holding.now) (YieldsList-at c.filter.ensures.source (YieldsList-from_slice xs cc)) c.filter.ensures.closure (λ x r q k. search (rules, tests, same_holding)))
    ∙ length-filter (is_same_holding c.args.holding.now) xs
