-- The closure is the definitions' test.
use Rattle.std.proofs.Common.{not, ap, rules, tests}
use Rattle.std.proofs.lemmas.Iterator.{YieldsList-from_slice}
use Rattle.std.proofs.lemmas.Iterator.Search.{any_from_yields_List}
use Rattle.ibc_machine.specs.ics20.Transfers.{is_zero}
use Rattle.ibc_transfer.proofs.outgoing.are_above_zero.Goals as goal

pub returns : goal.returns
returns c =
    ap not (any_from_yields_List is_zero _ _ c.any.result c.any.ensures.ran (YieldsList-from_slice c.args.tokens.now cc) (λ x b q k. search (rules, tests)))
