-- The amount is the one after the changes so far.
use Rattle.std.proofs.Common.{◌≡◌, take}
use Rattle.ibc_ids.specs.Texts.{text_cmp}
use Rattle.ibc_bank.specs.Amounts.{amount_at, with_amounts}
use Rattle.ibc_bank.proofs.amounts.Amounts+Denom.after.Given as goal

abbrev pub invariant-loop-changed : goal.invariant-loop-changed
invariant-loop-changed l =
    l.amount ≡ amount_at text_cmp l.denom (with_amounts text_cmp (take l.changed-index l.changes) l.self.pairs)
