-- The sum so far and what the packets have that are left is the whole.
use Rattle.std.proofs.Common.{◌≡◌, ◌+◌, ◌<◌, ◌^◌, sum_by}
use Rattle.ibc_machine.specs.promises.Totals.{amount_under_way}
use Rattle.ibc_transfer.proofs.under_way.in_flight.Given as goal

abbrev pub invariant-loop-sequence : goal.invariant-loop-sequence
invariant-loop-sequence l =
    let amount = amount_under_way l.mine.end.version l.denom l.theirs in
    record { small : l.sum < 2 ^ 128; so_far : l.sum + sum_by amount l.sequence-iterator ≡ sum_by amount l.mine.commitments }
