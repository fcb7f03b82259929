-- The channels so far, and those of the ones that are left, are all at which packets stand.
use Rattle.std.proofs.Common.{◌≡◌, ◌++◌, map}
use Rattle.ibc_relayer.specs.Senders.{senders_of, shown}
use Rattle.ibc_relayer.proofs.senders.few_senders.Given as goal

abbrev pub invariant-loop-theirs : goal.invariant-loop-theirs
invariant-loop-theirs l = map shown l.senders.items ++ senders_of l.theirs-iterator ≡ senders_of l.a.channels
