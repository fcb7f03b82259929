use Rattle.std.proofs.Common.{◌≡◌, ◌++◌, map}
use Rattle.std.specs.Vec.Iter.{into_iter_items}
use Rattle.ibc_race.proofs.with_books.Given as goal

abbrev pub invariant-loop-ledger : goal.invariant-loop-ledger
invariant-loop-ledger l = map (λ p. p.0) l.booked.items ++ into_iter_items l.ledger-iterator ≡ l.fn.ledgers.items
