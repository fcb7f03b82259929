-- The holdings of a chain's start, as references that are sorted.
use Rattle.std.specs.Borrow.{Bor}
use Rattle.ibc_machine.specs.chain.Genesis.{Holding}

-- the holding behind a reference
abbrev pub shown : Bor Holding → Holding
shown reference = reference.now
