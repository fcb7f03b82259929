-- What is known of a ledger as it was.
use Rattle.std.specs.Prelude.{List, []}
use Rattle.ibc_ids.specs.declared.publication.Publication.{Publication}
use Rattle.ibc_machine.specs.ledger.Replay.{StampedEntry}
use Rattle.ibc_ledger_lock.specs.Calls.{Call}

-- its history, what its pass had seen, and what it had been asked
pub record KnownLedger : Type 0 where
  pub history : List StampedEntry
  pub seen : List Publication
  pub calls : List Call

-- nothing has happened yet
abbrev pub nothing_known : KnownLedger
nothing_known = record { history = []; seen = []; calls = [] }
