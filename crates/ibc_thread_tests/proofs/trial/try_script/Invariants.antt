-- The world is that of the ledgers which were made.
use Rattle.ibc_machine.specs.chain.Genesis.{genesis_state}
use Rattle.ibc_race.specs.SharedWorlds.{book_of, table_of}
use Rattle.ibc_thread_tests.proofs.trial.try_script.Given as goal

abbrev pub ghosts-try_on : goal.ghosts-try_on
ghosts-try_on g a = record { table = table_of a.ledgers.items; genesis = genesis_state a.race.script.genesis; book = book_of a.ledgers.items }
