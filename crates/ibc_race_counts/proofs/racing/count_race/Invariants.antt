use Rattle.ibc_machine.specs.chain.Genesis.{genesis_state}
use Rattle.ibc_race.specs.SharedWorlds.{book_of, table_of}
use Rattle.ibc_race_counts.proofs.racing.count_race.Given as goal

abbrev pub ghosts-count_on : goal.ghosts-count_on
ghosts-count_on g a = record { table = table_of a.ledgers.items; genesis = genesis_state a.script.genesis; book = book_of a.ledgers.items }
