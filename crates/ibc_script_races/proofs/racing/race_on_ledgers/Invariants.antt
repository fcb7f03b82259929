use Rattle.ibc_machine.specs.chain.Genesis.{genesis_state}
use Rattle.ibc_race.specs.SharedWorlds.{book_of, table_of}
use Rattle.ibc_script_races.proofs.racing.race_on_ledgers.Given as goal

abbrev pub ghosts-race_on : goal.ghosts-race_on
ghosts-race_on g a = record { table = table_of a.ledgers.items; genesis = genesis_state a.race.script.genesis; book = book_of a.ledgers.items }
