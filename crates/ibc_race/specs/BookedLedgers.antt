-- Ledgers of a genesis in the beginning, each with its book.
use Rattle.std.specs.Prelude.{All, List, map}
use Rattle.logbook.specs.Pages.{Book}
use Rattle.ibc_machine.specs.chain.Genesis.{GenesisState}
use Rattle.ibc_refinement.specs.World.{AreNew}
use Rattle.ibc_ledger.specs.LedgerModel.{LedgerModel}
use Rattle.ibc_world_core.specs.WorldModel.{ledgers_alone}
use Rattle.ibc_race.specs.SharedWorlds.{HasItsBook, book_of, table_of}

-- the ledgers are those of the genesis, with no entries
abbrev pub AreNewWithBooks : GenesisState → List (LedgerModel × Book) → Type 0
AreNewWithBooks genesis ledgers = AreNew genesis (ledgers_alone (map (λ p. p.0) ledgers))

-- each is of the world of the first, and has the book of its chain's number
abbrev pub HaveTheirBooks : GenesisState → List (LedgerModel × Book) → Type 0
HaveTheirBooks genesis ledgers = All (HasItsBook (table_of ledgers) genesis (book_of ledgers)) ledgers
