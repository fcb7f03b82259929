-- What every audit keeps: whoever drove the ledgers, together they are a world as the page says it.
use Rattle.std.specs.Prelude.{◌≡◌, ℕ, List, [], ◌∷◌, map}
use Rattle.ibc_machine.specs.ics23.HashedTexts.{HasNoClash}
use Rattle.ibc_machine.specs.promises.Worlds.{by_number}
use Rattle.ibc_ledger.specs.LedgerModel.{LedgerModel}
use Rattle.ibc_refinement.specs.World.{WorldState}
use Rattle.ibc_world_core.specs.declared.holdings.Audit.{Audit}
use Rattle.ibc_world_core.specs.WorldModel.{ledgers_alone}
use Rattle.ibc_world_core.specs.WorldAudits.{balances_of, notes_of, balances_in, notes_in}
use Rattle.ibc_world_core.specs.EveryWorld.{IsLawful}

-- the ledgers by the numbers of their chains, with an order of their entries
abbrev pub world_of : LedgerModel → List LedgerModel → List ℕ → WorldState
world_of first others order = record {
  genesis = first.ledger.genesis;
  ledgers = by_number first.ledger.genesis (ledgers_alone (first ∷ others));
  order = order;
}

-- There is an order of their entries with which they are a lawful world, where no two different texts that the chains
-- hashed share a digest. The balances and notes that are told are those of its ledgers.
abbrev pub AreLawful : List LedgerModel → Audit → Type 0
AreLawful [] audit = ⊥
AreLawful (first ∷ others) audit =
    (order : List ℕ) × (HasNoClash (ledgers_alone (first ∷ others)) → IsLawful (world_of first others order))
    × (balances_in audit ≡ map balances_of (world_of first others order).ledgers)
    × (notes_in audit ≡ map notes_of (world_of first others order).ledgers)
