-- The records that a ledger holds, what its applications keep (ICS 24, "Private store"), and the ledger that its history
-- says it is; of which committed blocks it gives proofs (ICS 23, "CommitmentProof"; ICS 24, "Provable store").
use Rattle.std.specs.Prelude.{◌≡◌, ℕ, length, ◌-◌, true, false, nat_lt, List, drop, map, Option, Some, None, []}
use Rattle.std.specs.List.{last_or}
use Rattle.ibc_machine.specs.chain.Records.{Apps, Block, MachineChain}
use Rattle.ibc_machine.specs.ledger.Replay.{LedgerState}
use Rattle.ibc_machine.specs.ledger.Ledgers.{Ledger, IsLedger, state_of}
use Rattle.ibc_path_store.specs.StoreModel.{height_of, StoreModel}
use Rattle.ibc_records.specs.RecordsModel.{RecordsModel, LastBlock, no_block, core_of}
use Rattle.ibc_records.specs.Knowledge.{Knows}
use Rattle.ibc_merkle.specs.Tree.{Pairs}
use Rattle.ibc_machine.specs.ics24.Image.{image}
use Rattle.ibc_machine.specs.chain.Machine.{block_of}
use Rattle.ibc_machine.specs.chain.Genesis.{Holding, starting_balances}
use Rattle.ibc_ledger.specs.declared.applications.Applications.{Applications}

-- what the definitions say that applications keep: the bank also knows what is burnt in flight
abbrev pub abstract_apps : Applications → Apps
abstract_apps apps = record { balances = apps.transfers.balances; notes = apps.notes }

-- in the beginning
abbrev pub starting_apps : List Holding → Applications
starting_apps holdings =
    record { transfers = record { balances = starting_balances holdings; burnt = [] }; notes = [] }

-- how many of these heights the window has passed
abbrev pub passed_count : ℕ → List Block → ℕ
passed_count window blocks = length blocks - window

-- the block of a height, where it is one of the last so many
abbrev pub provable_block : ℕ → List Block → ℕ → Option Block
provable_block window blocks height =
    elim (nat_lt (passed_count window blocks) height) [ true ↦ block_of height blocks | false ↦ None ]

-- the paths of a block with their values, and its time
abbrev pub kept_of : Block → Pairs × ℕ
kept_of block = (image block.records.core, block.time)

-- a store has the paths of a chain's working block, and of the last blocks that were committed
pub record KeepsBlocks (window : ℕ) (chain : MachineChain) (store : StoreModel) : Type 0 where
  pub working : store.pairs ≡ image chain.records.core
  pub gone : store.gone ≡ passed_count window chain.committed
  pub kept : store.kept ≡ map kept_of (drop (passed_count window chain.committed) chain.committed)

-- what a chain proved at its last committed block, if there is one
abbrev pub last_block : Option Block → LastBlock
last_block None = no_block
last_block (Some block) = record { core = block.records.core; time = block.time }

-- what is held is the state that the history leaves
pub record IsStateOf (window : ℕ) (state : LedgerState) (held : RecordsModel) (apps : Apps) : Type 0 where
  pub core : core_of held ≡ state.chain.records.core
  pub time : held.store.time ≡ state.chain.time
  pub height : height_of held.store ≡ length state.chain.committed
  pub window_is : held.store.window ≡ window
  pub apps_are : apps ≡ state.chain.records.apps
  pub known : Knows held state
  pub last : held.last ≡ last_block (last_or None state.chain.committed)
  pub keeps : KeepsBlocks window state.chain held.store

-- a ledger, with what it holds
pub record IsReplayedState (ledger : Ledger) (held : RecordsModel) (apps : Apps) : Type 0 where
  pub is : IsLedger ledger
  pub holds : IsStateOf ledger.genesis.window (state_of ledger) held apps
