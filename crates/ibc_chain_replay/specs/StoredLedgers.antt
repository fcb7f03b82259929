-- A ledger that goes on as entries say that were stored, as its callers see it.
use Rattle.std.specs.Prelude.{◌≢◌, ℕ, List, Option, IfSome}
use Rattle.std.specs.Global.{Vec}
use Rattle.ibc_ids.specs.Texts.{Text}
use Rattle.ibc_wire.specs.declared.header.Header.{Header}
use Rattle.ibc_machine.specs.declared.entry.Entry.{Entry}
use Rattle.ibc_machine.specs.declared.entry.Reading.{Reading}
use Rattle.ibc_machine.specs.declared.genesis.Genesis.{Genesis}
use Rattle.ibc_machine.specs.declared.reply.Reply.{Reply}
use Rattle.ibc_machine.specs.chain.Genesis.{genesis_state}
use Rattle.ibc_ledger.specs.LedgerModel.{LedgerModel}
use Rattle.ibc_chain_replay.specs.declared.replaying.ChainDifference.{ChainDifference}
use Rattle.ibc_chain_replay.specs.declared.replaying.ChainDifference.TheVariants.{NoGenesis}
use Rattle.ibc_chain_replay.specs.ChainReplays.{ReadsHeader, IsChainReplay, HasHistory, DiffersBy, AddsRead, StopsAtEntry, heights_in}

-- the heights of each chain as they lie in memory
abbrev pub StoredHeights : Type 0
StoredHeights = List (Vec (Text × ℕ))

-- what an update read of its header's chain, if it did, is as the chain published it
abbrev pub AreReadAsPublished : StoredHeights → Option Header → Reply → Option Reading → Type 0
AreReadAsPublished published header given reading =
    IfSome reading (λ r. IfSome header (λ h. ReadsHeader (heights_in published) given h r))

-- the ledger of the chain that was stored, made again
abbrev pub IsReplayOf : Genesis → ℕ → StoredHeights → List Entry → LedgerModel → Type 0
IsReplayOf genesis chain published list ledger =
    IsChainReplay (genesis_state genesis) chain (heights_in published) list ledger.ledger

-- why the ledger isn't made again, where the genesis is allowed
abbrev pub DiffersAs : Genesis → ℕ → StoredHeights → List Entry → ChainDifference → Type 0
DiffersAs genesis chain published list why =
    why ≢ NoGenesis → DiffersBy (genesis_state genesis) chain (heights_in published) list why

-- it is of the chain of this ledger, and its history is just the list
abbrev pub HasHistoryAs : LedgerModel → StoredHeights → List Entry → LedgerModel → Type 0
HasHistoryAs ledger published list after =
    HasHistory ledger.ledger.genesis ledger.ledger.chain (heights_in published) list after.ledger

-- why a ledger of this chain doesn't go on as the list says
abbrev pub LedgerDiffersBy : LedgerModel → StoredHeights → List Entry → ChainDifference → Type 0
LedgerDiffersBy ledger published list = DiffersBy ledger.ledger.genesis ledger.ledger.chain (heights_in published) list

-- the ledger has the entry more, and what that read was published
abbrev pub AddsStored : StoredHeights → LedgerModel → Entry → LedgerModel → Type 0
AddsStored published old e new = AddsRead (heights_in published) old.ledger e new.ledger

-- why the ledger doesn't take the entry that is stored at this place, and the ledger then
abbrev pub StopsAs : StoredHeights → LedgerModel → ℕ → Entry → ChainDifference → LedgerModel → Type 0
StopsAs published old here entry why new = StopsAtEntry (heights_in published) old.ledger here entry why new.ledger
