-- What clients know, beside the ledger's state that its history leaves.
use Rattle.std.specs.Prelude.{◌≡◌, ℕ, Some}
use Rattle.ibc_ids.specs.Texts.{Text}
use Rattle.ibc_machine.specs.ledger.Replay.{LedgerState, Consensus, consensus_at}
use Rattle.ibc_records.specs.declared.client.ConsensusState.{ConsensusState}
use Rattle.ibc_records.specs.RecordsModel.{RecordsModel, consensus_in}

abbrev pub abstract_consensus : ConsensusState → Consensus
abstract_consensus known = record { root = known.root; time = known.time }

-- what clients know of heights is what the ledger's state says of them
abbrev pub Knows : RecordsModel → LedgerState → Type 0
Knows held state =
    (client : Text) (height : ℕ) (known : ConsensusState) → consensus_in held client height ≡ Some known
    → consensus_at state client height ≡ Some (abstract_consensus known)

-- clients know nothing that they didn't know
abbrev pub KnowsNoMore : RecordsModel → RecordsModel → Type 0
KnowsNoMore old new =
    (client : Text) (height : ℕ) (known : ConsensusState) → consensus_in new client height ≡ Some known
    → consensus_in old client height ≡ Some known
