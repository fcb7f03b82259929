-- The time that a client knows of a height is the one that the ledger's state says.
use Rattle.std.proofs.Common.{◌≡◌, ℕ, List, Option, Some, None, refl, ap, ◌∙◌, option_map}
use Rattle.std.specs.Option.{option_map_or}
use Rattle.ibc_ids.specs.Texts.{Text}
use Rattle.ibc_ids.specs.declared.publication.Publication.{Publication}
use Rattle.ibc_machine.specs.ledger.Replay.{LedgerState, Consensus, consensus_at, proof_evidence}
use Rattle.ibc_records.specs.declared.client.ConsensusState.{ConsensusState}
use Rattle.ibc_records.specs.RecordsModel.{RecordsModel, consensus_in}
use Rattle.ibc_records.specs.Knowledge.{Knows}

pub time_is : (held : RecordsModel) (state : LedgerState) (seen : List Publication) (client : Text) (height time : ℕ) → Knows held state
    → option_map (λ (known : ConsensusState). known.time) (consensus_in held client height) ≡ Some time → (proof_evidence seen None state).time_at client height ≡ time
time_is held state seen client height time knowledge is = go (consensus_in held client height) (λ known there. knowledge client height known there) is
  where
    go : (o : Option ConsensusState) → ((known : ConsensusState) → o ≡ Some known → consensus_at state client height ≡ Some (record { root = known.root; time = known.time }))
        → option_map (λ (known : ConsensusState). known.time) o ≡ Some time → (proof_evidence seen None state).time_at client height ≡ time
    go (Some known) there e = let same : known.time ≡ time = cc in ap (λ (o : Option Consensus). option_map_or (λ (k : Consensus). k.time) o 0) (there known refl) ∙ same
    go None there e = absurd cc
