-- What a message of clients does to the records of a chain.
use Rattle.std.specs.Prelude.{◌≡◌, ◌⊎◌, ℕ, List, Result, Ok, Err, IsOk, ⊤}
use Rattle.ibc_ids.specs.Texts.{Text}
use Rattle.ibc_ids.specs.declared.publication.Publication.{Publication}
use Rattle.ibc_ids.specs.declared.refusal.Refusal.{Refusal}
use Rattle.ibc_ids.specs.declared.refusal.Refusal.TheVariants.{NoMemory}
use Rattle.ibc_wire.specs.declared.header.Header.{Header}
use Rattle.ibc_wire.specs.declared.messages.CreateClient.{CreateClient}
use Rattle.ibc_wire.specs.declared.messages.UpdateClient.{UpdateClient}
use Rattle.ibc_machine.specs.declared.reply.Effect.{Effect}
use Rattle.ibc_machine.specs.declared.reply.Effect.TheVariants as effect
use Rattle.ibc_machine.specs.chain.Records.{Core}
use Rattle.ibc_machine.specs.chain.Checks.{Checked}
use Rattle.ibc_machine.specs.ics24.Evidence.{Evidence, Host}
use Rattle.ibc_machine.specs.ics02.Clients.{create_client, update_client}
use Rattle.ibc_machine.specs.ledger.Replay.{LedgerState, proof_evidence}
use Rattle.ibc_records.specs.declared.client.ConsensusState.{ConsensusState}
use Rattle.ibc_records.specs.declared.update_client.Updated.{Updated}
use Rattle.ibc_records.specs.RecordsModel.{RecordsModel, core_of, AddsClient, UpdatesClient, IsUnchanged}

-- A check failed, or all checks passed and memory ran out; the records are as before but for room.
abbrev pub IsRefused : Checked (Effect × Core) → RecordsModel → Refusal → RecordsModel → Type 0
IsRefused checked old refusal new =
    ((checked ≡ Err refusal) ⊎ ((refusal ≡ NoMemory) × IsOk checked)) × IsUnchanged old new

-- a client was made, as the checked message says, or the message was refused
abbrev pub IsCreated : Checked (Effect × Core) → CreateClient → RecordsModel → Result Text Refusal → RecordsModel → Type 0
IsCreated checked m old (Ok id) new = (checked ≡ Ok (effect.Client id, core_of new)) × AddsClient old id m.chain new
IsCreated checked m old (Err refusal) new = IsRefused checked old refusal new

-- the same on this chain of so many, at whichever height and time
abbrev pub AnswersCreate : ℕ → ℕ → CreateClient → RecordsModel → Result Text Refusal → RecordsModel → Type 0
AnswersCreate chain chains m old result new =
    (evidence : Evidence) (height time : ℕ)
    → IsCreated (create_client m evidence (record { chain = chain; chains = chains; height = height; time = time }) (core_of old)) m old result new

-- what a client knows of the header's height
abbrev pub consensus_of : Header → ConsensusState
consensus_of header = record { root = header.root; time = header.time }

-- a client was told of the header, as the checked message says, or the message was refused
abbrev pub IsUpdated : Checked (Effect × Core) → UpdateClient → RecordsModel → Result ⊤ Refusal → RecordsModel → Type 0
IsUpdated checked m old (Ok _) new =
    (checked ≡ Ok (effect.None, core_of new)) × UpdatesClient old m.client m.header.height (consensus_of m.header) new
IsUpdated checked m old (Err refusal) new = IsRefused checked old refusal new

-- the same on whichever chain, by what it read of these publications
abbrev pub AnswersUpdate : List Publication → UpdateClient → RecordsModel → Updated → RecordsModel → Type 0
AnswersUpdate seen m old answer new =
    (host : Host) (state : LedgerState) → IsUpdated (update_client m (proof_evidence seen answer.reading state) host (core_of old)) m old answer.result new

-- what a client was told once its header was checked
abbrev pub IsLearned : Checked ⊤ → UpdateClient → RecordsModel → Result ⊤ Refusal → RecordsModel → Type 0
IsLearned (Err refusal) m old result new = (result ≡ Err refusal) × (new ≡ old)
IsLearned (Ok _) m old (Ok _) new = UpdatesClient old m.client m.header.height (consensus_of m.header) new
IsLearned (Ok _) m old (Err refusal) new = (refusal ≡ NoMemory) × IsUnchanged old new
