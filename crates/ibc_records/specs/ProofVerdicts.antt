-- How what a message brings is judged by records and proofs (ICS 2, "Client state verification functions").
use Rattle.std.specs.Prelude.{◌≡◌, ◌⊎◌, ℕ, List, ⊤, Some, None, Result, Ok, Err}
use Rattle.std.specs.Borrow.{Bor}
use Rattle.ibc_ids.specs.Texts.{Text}
use Rattle.ibc_ids.specs.declared.publication.Publication.{Publication}
use Rattle.ibc_ids.specs.declared.refusal.Refusal.{Refusal}
use Rattle.ibc_ids.specs.declared.refusal.Refusal.TheVariants.{NoMemory, UnknownClient}
use Rattle.ibc_merkle.specs.declared.proof.Proof.{Proof}
use Rattle.ibc_wire.specs.Reading.{proof_of}
use Rattle.ibc_machine.specs.chain.Records.{Core, Client, Channel, client_at}
use Rattle.ibc_machine.specs.chain.Checks.{Checked, expect, ◌>>=◌}
use Rattle.ibc_machine.specs.ics24.Values.{Claim}
use Rattle.ibc_machine.specs.ics24.Evidence.{Host, Evidence, require_proof}
use Rattle.ibc_machine.specs.ledger.Replay.{LedgerState, proof_evidence}
use Rattle.ibc_records.specs.RecordsModel.{RecordsModel, core_of}
use Rattle.ibc_records.specs.Knowledge.{Knows}
use Rattle.ibc_records.specs.HandlerContract.{host_with}

-- there is such a client
abbrev pub require_client : Core → Text → Checked ⊤
require_client core client = expect (client_at core client) UnknownClient >>= λ (found : Client). Ok tt

-- what was checked, unless memory ran out
abbrev pub IsUnlessMemory : {A : Type 0} → Checked A → Result A Refusal → Type 0
IsUnlessMemory checked result = (result ≡ Err NoMemory) ⊎ (result ≡ checked)

-- the proof shows the claim, or it doesn't, or memory ran out
abbrev pub IsShown : RecordsModel → Text → ℕ → Claim → Proof → Result ⊤ Refusal → Type 0
IsShown held client height claim proof result =
    (seen : List Publication) (state : LedgerState) (bytes : Text) → Knows held state → proof_of bytes ≡ Some proof
    → IsUnlessMemory (require_proof (proof_evidence seen None state) client height claim bytes) result

-- all checks of a message passed, so that it gives this, or the first that failed is the refusal, or memory ran out
abbrev pub IsPassed : {A B : Type 0} → Checked B → (A → B) → Result A Refusal → Type 0
IsPassed checked given (Ok x) = checked ≡ Ok (given x)
IsPassed checked given (Err refusal) = (checked ≡ Err refusal) ⊎ (refusal ≡ NoMemory)

-- the same of checks of the core, by roots and proofs
abbrev pub IsJudged : {A B : Type 0} → (Evidence → Host → Core → Checked B) → ℕ → ℕ → RecordsModel → (A → B) → Result A Refusal → Type 0
IsJudged checks chain chains held given result =
    (seen : List Publication) (state : LedgerState) → Knows held state
    → IsPassed (checks (proof_evidence seen None state) (host_with chain chains held) (core_of held)) given result

-- the same of checks that find an own channel end, on whichever chain
abbrev pub IsJudgedEnd : (Evidence → Host → Core → Checked Channel) → RecordsModel → Result (Bor Channel) Refusal → Type 0
IsJudgedEnd checks held result = (chain chains : ℕ) → IsJudged checks chain chains held (λ mine. mine.now) result

-- what the evidence of roots and proofs says
abbrev pub IsEvident : {A : Type 0} → RecordsModel → (Evidence → A) → A → Type 0
IsEvident held says result =
    (seen : List Publication) (state : LedgerState) → Knows held state → result ≡ says (proof_evidence seen None state)
