-- What a proof shows of the chain that a client tracks (ICS 2, "Client state verification functions").
use Rattle.std.specs.Prelude.{◌≡◌, ◌⊎◌, ℕ, Bool, Result, Ok, Err, ⊤}
use Rattle.std.specs.Ordering.{nat_cmp}
use Rattle.ibc_ids.specs.Texts.{Text, text_cmp}
use Rattle.ibc_ids.specs.Maps.{at}
use Rattle.ibc_ids.specs.Paths.{path}
use Rattle.ibc_ids.specs.declared.key.Key.{Key}
use Rattle.ibc_ids.specs.declared.refusal.Refusal.{Refusal}
use Rattle.ibc_ids.specs.declared.refusal.Refusal.TheVariants.{UnknownClient, NoConsensus, BadProof, NoMemory}
use Rattle.ibc_merkle.specs.Proofs.{accepts_present, accepts_absent}
use Rattle.ibc_merkle.specs.declared.proof.Proof.{Proof}
use Rattle.ibc_machine.specs.chain.Checks.{Checked, require, expect, ◌>>=◌}
use Rattle.ibc_records.specs.declared.client.ConsensusState.{ConsensusState}
use Rattle.ibc_records.specs.RecordsModel.{RecordsModel}

-- a proof is accepted under the root that the client knows of the height
abbrev pub proof_checked : RecordsModel → Text → ℕ → (Text → Bool) → Checked ⊤
proof_checked held client height accepts = do
  found ← expect (at text_cmp client held.clients) UnknownClient
  known ← expect (at nat_cmp height found.known) NoConsensus
  require (accepts known.root) BadProof

-- what a client knows of the height, whose root decides what is shown, or why nothing is
abbrev pub IsKnown : RecordsModel → Text → ℕ → Result ConsensusState Refusal → Type 0
IsKnown held client height (Ok known) = (accepts : Text → Bool) → proof_checked held client height accepts ≡ require (accepts known.root) BadProof
IsKnown held client height (Err refusal) = (accepts : Text → Bool) → proof_checked held client height accepts ≡ Err refusal

-- the proof shows the value at the path (ICS 2, "verifyMembership")
abbrev pub ShowsAtPath : RecordsModel → Text → ℕ → Text → Text → Proof → Result ⊤ Refusal → Type 0
ShowsAtPath held client height place value proof result =
    result ≡ proof_checked held client height (λ root. accepts_present proof root place value)

-- the proof shows the value under the key, unless memory ran out
abbrev pub ShowsPresent : RecordsModel → Text → ℕ → Key → Text → Proof → Result ⊤ Refusal → Type 0
ShowsPresent held client height k value proof result =
    (result ≡ Err NoMemory) ⊎ (result ≡ proof_checked held client height (λ root. accepts_present proof root (path k) value))

-- the proof shows that nothing is under the key, unless memory ran out (ICS 2, "verifyNonMembership")
abbrev pub ShowsAbsent : RecordsModel → Text → ℕ → Key → Proof → Result ⊤ Refusal → Type 0
ShowsAbsent held client height k proof result =
    (result ≡ Err NoMemory) ⊎ (result ≡ proof_checked held client height (λ root. accepts_absent proof root (path k)))
