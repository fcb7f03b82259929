-- What proofs and messages carry that are given as their bytes (ICS 23, "Proofs").
use Rattle.std.specs.Prelude.{◌≡◌, ◌⊎◌, ℕ, Option, Some, None, Result, Ok, Err}
use Rattle.ibc_ids.specs.Texts.{Text}
use Rattle.ibc_ids.specs.declared.refusal.Refusal.TheVariants.{NoMemory}
use Rattle.ibc_wire.specs.Fields.{Spells}
use Rattle.ibc_wire.specs.Messages.{message_fields}
use Rattle.ibc_wire.specs.Reading.{proof_of}
use Rattle.ibc_wire.specs.declared.messages.Message.{Message}
use Rattle.ibc_machine.specs.chain.Checks.{Checked}
use Rattle.ibc_calls.specs.CarriedProofs.{carried_proof}
use Rattle.ibc_calls.specs.JudgedProofs.{key_in, value_in}
use Rattle.ibc_calls.specs.declared.messages.Carried.{Carried}
use Rattle.ibc_calls.specs.declared.answer.Refused.{Refused}
use Rattle.ibc_calls.specs.declared.answer.Refused.TheVariants.{Core, NothingThere, NoMessage}
use Rattle.ibc_calls.specs.CallAnswers.{Answer}
use Rattle.ibc_calls.specs.Handles.{IsWritten}

-- ---- proofs

-- what was read, or the core's refusal
abbrev pub read : Checked Text → Result Text Refused
read (Ok text) = Ok text
read (Err refusal) = Err (Core refusal)

-- what was read, where there is something
abbrev pub read_if_there : Checked (Option Text) → Result Text Refused
read_if_there (Ok None) = Err NothingThere
read_if_there (Ok (Some text)) = Ok text
read_if_there (Err refusal) = Err (Core refusal)

-- the key of the proof that the bytes spell
abbrev pub FindsKey : Text → Result Text Refused → Type 0
FindsKey bytes found = (found ≡ Err (Core NoMemory)) ⊎ (found ≡ read (key_in (proof_of bytes)))

-- the value that it shows the key to have
abbrev pub FindsShown : Text → Result Text Refused → Type 0
FindsShown bytes found = (found ≡ Err (Core NoMemory)) ⊎ (found ≡ read_if_there (value_in (proof_of bytes)))

-- ---- messages

-- where a proof and its height are told
pub record ProofOutput : Type 0 where
  pub height : ℕ
  pub bytes : Text
  pub size : ℕ

-- a proof's height, its bytes, and how many they are
abbrev pub proof_output : ℕ → Text → ℕ → ProofOutput
proof_output height bytes size = record { height = height; bytes = bytes; size = size }

abbrev pub WritesProof : Option Carried → ProofOutput → ProofOutput → Answer → Type 0
WritesProof None old new answer = (new ≡ old) × (answer ≡ Err NothingThere)
WritesProof (Some c) old new answer = (new.height ≡ c.height) × IsWritten c.proof old.bytes new.bytes new.size answer

-- The bytes spell a message, whose proof at the index is told; or they spell none, or memory ran out, and nothing is told.
unfoldable pub TellsProof : ℕ → Text → ProofOutput → ProofOutput → Answer → Type 0
TellsProof index bytes old new answer =
    ((m : Message) × Spells (message_fields m) bytes × WritesProof (carried_proof index m) old new answer)
    ⊎ ((new ≡ old) × (((answer ≡ Err NoMessage) × ((m : Message) → Spells (message_fields m) bytes → ⊥)) ⊎ (answer ≡ Err (Core NoMemory))))
