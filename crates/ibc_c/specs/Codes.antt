-- The numbers that calls answer.
use Rattle.std.specs.Prelude.{◌≡◌, ◌⊎◌, ℕ, Result, Ok, Err, ⊤}
use Rattle.ibc_ids.specs.Texts.{Text}
use Rattle.ibc_ids.specs.Refusals.{number_of}
use Rattle.ibc_wire.specs.Fields.{Spells}
use Rattle.ibc_wire.specs.Kinds.{kind_of, tag_of}
use Rattle.ibc_wire.specs.Messages.{message_fields}
use Rattle.ibc_wire.specs.Reading.{proof_of}
use Rattle.ibc_wire.specs.declared.messages.Message.{Message}
use Rattle.ibc_machine.specs.chain.Checks.{Checked}
use Rattle.ibc_calls.specs.declared.answer.Refused.{Refused}
use Rattle.ibc_calls.specs.declared.proofs.ProofKind.{ProofKind}
use Rattle.ibc_calls.specs.declared.proofs.ProofKind.TheVariants.{Present, Absent}
use Rattle.ibc_calls.specs.CallAnswers.{Numbered}
use Rattle.ibc_calls.specs.Handles.{Finds}
use Rattle.ibc_calls.specs.JudgedProofs.{kind_in}

-- 0 where nothing was refused, else the number of the refusal
abbrev pub code_of : Checked ⊤ → ℕ
code_of (Ok x) = 0
code_of (Err refusal) = number_of refusal

-- The bytes spell a message, whose tag is told; or they spell none (107), or memory ran out (1), and no tag is told.
abbrev pub IsTagged : Text → ℕ → ℕ → ℕ → Type 0
IsTagged bytes old new answer =
    ((answer ≡ 0) × (m : Message) × Spells (message_fields m) bytes × (new ≡ tag_of (kind_of m)))
    ⊎ ((answer ≡ 107) × (new ≡ old) × ((m : Message) → Spells (message_fields m) bytes → ⊥))
    ⊎ ((answer ≡ 1) × (new ≡ old))

-- what a proof shows in a number: 1 that a key has a value, 2 that it isn't there
abbrev pub kind_number : ProofKind → ℕ
kind_number Present = 1
kind_number Absent = 2

-- the kind was read and is told, or there is none and nothing is told
abbrev pub IsKindWritten : Checked ProofKind → ℕ → ℕ → ℕ → Type 0
IsKindWritten (Ok kind) old new answer = (answer ≡ 0) × (new ≡ kind_number kind)
IsKindWritten (Err refusal) old new answer = (answer ≡ number_of refusal) × (new ≡ old)

-- the kind that the bytes of a proof show is told; or they spell none, or memory ran out (1), and nothing is told
abbrev pub TellsKind : Text → ℕ → ℕ → ℕ → Type 0
TellsKind bytes old new answer =
    ((answer ≡ 1) × (new ≡ old)) ⊎ IsKindWritten (kind_in (proof_of bytes)) old new answer

-- the number is that of an answer by which what is so was found and written
abbrev pub NumbersFound : (Result Text Refused → Type 0) → Text → Text → ℕ → ℕ → ℕ → Type 0
NumbersFound is old new size size' number = Numbered (Finds is old new size size') number
