-- Proofs in the form of ICS 23, there and back.
use Rattle.std.specs.Prelude.{◌≡◌, ◌⊎◌, Option, Some, None, Result, Ok, Err}
use Rattle.ibc_ids.specs.Texts.{Text}
use Rattle.ibc_ids.specs.declared.refusal.Refusal.TheVariants.{NoMemory, BadMessage}
use Rattle.ibc_merkle.specs.declared.proof.Proof.{Proof}
use Rattle.ibc_ics23_form.specs.Forms.{IsFormOfNone, IsSpelledProofOf, form_of}
use Rattle.ibc_wire.specs.Reading.{proof_of}
use Rattle.ibc_machine.specs.chain.Checks.{Checked}
use Rattle.ibc_calls.specs.declared.answer.Refused.{Refused}
use Rattle.ibc_calls.specs.declared.answer.Refused.TheVariants.{Core}
use Rattle.ibc_calls.specs.ProofReads.{read}

-- the form of the proof that was read
abbrev pub form_in : Option Proof → Checked Text
form_in None = Err BadMessage
form_in (Some proof) = Ok (form_of proof)

-- the form of the proof that the bytes spell, or memory ran out
abbrev pub FindsForm : Text → Result Text Refused → Type 0
FindsForm bytes found = (found ≡ Err (Core NoMemory)) ⊎ (found ≡ read (form_in (proof_of bytes)))

-- the bytes of the one proof whose form this is; or there is none, or memory ran out
abbrev pub FindsProofOf : Text → Result Text Refused → Type 0
FindsProofOf form (Ok bytes) = IsSpelledProofOf form bytes
FindsProofOf form (Err why) = ((why ≡ Core BadMessage) × IsFormOfNone form) ⊎ (why ≡ Core NoMemory)
