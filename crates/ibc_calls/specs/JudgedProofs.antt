-- What a proof shows that is given as its bytes (ICS 23, "Verification").
use Rattle.std.specs.Prelude.{Bool, ◌==◌, length, Option, Some, None, Ok, Err, ⊤, if◌then◌else◌}
use Rattle.ibc_ids.specs.Texts.{Text}
use Rattle.ibc_ids.specs.declared.refusal.Refusal.TheVariants.{BadMessage, BadProof}
use Rattle.ibc_merkle.specs.declared.proof.Proof.{Proof}
use Rattle.ibc_merkle.specs.declared.proof.Proof.TheVariants.{Present, Absent}
use Rattle.ibc_merkle.specs.Proofs.{accepts_absent, accepts_present}
use Rattle.ibc_wire.specs.Reading.{proof_of}
use Rattle.ibc_machine.specs.chain.Checks.{Checked, require}
use Rattle.ibc_calls.specs.declared.proofs.ProofKind.{ProofKind}
use Rattle.ibc_calls.specs.declared.proofs.ProofKind.TheVariants as kind

-- the test has passed, or else the proof shows nothing
abbrev pub test_passed : Bool → Checked ⊤
test_passed passed = require passed BadProof

-- the proof that was read passes the test
abbrev pub proof_test_passed : Option Proof → (Proof → Bool) → Checked ⊤
proof_test_passed None test = Err BadMessage
proof_test_passed (Some proof) test = test_passed (test proof)

-- the root has 32 bytes, the bytes spell a proof, and it passes the test: the first of these that fails names the refusal
abbrev pub proof_verdict : Text → Text → (Proof → Bool) → Checked ⊤
proof_verdict root bytes test = if length root == 32 then proof_test_passed (proof_of bytes) test else Err BadMessage

-- whether the bytes prove that the key has the value (ICS 23, "VerifyMembership")
abbrev pub judged_present : Text → Text → Text → Text → Checked ⊤
judged_present root key value bytes = proof_verdict root bytes (λ p. accepts_present p root key value)

-- whether the bytes prove that the key isn't there (ICS 23, "VerifyNonMembership")
abbrev pub judged_absent : Text → Text → Text → Checked ⊤
judged_absent root key bytes = proof_verdict root bytes (λ p. accepts_absent p root key)

-- what the proof shows
abbrev pub shown_kind : Proof → ProofKind
shown_kind (Present proof) = kind.Present
shown_kind (Absent proof) = kind.Absent

-- the key of which the proof speaks: that of the pair that it shows, or that which isn't there
abbrev pub shown_key : Proof → Text
shown_key (Present proof) = proof.key
shown_key (Absent proof) = proof.key

-- the value that it shows the key to have, or none where it shows that the key isn't there
abbrev pub shown_value : Proof → Option Text
shown_value (Present proof) = Some proof.value
shown_value (Absent proof) = None

-- what the proof shows that was read
abbrev pub kind_in : Option Proof → Checked ProofKind
kind_in None = Err BadMessage
kind_in (Some proof) = Ok (shown_kind proof)

-- the key of the proof that was read
abbrev pub key_in : Option Proof → Checked Text
key_in None = Err BadMessage
key_in (Some proof) = Ok (shown_key proof)

-- the value that it shows the key to have
abbrev pub value_in : Option Proof → Checked (Option Text)
value_in None = Err BadMessage
value_in (Some proof) = Ok (shown_value proof)
