-- What a ledger proves of its committed heights (ICS 23, "CommitmentProof").
use Rattle.std.specs.Prelude.{◌≡◌, ◌⊎◌, ℕ, Option, Some, None, Result, Ok, Err}
use Rattle.ibc_ids.specs.Texts.{Text}
use Rattle.ibc_ids.specs.Paths.{path}
use Rattle.ibc_ids.specs.declared.key.Key.{Key}
use Rattle.ibc_ids.specs.declared.refusal.Refusal.TheVariants.{NoConsensus, NoMemory}
use Rattle.ibc_merkle.specs.Written.{written_proof}
use Rattle.ibc_wire.specs.Spelling.{proof_bytes}
use Rattle.ibc_machine.specs.chain.Records.{Block}
use Rattle.ibc_machine.specs.ics24.Image.{image}
use Rattle.ibc_machine.specs.ledger.Ledgers.{Ledger, state_of}
use Rattle.ibc_ledger.specs.ReplayedState.{provable_block}
use Rattle.ibc_handle.specs.declared.handle_value.HandleValue.{HandleValue}
use Rattle.ibc_handle.specs.declared.handle_value.HandleValue.TheVariants as held
use Rattle.ibc_calls.specs.declared.answer.Refused.{Refused}
use Rattle.ibc_calls.specs.declared.answer.Refused.TheVariants.{Core, Empty, OtherKind}
use Rattle.ibc_calls.specs.Views.{AtPath}

-- the bytes of the proof of what a block has at a key, where there is the block
abbrev pub proof_in : Option Block → Key → Result Text Refused
proof_in None key = Err (Core NoConsensus)
proof_in (Some block) key = Ok (proof_bytes (written_proof (image block.records.core) (path key)))

-- of the height where it is one of the last that were committed, as many as the window says
abbrev pub proof_at : ℕ → Ledger → Key → Result Text Refused
proof_at height ledger = proof_in (provable_block ledger.genesis.window (state_of ledger).chain.committed height)

-- the proof of a key, or memory ran out
abbrev pub IsProofOf : ℕ → Key → Ledger → Result Text Refused → Type 0
IsProofOf height key ledger found = (found ≡ proof_at height ledger key) ⊎ (found ≡ Err (Core NoMemory))

-- the proof at the path of a key
abbrev pub IsProvedAt : ℕ → Text → Ledger → Result Text Refused → Type 0
IsProvedAt height bytes ledger = AtPath bytes (λ key found. found ≡ proof_at height ledger key)

unfoldable pub FindsProved : ℕ → Text → Option HandleValue → Result Text Refused → Type 0
FindsProved height bytes None found = found ≡ Err Empty
FindsProved height bytes (Some (held.Ledger l)) found = IsProvedAt height bytes l.ledger.ledger found
FindsProved height bytes (Some other) found = found ≡ Err OtherKind
