-- What a proof shows under a root that a client holds is what the ledger's state says of it.
use Rattle.std.proofs.Common.{◌≡◌, ℕ, Bool, true, false, is_some, refl, sym, ap, ◌∙◌, List, Option, Some, None, Err, option_map, option_and_then}
use Rattle.std.specs.Prelude.{⊤}
use Rattle.std.specs.Option.{option_map_or}
use Rattle.std.specs.Ordering.{nat_cmp}
use Rattle.ibc_ids.specs.Texts.{Text, text_cmp}
use Rattle.ibc_ids.specs.Maps.{at}
use Rattle.ibc_ids.specs.Paths.{path}
use Rattle.ibc_ids.specs.declared.key.Key.{Key}
use Rattle.ibc_ids.specs.declared.publication.Publication.{Publication}
use Rattle.ibc_ids.specs.declared.refusal.Refusal.TheVariants.{UnknownClient, NoConsensus, BadProof}
use Rattle.ibc_merkle.specs.Proofs.{accepts, accepts_present, accepts_absent}
use Rattle.ibc_merkle.specs.declared.proof.Proof.{Proof}
use Rattle.ibc_wire.specs.Reading.{proof_of}
use Rattle.ibc_machine.specs.chain.Checks.{Checked, require, expect, go_on, ◌>>=◌}
use Rattle.ibc_machine.specs.ics24.Evidence.{require_proof}
use Rattle.ibc_machine.specs.chain.Records.{is_known_height}
use Rattle.ibc_machine.specs.ledger.Replay.{LedgerState, Consensus, proof_evidence, is_shown}
use Rattle.ibc_machine.specs.ics24.Values.{Value, Claim, present_claim, absent_claim, value_bytes}
use Rattle.ibc_records.specs.declared.client.ConsensusState.{ConsensusState}
use Rattle.ibc_records.specs.ClientModels.{ClientModel}
use Rattle.ibc_records.specs.RecordsModel.{RecordsModel, core_of, consensus_in}
use Rattle.ibc_records.specs.Knowledge.{Knows, abstract_consensus}
use Rattle.ibc_records.proofs.Knowing.{knows-held}
use Rattle.ibc_records.specs.Claims.{proof_checked}

-- ---- the root that decides

module _ (held : RecordsModel) (client : Text) (height : ℕ) where
  shown_by : (Text → Bool) → Option ClientModel → Checked ⊤
  shown_by accepts o = expect o UnknownClient >>= λ (c : ClientModel). (expect (at nat_cmp height c.known) NoConsensus >>= λ (k : ConsensusState). require (accepts k.root) BadProof)

  pub no_client : None ≡ at text_cmp client held.clients → (accepts : Text → Bool) → proof_checked held client height accepts ≡ Err UnknownClient
  unfolding go_on shown_by
  no_client none accepts = ap (shown_by accepts) (sym none)

  module _ (found : ClientModel) (some : Some found ≡ at text_cmp client held.clients) where
    shown_at : (Text → Bool) → Option ConsensusState → Checked ⊤
    shown_at accepts o = expect o NoConsensus >>= λ (k : ConsensusState). require (accepts k.root) BadProof

    shown_found : (accepts : Text → Bool) → proof_checked held client height accepts ≡ shown_at accepts (at nat_cmp height found.known)
    unfolding go_on shown_by shown_at
    shown_found accepts = ap (shown_by accepts) (sym some)

    pub no_height : None ≡ at nat_cmp height found.known → (accepts : Text → Bool) → proof_checked held client height accepts ≡ Err NoConsensus
    unfolding go_on shown_at
    no_height none accepts = shown_found accepts ∙ ap (shown_at accepts) (sym none)

    pub root_known : (known : ConsensusState) → Some known ≡ at nat_cmp height found.known → (accepts : Text → Bool) → proof_checked held client height accepts ≡ require (accepts known.root) BadProof
    unfolding go_on shown_at
    root_known known there accepts = shown_found accepts ∙ ap (shown_at accepts) (sym there)

  -- whether the height is known, by what is held
  pub knows_by : (o : Option ClientModel) → o ≡ at text_cmp client held.clients → is_some (option_and_then (λ (c : ClientModel). at nat_cmp height c.known) o) ≡ is_known_height (core_of held) client height
  knows_by o is = ap (λ o. is_some (option_and_then (λ (c : ClientModel). at nat_cmp height c.known) o)) is ∙ sym (knows-held held client height)

  -- a height that is known has a root
  known_root : is_known_height (core_of held) client height ≡ true
      → (known : ConsensusState) × (consensus_in held client height ≡ Some known) × ((accepts : Text → Bool) → proof_checked held client height accepts ≡ require (accepts known.root) BadProof)
  known_root is = by_client (at text_cmp client held.clients) refl (sym (knows-held held client height) ∙ is)
    where
      by_height : (found : ClientModel) → Some found ≡ at text_cmp client held.clients → (o : Option ConsensusState) → o ≡ at nat_cmp height found.known → is_some o ≡ true
          → (known : ConsensusState) × (consensus_in held client height ≡ Some known) × ((accepts : Text → Bool) → proof_checked held client height accepts ≡ require (accepts known.root) BadProof)
      by_height found some None there e = absurd (cc)
      by_height found some (Some known) there e =
          (known, ap (option_and_then (λ (c : ClientModel). at nat_cmp height c.known)) (sym some) ∙ sym there, root_known found some known there)

      by_client : (o : Option ClientModel) → o ≡ at text_cmp client held.clients → is_some (option_and_then (λ (c : ClientModel). at nat_cmp height c.known) o) ≡ true
          → (known : ConsensusState) × (consensus_in held client height ≡ Some known) × ((accepts : Text → Bool) → proof_checked held client height accepts ≡ require (accepts known.root) BadProof)
      by_client None some e = absurd (cc)
      by_client (Some found) some e = by_height found some (at nat_cmp height found.known) refl e

-- ---- the ledger's state

module _ (held : RecordsModel) (state : LedgerState) (seen : List Publication) (client : Text) (height : ℕ) (claim : Claim) (bytes : Text) (proof : Proof) where
  shown_claim : Knows held state → is_known_height (core_of held) client height ≡ true → proof_of bytes ≡ Some proof
      → proof_checked held client height (λ root. accepts proof root (path claim.key) (option_map value_bytes claim.value)) ≡ require_proof (proof_evidence seen None state) client height claim bytes
  shown_claim knowledge is reads =
      let w = known_root held client height is in
      let accepted : (accepts proof w.0.root (path claim.key) (option_map value_bytes claim.value)) ≡ is_shown claim bytes (abstract_consensus w.0) =
      sym (ap (λ o. option_map_or (λ p. accepts p w.0.root (path claim.key) (option_map value_bytes claim.value)) o false) reads) in
      w.2 (λ root. accepts proof root (path claim.key) (option_map value_bytes claim.value))
      ∙ ap (λ b. require b BadProof) (accepted ∙ sym (ap (λ (o : Option Consensus). option_map_or (is_shown claim bytes) o false) (knowledge client height w.0 w.1)))

pub shown_present : (held : RecordsModel) (state : LedgerState) (seen : List Publication) (client : Text) (height : ℕ) (key : Key) (value : Value) (bytes : Text) (proof : Proof)
    → Knows held state → is_known_height (core_of held) client height ≡ true → proof_of bytes ≡ Some proof
    → proof_checked held client height (λ root. accepts_present proof root (path key) (value_bytes value)) ≡ require_proof (proof_evidence seen None state) client height (present_claim key value) bytes
shown_present held state seen client height key value bytes proof =
    shown_claim held state seen client height (present_claim key value) bytes proof

pub shown_absent : (held : RecordsModel) (state : LedgerState) (seen : List Publication) (client : Text) (height : ℕ) (key : Key) (bytes : Text) (proof : Proof)
    → Knows held state → is_known_height (core_of held) client height ≡ true → proof_of bytes ≡ Some proof
    → proof_checked held client height (λ root. accepts_absent proof root (path key)) ≡ require_proof (proof_evidence seen None state) client height (absent_claim key) bytes
shown_absent held state seen client height key bytes proof = shown_claim held state seen client height (absent_claim key) bytes proof
