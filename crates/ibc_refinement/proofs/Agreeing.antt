-- Two ways to judge what a message says of another chain, which agree on what is asked of them.
use Rattle.std.proofs.Common.{◌≡◌, ℕ, true, ◌&&◌, nat_le, ap, ap₂}
use Rattle.ibc_ids.specs.Texts.{Text}
use Rattle.ibc_ids.specs.declared.refusal.Refusal.TheVariants as refusal
use Rattle.ibc_wire.specs.declared.header.Header.{Header}
use Rattle.ibc_machine.specs.ics24.Values.{Claim}
use Rattle.ibc_machine.specs.chain.Records.{Core, is_known_height}
use Rattle.ibc_machine.specs.chain.Checks.{require}
use Rattle.ibc_machine.specs.ics24.Evidence.{Evidence}

-- a claim that a message makes, with the bytes of its proof
abbrev pub Asked : Type 1
Asked = Claim → Text → Type 0

-- they agree on what is asked of heights that the client knows
pub record Agree (asked : Asked) (one other : Evidence) (core : Core) : Type 0 where
  pub is_proof : (bytes : Text) → one.is_proof bytes ≡ other.is_proof bytes
  pub time_at : (client : Text) (height : ℕ) → is_known_height core client height ≡ true → one.time_at client height ≡ other.time_at client height
  pub shows : (client : Text) (height : ℕ) (claim : Claim) (proof : Text) → is_known_height core client height ≡ true → asked claim proof
      → one.shows client height claim proof ≡ other.shows client height claim proof

-- they agree on a header of a client's chain: whether its height is published, and what stands there
pub record AgreeOn (one other : Evidence) (header : Header) : Type 0 where
  pub published : nat_le header.height (one.published header.chain) ≡ nat_le header.height (other.published header.chain)
  pub row : nat_le header.height (other.published header.chain) ≡ true → one.row header ≡ other.row header

module _ (asked : Asked) (one other : Evidence) (core : Core) (agree : Agree asked one other core) where
  pub proof_same : (bytes : Text) → require (one.is_proof bytes) refusal.BadMessage ≡ require (other.is_proof bytes) refusal.BadMessage
  proof_same bytes = ap (λ b. require b refusal.BadMessage) (agree.is_proof bytes)

  pub proofs_same : (a b : Text) → require (one.is_proof a && one.is_proof b) refusal.BadMessage ≡ require (other.is_proof a && other.is_proof b) refusal.BadMessage
  proofs_same a b = ap₂ (λ x y. require (x && y) refusal.BadMessage) (agree.is_proof a) (agree.is_proof b)

  pub shows_same : (client : Text) (height : ℕ) (claim : Claim) (proof : Text) → is_known_height core client height ≡ true → asked claim proof
      → require (one.shows client height claim proof) refusal.BadProof ≡ require (other.shows client height claim proof) refusal.BadProof
  shows_same client height claim proof known a = ap (λ b. require b refusal.BadProof) (agree.shows client height claim proof known a)
