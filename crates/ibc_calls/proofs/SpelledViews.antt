-- Each proof of what a ledger has committed has a spelling, since its types promise what stands there.
use Rattle.ibc_ledger.proofs.Common.{◌≡◌, ℕ, ◌^◌, ◌<◌, Bool, true, false, List, [], ◌∷◌, zero, suc, length, sym, subst, Option, None, slice_get, ltb, AllByRecursion, IsSomeAnd}
use Rattle.ibc_ledger.proofs.Common.{Block, image, Ledger, IsLedger, state_of, written_proof, path, provable_block, passed_count}
use Rattle.ibc_ledger.proofs.SpelledProofs.{AreTyped, committed_typed, spelled}
use Rattle.ibc_ids.specs.Paths.{is_key}
use Rattle.ibc_ids.specs.declared.key.Key.{Key}
use Rattle.ibc_merkle.specs.declared.proof.Proof.{Proof}
use Rattle.ibc_wire.specs.Fields.{have_form}
use Rattle.ibc_wire.specs.Spelling.{proof_fields}
use Rattle.ibc_machine.specs.chain.Machine.{block_of}

abbrev AreSmall : List Block → Type 0
AreSmall = AllByRecursion (λ (block : Block). length (image block.records.core) < 2 ^ 64)

module _ (key : Key) (named : is_key key ≡ true) (proof : Proof) where
  abbrev IsOf : Option Block → Type 0
  IsOf o = IsSomeAnd o (λ (block : Block). proof ≡ written_proof (image block.records.core) (path key))

  of_nth : (blocks : List Block) (k : ℕ) → AreTyped blocks → AreSmall blocks → IsOf (slice_get blocks k) → have_form (proof_fields proof) ≡ true
  of_nth [] k typed small is = absurd is
  of_nth (block ∷ blocks) zero typed small is =
      subst (λ p. have_form (proof_fields p) ≡ true) (sym is) (spelled block.records.core typed.0 small.0 key named)
  of_nth (block ∷ blocks) (suc k) typed small is = of_nth blocks k typed.1 small.1 is

  of_height : (blocks : List Block) (height : ℕ) → AreTyped blocks → AreSmall blocks → IsOf (block_of height blocks) → have_form (proof_fields proof) ≡ true
  of_height blocks zero typed small is = absurd is
  of_height blocks (suc k) typed small is = of_nth blocks k typed small is

  of_kept : (kept : Bool) (o : Option Block) → IsOf (elim kept [ true ↦ o | false ↦ None ]) → IsOf o
  of_kept true o is = is
  of_kept false o is = absurd is

  -- what a ledger proves has a spelling
  pub has_form : (ledger : Ledger) → IsLedger ledger → (height : ℕ) → IsOf (provable_block ledger.genesis.window (state_of ledger).chain.committed height) → have_form (proof_fields proof) ≡ true
  has_form ledger is height of =
      let blocks = (state_of ledger).chain.committed in
      of_height blocks height (committed_typed ledger is) is.small (of_kept (ltb (passed_count ledger.genesis.window blocks) height) (block_of height blocks) of)
