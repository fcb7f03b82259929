-- What a store has of a committed height that is kept (ICS 23, "CommitmentState" and "CommitmentProof").
use Rattle.std.specs.Prelude.{◌≡◌, ℕ}
use Rattle.std.specs.Option.{IsSomeAnd}
use Rattle.ibc_ids.specs.Paths.{path}
use Rattle.ibc_ids.specs.declared.key.Key.{Key}
use Rattle.ibc_merkle.specs.Tree.{Pairs}
use Rattle.ibc_merkle.specs.Written.{written_proof}
use Rattle.ibc_merkle.specs.declared.proof.Proof.{Proof}
use Rattle.ibc_path_store.specs.StoreModel.{StoreModel, kept_at}

-- the tree of the height
abbrev pub IsCommittedTree : StoreModel → ℕ → Pairs → Type 0
IsCommittedTree store height tree = IsSomeAnd (kept_at store height) (λ kept. tree ≡ kept.0)

-- the proof of what the height has at the key
abbrev pub IsCommittedProof : StoreModel → ℕ → Key → Proof → Type 0
IsCommittedProof store height k proof = IsSomeAnd (kept_at store height) (λ kept. proof ≡ written_proof kept.0 (path k))
