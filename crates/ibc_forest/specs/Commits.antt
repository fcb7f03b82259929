-- How many texts a commit hashed.
use Rattle.std.specs.Prelude.{◌≡◌, ℕ, ◌+◌, ◌*◌, ◌^◌, ◌≤◌, List, [], length, slice_index_or, Result, OnOk}
use Rattle.ibc_ids.specs.Texts.{Text}
use Rattle.ibc_merkle.specs.Tree.{Pairs}
use Rattle.ibc_merkle.specs.Written.{written_proof}
use Rattle.ibc_merkle.specs.declared.proof.Proof.{Proof}
use Rattle.ibc_forest.specs.Counts.{CountsEachNewLeaf}
use Rattle.ibc_forest.specs.ForestModel.{ForestModel}
use Rattle.ibc_forest.specs.Leaves.{count_new, keys}

-- two at least for each pair that the last commit lacks
abbrev pub CommitCountsNew : Pairs → ForestModel → ForestModel → Type 0
CommitCountsNew pairs before after = CountsEachNewLeaf before.last pairs before.digests after.digests

-- two at most for each new pair, and fewer over them than there are pairs
abbrev pub CommitHashesFew : Pairs → ForestModel → ForestModel → Type 0
CommitHashesFew pairs before after = after.digests + 1 ≤ before.digests + 2 * count_new before.last pairs + length pairs

-- where the keys stay, two at most for each new pair, and one for each level above it
abbrev pub CommitHashesPathsOnOk : {A E : Type 0} → Pairs → ForestModel → ForestModel → Result A E → Type 0
CommitHashesPathsOnOk pairs before after result =
    keys pairs ≡ keys before.last → (log : ℕ) → length pairs ≤ 2 ^ log
    → OnOk result (after.digests ≤ before.digests + count_new before.last pairs * (2 + log))

-- the proof of what a kept height has at a key, the first of them being number 0
abbrev pub IsWrittenProof : List (Pairs × ℕ) → ℕ → Text → Proof → Type 0
IsWrittenProof kept index key proof = proof ≡ written_proof (slice_index_or kept index ([], 0)).0 key
