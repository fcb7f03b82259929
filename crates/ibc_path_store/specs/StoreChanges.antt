-- How a store changes, and what it shows of a height that is kept.
use Rattle.std.specs.Prelude.{◌≡◌, ℕ, ◌+◌, ◌*◌, ◌^◌, ◌≤◌, [], length, slice_index_or, string_bytes, Some, String, Result, OnOk}
use Rattle.std.specs.Option.{IsSomeAnd}
use Rattle.std.specs.declared.alloc.Global.{Global}
use Rattle.ibc_ids.specs.Texts.{Text, text_cmp}
use Rattle.ibc_ids.specs.Maps.{with, without}
use Rattle.ibc_ids.specs.Paths.{path}
use Rattle.ibc_ids.specs.declared.key.Key.{Key}
use Rattle.ibc_merkle.specs.Written.{written_proof}
use Rattle.ibc_merkle.specs.declared.proof.Proof.{Proof}
use Rattle.ibc_forest.specs.Counts.{CountsEachNewLeaf}
use Rattle.ibc_forest.specs.Leaves.{count_new, keys}
use Rattle.ibc_path_store.specs.StoreModel.{StoreModel, kept_at, store_after_commit}

-- the working map has the value at the path, and the room may be another
abbrev pub SetsPath : String Global → Text → StoreModel → StoreModel → Type 0
SetsPath text value before after = after ≡ record before { pairs = with text_cmp (string_bytes text) value before.pairs; room = after.room }

-- the working map doesn't have the path, and the room may be another
abbrev pub RemovesPath : Text → StoreModel → StoreModel → Type 0
RemovesPath text before after = after ≡ record before { pairs = without text_cmp text before.pairs; room = after.room }

-- the working block is committed, and texts may be hashed for it
abbrev pub Commits : ℕ → StoreModel → StoreModel → Type 0
Commits next_time before after = after ≡ record (store_after_commit before next_time) { hashed = after.hashed }

-- two texts at least were counted for each pair that the last commit lacks
abbrev pub StoreCountsNew : StoreModel → StoreModel → Type 0
StoreCountsNew before after = CountsEachNewLeaf before.hashed.last before.pairs before.hashed.digests after.hashed.digests

-- two at most were hashed for each new pair, and fewer over them than there are pairs
abbrev pub StoreHashesFew : StoreModel → StoreModel → Type 0
StoreHashesFew before after =
    after.hashed.digests + 1 ≤ before.hashed.digests + 2 * count_new before.hashed.last before.pairs + length before.pairs

-- where the keys stay, two at most for each new pair, and one for each level above it
abbrev pub StoreHashesPathsOnOk : {A E : Type 0} → StoreModel → StoreModel → Result A E → Type 0
StoreHashesPathsOnOk before after result =
    keys before.pairs ≡ keys before.hashed.last → (log : ℕ) → length before.pairs ≤ 2 ^ log
    → OnOk result (after.hashed.digests ≤ before.hashed.digests + count_new before.hashed.last before.pairs * (2 + log))

-- the proof of what a kept height has at the path of a key
abbrev pub IsKeptProof : StoreModel → ℕ → Key → Proof → Type 0
IsKeptProof store height key proof = IsSomeAnd (kept_at store height) (λ kept. proof ≡ written_proof kept.0 (path key))

-- a height stands at a place among those that are kept
abbrev pub IsKeptIndex : StoreModel → ℕ → ℕ → Type 0
IsKeptIndex store height index = kept_at store height ≡ Some (slice_index_or store.kept index ([], 0))
