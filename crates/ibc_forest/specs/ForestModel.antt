-- A forest: the pairs of the last commit, of each kept height its pairs and its time, and how many texts were hashed for
-- all commits.
use Rattle.std.specs.Prelude.{ℕ, List}
use Rattle.ibc_merkle.specs.Tree.{Pairs}

pub record ForestModel : Type 0 where
  pub last : Pairs
  pub kept : List (Pairs × ℕ)
  pub digests : ℕ
