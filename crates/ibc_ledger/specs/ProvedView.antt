-- A chain's last committed height with the tree that proves it (ICS 23, "CommitmentState" and "CommitmentProof").
use Rattle.std.specs.Prelude.{◌≡◌, ◌<◌, ℕ, Option, Some, IsTrue, option_map}
use Rattle.ibc_ids.specs.Paths.{path, is_key}
use Rattle.ibc_ids.specs.declared.key.Key.{Key}
use Rattle.ibc_merkle.specs.Tree.{Pairs}
use Rattle.ibc_merkle.specs.Written.{written_proof}
use Rattle.ibc_wire.specs.Fields.{have_form}
use Rattle.ibc_wire.specs.Spelling.{proof_fields}
use Rattle.ibc_machine.specs.chain.Records.{Core}
use Rattle.ibc_machine.specs.ics18.Relay.{View}
use Rattle.ibc_machine.specs.ics24.Image.{image, IsKeyed}
use Rattle.ibc_path_store.specs.StoreModel.{StoreModel, kept_at}

-- each proof of what stands there has a spelling
abbrev pub HasSpellings : Core → Type 0
HasSpellings core = (k : Key) → IsTrue (is_key k) → IsTrue (have_form (proof_fields (written_proof (image core) (path k))))

-- where a height is committed, the tree is over the image of what stands there, and proofs have a spelling
pub record IsTreeOf (core : Core) (tree : Option Pairs) : Type 0 where
  pub is : tree ≡ Some (image core)
  pub spelled : HasSpellings core

-- what stands there has names for its names, and is proved where a height is committed
pub record IsProved (height : ℕ) (core : Core) (tree : Option Pairs) : Type 0 where
  pub keyed : IsKeyed core
  pub proved : 0 < height → IsTreeOf core tree

-- the view of a chain at a height, by the time of the height and that of the working block
abbrev pub view_with : ℕ → ℕ → ℕ × ℕ → Core → View
view_with chain height times core =
    record { chain = chain; height = height; time = times.0; working_time = times.1; core = core }

-- the tree that a store keeps of a height, where it keeps one
abbrev pub kept_tree : StoreModel → ℕ → Option Pairs
kept_tree store height = option_map (λ kept. kept.0) (kept_at store height)
