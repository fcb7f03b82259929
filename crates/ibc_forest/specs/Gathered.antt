-- A row above whose nodes are there but at the places that wait.
use Rattle.std.specs.Prelude.{◌≡◌, ◌≢◌, ℕ, ◌+◌, ◌*◌, ◌<◌, ◌≤◌, List, [], length, take, slice_index_or}
use Rattle.std.specs.List.{All}
use Rattle.ibc_ids.specs.Texts.{Text}
use Rattle.ibc_merkle.specs.Tree.{Tree, Node, root}
use Rattle.ibc_forest.specs.Levels.{tree_at}
use Rattle.ibc_forest.specs.NodeLevels.{Stand}

-- the tree over the pair of a row that stands below a place
abbrev pub node_over : List Tree → List ℕ → ℕ → Tree
node_over trees row place = Node (tree_at trees (slice_index_or row (2 * place) 0)) (tree_at trees (slice_index_or row (2 * place + 1) 0))

-- the nodes of a row above are those over pairs, but at the places that wait: there any nodes stand
pub record PairedBut (trees : List Tree) (row above waiting : List ℕ) : Type 0 where
  pub stand : Stand trees above
  pub few : 2 * length above ≤ length row
  pub places : All (λ place. place < length above) waiting
  pub paired : (place : ℕ) → place < length above → All (λ other. place ≢ other) waiting → tree_at trees (slice_index_or above place 0) ≡ node_over trees row place

-- all places that wait stand behind the first so many
abbrev pub WaitBehind : ℕ → List ℕ → Type 0
WaitBehind first waiting = All (λ place. first ≤ place) waiting

-- what stands in front of all places that wait stays as it was
abbrev pub FrontStays : List ℕ → List ℕ → List ℕ → Type 0
FrontStays waiting before after = (first : ℕ) → first ≤ length before → WaitBehind first waiting → take first after ≡ take first before

-- the first digests are those of the pairs below places, in their order
abbrev pub AreDigestsOver : List Tree → List ℕ → List ℕ → List Text → Type 0
AreDigestsOver trees row places digests = (k : ℕ) → k < 4 → k < length places → slice_index_or digests k [] ≡ root (node_over trees row (slice_index_or places k 0))

-- where no place waited in front of a place, none waits there after the change either
abbrev pub WaitingStaysBehind : ℕ → List ℕ → List ℕ → Type 0
WaitingStaysBehind place before after = (first : ℕ) → first ≤ place → WaitBehind first before → WaitBehind first after
