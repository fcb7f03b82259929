-- Changes merged into what they change, pair by pair.
use Rattle.std.specs.Prelude.{◌≡◌, Bool, false, cond, List, [], ◌∷◌}
use Rattle.std.specs.List.{AllByRecursion}
use Rattle.std.specs.Ordering.{is_eq, is_gt}
use Rattle.std.specs.declared.cmp.Ordering.{Ordering}
use Rattle.ibc_ids.specs.Maps.{Map}
use Rattle.ibc_maps.specs.Chunks.{ChunkPairs, HasPairs}

-- the first key is below this one
abbrev pub begins_below : {K V : Type 0} → (K → K → Ordering) → K → Map K V → Bool
begins_below order key [] = false
begins_below order key (pair ∷ pairs) = is_gt (order key pair.0)

-- without the first pair, if it has the key
abbrev pub behind_key : {K V : Type 0} → (K → K → Ordering) → K → Map K V → Map K V
behind_key order key [] = []
behind_key order key (pair ∷ pairs) = cond (is_eq (order key pair.0)) pairs (pair ∷ pairs)

-- no chunk waits where no pair stands before it, and each chunk has some pairs
pub record ShowsFirst {K V : Type 0} (pairs : Map K V) (chunks : List (ChunkPairs K V)) : Type 0 where
  pub first : pairs ≡ [] → chunks ≡ []
  pub whole : AllByRecursion HasPairs chunks
