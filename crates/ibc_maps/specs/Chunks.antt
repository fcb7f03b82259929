-- Pairs in chunks.
use Rattle.std.specs.Prelude.{◌≡◌, ◌<◌, List, [], ◌∷◌, ◌++◌, length, Bool, true, false}
use Rattle.std.specs.List.{AllByRecursion}
use Rattle.std.specs.Arc.{arc_value}
use Rattle.std.specs.FinMap.{is_sorted}
use Rattle.std.specs.Ordering.{is_gt}
use Rattle.std.specs.declared.cmp.Ordering.{Ordering}
use Rattle.std.specs.declared.cmp.Ordering.TheVariants.{Equal}
use Rattle.std.specs.declared.alloc.Global.{Global}
use Rattle.std.specs.declared.sync.Arc.{Arc}
use Rattle.ibc_ids.specs.Maps.{Map, with, without}
use Rattle.ibc_maps.specs.SortedMapModel.{SortedMapModel}

-- a copy of a value is the value
abbrev pub CopiesAreSame : {T : Type 0} → (T → T → Type 0) → Type 0
CopiesAreSame {T} is_clone = (value copy : T) → is_clone value copy → copy ≡ value

-- keys that tie are the same
abbrev pub TiesAreSame : {K : Type 0} → (K → K → Ordering) → Type 0
TiesAreSame {K} order = (key other : K) → order key other ≡ Equal → key ≡ other

abbrev pub ChunkPairs : Type 0 → Type 0 → Type 0
ChunkPairs K V = Arc (SortedMapModel K V) Global

-- the pairs of chunks, one after another
abbrev pub joined_chunks : {K V : Type 0} → List (ChunkPairs K V) → Map K V
joined_chunks [] = []
joined_chunks (chunk ∷ chunks) = (arc_value chunk).pairs ++ joined_chunks chunks

-- the first key is above this one
abbrev pub begins_above : {K V : Type 0} → (K → K → Ordering) → K → Map K V → Bool
begins_above order key [] = false
begins_above order key (pair ∷ pairs) = is_gt (order pair.0 key)

-- a chunk has some pairs
abbrev pub HasPairs : {K V : Type 0} → ChunkPairs K V → Type 0
HasPairs chunk = 0 < length (arc_value chunk).pairs

-- the pairs are in the order of their keys, and each chunk has some
pub record IsRow {K V : Type 0} (order : K → K → Ordering) (chunks : List (ChunkPairs K V)) : Type 0 where
  pub sorted : is_sorted order (joined_chunks chunks) ≡ true
  pub whole : AllByRecursion HasPairs chunks

-- the pairs of a chunk
abbrev pub chunk_pairs : {K V : Type 0} → ChunkPairs K V → Map K V
chunk_pairs chunk = (arc_value chunk).pairs

-- the pairs of chunks are those of before, with the value at the key
abbrev pub SetsAmong : {K V : Type 0} → (K → K → Ordering) → K → V → List (ChunkPairs K V) → List (ChunkPairs K V) → Type 0
SetsAmong order key value before after = joined_chunks after ≡ with order key value (joined_chunks before)

-- the pairs of chunks are those of before, without the key
abbrev pub RemovesAmong : {K V : Type 0} → (K → K → Ordering) → K → List (ChunkPairs K V) → List (ChunkPairs K V) → Type 0
RemovesAmong order key before after = joined_chunks after ≡ without order key (joined_chunks before)
