use Rattle.std.proofs.Common.{◌≡◌, take}
use Rattle.std.specs.List.{AllByRecursion}
use Rattle.ibc_maps.specs.Chunks.{joined_chunks, HasPairs}
use Rattle.ibc_maps.proofs.row.ChunkedMap.copy.Given as goal

abbrev pub invariant-loop-chunk : goal.invariant-loop-chunk
invariant-loop-chunk g l = record {
  same : joined_chunks l.chunks.items ≡ joined_chunks (take l.chunk-index l.chunk-items);
  whole : AllByRecursion HasPairs l.chunks.items;
}
