-- One chunk more.
use Rattle.std.proofs.Common.{length, take, sym, ap, ◌∙◌, subst, ◌<◌}
use Rattle.std.specs.List.{AllByRecursion}
use Rattle.ibc_maps.specs.Chunks.{joined_chunks, HasPairs}
use Rattle.ibc_maps.proofs.PairsInChunks.{one_more, copied_more, has_pairs_at, whole-push}
use Rattle.ibc_maps.proofs.row.ChunkedMap.copy.Goals as goal

pub loop-chunk-preserved : goal.loop-chunk-preserved
loop-chunk-preserved g c =
    let chunks = c.deref-chunk-items.result.now in
    let i = c.loop-chunk.chunk-index in
    let copies = c.loop-chunk.chunks.items in
    let chunk = c.chunk-item.result in
    let copy = c.in_ok-try_clone.field-0 in
    let whole = subst (AllByRecursion HasPairs) (sym c.deref-chunk-items.ensures.value) c.self.invariant.0.whole in
    let some : HasPairs chunk = has_pairs_at chunks i chunk whole c.loop-chunk-test.true c.chunk-item.is in
    record {
      same =
          copied_more chunks copies c.push.new.self.items i chunk copy c.loop-chunk.invariant.same c.loop-chunk-test.true c.chunk-item.is c.in_ok-try_clone.ensures c.in_ok-push.ensures.items
          ∙ ap (λ n. joined_chunks (take n chunks)) (sym (one_more i));
      whole = subst (AllByRecursion HasPairs) (sym c.in_ok-push.ensures.items) (whole-push copies copy c.loop-chunk.invariant.whole (subst (λ m. 0 < length m.pairs) (sym c.in_ok-try_clone.ensures) some));
    }
