-- Halving the chunks keeps the key between them.
use Rattle.std.proofs.Common.{◌<◌, ◌≤◌, ◌+◌, ◌-◌, ◌/◌, length, sym, ◌∙◌, arith}
use Rattle.ibc_maps.proofs.KeysAmongChunks.{above_from, below_from}
use Rattle.ibc_maps.proofs.row.place_of.Goals as goal

pub loop-low-preserved-then-begins_above : goal.loop-low-preserved-then-begins_above
loop-low-preserved-then-begins_above g c =
    let low = c.loop-low.low in
    let high = c.loop-low.high in
    let order : low < high = c.loop-low.invariant.order in
    let most : high ≤ length c.args.chunks.now = c.loop-low.invariant.within in
    let some : low + 1 < high = c.loop-low-test.true in
    record {
      order = omega arith;
      within = omega arith;
      below = c.loop-low.invariant.below;
      above = above_from g.met.K.Ord.total c.args.chunks.now c.args.key.now (low + (high - low) / 2) _ c.requires.row (omega arith) c.index-chunks-middle.is (sym c.begins_above.ensures ∙ c.if-begins_above.true);
    }

pub loop-low-preserved : goal.loop-low-preserved
loop-low-preserved g c =
    let low = c.loop-low.low in
    let high = c.loop-low.high in
    let order : low < high = c.loop-low.invariant.order in
    let most : high ≤ length c.args.chunks.now = c.loop-low.invariant.within in
    let some : low + 1 < high = c.loop-low-test.true in
    record {
      order = omega arith;
      within = most;
      below = below_from g.met.K.Ord.total c.args.chunks.now c.args.key.now (low + (high - low) / 2) _ c.requires.row (omega arith) c.index-chunks-middle.is (sym c.begins_above.ensures ∙ c.if-begins_above.false);
      above = c.loop-low.invariant.above;
    }
