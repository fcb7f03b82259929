-- The halves of a chunk stand in its place.
use Rattle.std.proofs.Common.{◌≡◌, ◌<◌, ◌++◌, suc, length, set, sym, ap, ap₂, ◌∙◌, subst, arith, take-append-drop}
use Rattle.std.specs.Arc.{arc_value}
use Rattle.std.specs.FinMap.{is_sorted}
use Rattle.std.specs.List.{AllByRecursion, insert}
use Rattle.ibc_maps.specs.Chunks.{joined_chunks, HasPairs}
use Rattle.ibc_maps.proofs.PairsInChunks.{one_more, joined-divided, whole-divided, some-take, some-drop}
use Rattle.ibc_maps.proofs.row.divide.Given.{Over}
use Rattle.ibc_maps.proofs.row.divide.Goals as goal

module _ (g : Over) (c : goal.After-drop-index_mut g) where
  items : set c.insert.new.self.items c.args.place c.in_ok-low.low ≡ set (insert c.args.chunks.now.items (suc c.args.place) c.in_ok-low.high) c.args.place c.in_ok-low.low
  items =
      ap (λ es. set es c.args.place c.in_ok-low.low)
      (c.in_ok-insert.ensures.items ∙ ap (λ n. insert c.args.chunks.now.items n c.in_ok-low.high) (one_more c.args.place))

  halves : (arc_value c.in_ok-low.low).pairs ++ (arc_value c.in_ok-low.high).pairs ≡ (arc_value c.index-chunk.result.now).pairs
  halves = ap₂ ◌++◌ c.in_ok-low.ensures.low c.in_ok-low.ensures.high ∙ take-append-drop 64 (arc_value c.index-chunk.result.now).pairs

  same : joined_chunks (set c.insert.new.self.items c.args.place c.in_ok-low.low) ≡ joined_chunks c.args.chunks.now.items
  same =
      ap joined_chunks items
      ∙ joined-divided c.args.chunks.now.items c.args.place c.index-chunk.result.now c.in_ok-low.low c.in_ok-low.high c.requires.within c.index-chunk.ensures halves

  long : 64 < length (arc_value c.index-chunk.result.now).pairs
  long =
      let counted = c.len.ensures ∙ ap (λ m. length m.pairs) c.deref.ensures in
      let no = c.if-len-lt-FULL.false in
      omega arith

pub returns-clause-same : goal.returns-clause-same
returns-clause-same g c = same g c

pub returns-clause-row : goal.returns-clause-row
returns-clause-row g c =
    let pairs = (arc_value c.index-chunk.result.now).pairs in
    let low : HasPairs c.in_ok-low.low = subst (λ ps. 0 < length ps) (sym c.in_ok-low.ensures.low) (some-take 64 pairs (omega arith) (long g c)) in
    let high : HasPairs c.in_ok-low.high = subst (λ ps. 0 < length ps) (sym c.in_ok-low.ensures.high) (some-drop 64 pairs (long g c)) in
    record {
      sorted = ap (is_sorted g.K.Ord.cmp) (same g c) ∙ c.requires.row.sorted;
      whole = subst (AllByRecursion HasPairs) (sym (items g c)) (whole-divided c.args.chunks.now.items c.args.place c.in_ok-low.low c.in_ok-low.high c.requires.within c.requires.row.whole low high);
    }
