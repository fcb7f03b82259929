-- A part of sorted pairs is sorted.
use Rattle.std.proofs.Common.{◌≡◌, ◌-◌, ap, ap₂, ◌∙◌, slice_range}
use Rattle.std.specs.FinMap.{is_sorted}
use Rattle.ibc_maps.proofs.Edits.{part_is_sorted}
use Rattle.ibc_maps.proofs.sorted_map.SortedMap.part.Goals as goal

pub invariant_of-result : goal.invariant_of-result
invariant_of-result g c =
    let same : c.in_ok-from_clones.field-0.items ≡ slice_range c.args.self.now.pairs c.args.from c.args.to =
    c.in_ok-from_clones.ensures.items_if_clones_equal (λ x y q. ap₂ (λ (k : g.row.K.Denot) (v : g.row.V.Denot). (k, v)) (c.requires.keys x.0 y.0 q.0) (c.requires.values x.1 y.1 q.1))
    ∙ ap (λ es. slice_range es c.args.from c.args.to) c.entries.ensures.pairs
    in
    ap (is_sorted g.K.Ord.cmp) same ∙ part_is_sorted g.K.Ord.cmp c.args.self.now.pairs c.args.from (c.args.to - c.args.from) c.entries.ensures.sorted
