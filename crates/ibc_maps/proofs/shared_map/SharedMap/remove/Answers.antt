-- The change stands among the others.
use Rattle.std.proofs.Common.{ap, ◌∙◌, None}
use Rattle.std.specs.FinMap.{is_sorted}
use Rattle.ibc_ids.specs.Maps.{without}
use Rattle.ibc_maps.specs.SortedMapModel.{SortedMapModel}
use Rattle.ibc_maps.specs.Changes.{with_changes}
use Rattle.ibc_maps.specs.SettledPairs.{settled_pairs}
use Rattle.ibc_maps.proofs.PairsInChunks.{on_ok, either}
use Rattle.ibc_maps.proofs.KeysAmongChunks.{sorted-with}
use Rattle.ibc_maps.proofs.Changes.{changed-with}
use Rattle.ibc_maps.proofs.shared_map.SharedMap.remove.Goals as goal

pub invariant_of-self : goal.invariant_of-self
invariant_of-self g c =
    let kept = c.self.invariant in (
      record {
        in_changes =
            either c.set.result c.set.ensures.ok c.set.ensures.err
            (λ is. ap (is_sorted g.K.Ord.cmp) is ∙ sorted-with g.met.K.Ord.total c.args.key None c.self.inside.changes.pairs kept.0.in_changes)
            (λ is. ap (is_sorted g.K.Ord.cmp) is ∙ kept.0.in_changes);
        in_settled = kept.0.in_settled;
      },
      kept.1,
      kept.2,
      kept.3,
    )

pub returns-clause-ok : goal.returns-clause-ok
returns-clause-ok g c =
    let kept = c.self.invariant in
    let base = settled_pairs c.self.inside.settled in
    on_ok c.set.result c.set.ensures.ok
    (λ is.
    ap (λ cs. with_changes g.K.Ord.cmp cs base) is
    ∙ changed-with g.met.K.Ord.total kept.1 c.args.key None c.self.inside.changes.pairs base kept.0.in_changes kept.0.in_settled
    ∙ ap (λ (m : SortedMapModel g.row.K.Denot g.row.V.Denot). without g.K.Ord.cmp c.args.key m.pairs) c.self.view_is)
