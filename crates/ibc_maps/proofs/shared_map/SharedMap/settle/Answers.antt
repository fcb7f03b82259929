-- What is settled is what the map had. After a refusal the changes still come to the same.
use Rattle.std.proofs.Common.{ap, ◌∙◌}
use Rattle.std.specs.FinMap.{is_sorted}
use Rattle.ibc_maps.specs.Changes.{with_changes}
use Rattle.ibc_maps.specs.SettledPairs.{settled_pairs}
use Rattle.ibc_maps.proofs.Changes.{changed_is_sorted}
use Rattle.ibc_maps.proofs.shared_map.SharedMap.settle.Goals as goal

pub invariant_of-self : goal.invariant_of-self
invariant_of-self g c =
    let kept = c.self.invariant in (
      record { in_changes = kept.0.in_changes; in_settled = c.in_err-write_settled.ensures.sorted },
      kept.1,
      kept.2,
      kept.3,
    )

pub invariant_of-self-2 : goal.invariant_of-self-2
invariant_of-self-2 g c =
    let kept = c.self.invariant in
    let base = settled_pairs c.self.inside.settled in (
      record {
        in_changes = ap (is_sorted g.K.Ord.cmp) c.clear.ensures.pairs;
        in_settled =
            ap (is_sorted g.K.Ord.cmp) (c.in_ok-write_settled.ensures.ok ∙ ap (λ cs. with_changes g.K.Ord.cmp cs base) c.entries.ensures.pairs)
            ∙ changed_is_sorted g.met.K.Ord.total c.self.inside.changes.pairs base kept.0.in_settled;
      },
      kept.1,
      kept.2,
      kept.3,
    )
