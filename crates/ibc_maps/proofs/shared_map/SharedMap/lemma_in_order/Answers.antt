-- What is settled is in order, and changes keep the order.
use Rattle.std.proofs.Common.{◌≡◌, true, subst}
use Rattle.std.specs.FinMap.{is_sorted}
use Rattle.ibc_maps.specs.SortedMapModel.{SortedMapModel}
use Rattle.ibc_maps.specs.SettledPairs.{settled_pairs}
use Rattle.ibc_maps.proofs.Changes.{changed_is_sorted}
use Rattle.ibc_maps.proofs.shared_map.SharedMap.lemma_in_order.Goals as goal

pub returns : goal.returns
returns g c =
    subst (λ (m : SortedMapModel g.row.K.Denot g.row.V.Denot). is_sorted g.K.Ord.cmp m.pairs ≡ true) c.self.view_is
    (changed_is_sorted g.met.K.Ord.total c.self.inside.changes.pairs (settled_pairs c.self.inside.settled) c.self.invariant.0.in_settled)
