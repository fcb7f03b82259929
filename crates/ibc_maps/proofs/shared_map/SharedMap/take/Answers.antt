-- The key is removed among the changes, wherever its value stood.
use Rattle.std.proofs.Common.{ap, ◌∙◌, sym, subst, arith, ◌≡◌, ◌≤◌, None}
use Rattle.std.specs.FinMap.{is_sorted}
use Rattle.ibc_ids.specs.Maps.{at, with, without}
use Rattle.ibc_maps.specs.SortedMapModel.{SortedMapModel}
use Rattle.ibc_maps.specs.Changes.{with_changes}
use Rattle.ibc_maps.specs.SettledPairs.{settled_pairs}
use Rattle.ibc_maps.proofs.PairsInChunks.{either, when_ok}
use Rattle.ibc_maps.proofs.KeysAmongChunks.{sorted-with}
use Rattle.ibc_maps.proofs.Changes.{changed-with, found_in_changes, found_settled}
use Rattle.ibc_maps.proofs.shared_map.SharedMap.take.Goals as goal

-- ---- among the changes

pub invariant_of-self : goal.invariant_of-self
invariant_of-self g c =
    let kept = c.self.invariant in (
      record {
        in_changes = sorted-with g.met.K.Ord.total c.args.key.now c.take.new.self c.self.inside.changes.pairs kept.0.in_changes;
        in_settled = kept.0.in_settled;
      },
      kept.1,
      kept.2,
      kept.3,
    )

pub returns-in-Some-clause-value : goal.returns-in-Some-clause-value
returns-in-Some-clause-value g c =
    found_in_changes g.met.K.Ord.total c.args.key.now c.self.inside.changes.pairs (settled_pairs c.self.inside.settled) c.reserve.new.self.pairs c.in-Some.change.now c.take.result
    c.self.invariant.0.in_changes c.self.invariant.0.in_settled (ap (λ m. m.pairs) c.self.view_is) c.take.ensures.value c.in-Some.ensures.value
    ∙ ap (at g.K.Ord.cmp c.args.key.now) c.in_ok-reserve.ensures.pairs

pub returns-in-Some-clause-ok : goal.returns-in-Some-clause-ok
returns-in-Some-clause-ok g c =
    let kept = c.self.invariant in
    let base = settled_pairs c.self.inside.settled in
    ap (λ change. with_changes g.K.Ord.cmp (with g.K.Ord.cmp c.args.key.now change c.self.inside.changes.pairs) base) c.take.ensures.after
    ∙ changed-with g.met.K.Ord.total kept.1 c.args.key.now None c.self.inside.changes.pairs base kept.0.in_changes kept.0.in_settled
    ∙ ap (λ (m : SortedMapModel g.row.K.Denot g.row.V.Denot). without g.K.Ord.cmp c.args.key.now m.pairs) c.self.view_is
    ∙ ap (without g.K.Ord.cmp c.args.key.now) c.in_ok-reserve.ensures.pairs

-- ---- in what is settled

pub invariant_of-self-2 : goal.invariant_of-self-2
invariant_of-self-2 g c =
    let kept = c.self.invariant in (
      record {
        in_changes =
            either c.set.result c.set.ensures.ok c.set.ensures.err
            (λ is. ap (is_sorted g.K.Ord.cmp) is ∙ sorted-with g.met.K.Ord.total c.in_ok-removed.removed None c.self.inside.changes.pairs kept.0.in_changes)
            (λ is. ap (is_sorted g.K.Ord.cmp) is ∙ kept.0.in_changes);
        in_settled = kept.0.in_settled;
      },
      kept.1,
      kept.2,
      kept.3,
    )

pub returns-clause-value : goal.returns-clause-value
returns-clause-value g c =
    found_settled g.met.K.Ord.total c.args.key.now c.self.inside.changes.pairs (settled_pairs c.self.inside.settled) c.reserve.new.self.pairs c.in_ok-value.value
    c.self.invariant.0.in_changes c.self.invariant.0.in_settled (ap (λ m. m.pairs) c.self.view_is) c.in_ok-value.ensures c.in_default.ensures.value
    ∙ ap (at g.K.Ord.cmp c.args.key.now) c.in_ok-reserve.ensures.pairs

pub returns-clause-ok : goal.returns-clause-ok
returns-clause-ok g c =
    let kept = c.self.invariant in
    let base = settled_pairs c.self.inside.settled in
    let removed = c.in_ok-removed.removed in
    let same : removed ≡ c.args.key.now = kept.2 c.args.key.now removed c.in_ok-removed.ensures.cases in
    let room : 2 ≤ c.self.inside.changes.room = subst (λ (m : SortedMapModel g.row.K.Denot g.row.V.Denot). 2 ≤ m.room) (sym c.self.view_is) c.in_ok-reserve.ensures.ok in
    ap (λ cs. with_changes g.K.Ord.cmp cs base) (when_ok c.set.result (c.set.ensures.reserved (omega arith)) c.set.ensures.ok)
    ∙ changed-with g.met.K.Ord.total kept.1 removed None c.self.inside.changes.pairs base kept.0.in_changes kept.0.in_settled
    ∙ ap (λ (m : SortedMapModel g.row.K.Denot g.row.V.Denot). without g.K.Ord.cmp removed m.pairs) c.self.view_is
    ∙ ap (λ key. without g.K.Ord.cmp key c.reserve.new.self.pairs) same
    ∙ ap (without g.K.Ord.cmp c.args.key.now) c.in_ok-reserve.ensures.pairs
