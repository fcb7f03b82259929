-- One change more; and where one is refused, all of them after those before it.
use Rattle.std.proofs.Common.{take, ap, ◌∙◌}
use Rattle.std.specs.FinMap.{is_sorted}
use Rattle.ibc_maps.specs.Changes.{with_changes}
use Rattle.ibc_maps.proofs.PairsInChunks.{if_err}
use Rattle.ibc_maps.proofs.Changes.{changed-more, changed-again, changed_is_sorted}
use Rattle.ibc_maps.proofs.shared_map.write_all.Goals as goal

pub loop-change-preserved : goal.loop-change-preserved
loop-change-preserved g c =
    changed-more g.met.K.Ord.total c.args.changes.now c.loop-change.change-index c.change-item.result c.args.row.now c.loop-change.row c.write.new.row c.loop-change-test.true c.change-item.is
    c.loop-change.invariant c.in_ok-write.ensures.ok

pub returns-in_err-write-clause-again : goal.returns-in_err-write-clause-again
returns-in_err-write-clause-again g c =
    if_err c.from_residual.result
    (ap (with_changes g.K.Ord.cmp c.args.changes.now) (c.in_err-write.ensures.err ∙ c.loop-change.invariant)
    ∙ changed-again g.met.K.Ord.total c.requires.order c.args.changes.now c.loop-change.change-index c.args.row.now c.requires.sorted.in_changes c.requires.sorted.in_settled)

pub returns-in_err-write-clause-sorted : goal.returns-in_err-write-clause-sorted
returns-in_err-write-clause-sorted g c =
    if_err c.from_residual.result
    (ap (is_sorted g.K.Ord.cmp) (c.in_err-write.ensures.err ∙ c.loop-change.invariant)
    ∙ changed_is_sorted g.met.K.Ord.total (take c.loop-change.change-index c.args.changes.now) c.args.row.now c.requires.sorted.in_settled)
