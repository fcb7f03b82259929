use Rattle.std.proofs.Common.{List, arith, ap, ◌∙◌, sym, subst}
use Rattle.ibc_ids.specs.declared.publication.Publication.{Publication}
use mathlib.Core.List.{IsPrefix}
use Rattle.ibc_root_table.specs.SeatSteps.{SeatKnowledge}
use Rattle.ibc_root_table.specs.Passes.{Sight}
use Rattle.ibc_root_table.proofs.Fitting.{fitting}
use Rattle.ibc_root_table.proofs.Loads.{adopts}
use Rattle.ibc_root_table.proofs.table.RootTable.follow.Goals as goal

pub load-requires : goal.load-requires
load-requires c =
    let fits = fitting c.self.inside c.args.self.now c.follower.inside c.args.follower.now c.self.view_is c.follower.view_is c.requires.tables.1 in
    let size = c.self.invariant.words in
    let some_chain = c.self.invariant.some_chain in
    let told = c.tell.ensures.to in
    let chains = ap (λ (m : SeatKnowledge). m.0.shape.chains) told.1 ∙ fits.chains in
    let seen = ap (λ (m : SeatKnowledge). m.0.seen) told.1 ∙ ap (λ (s : Sight). s.seen) c.follower.view_is in
    let heard = ap (λ (m : SeatKnowledge). m.0.heard) told.1 ∙ ap (λ (s : Sight). s.seen) c.leader.view_is in (
      told.0.0 ∙ fits.id,
      omega arith,
      adopts _ _ _ c.tell.new.to.me 0 (omega arith) (subst (λ (z : List Publication × List Publication). IsPrefix z.0 z.1) (λ i. (sym seen i, sym heard i)) c.requires.behind),
    )
