use Rattle.std.proofs.Common.{List, arith, ap, ◌∙◌, sym, subst}
use Rattle.ibc_ids.specs.declared.publication.Publication.{Publication}
use mathlib.Core.List.{IsPrefix}
use Rattle.ibc_root_table.specs.SeatSteps.{SeatKnowledge}
use Rattle.ibc_root_table.proofs.Fitting.{fitting}
use Rattle.ibc_root_table.proofs.Loads.{looks, adopts}
use Rattle.ibc_root_table.proofs.table.RootTable.meet.Goals as goal

pub load-requires : goal.load-requires
load-requires c =
    let fits = fitting c.self.inside c.args.self.now c.second.inside c.args.second.now c.self.view_is c.second.view_is c.requires.tables.1 in
    let size = c.self.invariant.words in
    let some_chain = c.self.invariant.some_chain in
    let told = c.tell.ensures.to in
    let chains = ap (λ (m : SeatKnowledge). m.0.shape.chains) told.1 ∙ fits.chains in
    (told.0.0 ∙ fits.id, omega arith, looks _ _ _ c.tell.new.to.me 0 (omega arith))

pub load-requires-2 : goal.load-requires-2
load-requires-2 c =
    let fits = fitting c.self.inside c.args.self.now c.first.inside c.args.first.now c.self.view_is c.first.view_is c.requires.tables.0 in
    let size = c.self.invariant.words in
    let some_chain = c.self.invariant.some_chain in
    let before = c.tell.ensures in
    let looked = c.load.ensures.2.0 in
    let told = c.tell-2.ensures.to in
    let chains = ap (λ (m : SeatKnowledge). m.0.shape.chains) told.1 ∙ (ap (λ (m : SeatKnowledge). m.0.shape.chains) before.from.1 ∙ fits.chains) in
    let seen = ap (λ (m : SeatKnowledge). m.0.seen) told.1 ∙ ap (λ (m : SeatKnowledge). m.0.seen) before.from.1 in
    let heard = ap (λ (m : SeatKnowledge). m.0.heard) told.1 in
    let more : IsPrefix c.first.inside.place.me.0.seen c.load.new.seat.me.0.seen = subst (λ (m : SeatKnowledge). IsPrefix m.0.heard c.load.new.seat.me.0.seen) before.to.1 looked.2 in (
      told.0.0 ∙ (before.from.0.0 ∙ fits.id),
      omega arith,
      adopts _ _ _ c.tell-2.new.to.me 0 (omega arith) (subst (λ (z : List Publication × List Publication). IsPrefix z.0 z.1) (λ i. (sym seen i, sym heard i)) more),
    )
