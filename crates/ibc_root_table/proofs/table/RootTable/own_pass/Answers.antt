use Rattle.std.proofs.Common.{arith, ap, ◌∙◌, sym}
use Rattle.ibc_root_table.specs.SeatSteps.{SeatKnowledge}
use Rattle.ibc_root_table.proofs.Fitting.{named}
use Rattle.ibc_root_table.proofs.Seats.{cuts_writer}
use Rattle.ibc_root_table.proofs.table.RootTable.own_pass.Goals as goal

pub split_seat-requires : goal.split_seat-requires
split_seat-requires c =
    let t = named c.self.inside c.args.self.now c.self.view_is in
    let size = c.self.invariant.words in
    let some_chain = c.self.invariant.some_chain in
    let first = ap (λ (m : SeatKnowledge). m.0.first_own) c.requires.view.1 in
    let end = ap (λ (m : SeatKnowledge). m.0.end_own) c.requires.view.1 in
    let below = c.requires.view.0 in
    (c.requires.table.0 ∙ sym t.id, omega arith, cuts_writer _ _ c.args.place.now.me.0 (omega arith))
