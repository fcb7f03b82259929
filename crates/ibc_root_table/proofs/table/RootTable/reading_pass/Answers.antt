use Rattle.std.proofs.Common.{arith, ◌∙◌, sym}
use Rattle.ibc_root_table.proofs.Fitting.{named}
use Rattle.ibc_root_table.proofs.Seats.{cuts_reader}
use Rattle.ibc_root_table.proofs.table.RootTable.reading_pass.Goals as goal

pub split_seat-requires : goal.split_seat-requires
split_seat-requires c =
    let t = named c.self.inside c.args.self.now c.self.view_is in
    let size = c.self.invariant.words in
    let some_chain = c.self.invariant.some_chain in
    (c.requires.table.0 ∙ sym t.id, omega arith, cuts_reader _ _ c.args.place.now.me.0)
