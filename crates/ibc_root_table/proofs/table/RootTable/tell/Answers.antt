use Rattle.std.proofs.Common.{arith, ap, ◌∙◌, sym}
use Rattle.ibc_root_table.proofs.Fitting.{named}
use Rattle.ibc_root_table.proofs.Seats.{cuts_reader, hears}
use Rattle.ibc_root_table.proofs.table.RootTable.tell.Goals as goal

pub split_seat-teller-requires : goal.split_seat-teller-requires
split_seat-teller-requires c =
    let t = named c.self.inside c.args.self.now c.self.view_is in
    let size = c.self.invariant.words in
    let some_chain = c.self.invariant.some_chain in
    (c.requires.tables.0 ∙ sym t.id, omega arith, cuts_reader _ _ c.args.from.now.me.0)

pub join_seat-requires : goal.join_seat-requires
join_seat-requires c =
    let t = named c.self.inside c.args.self.now c.self.view_is in
    let size = c.self.invariant.words in
    let some_chain = c.self.invariant.some_chain in
    let cut = c.split_seat-teller.ensures in
    (c.requires.tables.1 ∙ sym t.id, cut.3 ∙ (c.requires.tables.0 ∙ sym t.id), ap (λ m. m.1) cut.4, omega arith, hears _ _ c.args.to.now.me.0 _ c.split_seat-teller.result.me.0)
