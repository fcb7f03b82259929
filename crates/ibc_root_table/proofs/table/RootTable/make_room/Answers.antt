use Rattle.std.proofs.Common.{ℕ, arith, ap, ◌∙◌, sym}
use Rattle.ibc_ids.specs.Publications.{height_of}
use Rattle.ibc_root_table.proofs.Fitting.{named}
use Rattle.ibc_root_table.proofs.Views.{chains_same, windows_same}
use Rattle.ibc_root_table.proofs.Raises.{raises_floor}
use Rattle.ibc_root_table.proofs.table.RootTable.make_room.Goals as goal

pub store-requires : goal.store-requires
store-requires c =
    let t = named c.self.inside c.args.self.now c.self.view_is in
    let size = c.self.invariant.words in
    let chains = chains_same c.requires.table.1 in
    let window = windows_same c.requires.table.1 in
    let first_is = c.requires.own.0 in
    let owns = c.requires.own.1 in
    let below = c.requires.own.2 in
    let row = c.requires.row.0 in
    let counted = ap (λ (z : ℕ). height_of z c.args.place.now.me.0.seen) first_is in
    let here = c.floor_word-word.ensures in
    let full = c.if-row-self.false in
    (c.requires.table.0 ∙ sym t.id, omega arith, raises_floor _ _ _ c.args.place.now.me _ _ (omega arith) (omega arith, omega arith) (omega arith) (omega arith))
