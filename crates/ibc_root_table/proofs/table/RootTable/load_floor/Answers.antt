use Rattle.std.proofs.Common.{arith, ◌∙◌, sym}
use Rattle.ibc_root_table.proofs.Fitting.{named}
use Rattle.ibc_root_table.proofs.Views.{chains_same}
use Rattle.ibc_root_table.proofs.Loads.{looks_floor}
use Rattle.ibc_root_table.proofs.table.RootTable.load_floor.Goals as goal

pub load-requires : goal.load-requires
load-requires c =
    let t = named c.self.inside c.args.self.now c.self.view_is in
    let size = c.self.invariant.words in
    let chains = chains_same c.requires.table.1 in
    let below = c.requires.chain in
    let here = c.floor_word-word.ensures in
    (c.requires.table.0 ∙ sym t.id, omega arith, looks_floor _ _ _ c.args.place.now.me _ (omega arith))

pub returns-clause-floor : goal.returns-clause-floor
returns-clause-floor c =
    let t = named c.self.inside c.args.self.now c.self.view_is in
    let chains = chains_same c.requires.table.1 in
    let below = c.requires.chain in
    let here = c.floor_word-word.ensures in
    c.load.ensures.2 c.args.chain (omega arith) (omega arith)
