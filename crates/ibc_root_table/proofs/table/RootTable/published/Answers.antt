use Rattle.std.proofs.Common.{arith, sym}
use Rattle.ibc_root_table.proofs.Fitting.{fitting, no_chain}
use Rattle.ibc_root_table.proofs.Loads.{looks}
use Rattle.ibc_root_table.proofs.table.RootTable.published.Goals as goal

pub returns-then-chain-self-clause-height : goal.returns-then-chain-self-clause-height
returns-then-chain-self-clause-height c =
    let fits = fitting c.self.inside _ c.pass.inside _ c.self.view_is c.pass.view_is c.requires.table in
    let chains = fits.chains in
    sym (no_chain c.pass.inside.place.me.0.shape c.args.chain _ c.pass.invariant.within (omega arith))

pub load-requires : goal.load-requires
load-requires c =
    let fits = fitting c.self.inside _ c.pass.inside _ c.self.view_is c.pass.view_is c.requires.table in
    let small = c.from.ensures in
    let size = c.self.invariant.words in
    let chains = fits.chains in
    (fits.id, omega arith, looks _ _ _ _ _ (omega arith))
