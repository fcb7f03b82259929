-- What waits is put in, and then the journal is asked.
use Rattle.std.proofs.Common.{arith}
use Rattle.std.proofs.lemmas.Result.{err_from_is_err_and}
use Rattle.sqlite.specs.State.{HasCleanDisk}
use Rattle.sqlite.specs.Held.{state}
use Rattle.ibc_node.proofs.Beside.{stays_at_rest}
use Rattle.ibc_node.proofs.Staying.{keeps_settled}
use Rattle.ibc_node.proofs.node.Node.entry_at.Goals as goal

pub returns-clause-found : goal.returns-clause-found
returns-clause-found g c genesis items rest beside clean =
    let mid = state g.S.Store c.settle.new.self.conn in
    let calm : HasCleanDisk mid = omega (arith, c.entry_at.ensures.crash.clean, clean) in
    let here = c.in_ok-settle.ensures.committed genesis items rest beside calm in
    c.in_ok-entry_at.ensures.found genesis _ here.journal clean

pub returns-clause-rest : goal.returns-clause-rest
returns-clause-rest g c genesis items rest beside clean =
    let mid = state g.S.Store c.settle.new.self.conn in
    let new = state g.S.Store c.entry_at.new.conn in
    let calm : HasCleanDisk mid = omega (arith, c.entry_at.ensures.crash.clean, clean) in
    let here = c.in_ok-settle.ensures.committed genesis items rest beside calm in
    stays_at_rest mid new genesis _ (c.in_ok-entry_at.ensures.same genesis _ here.journal clean) here

pub returns-clause-keeps : goal.returns-clause-keeps
returns-clause-keeps g c =
    let one = c.settle.ensures.crash.clean in
    let two = c.entry_at.ensures.crash.clean in
    keeps_settled (state g.S.Store) c.args.self.now _ (omega (arith, one, two)) (returns-clause-rest g c) c.in_ok-settle.ensures.none c.settle.ensures.world c.settle.ensures.end c.settle.ensures.marks c.settle.ensures.genesis

pub returns-in_err-settle-clause-faults : goal.returns-in_err-settle-clause-faults
returns-in_err-settle-clause-faults g c genesis items beside =
    let p = err_from_is_err_and c.from_residual.result c.from_residual.ensures.1 in
    rw (p.1, p.2) (c.in_err-settle.ensures.faults genesis items beside)
