-- A world begins, and its journal with it.
use Rattle.std.proofs.Common.{[], refl, sym, subst}
use Rattle.sqlite.specs.Held.{state}
use Rattle.ibc_journal.specs.Restarts.{IsAtRest}
use Rattle.ibc_journal.specs.Crashes.{KeepsCommitted}
use Rattle.ibc_journal.proofs.Transactions.{on_error}
use Rattle.ibc_journal.proofs.Whole.{survives_same}
use Rattle.ibc_node.specs.Nodes.{IsBegun}
use Rattle.ibc_node.proofs.Beside.{begun, at_rest_with}
use Rattle.ibc_node.proofs.opening.begin_with.Goals as goal

pub returns-clause-begun : goal.returns-clause-begun
returns-clause-begun g c =
    let w = c.in_ok-world.ensures.world in
    subst (λ t. IsBegun t c.in_ok-world.world c.new-end.result) (sym c.in_ok-text.ensures.items) (begun c.args.genesis.now c.in_ok-world.world c.new-end.result w.0 w.1 w.2 (c.new-end.ensures []))

pub returns-clause-new : goal.returns-clause-new
returns-clause-new g c none clean =
    let new = state g.S.Store c.begin.new.conn in
    subst (λ t. IsAtRest new t []) (sym c.in_ok-text.ensures.items)
    (at_rest_with new c.args.genesis.now [] (c.in_ok-begin.ensures.committed none clean) (c.in_ok-begin.ensures.seen clean) (c.in_ok-begin.ensures.outside clean) (c.in_ok-begin.ensures.is_open clean))

pub returns-in_err-text-clause-crash : goal.returns-in_err-text-clause-crash
returns-in_err-text-clause-crash g c = survives_same (state g.S.Store c.args.conn.now) _

pub returns-in_err-world-clause-crash : goal.returns-in_err-world-clause-crash
returns-in_err-world-clause-crash g c = survives_same (state g.S.Store c.args.conn.now) _

pub returns-clause-given : goal.returns-clause-given
returns-clause-given g c = c.in_ok-text.ensures.items

pub returns-in_err-text-clause-refused : goal.returns-in_err-text-clause-refused
returns-in_err-text-clause-refused g c none clean =
    let old = state g.S.Store c.args.conn.now in
    let kept : KeepsCommitted old old = λ live. refl in
    on_error _ _ kept

pub returns-in_err-world-clause-refused : goal.returns-in_err-world-clause-refused
returns-in_err-world-clause-refused g c none clean =
    let old = state g.S.Store c.args.conn.now in
    let kept : KeepsCommitted old old = λ live. refl in
    on_error _ _ kept

pub returns-in_err-begin-clause-refused : goal.returns-in_err-begin-clause-refused
returns-in_err-begin-clause-refused g c none clean =
    let kept : KeepsCommitted (state g.S.Store c.args.conn.now) (state g.S.Store c.begin.new.conn) = c.in_err-begin.ensures.none none clean in
    on_error _ _ kept
