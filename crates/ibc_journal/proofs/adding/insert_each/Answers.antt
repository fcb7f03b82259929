-- One entry behind another.
use Rattle.std.proofs.Common.{take, sym, subst, ◌∙◌, arith}
use Rattle.sqlite.specs.State.{HasCleanDisk}
use Rattle.sqlite.specs.Held.{state}
use Rattle.ibc_journal.specs.Entries.{items_of}
use Rattle.ibc_journal.specs.Crashes.{PutsBehind, KeepsCommitted}
use Rattle.ibc_journal.proofs.Transactions.{on_error}
use Rattle.ibc_journal.proofs.Whole.{puts_nothing, puts_more, taken_more, taken_all, survives_same, inside_then, first_place}
use Rattle.ibc_journal.proofs.adding.insert_each.Goals as goal

pub loop-added-init : goal.loop-added-init
loop-added-init g c =
    let old = state g.S.Store c.args.conn.now in
    record {
      place = omega arith;
      put = puts_nothing old c.args.first;
      crash = survives_same old _;
    }

pub returns-in_err-insert-clause-crash : goal.returns-in_err-insert-clause-crash
returns-in_err-insert-clause-crash g c =
    let old = state g.S.Store c.args.conn.now in
    let at = c.loop-added in
    let its = items_of (take at.added-index c.args.entries.now) in
    let here = first_place c.args.entries.now at.added-index c.args.first at.place at.invariant.place c.loop-added-test.true in
    inside_then old (state g.S.Store at.conn) (state g.S.Store c.insert.new.conn) c.args.first at.place its at.invariant.put here at.invariant.crash c.insert.ensures.crash

pub returns-in_err-insert-clause-none : goal.returns-in_err-insert-clause-none
returns-in_err-insert-clause-none g c genesis items has at inside clean =
    let step = c.loop-added in
    let calm : HasCleanDisk (state g.S.Store step.conn) = omega (arith, c.insert.ensures.crash.clean, clean) in
    let kept : KeepsCommitted (state g.S.Store c.args.conn.now) (state g.S.Store c.insert.new.conn) = λ live. c.in_err-insert.ensures.none clean live ∙ (step.invariant.put genesis items has at inside calm).1.committed in
    on_error _ _ kept

pub loop-added-preserved : goal.loop-added-preserved
loop-added-preserved g c =
    let old = state g.S.Store c.args.conn.now in
    let at = c.loop-added in
    let mid = state g.S.Store at.conn in
    let new = state g.S.Store c.insert.new.conn in
    let its = items_of (take at.added-index c.args.entries.now) in
    let here = first_place c.args.entries.now at.added-index c.args.first at.place at.invariant.place c.loop-added-test.true in
    let more = taken_more c.args.entries.now at.added-index c.added-item.result c.loop-added-test.true c.added-item.is in
    record {
      place = omega (arith, at.invariant.place);
      put = subst (PutsBehind old new c.args.first) (sym more) (puts_more old mid new c.args.first at.place its _ at.invariant.put c.in_ok-insert.ensures.put c.insert.ensures.crash.clean here);
      crash = inside_then old mid new c.args.first at.place its at.invariant.put here at.invariant.crash c.insert.ensures.crash;
    }

pub returns-clause-put : goal.returns-clause-put
returns-clause-put g c =
    let old = state g.S.Store c.args.conn.now in
    let at = c.loop-added in
    subst (PutsBehind old (state g.S.Store at.conn) c.args.first) (taken_all c.args.entries.now at.added-index c.loop-added-test.false) at.invariant.put
