-- The tables are made, and the beginning is put in.
use Rattle.std.proofs.Common.{◌∙◌, arith}
use Rattle.sqlite.specs.State.{HasCleanDisk}
use Rattle.sqlite.specs.Held.{state}
use Rattle.ibc_journal.specs.Crashes.{KeepsCommitted}
use Rattle.ibc_journal.proofs.Transactions.{on_error}
use Rattle.ibc_journal.proofs.Filled.{two_calls, three_calls, fills}
use Rattle.ibc_journal.proofs.beginning.fill.Goals as goal

pub returns-in_err-make_entries-clause-crash : goal.returns-in_err-make_entries-clause-crash
returns-in_err-make_entries-clause-crash g c =
    two_calls (state g.S.Store c.args.conn.now) (state g.S.Store c.make_meta.new.conn) (λ clean. c.in_ok-make_meta.ensures.made clean) c.make_meta.ensures.crash (state g.S.Store c.make_entries.new.conn) c.make_entries.ensures.crash

pub returns-in_err-put_beginning-clause-crash : goal.returns-in_err-put_beginning-clause-crash
returns-in_err-put_beginning-clause-crash g c =
    three_calls (state g.S.Store c.args.conn.now) (state g.S.Store c.make_meta.new.conn) (λ clean. c.in_ok-make_meta.ensures.made clean) c.make_meta.ensures.crash (state g.S.Store c.make_entries.new.conn) (λ clean. c.in_ok-make_entries.ensures.made clean) c.make_entries.ensures.crash
    (state g.S.Store c.put_beginning.new.conn) c.put_beginning.ensures.crash

pub returns-clause-crash : goal.returns-clause-crash
returns-clause-crash g c =
    three_calls (state g.S.Store c.args.conn.now) (state g.S.Store c.make_meta.new.conn) (λ clean. c.in_ok-make_meta.ensures.made clean) c.make_meta.ensures.crash (state g.S.Store c.make_entries.new.conn) (λ clean. c.in_ok-make_entries.ensures.made clean) c.make_entries.ensures.crash
    (state g.S.Store c.put_beginning.new.conn) c.put_beginning.ensures.crash

pub returns-clause-made : goal.returns-clause-made
returns-clause-made g c clean =
    fills (state g.S.Store c.args.conn.now) (state g.S.Store c.make_meta.new.conn) (λ clean. c.in_ok-make_meta.ensures.made clean) c.make_meta.ensures.crash (state g.S.Store c.make_entries.new.conn) (λ clean. c.in_ok-make_entries.ensures.made clean) c.make_entries.ensures.crash
    (state g.S.Store c.put_beginning.new.conn) c.args.genesis.now c.put_beginning.ensures.crash (c.in_ok-put_beginning.ensures.put clean) clean

pub returns-in_err-make_entries-clause-none : goal.returns-in_err-make_entries-clause-none
returns-in_err-make_entries-clause-none g c has inside clean =
    let calm : HasCleanDisk (state g.S.Store c.make_meta.new.conn) = omega (arith, c.make_entries.ensures.crash.clean, clean) in
    let kept : KeepsCommitted (state g.S.Store c.args.conn.now) (state g.S.Store c.make_entries.new.conn) = λ live. c.in_err-make_entries.ensures.none clean live ∙ ((c.in_ok-make_meta.ensures.made calm has).2 inside).committed in
    on_error _ _ kept

pub returns-in_err-put_beginning-clause-none : goal.returns-in_err-put_beginning-clause-none
returns-in_err-put_beginning-clause-none g c has inside clean =
    let calm : HasCleanDisk (state g.S.Store c.make_entries.new.conn) = omega (arith, c.put_beginning.ensures.crash.clean, clean) in
    let calmer : HasCleanDisk (state g.S.Store c.make_meta.new.conn) = omega (arith, c.make_entries.ensures.crash.clean, calm) in
    let made = c.in_ok-make_meta.ensures.made calmer has in
    let more = c.in_ok-make_entries.ensures.made calm made.0 made.1 in
    let first = made.2 inside in
    let kept : KeepsCommitted (state g.S.Store c.args.conn.now) (state g.S.Store c.put_beginning.new.conn) = λ live. c.in_err-put_beginning.ensures.none clean live ∙ (more.3 first.inside).committed ∙ first.committed in
    on_error _ _ kept
