-- A transaction begins, makes the tables, and is committed.
use Rattle.std.proofs.Common.{[], sym, ap, ◌∙◌, arith}
use Rattle.sqlite.specs.State.{HasCleanDisk}
use Rattle.sqlite.specs.Held.{state}
use Rattle.ibc_journal.specs.Crashes.{KeepsCommitted}
use Rattle.ibc_journal.proofs.Restarted.{lasts_committed}
use Rattle.ibc_journal.proofs.Transactions.{on_error}
use Rattle.ibc_journal.proofs.Whole.{nothing_yet}
use Rattle.ibc_journal.proofs.Filled.{before_commit, with_commit, begun_all}
use Rattle.ibc_journal.proofs.beginning.begin.Goals as goal

pub returns-in_err-start-clause-crash : goal.returns-in_err-start-clause-crash
returns-in_err-start-clause-crash g c = nothing_yet (state g.S.Store c.args.conn.now) (state g.S.Store c.start.new.conn) _ c.start.ensures.crash

pub returns-in_err-fill-clause-crash : goal.returns-in_err-fill-clause-crash
returns-in_err-fill-clause-crash g c =
    before_commit (state g.S.Store c.args.conn.now) (state g.S.Store c.start.new.conn) c.args.genesis.now (λ clean. c.in_ok-start.ensures.begun clean) c.start.ensures.crash (state g.S.Store c.fill.new.conn) c.fill.ensures.crash

pub returns-in_err-commit-clause-crash : goal.returns-in_err-commit-clause-crash
returns-in_err-commit-clause-crash g c =
    with_commit (state g.S.Store c.args.conn.now) (state g.S.Store c.start.new.conn) c.args.genesis.now (λ clean. c.in_ok-start.ensures.begun clean) c.start.ensures.crash
    (state g.S.Store c.fill.new.conn) (state g.S.Store c.commit.new.conn) (λ clean. c.in_ok-fill.ensures.made clean) c.fill.ensures.crash c.commit.ensures.crash

pub returns-clause-crash : goal.returns-clause-crash
returns-clause-crash g c =
    with_commit (state g.S.Store c.args.conn.now) (state g.S.Store c.start.new.conn) c.args.genesis.now (λ clean. c.in_ok-start.ensures.begun clean) c.start.ensures.crash
    (state g.S.Store c.fill.new.conn) (state g.S.Store c.commit.new.conn) (λ clean. c.in_ok-fill.ensures.made clean) c.fill.ensures.crash c.commit.ensures.crash

pub returns-clause-committed : goal.returns-clause-committed
returns-clause-committed g c has clean =
    begun_all (state g.S.Store c.args.conn.now) (state g.S.Store c.start.new.conn) c.args.genesis.now (λ clean. c.in_ok-start.ensures.begun clean) c.start.ensures.crash
    (state g.S.Store c.fill.new.conn) (state g.S.Store c.commit.new.conn) (λ clean. c.in_ok-fill.ensures.made clean) c.fill.ensures.crash c.commit.ensures.crash (λ clean. c.in_ok-commit.ensures.committed clean) has clean

pub returns-clause-seen : goal.returns-clause-seen
returns-clause-seen g c clean = let done = c.in_ok-commit.ensures.committed clean in done.now ∙ sym done.committed

pub returns-in_err-fill-clause-none : goal.returns-in_err-fill-clause-none
returns-in_err-fill-clause-none g c has clean =
    let calm : HasCleanDisk (state g.S.Store c.start.new.conn) = omega (arith, c.fill.ensures.crash.clean, clean) in
    let b = c.in_ok-start.ensures.begun calm in
    let kept : KeepsCommitted (state g.S.Store c.args.conn.now) (state g.S.Store c.fill.new.conn) = λ live. c.in_err-fill.ensures.none (ap (λ d. d.schema) b.now ∙ has) b.inside clean live ∙ b.committed in
    on_error _ _ kept

pub returns-in_err-commit-clause-none : goal.returns-in_err-commit-clause-none
returns-in_err-commit-clause-none g c has clean =
    let calm : HasCleanDisk (state g.S.Store c.fill.new.conn) = omega (arith, c.commit.ensures.crash.clean, clean) in
    let calmer : HasCleanDisk (state g.S.Store c.start.new.conn) = omega (arith, c.fill.ensures.crash.clean, calm) in
    let b = c.in_ok-start.ensures.begun calmer in
    let made = c.in_ok-fill.ensures.made calm (ap (λ d. d.schema) b.now ∙ has) b.inside in
    let kept : KeepsCommitted (state g.S.Store c.args.conn.now) (state g.S.Store c.commit.new.conn) = λ live. c.in_err-commit.ensures.none clean live ∙ made.1.committed ∙ b.committed in
    on_error _ _ kept

pub returns-clause-is_open : goal.returns-clause-is_open
returns-clause-is_open g c clean = (c.in_ok-commit.ensures.committed clean).is_open

pub returns-clause-lasts : goal.returns-clause-lasts
returns-clause-lasts g c has clean =
    lasts_committed g.S.Store g.met.S.Store.settled c.commit.new.conn c.args.genesis.now [] (c.in_ok-commit.ensures.committed clean).is_open (returns-clause-committed g c has clean)
