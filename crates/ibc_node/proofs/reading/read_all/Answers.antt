-- One entry after another is read and put to the world, up to the last.
use Rattle.std.proofs.Common.{◌≡◌, ◌+◌, [], arith}
use Rattle.std.proofs.lemmas.Result.{err_from_is_err_and}
use Rattle.sqlite.specs.State.{HasCleanDisk, IsUnchanged}
use Rattle.sqlite.specs.Held.{state}
use Rattle.ibc_journal.specs.Restarts.{IsAtRest}
use Rattle.ibc_journal.proofs.Whole.{keeps_on, nothing_then, survives_same}
use Rattle.ibc_node.proofs.Beside.{stays_at_rest, nothing_read, all_read}
use Rattle.ibc_node.proofs.Marked.{nothing_marked, all_marked}
use Rattle.ibc_node.proofs.Reasons.{unread_in}
use Rattle.ibc_node.proofs.Unlawful.{differs_then}
use Rattle.ibc_node.proofs.reading.read_all.Goals as goal

pub reading-init : goal.reading-init
reading-init g c =
    let old = state g.S.Store c.args.conn.now in
    let first = c.new-past.ensures.start [] in
    record {
      place = omega (arith, first.within);
      kept = λ genesis items has clean. has;
      read = λ items has clean. c.new-past.ensures.start items;
      replayed = λ items has clean. nothing_read c.args.genesis.now items c.new-past.result.end c.args.world c.new-past.result.world c.new-past.ensures.world (c.new-past.ensures.start []);
      marked = λ items has clean. nothing_marked c.args.genesis.now items c.new-past.result.end c.new-past.result.marks.items c.new-past.ensures.unmarked (c.new-past.ensures.start []);
      rest = λ items rest clean. rest;
      crash = survives_same old _;
    }

pub returns-in_err-read_next-clause-crash : goal.returns-in_err-read_next-clause-crash
returns-in_err-read_next-clause-crash g c =
    let at = c.reading in
    nothing_then (state g.S.Store c.args.conn.now) (state g.S.Store at.conn) (state g.S.Store c.read_next.new.conn) at.invariant.kept at.invariant.crash c.read_next.ensures.crash

pub returns-in_err-read_next-clause-differs : goal.returns-in_err-read_next-clause-differs
returns-in_err-read_next-clause-differs g c items has clean =
    let at = c.reading in
    let calmer : HasCleanDisk (state g.S.Store at.conn) = omega (arith, c.read_next.ensures.crash.clean, clean) in
    let journal = at.invariant.kept c.args.genesis.now items has calmer in
    let p = err_from_is_err_and c.from_residual.result c.from_residual.ensures.1 in
    rw (p.1, p.2) (c.in_err-read_next.ensures.differs c.args.genesis.now items c.args.world journal (at.invariant.read items has calmer) (at.invariant.replayed items has calmer) clean)

pub returns-then-not-branch : goal.returns-then-not-branch
returns-then-not-branch g c =
    let at = c.reading in
    let old = state g.S.Store c.args.conn.now in
    let mid = state g.S.Store at.conn in
    let new = state g.S.Store c.read_next.new.conn in
    record {
      replayed = λ items has clean.
          let calmer : HasCleanDisk mid = omega (arith, c.read_next.ensures.crash.clean, clean) in
          let journal = at.invariant.kept c.args.genesis.now items has calmer in
          let read = at.invariant.read items has calmer in
          let end = c.in_ok-read_next.ensures.end c.args.genesis.now items journal read clean c.if-not-branch.true in
          all_read _ _ items _ end (c.in_ok-read_next.ensures.replayed c.args.genesis.now items c.args.world journal read (at.invariant.replayed items has calmer) clean);
      read = λ items has clean.
          let calmer : HasCleanDisk mid = omega (arith, c.read_next.ensures.crash.clean, clean) in
          let journal = at.invariant.kept c.args.genesis.now items has calmer in
          let read = at.invariant.read items has calmer in
          (c.in_ok-read_next.ensures.read c.args.genesis.now items journal read clean, c.in_ok-read_next.ensures.end c.args.genesis.now items journal read clean c.if-not-branch.true);
      marked = λ items has clean.
          let calmer : HasCleanDisk mid = omega (arith, c.read_next.ensures.crash.clean, clean) in
          let journal = at.invariant.kept c.args.genesis.now items has calmer in
          let read = at.invariant.read items has calmer in
          let end = c.in_ok-read_next.ensures.end c.args.genesis.now items journal read clean c.if-not-branch.true in
          all_marked _ items _ end (c.in_ok-read_next.ensures.marked c.args.genesis.now items journal read (at.invariant.marked items has calmer) clean);
      rest = λ items rest clean.
          let calmer : HasCleanDisk mid = omega (arith, c.read_next.ensures.crash.clean, clean) in
          let here = at.invariant.rest items rest calmer in
          stays_at_rest mid new c.args.genesis.now items (c.in_ok-read_next.ensures.same c.args.genesis.now items here.journal clean) here;
      left = λ items rest clean. tt;
      differs = λ items has clean. tt;
      faults = λ items has clean. tt;
      crash = nothing_then old mid new at.invariant.kept at.invariant.crash c.read_next.ensures.crash;
    }

pub reading-preserved : goal.reading-preserved
reading-preserved g c =
    let at = c.reading in
    let old = state g.S.Store c.args.conn.now in
    let mid = state g.S.Store at.conn in
    let new = state g.S.Store c.read_next.new.conn in
    let more : c.read_next.new.past.end.place ≡ at.past.end.place + 1 = c.in_ok-read_next.ensures.more c.if-not-branch.false in
    record {
      place = omega (arith, at.invariant.place, more);
      kept = keeps_on old mid new at.invariant.kept c.read_next.ensures.crash.clean c.in_ok-read_next.ensures.same;
      read = λ items has clean.
          let calmer : HasCleanDisk mid = omega (arith, c.read_next.ensures.crash.clean, clean) in
          c.in_ok-read_next.ensures.read c.args.genesis.now items (at.invariant.kept c.args.genesis.now items has calmer) (at.invariant.read items has calmer) clean;
      replayed = λ items has clean.
          let calmer : HasCleanDisk mid = omega (arith, c.read_next.ensures.crash.clean, clean) in
          c.in_ok-read_next.ensures.replayed c.args.genesis.now items c.args.world (at.invariant.kept c.args.genesis.now items has calmer) (at.invariant.read items has calmer) (at.invariant.replayed items has calmer) clean;
      marked = λ items has clean.
          let calmer : HasCleanDisk mid = omega (arith, c.read_next.ensures.crash.clean, clean) in
          c.in_ok-read_next.ensures.marked c.args.genesis.now items (at.invariant.kept c.args.genesis.now items has calmer) (at.invariant.read items has calmer) (at.invariant.marked items has calmer) clean;
      rest = λ items rest clean.
          let calmer : HasCleanDisk mid = omega (arith, c.read_next.ensures.crash.clean, clean) in
          let here = at.invariant.rest items rest calmer in
          stays_at_rest mid new c.args.genesis.now items (c.in_ok-read_next.ensures.same c.args.genesis.now items here.journal clean) here;
      crash = nothing_then old mid new at.invariant.kept at.invariant.crash c.read_next.ensures.crash;
    }

pub returns-in_err-read_next-clause-left : goal.returns-in_err-read_next-clause-left
returns-in_err-read_next-clause-left g c items rest clean =
    let at = c.reading in
    let mid = state g.S.Store at.conn in
    let new = state g.S.Store c.read_next.new.conn in
    let calmer : HasCleanDisk mid = omega (arith, c.read_next.ensures.crash.clean, clean) in
    let here = at.invariant.rest items rest calmer in
    let p = err_from_is_err_and c.from_residual.result c.from_residual.ensures.1 in
    rw (p.1, p.2) (differs_then (IsUnchanged mid new) (IsAtRest new c.args.genesis.now items) _ (λ same. stays_at_rest mid new c.args.genesis.now items same here) (c.in_err-read_next.ensures.left c.args.genesis.now items here.journal clean))

pub returns-in_err-read_next-clause-faults : goal.returns-in_err-read_next-clause-faults
returns-in_err-read_next-clause-faults g c items has clean =
    let at = c.reading in
    let calmer : HasCleanDisk (state g.S.Store at.conn) = omega (arith, c.read_next.ensures.crash.clean, clean) in
    let journal = at.invariant.kept c.args.genesis.now items has calmer in
    let read = at.invariant.read items has calmer in
    let p = err_from_is_err_and c.from_residual.result c.from_residual.ensures.1 in
    rw (p.1, p.2) (unread_in c.args.genesis.now items at.past.end _ read (c.in_err-read_next.ensures.faults c.args.genesis.now items journal read clean))

pub returns-clause-faults : goal.returns-clause-faults
returns-clause-faults g c items has clean =
    let at = c.reading in
    let read = at.invariant.read items has clean in
    let within = read.within in
    (at.past.end, read, omega (arith, at.invariant.place, c.reading-test.false, within))
