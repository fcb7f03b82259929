use Rattle.std.proofs.Common.{◌≡◌, ◌+◌, take}
use Rattle.sqlite.specs.State.{Survives}
use Rattle.sqlite.specs.Held.{state}
use Rattle.ibc_journal.specs.Entries.{items_of}
use Rattle.ibc_journal.specs.Crashes.{PutsBehind, LeavesOutside}
use Rattle.ibc_journal.proofs.adding.insert_each.Given as goal

abbrev pub invariant-loop-added : goal.invariant-loop-added
invariant-loop-added g l =
    let old = state g.S.Store l.fn.conn in
    let now = state g.S.Store l.conn in
    record {
      place : l.place ≡ l.fn.first + l.added-index;
      put : PutsBehind old now l.fn.first (items_of (take l.added-index l.entries));
      crash : Survives old now (LeavesOutside old l.fn.first);
    }
