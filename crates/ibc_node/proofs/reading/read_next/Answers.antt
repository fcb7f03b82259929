-- One entry more is read, or the end is found.
use Rattle.std.proofs.Common.{◌≡◌, Ok, take, sym, ap, subst, arith}
use Rattle.std.proofs.lemmas.Result.{err_from_is_err_and}
use Rattle.sqlite.specs.State.{HasCleanDisk, IsUnchanged}
use Rattle.sqlite.specs.Held.{state}
use Rattle.ibc_journal.specs.Entries.{item}
use Rattle.ibc_journal.proofs.Whole.{nothing_then, keeps_once, unchanged_then}
use Rattle.ibc_journal.proofs.Chained.{reads_end}
use Rattle.ibc_journal.specs.declared.cursor.Cursor.{Cursor}
use Rattle.ibc_node.specs.Kept.{HasReplayed}
use Rattle.ibc_node.specs.Marks.{marks_from}
use Rattle.ibc_node.specs.Audits.{StopsAtItem}
use Rattle.ibc_node.proofs.Beside.{reads_one}
use Rattle.ibc_node.proofs.Marked.{marks_more}
use Rattle.ibc_node.proofs.Reasons.{read_fault, memory_unread, entry_unread, end_fault}
use Rattle.ibc_node.proofs.Unlawful.{on_differs, stops_as_kept}
use Rattle.ibc_node.proofs.reading.read_next.Goals as goal

pub returns-in_ok-replay_entry-in-Ok-Some-clause-replayed : goal.returns-in_ok-replay_entry-in-Ok-Some-clause-replayed
returns-in_ok-replay_entry-in-Ok-Some-clause-replayed g c genesis items beginning has read so_far clean =
    let found = rw c.in-Ok-Some.field-0-is at (c.in-Ok-Some.ensures.entry genesis items has read clean).0 in
    reads_one items c.args.past.now.end.place c.next.new.cursor.place beginning c.args.past.now.world c.replay_entry.new.world (item c.in-Ok-Some.kept) so_far found c.in_ok-replay_entry-in-Ok-Some.ensures.replayed
    (rw c.in-Ok-Some.field-0-is at c.in-Ok-Some.ensures.more)

pub returns-in_err-replay_entry-in-Ok-Some-clause-differs : goal.returns-in_err-replay_entry-in-Ok-Some-clause-differs
returns-in_err-replay_entry-in-Ok-Some-clause-differs g c genesis items beginning has read so_far clean =
    let found = rw c.in-Ok-Some.field-0-is at (c.in-Ok-Some.ensures.entry genesis items has read clean).0 in
    let p = err_from_is_err_and c.from_residual-in_err-replay_entry-in-Ok-Some.result c.from_residual-in_err-replay_entry-in-Ok-Some.ensures.1 in
    rw (p.1, p.2) (stops_as_kept items c.args.past.now.end.place beginning c.args.past.now.world c.replay_entry.new.world (item c.in-Ok-Some.kept) _ so_far found c.in_err-replay_entry-in-Ok-Some.ensures.differs)

pub returns-in_ok-end_at-in-Ok-None-clause-crash : goal.returns-in_ok-end_at-in-Ok-None-clause-crash
returns-in_ok-end_at-in-Ok-None-clause-crash g c =
    let old = state g.S.Store c.args.conn.now in
    let mid = state g.S.Store c.next.new.conn in
    nothing_then old mid (state g.S.Store c.end_at.new.conn) (keeps_once old mid c.in-Ok-None.ensures.same) c.next.ensures.crash c.end_at.ensures.crash

pub returns-in_ok-replay_entry-in-Ok-Some-clause-read : goal.returns-in_ok-replay_entry-in-Ok-Some-clause-read
returns-in_ok-replay_entry-in-Ok-Some-clause-read g c genesis items has read clean = (c.in-Ok-Some.ensures.entry genesis items has read clean).1

pub returns-in_ok-end_at-in-Ok-None-clause-end : goal.returns-in_ok-end_at-in-Ok-None-clause-end
returns-in_ok-end_at-in-Ok-None-clause-end g c genesis items has read clean more =
    let calm : HasCleanDisk (state g.S.Store c.next.new.conn) = omega (arith, c.end_at.ensures.crash.clean, clean) in
    let found = c.in-Ok-None.ensures.entry genesis items has read calm in
    (reads_end genesis items c.args.past.now.end c.next.new.cursor c.in-Ok-None.field-0 c.in-Ok-None.field-0-is found.0 found.1 (c.in-Ok-None.ensures.end (ap Ok c.in-Ok-None.field-0-is))).1

pub returns-in_ok-end_at-in-Ok-None-clause-read : goal.returns-in_ok-end_at-in-Ok-None-clause-read
returns-in_ok-end_at-in-Ok-None-clause-read g c genesis items has read clean =
    let calm : HasCleanDisk (state g.S.Store c.next.new.conn) = omega (arith, c.end_at.ensures.crash.clean, clean) in
    (c.in-Ok-None.ensures.entry genesis items has read calm).1

pub returns-in_ok-end_at-in-Ok-None-clause-replayed : goal.returns-in_ok-end_at-in-Ok-None-clause-replayed
returns-in_ok-end_at-in-Ok-None-clause-replayed g c genesis items beginning has read so_far clean =
    subst (λ (end : Cursor). HasReplayed beginning (take end.place items) c.args.past.now.world) (sym (c.in-Ok-None.ensures.end (ap Ok c.in-Ok-None.field-0-is))) so_far

pub returns-in_ok-end_at-in-Ok-None-clause-same : goal.returns-in_ok-end_at-in-Ok-None-clause-same
returns-in_ok-end_at-in-Ok-None-clause-same g c genesis items has clean =
    let old = state g.S.Store c.args.conn.now in
    let mid = state g.S.Store c.next.new.conn in
    let new = state g.S.Store c.end_at.new.conn in
    let calm : HasCleanDisk mid = omega (arith, c.end_at.ensures.crash.clean, clean) in
    let same = c.in-Ok-None.ensures.same genesis items has calm in
    unchanged_then old mid new same (c.in_ok-end_at-in-Ok-None.ensures.same genesis items (keeps_once old mid c.in-Ok-None.ensures.same genesis items has calm) clean)

pub returns-in_err-end_at-in-Ok-None-clause-crash : goal.returns-in_err-end_at-in-Ok-None-clause-crash
returns-in_err-end_at-in-Ok-None-clause-crash g c =
    let old = state g.S.Store c.args.conn.now in
    let mid = state g.S.Store c.next.new.conn in
    nothing_then old mid (state g.S.Store c.end_at.new.conn) (keeps_once old mid c.in-Ok-None.ensures.same) c.next.ensures.crash c.end_at.ensures.crash

pub returns-in_ok-replay_entry-in-Ok-Some-clause-marked : goal.returns-in_ok-replay_entry-in-Ok-Some-clause-marked
returns-in_ok-replay_entry-in-Ok-Some-clause-marked g c genesis items has read so_far clean =
    let found = rw c.in-Ok-Some.field-0-is at (c.in-Ok-Some.ensures.entry genesis items has read clean).0 in
    marks_more items c.args.past.now.end.place c.next.new.cursor.place c.args.past.now.marks.items c.mark.new.marks.items (item c.in-Ok-Some.kept) so_far found c.in_ok-mark-in-Ok-Some.ensures.marked
    (rw c.in-Ok-Some.field-0-is at c.in-Ok-Some.ensures.more)

pub returns-in_ok-end_at-in-Ok-None-clause-marked : goal.returns-in_ok-end_at-in-Ok-None-clause-marked
returns-in_ok-end_at-in-Ok-None-clause-marked g c genesis items has read so_far clean =
    subst (λ (end : Cursor). c.args.past.now.marks.items ≡ marks_from 0 (take end.place items)) (sym (c.in-Ok-None.ensures.end (ap Ok c.in-Ok-None.field-0-is))) so_far

pub returns-in_err-replay_entry-in-Ok-Some-clause-left : goal.returns-in_err-replay_entry-in-Ok-Some-clause-left
returns-in_err-replay_entry-in-Ok-Some-clause-left g c genesis items has clean =
    let p = err_from_is_err_and c.from_residual-in_err-replay_entry-in-Ok-Some.result c.from_residual-in_err-replay_entry-in-Ok-Some.ensures.1 in
    rw (p.1, p.2) (on_differs (StopsAtItem c.args.past.now.world c.args.past.now.end.place (item c.in-Ok-Some.kept) c.replay_entry.new.world) (IsUnchanged (state g.S.Store c.args.conn.now) (state g.S.Store c.next.new.conn)) _
    (c.in-Ok-Some.ensures.same genesis items has clean) c.in_err-replay_entry-in-Ok-Some.ensures.differs)

pub returns-in_ok-replay_entry-in-Ok-Some-clause-more : goal.returns-in_ok-replay_entry-in-Ok-Some-clause-more
returns-in_ok-replay_entry-in-Ok-Some-clause-more g c more = rw c.in-Ok-Some.field-0-is at c.in-Ok-Some.ensures.more

-- ---- faults

pub returns-in-Err-clause-faults : goal.returns-in-Err-clause-faults
returns-in-Err-clause-faults g c genesis items has read clean =
    read_fault items c.args.past.now.end c.in-Err.fault c.fault_at.result c.fault_at.ensures c.in-Err.ensures.faults (c.in-Err.ensures.damaged genesis items has clean) (c.in-Err.ensures.full genesis items has clean)

pub returns-in_err-mark-in-Ok-Some-clause-faults : goal.returns-in_err-mark-in-Ok-Some-clause-faults
returns-in_err-mark-in-Ok-Some-clause-faults g c genesis items has read clean =
    let p = err_from_is_err_and c.from_residual.result c.from_residual.ensures.1 in
    rw (p.1, p.2) (memory_unread items c.args.past.now.end _ c.in_err-mark-in-Ok-Some.ensures.faults)

pub returns-in_err-replay_entry-in-Ok-Some-clause-faults : goal.returns-in_err-replay_entry-in-Ok-Some-clause-faults
returns-in_err-replay_entry-in-Ok-Some-clause-faults g c genesis items has read clean =
    let p = err_from_is_err_and c.from_residual-in_err-replay_entry-in-Ok-Some.result c.from_residual-in_err-replay_entry-in-Ok-Some.ensures.1 in
    rw (p.1, p.2) (entry_unread items c.args.past.now.end (item c.in-Ok-Some.kept) _ c.in_err-replay_entry-in-Ok-Some.ensures.faults)

pub returns-in_err-end_at-in-Ok-None-clause-faults : goal.returns-in_err-end_at-in-Ok-None-clause-faults
returns-in_err-end_at-in-Ok-None-clause-faults g c genesis items has read clean =
    let old = state g.S.Store c.args.conn.now in
    let mid = state g.S.Store c.next.new.conn in
    let calm : HasCleanDisk mid = omega (arith, c.end_at.ensures.crash.clean, clean) in
    let here = keeps_once old mid c.in-Ok-None.ensures.same genesis items has calm in
    let found = c.in-Ok-None.ensures.entry genesis items has read calm in
    let all = reads_end genesis items c.args.past.now.end c.next.new.cursor c.in-Ok-None.field-0 c.in-Ok-None.field-0-is found.0 found.1 (c.in-Ok-None.ensures.end (ap Ok c.in-Ok-None.field-0-is)) in
    let p = err_from_is_err_and c.from_residual-in_err-end_at-in-Ok-None.result c.from_residual-in_err-end_at-in-Ok-None.ensures.1 in
    rw (p.1, p.2) (end_fault items c.args.past.now.end _ c.next.new.cursor.place c.in_err-end_at-in-Ok-None.ensures.faults (c.in_err-end_at-in-Ok-None.ensures.end genesis items here all.1 clean)
    (c.in_err-end_at-in-Ok-None.ensures.early genesis items here clean))
