-- The reader passes over an entry, or finds it damaged.
use Rattle.std.proofs.Common.{sym}
use Rattle.ibc_journal.specs.Entries.{item}
use Rattle.ibc_journal.proofs.Chained.{reads_more, damaged_at, full_at}
use Rattle.ibc_journal.proofs.cursor.next.Goals as goal

pub returns-in-Ok-clause-entry : goal.returns-in-Ok-clause-entry
returns-in-Ok-clause-entry g c genesis items has read clean =
    let found = rw c.in-Ok-Some.field-0-is at (c.in-Ok-Some.ensures.found genesis items has clean) in
    let passed = c.in-Ok.ensures.passed in
    (found, reads_more genesis items c.args.cursor.now c.pass.new.cursor (item c.in-Ok-Some.entry) read (sym found) passed.0 passed.1)

pub returns-in-Err-pass-clause-damaged : goal.returns-in-Err-pass-clause-damaged
returns-in-Err-pass-clause-damaged g c genesis items has clean place is =
    let found = rw c.in-Ok-Some.field-0-is at (c.in-Ok-Some.ensures.found genesis items has clean) in
    damaged_at items c.args.cursor.now (item c.in-Ok-Some.entry) c.in-Err-pass.fault place (sym found) c.in-Err-pass.ensures.refused is

pub returns-in-Err-pass-clause-full : goal.returns-in-Err-pass-clause-full
returns-in-Err-pass-clause-full g c genesis items has clean is =
    let found = rw c.in-Ok-Some.field-0-is at (c.in-Ok-Some.ensures.found genesis items has clean) in
    full_at items c.args.cursor.now (item c.in-Ok-Some.entry) c.in-Err-pass.fault (sym found) c.in-Err-pass.ensures.faults is
