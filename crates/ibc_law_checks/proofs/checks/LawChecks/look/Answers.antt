-- What the entry made is noted first.
use Rattle.std.proofs.Common.{sym}
use Rattle.ibc_law_checks.proofs.checks.LawChecks.look.Goals as goal

pub returns-clause-lanes : goal.returns-clause-lanes
returns-clause-lanes c = rw (sym c.in_ok-note_made.ensures.lanes, sym c.note_made.ensures.clocks) c.look_at.ensures.lanes

pub returns-clause-places : goal.returns-clause-places
returns-clause-places c = rw (sym c.note_made.ensures.places, sym c.note_made.ensures.clocks) c.look_at.ensures.places

pub returns-clause-told : goal.returns-clause-told
returns-clause-told c = rw (sym c.note_made.ensures.places, sym c.note_made.ensures.supplies) c.look_at.ensures.told
