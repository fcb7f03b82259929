-- What the look told is kept, unless something was found before.
use Rattle.std.proofs.Common.{◌≡◌, ◌∙◌, IsSome}
use Rattle.ibc_run_notes.specs.Findings.{KeepsToldOf}
use Rattle.ibc_run_notes.proofs.FirstFindings.{first_stays, on_ok}
use Rattle.ibc_run_notes.proofs.run_notes.RunNotes.look_at.Goals as goal

pub returns-clause-told : goal.returns-clause-told
returns-clause-told c =
    let notes = c.args.self.now in
    on_ok (KeepsToldOf c.args.world.now c.args.entry.now notes c.note_entry.new.self.finding)
    c.note_entry.result (c.in_ok-found.found, c.in_ok-found.ensures.told, c.note_entry.ensures ∙ c.keep.ensures)

pub returns-clause-first : goal.returns-clause-first
returns-clause-first c =
    let notes = c.args.self.now in
    let after = c.note_entry.new.self.finding in
    on_ok (IsSome notes.finding → after ≡ notes.finding) c.note_entry.result
    (λ some. first_stays notes.finding c.in_ok-found.found after (c.note_entry.ensures ∙ c.keep.ensures) some)
