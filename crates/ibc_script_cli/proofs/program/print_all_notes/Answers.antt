use Rattle.std.proofs.Common.{◌≡◌, ◌+◌, ◌-◌, ◌<◌, ◌++◌, ℕ, List, ap, arith, length, subst}
use Rattle.std.proofs.lemmas.Result.{err_from_is_err_and}
use Rattle.std.specs.Io.KnownBytes.{Appends}
use Rattle.std.specs.List.{flat_map}
use Rattle.ibc_ids.specs.Texts.{Text}
use Rattle.ibc_script_cli.specs.Program.{audited_note_lines, audited_notes}
use Rattle.ibc_script_cli.specs.Runs.{IsCut, note_lines, name_of}
use Rattle.ibc_script_cli.specs.declared.racing.RaceAudit.{RaceAudit}
use Rattle.ibc_script_cli.proofs.Looks.{next_number}
use Rattle.ibc_script_cli.proofs.Writing.{wrote_all, wrote_more, wrote_part}
use Rattle.ibc_script_cli.proofs.program.print_all_notes.Goals as goal

next_chain : (names : List Text) (audit : RaceAudit) (on : ℕ) → on < length names
    → audited_note_lines names audit on (length names - on)
    ≡ note_lines (name_of names on) (audited_notes audit on) ++ audited_note_lines names audit (on + 1) (length names - (on + 1))
next_chain names audit on within =
    ap (flat_map (λ chain. note_lines (name_of names chain) (audited_notes audit chain)))
    (next_number on (length names - on) (length names - (on + 1)) (omega (arith, within)))

pub loop-on-preserved : goal.loop-on-preserved
loop-on-preserved g c =
    let names = c.args.names.now in
    let audit = c.args.audited.now in
    let mid = g.W.Write.contents c.loop-on.output in
    let now = g.W.Write.contents c.print_notes_of.new.output in
    wrote_more (λ i. audited_note_lines names audit i (length names - i)) c.loop-on.on (note_lines (name_of names c.loop-on.on) (audited_notes audit c.loop-on.on))
    (g.W.Write.contents c.args.output.now) mid now (next_chain names audit c.loop-on.on c.loop-on-test.true) c.loop-on.invariant
    (subst (λ (n : Text). Appends mid now (note_lines n (audited_notes audit c.loop-on.on))) c.name_at.ensures c.in_ok-print_notes_of.ensures.written)

pub returns-in_err-print_notes_of-clause-written : goal.returns-in_err-print_notes_of-clause-written
returns-in_err-print_notes_of-clause-written g c =
    let names = c.args.names.now in
    let audit = c.args.audited.now in
    let mid = g.W.Write.contents c.loop-on.output in
    let now = g.W.Write.contents c.print_notes_of.new.output in
    let all : length names - 0 ≡ length names = omega arith in
    let p = err_from_is_err_and c.from_residual.result c.from_residual.ensures.1 in
    rw p.1 (subst (λ (n : ℕ). IsCut (g.W.Write.contents c.args.output.now) now (audited_note_lines names audit 0 n)) all (wrote_part (λ i. audited_note_lines names audit i (length names - i)) c.loop-on.on (note_lines (name_of names c.loop-on.on) (audited_notes audit c.loop-on.on))
    (g.W.Write.contents c.args.output.now) mid now (next_chain names audit c.loop-on.on c.loop-on-test.true) c.loop-on.invariant
    (subst (λ (n : Text). IsCut mid now (note_lines n (audited_notes audit c.loop-on.on))) c.name_at.ensures c.in_err-print_notes_of.ensures.written)))

pub returns-clause-written : goal.returns-clause-written
returns-clause-written g c =
    let names = c.args.names.now in
    let audit = c.args.audited.now in
    let none : length names - c.loop-on.on ≡ 0 = omega (arith, c.loop-on-test.false) in
    let all : length names - 0 ≡ length names = omega arith in
    subst (λ (n : ℕ). Appends (g.W.Write.contents c.args.output.now) (g.W.Write.contents c.loop-on.output) (audited_note_lines names audit 0 n)) all
    (wrote_all (λ i. audited_note_lines names audit i (length names - i)) c.loop-on.on (g.W.Write.contents c.args.output.now) (g.W.Write.contents c.loop-on.output)
    (ap (audited_note_lines names audit c.loop-on.on) none) c.loop-on.invariant)
