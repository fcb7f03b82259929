-- A look tells that the tables are there, and changes nothing.
use Rattle.std.proofs.Common.{◌≡◌, ℤ, Result, Ok, Err, inl, sym, ap, subst}
use Rattle.std.proofs.lemmas.Result.{err_from_is_err_and}
use Rattle.sqlite.specs.State.{Survives}
use Rattle.sqlite.specs.Held.{state}
use Rattle.ibc_journal.specs.Tables.{IsJournal}
use Rattle.ibc_journal.specs.Crashes.{LeavesNothing}
use Rattle.ibc_journal.specs.Restarts.{IsAtRest}
use Rattle.sqlite.specs.declared.error.Error.{Error}
use Rattle.ibc_journal.specs.declared.looking.Looks.{Looks}
use Rattle.ibc_journal.specs.declared.looking.Looks.TheVariants.{Empty, Journal, OfFormat, Other}
use Rattle.ibc_node.proofs.Opened.{rests_on}
use Rattle.ibc_node.proofs.Reasons.{looks_so}
use Rattle.ibc_node.proofs.auditing.audit_journal.Goals as goal

pub returns-in-Journal-clause-audited : goal.returns-in-Journal-clause-audited
returns-in-Journal-clause-audited g c text items journal clean =
    let same = (c.in_ok-looks.ensures.journal (ap Ok c.in-Journal.is)).1 in
    c.audit_entries.ensures.audited text items (subst (λ k. IsJournal (state g.S.Store k).now text items) (sym same) journal) clean

pub returns-in-Journal-clause-asked : goal.returns-in-Journal-clause-asked
returns-in-Journal-clause-asked g c text items journal clean =
    let same = (c.in_ok-looks.ensures.journal (ap Ok c.in-Journal.is)).1 in
    c.audit_entries.ensures.asked text items (subst (λ k. IsJournal (state g.S.Store k).now text items) (sym same) journal) clean

pub returns-in-Journal-clause-rest : goal.returns-in-Journal-clause-rest
returns-in-Journal-clause-rest g c text items rest clean =
    let same = (c.in_ok-looks.ensures.journal (ap Ok c.in-Journal.is)).1 in
    c.audit_entries.ensures.rest text items (subst (λ k. IsAtRest (state g.S.Store k) text items) (sym same) rest) clean

pub returns-in-Journal-clause-crash : goal.returns-in-Journal-clause-crash
returns-in-Journal-clause-crash g c =
    let same = (c.in_ok-looks.ensures.journal (ap Ok c.in-Journal.is)).1 in
    subst (λ k. Survives (state g.S.Store k) (state g.S.Store c.audit_entries.new.conn) (LeavesNothing (state g.S.Store k))) same c.audit_entries.ensures.crash

pub returns-in-Journal-clause-which : goal.returns-in-Journal-clause-which
returns-in-Journal-clause-which g c = rests_on c.audit_entries.result (c.in_ok-looks.ensures.journal (ap Ok c.in-Journal.is)).0

-- ---- faults

no_format : (format : ℤ) → OfFormat format ≡ Journal → ⊥
no_format format is = cc

not_empty : Empty ≡ Journal → ⊥
not_empty is = cc

not_other : Other ≡ Journal → ⊥
not_other is = cc

pub returns-in_err-looks-clause-faults : goal.returns-in_err-looks-clause-faults
returns-in_err-looks-clause-faults g c text items journal clean =
    let p = err_from_is_err_and c.from_residual.result c.from_residual.ensures.1 in
    rw (p.1, p.2) (inl tt)

pub returns-in-Journal-clause-faults : goal.returns-in-Journal-clause-faults
returns-in-Journal-clause-faults g c text items journal clean =
    let same = (c.in_ok-looks.ensures.journal (ap Ok c.in-Journal.is)).1 in
    c.audit_entries.ensures.faults text items (subst (λ k. IsJournal (state g.S.Store k).now text items) (sym same) journal) clean

pub returns-in-OfFormat-clause-faults : goal.returns-in-OfFormat-clause-faults
returns-in-OfFormat-clause-faults g c text items journal clean = absurd (no_format c.in-OfFormat.format (looks_so c.in_ok-looks.looks _ (c.in_ok-looks.ensures.sees_journal journal.schema) c.in-OfFormat.is))

pub returns-in-Empty-clause-faults : goal.returns-in-Empty-clause-faults
returns-in-Empty-clause-faults g c text items journal clean = absurd (not_empty (looks_so c.in_ok-looks.looks _ (c.in_ok-looks.ensures.sees_journal journal.schema) c.in-Empty.is))

pub returns-in-Other-clause-faults : goal.returns-in-Other-clause-faults
returns-in-Other-clause-faults g c text items journal clean = absurd (not_other (looks_so c.in_ok-looks.looks _ (c.in_ok-looks.ensures.sees_journal journal.schema) c.in-Other.is))

-- ---- a file with no table

no_error : (error : Error) → ◌≡◌ {A = Result Looks Error} (Err error) (Ok Empty) → ⊥
no_error error is = cc

empty_then : (found seen : Looks) → ◌≡◌ {A = Result Looks Error} (Ok found) (Ok Empty) → found ≡ seen → seen ≡ Empty
empty_then found seen is same = cc

no_number : (format : ℤ) → OfFormat format ≡ Empty → ⊥
no_number format is = cc

no_journal : Journal ≡ Empty → ⊥
no_journal is = cc

no_other : Other ≡ Empty → ⊥
no_other is = cc

pub returns-in_err-looks-clause-empty : goal.returns-in_err-looks-clause-empty
returns-in_err-looks-clause-empty g c none = absurd (no_error _ (c.in_err-looks.ensures.sees_empty none))

pub returns-in-Journal-clause-empty : goal.returns-in-Journal-clause-empty
returns-in-Journal-clause-empty g c none = absurd (no_journal (empty_then c.in_ok-looks.looks _ (c.in_ok-looks.ensures.sees_empty none) c.in-Journal.is))

pub returns-in-OfFormat-clause-empty : goal.returns-in-OfFormat-clause-empty
returns-in-OfFormat-clause-empty g c none = absurd (no_number c.in-OfFormat.format (empty_then c.in_ok-looks.looks _ (c.in_ok-looks.ensures.sees_empty none) c.in-OfFormat.is))

pub returns-in-Other-clause-empty : goal.returns-in-Other-clause-empty
returns-in-Other-clause-empty g c none = absurd (no_other (empty_then c.in_ok-looks.looks _ (c.in_ok-looks.ensures.sees_empty none) c.in-Other.is))
