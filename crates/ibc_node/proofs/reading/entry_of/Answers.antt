-- What is restored is what the bytes are kept of.
use Rattle.std.proofs.Common.{subst}
use Rattle.std.specs.Prelude.{IfOk}
use Rattle.std.proofs.lemmas.Result.{err_from_is_err_and, IfErr-weaker}
use Rattle.ibc_entry_codec.specs.Stored.{StoresEntry}
use Rattle.ibc_journal.specs.Entries.{item}
use Rattle.ibc_node.specs.Faults.{IsOfBytes, IsOfEntry}
use Rattle.ibc_node.proofs.Reasons.{of_entry}
use Rattle.ibc_node.proofs.reading.entry_of.Goals as goal

pub returns-clause-entry : goal.returns-clause-entry
returns-clause-entry c = subst (λ b. IfOk c.restored-entry.result (λ entry. StoresEntry entry b)) c.in_ok-stored.ensures.stored c.restored-entry.ensures.entry

pub returns-in_err-stored-clause-faults : goal.returns-in_err-stored-clause-faults
returns-in_err-stored-clause-faults c =
    let p = err_from_is_err_and c.from_residual.result c.from_residual.ensures.1 in
    rw (p.1, p.2) c.in_err-stored.ensures.faults

pub returns-clause-faults : goal.returns-clause-faults
returns-clause-faults c =
    let it = item c.args.kept in
    IfErr-weaker c.restored-entry.result (IsOfBytes c.args.place c.in_ok-stored.stored) (IsOfEntry c.args.place it) (of_entry c.args.place it c.in_ok-stored.stored c.in_ok-stored.ensures.stored) c.restored-entry.ensures.faults
