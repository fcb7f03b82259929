-- A number that is no byte is of no entry.
use Rattle.std.proofs.lemmas.Result.{err_from_is_err_and}
use Rattle.ibc_journal.specs.Entries.{item}
use Rattle.ibc_node.proofs.Reasons.{no_chain, no_kind}
use Rattle.ibc_node.proofs.reading.bytes_of.Goals as goal

pub returns-in_err-chain-clause-faults : goal.returns-in_err-chain-clause-faults
returns-in_err-chain-clause-faults c =
    let p = err_from_is_err_and c.from_residual.result c.from_residual.ensures.1 in
    rw (p.1, p.2) (no_chain c.args.place (item c.args.kept) _ c.in_err-chain.ensures.faults)

pub returns-in_err-kind-clause-faults : goal.returns-in_err-kind-clause-faults
returns-in_err-kind-clause-faults c =
    let p = err_from_is_err_and c.from_residual-in_err-kind.result c.from_residual-in_err-kind.ensures.1 in
    rw (p.1, p.2) (no_kind c.args.place (item c.args.kept) _ c.in_err-kind.ensures.faults)
