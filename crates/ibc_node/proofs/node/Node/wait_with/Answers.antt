use Rattle.std.proofs.Common.{[], ◌∷◌, inr, refl, ap, ◌∙◌}
use Rattle.std.proofs.lemmas.List.{map-append}
use Rattle.std.proofs.lemmas.Result.{err_from_is_err_and}
use Rattle.ibc_journal.specs.Entries.{item, items_of}
use Rattle.ibc_node.proofs.Reasons.{of_memory}
use Rattle.ibc_node.proofs.node.Node.wait_with.Goals as goal

pub returns-clause-waits : goal.returns-clause-waits
returns-clause-waits g c = ap items_of c.in_ok-push.ensures.items ∙ map-append item c.args.self.now.waiting.items (c.args.entry ∷ [])

pub returns-clause-marked : goal.returns-clause-marked
returns-clause-marked g c = c.in_ok-mark.ensures.marked

pub returns-in_err-mark-clause-faults : goal.returns-in_err-mark-clause-faults
returns-in_err-mark-clause-faults g c long =
    let p = err_from_is_err_and c.from_residual.result c.from_residual.ensures.1 in
    rw (p.1, p.2) (of_memory c.args.self.now.end.place _ c.in_err-mark.ensures.faults)

pub returns-in_default-clause-faults : goal.returns-in_default-clause-faults
returns-in_default-clause-faults g c long = inr (refl, c.in_default.ensures.none long)

pub returns-in_err-push-clause-faults : goal.returns-in_err-push-clause-faults
returns-in_err-push-clause-faults g c long =
    let p = err_from_is_err_and c.from_residual-in_err-push.result c.from_residual-in_err-push.ensures.1 in
    rw p.1 (of_memory c.args.self.now.end.place _ p.2)
