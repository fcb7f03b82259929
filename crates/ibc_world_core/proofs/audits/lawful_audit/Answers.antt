-- The audit is of a past.
use Rattle.std.proofs.lemmas.Result.{IfOk-weaker}
use Rattle.ibc_world_core.specs.WorldAudits.{IsAudit}
use Rattle.ibc_world_core.specs.EveryAudit.{AreLawful}
use Rattle.ibc_world_core.proofs.Lawful.{are_lawful}
use Rattle.ibc_world_core.proofs.audits.lawful_audit.Goals as goal

pub returns-clause-lawful : goal.returns-clause-lawful
returns-clause-lawful c =
    let ledgers = c.args.ledgers.items in
    IfOk-weaker c.audit.result (IsAudit ledgers) (AreLawful ledgers) (λ audit is. are_lawful c.lemma_the_laws_hold.ensures ledgers audit is) c.audit.ensures.audited
