use Rattle.ibc_refinement.proofs.Audited.{audit_is_run}
use Rattle.ibc_refinement.proofs.stamps.lemma_audit_is_run.Goals as goal

pub returns : goal.returns
returns c = audit_is_run
