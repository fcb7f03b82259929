-- What is no repeat isn't gone past.
use Rattle.ibc_records.proofs.OwnEnd.{not_gone_past}
use Rattle.ibc_records.proofs.receiving.check_receivable.Goals as goal

pub returns-clause-next : goal.returns-clause-next
returns-clause-next c = λ ordered. not_gone_past _ _ _ _ c.if-is_repeat.ensures ordered
