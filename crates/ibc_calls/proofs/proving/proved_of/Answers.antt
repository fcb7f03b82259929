use Rattle.ibc_calls.proofs.SpelledViews.{has_form}
use Rattle.ibc_calls.proofs.proving.proved_of.Goals as goal

pub bytes_of-requires : goal.bytes_of-requires
bytes_of-requires c =
    has_form c.args.key.now c.requires c.in-Ok.proof c.args.ledger.now.ledger c.lemma_is_its_history.ensures.is c.args.height c.in-Ok.ensures.ok
