use Rattle.ibc_laws.proofs.tokens.Supplies.{lemma_no_voucher_without_escrow}
use Rattle.ibc_laws.proofs.lemma_no_voucher_is_without_escrow.Goals as goal

pub returns : goal.returns
returns c = lemma_no_voucher_without_escrow
